-- What clauses and proofs cite of this crate, by one module.
pub use Rattle.metis_completion.specs.Completed.{AreGiven, IsBeside, completed, completed_action, given_demand, given_gained, given_holder, takes_given}
pub use Rattle.metis_completion.specs.Fresh.{EntersOnce, IsNewOrGiven, KeepsTo, besides_ties, entered, is_tie_action}
pub use Rattle.metis_completion.specs.Given.{given_in}
pub use Rattle.metis_completion.specs.Ties.{slot_ties}
