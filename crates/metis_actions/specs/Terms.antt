-- What clauses and proofs cite of this crate, by one module.
pub use Rattle.metis_actions.specs.Faults.{Answers, IsCause, IsFaultOf, absent, elsewhere, fault_of, fault_text, fault_tokens, is_port_between, takes_memory, unmet_after, when}
pub use Rattle.metis_actions.specs.Reasons.{IsFirstLack, IsFirstReason, Lacks, already_bound, delete_leaves_unmet, in_another_pair, in_use, move_leaves_unmet, new_leaves_unmet, no_provider, no_requirer, no_such_port, no_transition, none_to_delete, none_to_move, not_bound, same_instance, unbind_leaves_unmet}
