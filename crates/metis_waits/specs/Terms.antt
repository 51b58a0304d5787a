-- What clauses and proofs cite of this crate, by one module.
pub use Rattle.metis_waits.specs.Causes.{HasCause, IsLastBefore, IsProviderRelease, takes_out}
pub use Rattle.metis_waits.specs.Failures.{EndsAlike, HasAllOthers, NoneHeldUp, is_held_up, is_held_up_within}
pub use Rattle.metis_waits.specs.Instances.{InstanceState, IsPossible, changed, entering, idle, is_last, is_own, let_go, noted, state_at, takes_effect, tie_cmp, with_clients, with_last, without_own}
pub use Rattle.metis_waits.specs.Judged.{IsBegun, IsJudged}
pub use Rattle.metis_waits.specs.Orders.{ComesInTime, KeepsWaits}
pub use Rattle.metis_waits.specs.Rows.{IsParted, rows_from, start_at}
pub use Rattle.metis_waits.specs.Summary.{IsInstance, IsSummary, IsTrack, clients_of, has_number, released, with_number}
pub use Rattle.metis_waits.specs.Waits.{AreWaits, IfLoose, IsFirstLoose, IsNumbered, WaitLists, is_by, list_of, own_previous, waits_on_others}
