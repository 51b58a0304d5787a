-- What clauses and proofs cite of this crate, by one module.
pub use Rattle.metis_replay.specs.Exact.{IsFirstBad, IsFirstMissing, IsRefused, Tells}
pub use Rattle.metis_replay.specs.Progress.{IsVerdictOf, Progress, after_feeding, fed, fed_all, fed_by, first_short, left_by, progress_of, shortage, start, verdict, verdict_by}
