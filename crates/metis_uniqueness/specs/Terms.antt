-- What clauses and proofs cite of this crate, by one module.
pub use Rattle.metis_uniqueness.specs.Answers.{HasAnAnswer, HasAnAnswerOver, HasAtMostOneAnswer}
