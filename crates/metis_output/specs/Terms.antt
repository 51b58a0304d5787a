-- What clauses and proofs cite of this crate, by one module.
pub use Rattle.metis_output.specs.Answers.{Gives, Says, status_for}
pub use Rattle.metis_output.specs.Either.{rest_of_either}
pub use Rattle.metis_output.specs.NumberLine.{number_line}
pub use Rattle.metis_output.specs.PutLines.{PutsByLine, PutsLines}
pub use Rattle.metis_output.specs.Puts.{Puts}
pub use Rattle.metis_output.specs.Shown.{IsJust, Shown, said}
pub use Rattle.metis_output.specs.Statuses.{IsVerdict, code_of}
