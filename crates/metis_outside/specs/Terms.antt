-- What clauses and proofs cite of this crate, by one module.
pub use Rattle.metis_outside.specs.Arguments.{AreGiven, IsGiven}
pub use Rattle.metis_outside.specs.Calls.{NextFails, as_piece, kept, next_number, room_of}
pub use Rattle.metis_outside.specs.Faults.{CountsFault, Rose}
pub use Rattle.metis_outside.specs.Files.{bytes_named, file_named, named_files}
pub use Rattle.metis_outside.specs.Logs.{log_told, logged}
pub use Rattle.metis_outside.specs.Openings.{Openings, Opens, Takes, broken, failing, grown, opened, sound, untold}
pub use Rattle.metis_outside.specs.Pieces.{IsLine, bytes_of, pieces_of}
pub use Rattle.metis_outside.specs.Streams.{AppendsPart, left}
pub use Rattle.metis_outside.specs.Whole.{CountsFailure, IsTaken, Leaves, OpensOne, ReadsWhole}
pub use Rattle.metis_outside.specs.Writes.{Appends, AppendsFront, Begins, InBytes, InPieces, IsFront, Keeps, Puts, Untold, Writes, Written, bytes_in, bytes_told, is_told}
