-- What clauses and proofs cite of this crate, by one module.
pub use Rattle.metis_transcripts.specs.Cases.{case_head, piped_foot, plain_line, role_of, single_foot, words_in}
pub use Rattle.metis_transcripts.specs.Outside.{Outside, outside}
pub use Rattle.metis_transcripts.specs.Plays.{AreAllPlayed, IsPlayed, IsWholePlay}
pub use Rattle.metis_transcripts.specs.Runs.{IsAside, IsCase, IsPiped, IsPrepared, IsShown, IsSingle, IsWhole}
pub use Rattle.metis_transcripts.specs.Settings.{IsNumber, SetsCall, Setting, blank, input_in, with_input}
