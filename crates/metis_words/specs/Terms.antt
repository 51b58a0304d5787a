-- What clauses and proofs cite of this crate, by one module.
pub use Rattle.metis_words.specs.Form.{Form, form_by}
pub use Rattle.metis_words.specs.Forms.{HostsText, NoFile, OfGoals, OfUniverse, PlanText, Reading, RefusalText, ScriptText, TextKind, TurnsText, WhyText, WishesText, file_count, files_of, number_count, reading, target_limit, verb_named}
pub use Rattle.metis_words.specs.Numbers.{AreNumbers, IsFirstNoNumber}
pub use Rattle.metis_words.specs.Rows.{reads}
pub use Rattle.metis_words.specs.TargetName.{TargetName}
pub use Rattle.metis_words.specs.Words.{ReadsWords, duration_of, file_fits, file_misfit, files_in, fits_after, form_behind, form_of, form_with, is_dash, number_then, number_within, numbers_after, size_in, target_fits, target_of, targets_in, unless_misfit, with_verb, word_at}
