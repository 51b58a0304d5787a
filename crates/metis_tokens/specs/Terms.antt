-- What clauses and proofs cite of this crate, by one module.
pub use Rattle.metis_tokens.specs.Cursor.{Cursor, Reads, ended, exactly, fault_at, is_feed, line_to, lines_of, next_line, read_next, told}
pub use Rattle.metis_tokens.specs.Flaws.{all_behind, and_then, behind, both, found, graver, line_fault, made, right}
pub use Rattle.metis_tokens.specs.Line.{added, end_line, line, numbered, words}
pub use Rattle.metis_tokens.specs.LineFaults.{IsOfLine}
pub use Rattle.metis_tokens.specs.MissingLine.{missing_line}
pub use Rattle.metis_tokens.specs.OwnTexts.{LineRules, TakesAs, end_from, last_piece, line_rules, lines_from, own_text, pieces, text_from, whole_lines}
pub use Rattle.metis_tokens.specs.Scripts.{script_lines, without_empty_end}
pub use Rattle.metis_tokens.specs.Tokens.{due, in_range, is_number, is_space, named, number_in, starts_number, state_in, tokens, value_after}
pub use Rattle.metis_tokens.specs.Words.{goal_in, of_names, pair_in}
