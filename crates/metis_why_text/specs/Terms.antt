-- What clauses and proofs cite of this crate, by one module.
pub use Rattle.metis_why_text.specs.WhyFaults.{IsWhyFault}
pub use Rattle.metis_why_text.specs.WhyFlaws.{AreTold, BeginsWith, HasWhyFault, HasWhyFlaw, IsCountFlaw, IsFormedReason, IsGoalFlaw, IsItemFlaw, IsPortThere, IsWhyBegun, NamesNoGoal, NamesNone, ReasonWords, WhyDue, begun_why, comes, count_with, first_line, goal_line, last_line, needs_port, next_item, number_line, reason_words, starts, with_all, with_first, with_goal, with_items, with_none}
pub use Rattle.metis_why_text.specs.WhyReading.{ReadsWhy, WhyParts, count_in, count_of_tokens, fitting, goal_of_tokens, is_held_up, is_lacks_of, is_text_of, lacks_in, lacks_of_tokens, line_in, line_of_tokens, line_with, lines_from, needs_of_tokens, parts_of, reason_by, reason_of_tokens, why_counted_from, why_end_from, why_from, why_in, why_parts}
pub use Rattle.metis_why_text.specs.WhyText.{IsWhyText, comes_tokens, count_line, lacks_line, lacks_tokens, line_text, line_tokens, list_words, reason_tokens, start_port, why_body, why_bytes, why_counted, why_front, why_header, why_lines, why_rest}
