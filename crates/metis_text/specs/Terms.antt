-- What clauses and proofs cite of this crate, by one module.
pub use Rattle.metis_text.specs.ActionLine.{Row, Words, action_in, after_in, bind_action, delete_words, ends_in, kind_in, move_action, move_words, new_action, new_in, new_words, rise, row_in, row_of, row_with, states_in, tie_words, unbind_action}
pub use Rattle.metis_text.specs.DueLines.{HasEnded, IsOfDue, IsOther, NoFeed}
pub use Rattle.metis_text.specs.DupLine.{DupRow, at_event, dup_in, dup_of, dup_with, event_in, is_point}
pub use Rattle.metis_text.specs.Faults.{IsFault, IsMiscounted, IsPastEnd, IsRefusalFault, IsWellFormedButCount, recounted}
pub use Rattle.metis_text.specs.InRange.{IsActionInRange, IsEventInRange, IsPlanInRange}
pub use Rattle.metis_text.specs.Kinds.{AreKinds}
pub use Rattle.metis_text.specs.PlanFlaws.{ActionWords, AreInRange, AreNamesThere, AreNumbers, AreSaid, HasPlanFault, HasPlanFlaw, IsActionWithin, IsAfterWithin, IsCountsFlaw, IsDupFlaw, IsDupWithin, IsEventWithin, IsFormedAction, IsFormedAfter, IsFormedDup, IsFormedEvent, IsFormedRow, IsInRange, IsNumeral, IsPairThere, IsPlanBegun, IsRowFlaw, IsRowWithin, IsStateThere, PlanDue, action_words, begun_plan, bind_of, counts_with, delete_of, dup_words, miscounted, move_of, new_of, next_action, next_dup, row_words, second_line, unbind_of, with_actions, with_dups}
pub use Rattle.metis_text.specs.PlanText.{IsMoveOf, IsWellFormed, action_line, action_lines, action_tokens, actions_left, after_of, after_tokens, counts_line, counts_of, dup_line, dup_lines, dup_tokens, event_token, kind_after, kind_from, last_kind, plan_body, plan_bytes, plan_end, plan_header, plan_lines, plan_rest}
pub use Rattle.metis_text.specs.Reading.{Numbers, Parts, Rows, body_from, counted, counts_in, counts_of_tokens, dups_from, end_from, parts, plan_from, plan_in, rows_from, rows_of, with_row}
pub use Rattle.metis_text.specs.Reads.{IsTextOf, ReadsPlan, dup_row, lists_of, numbers_of, parts_of, said}
pub use Rattle.metis_text.specs.RefusalFlaws.{AreBegun, AreTwoNames, Due, HasFlaw, HasRefusalFault, IsBegun, IsLacksFlaw, IsPairFlaw, IsSizeFlaw, begun_lines, goal_line, lacks_with, next_pair, size_line, size_with, with_goal, with_pairs}
pub use Rattle.metis_text.specs.RefusalReading.{ReadsRefusal, RefusalParts, above, follows, lacks_in, lacks_of_tokens, next_pair_in, pair_of_tokens, pairs_from, refusal_end_from, refusal_from, refusal_in, refusal_of, refusal_parts, refusal_set_from, size_in, size_of_tokens}
pub use Rattle.metis_text.specs.RefusalText.{IsRefusal, lacks_line, pair_line, pairs_line, refusal_body, refusal_bytes, refusal_header, refusal_lines, refusal_rest, refusal_set}
