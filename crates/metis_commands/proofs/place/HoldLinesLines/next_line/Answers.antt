use Rattle.std.proofs.Common.{◌+◌, append_assoc}
use Rattle.metis_commands.proofs.PlaceLines.{is_hold_line}
use Rattle.metis_commands.proofs.place.HoldLinesLines.next_line.Goals as goal

pub returns-then-not-is_empty-clause-line : goal.returns-then-not-is_empty-clause-line
returns-then-not-is_empty-clause-line c more =
    is_hold_line _ (c.loop-self.self.at + 1) c.deref.result.now (simp (c.in_ok-push_str.ensures.bytes, c.in_ok-push_numbers.ensures, c.in_ok-write.ensures.bytes, c.clear.ensures.bytes, append_assoc))
