use Rattle.std.proofs.Common.{◌≡◌, ◌+◌, ◌++◌, map}
use Rattle.std.specs.List.{range_with_len}
use Rattle.metis_ids.specs.Terms.{tie_action}
use Rattle.metis_lines.specs.Terms.{slot_holding}
use Rattle.metis_emit.proofs.writing.tie_slots.Given as goal

abbrev pub invariant-loop-further : goal.invariant-loop-further
invariant-loop-further l = l.actions.items ≡ l.initial.actions.items ++ map (λ k. tie_action l.tie l.at.port (slot_holding l.over.lines l.at.provider k).0) (range_with_len (l.at.held + 1) l.further)
