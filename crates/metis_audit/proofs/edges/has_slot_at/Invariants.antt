use Rattle.std.proofs.Common.{◌≡◌, ◌<◌, ◌+◌, ℕ, false}
use Rattle.metis_lines.specs.Terms.{holder_of}
use Rattle.metis_audit.specs.Terms.{is_at}
use Rattle.metis_audit.proofs.edges.has_slot_at.Given as goal

-- none of the slots before is at the place
abbrev pub invariant-loop-slot : goal.invariant-loop-slot
invariant-loop-slot l = (m : ℕ) → m < l.slot → is_at l.held.0 l.held.1 (holder_of l.over.lines l.provider (m + 1)) ≡ false
