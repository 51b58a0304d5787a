use Rattle.std.proofs.Common.{take}
use Rattle.metis_choice.proofs.Below.{IsNoted}
use Rattle.metis_choice.proofs.origins.note_origin.Given as goal

-- the moves before this one are seen
abbrev pub invariant-loop-to : goal.invariant-loop-to
invariant-loop-to l = IsNoted l.u l.from (take l.to-index l.to-items) l.origins
