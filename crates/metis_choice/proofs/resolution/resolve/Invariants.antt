use Rattle.std.proofs.Common.{take}
use Rattle.std.specs.List.{AllZip}
use Rattle.metis_choice.proofs.Resolving.{IsChosen}
use Rattle.metis_choice.proofs.resolution.resolve.Given as goal

-- there is a pair for each goal before this one
abbrev pub invariant-loop-goal : goal.invariant-loop-goal
invariant-loop-goal l = AllZip (IsChosen l.u) (take l.goal-index l.goals) l.pairs.items
