use Rattle.std.proofs.Common.{take}
use Rattle.metis_choice.specs.Terms.{Adds}
use Rattle.metis_choice.proofs.work_list.WorkList.add_all.Given as goal

-- the pairs before this one are added
abbrev pub invariant-loop-pair : goal.invariant-loop-pair
invariant-loop-pair l = Adds (take l.pair-index l.pairs) l.initial.self l.self
