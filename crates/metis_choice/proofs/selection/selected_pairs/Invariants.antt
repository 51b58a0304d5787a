use Rattle.metis_choice.specs.Terms.{work_left}
use Rattle.metis_choice.proofs.UnderWay.{IsUnderWay}
use Rattle.metis_choice.proofs.selection.selected_pairs.Given as goal

abbrev pub invariant-loop-pair : goal.invariant-loop-pair
invariant-loop-pair l = IsUnderWay l.u l.targets l.work

abbrev pub decreases-loop-pair : goal.decreases-loop-pair
decreases-loop-pair l = work_left l.work
