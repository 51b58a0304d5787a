use Rattle.metis_refusal.specs.Terms.{flag}
use Rattle.metis_why.specs.Terms.{AreMarked}
use Rattle.metis_why.proofs.forcing.forced.Given as goal

abbrev pub invariant-loop-next : goal.invariant-loop-next
invariant-loop-next l = AreMarked l.target.u.now l.target.goal (flag l.held) l.list.items l.forced
