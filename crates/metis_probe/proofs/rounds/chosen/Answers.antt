use Rattle.metis_probe.proofs.Chosen.{choice_has_targets}
use Rattle.metis_probe.proofs.rounds.chosen.Goals as goal

pub returns-clause-selected : goal.returns-clause-selected
returns-clause-selected c = choice_has_targets c.args.u.now c.args.targets.now c.choose.result c.keeps_invariant.ensures.universe c.choose.ensures.layered c.choose.ensures.support
