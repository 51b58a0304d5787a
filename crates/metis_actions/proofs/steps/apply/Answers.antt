use Rattle.metis_actions.proofs.Causes.{answer_step, answer_correct, answer_over, answer_refused}
use Rattle.metis_actions.proofs.FaultNumbers.{answer_is_of}
use Rattle.metis_actions.proofs.steps.apply.Goals as goal

pub returns-clause-step : goal.returns-clause-step
returns-clause-step c = answer_step c.args.u.now c.args.c.now c.keeps_invariant.ensures.universe c.keeps_invariant-2.ensures c.requires.correct c.requires.over c.args.a.now c.requires.action _ _ c.act.ensures

pub returns-clause-refused : goal.returns-clause-refused
returns-clause-refused c = answer_refused c.args.u.now c.args.c.now c.keeps_invariant.ensures.universe c.keeps_invariant-2.ensures c.requires.correct c.requires.over c.args.a.now c.requires.action _ _ c.act.ensures

pub returns-clause-correct : goal.returns-clause-correct
returns-clause-correct c = answer_correct c.args.u.now c.args.c.now c.keeps_invariant.ensures.universe c.keeps_invariant-2.ensures c.requires.correct c.requires.over c.args.a.now c.requires.action _ _ c.act.ensures

pub returns-clause-over : goal.returns-clause-over
returns-clause-over c = answer_over c.args.u.now c.args.c.now c.keeps_invariant.ensures.universe c.keeps_invariant-2.ensures c.requires.correct c.requires.over c.args.a.now c.requires.action _ _ c.act.ensures

pub returns-clause-fault : goal.returns-clause-fault
returns-clause-fault c = answer_is_of c.args.u.now c.keeps_invariant.ensures.universe c.args.c.now c.requires.over c.args.a.now _ _ c.act.ensures
