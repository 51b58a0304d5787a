use Rattle.std.specs.Prelude.{IsSome}
use Rattle.metis_ids.proofs.Lists.{all_from}
use Rattle.metis_universe.specs.Terms.{layer_of}
use Rattle.metis_planner.proofs.Ending.{attained_layered}
use Rattle.metis_planner.proofs.planner.plan_over.Goals as goal

pub support-requires-clause-layered : goal.support-requires-clause-layered
support-requires-clause-layered c = all_from (λ p. IsSome (layer_of c.args.u.now p)) c.args.targets.now (attained_layered c.args.u.now c.keeps_invariant.ensures.universe c.args.targets.now c.requires.attained)

pub plan_on-requires-clause-layered : goal.plan_on-requires-clause-layered
plan_on-requires-clause-layered c = all_from (λ p. IsSome (layer_of c.args.u.now p)) c.args.targets.now (attained_layered c.args.u.now c.keeps_invariant.ensures.universe c.args.targets.now c.requires.attained)
