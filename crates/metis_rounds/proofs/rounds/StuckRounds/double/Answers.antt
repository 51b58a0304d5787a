use Rattle.std.proofs.Common.{subst}
use Rattle.metis_rounds.specs.Terms.{IsForced, RoundsState, graph_now}
use Rattle.metis_rounds.proofs.rounds.StuckRounds.double.Goals as goal

pub returns-clause-forced : goal.returns-clause-forced
returns-clause-forced c = subst (λ (a : RoundsState). IsForced (graph_now a) c.in_ok-dup.dup) c.self.view_is c.in_ok-dup.ensures.forced
