use Rattle.std.proofs.Common.{map, sym, subst}
use Rattle.std.specs.Prelude.{IfOk}
use Rattle.metis_universe.specs.Terms.{IsOf}
use Rattle.metis_sim.proofs.ActionNumbers.{action_is_of}
use Rattle.metis_sim.proofs.actions.action_in.Goals as goal

pub returns-clause-numbers : goal.returns-clause-numbers
returns-clause-numbers c =
    subst (λ r. IfOk r (IsOf c.args.u.now)) (sym c.action_of.ensures) (action_is_of c.args.u.now c.args.c.now c.args.verb.now (map (λ t. t.now) c.args.args.now))
