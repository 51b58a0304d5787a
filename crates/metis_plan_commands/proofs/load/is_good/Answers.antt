use Rattle.std.proofs.Common.{◌≡◌, ◌∙◌, false, List, ap, refl, sym, subst}
use Rattle.std.specs.List.{All}
use Rattle.metis_ids.specs.Terms.{Plan}
use Rattle.metis_ids.specs.declared.actions.Action.{Action}
use Rattle.metis_ids.specs.declared.goals.Goal.{Goal}
use Rattle.metis_universe.specs.Terms.{IsGoalOf, pair_goals}
use Rattle.metis_replay.specs.Terms.{Tells}
use Rattle.metis_replay.specs.declared.verdict.Verdict.{Verdict}
use Rattle.metis_replay.specs.declared.verdict.Verdict.TheVariants.{Good, Bad, Missing}
use Rattle.metis_choice.proofs.GoalLists.{pairs_are_goals}
use Rattle.metis_plan_commands.specs.Terms.{is_good}
use Rattle.metis_plan_commands.proofs.load.is_good.Goals as goal
use Rattle.metis_plan_commands.proofs.load.is_good.Goals.{in-Good, in_default}

no_good : (v : Verdict) → (v ≡ Good → ⊥) → false ≡ is_good v
no_good Good other = absurd (other refl)
no_good (Bad k f) other = refl
no_good (Missing g have want) other = refl

pub replayed-requires-clause-within : goal.replayed-requires-clause-within
replayed-requires-clause-within c =
    let same : c.deref-2.result.now ≡ pair_goals c.args.targets.now = c.deref-2.ensures.value ∙ c.in_ok-goals.ensures in
    subst (λ (gs : List Goal). All (IsGoalOf c.args.u.now) gs) (sym same) (pairs_are_goals c.args.u.now c.args.targets.now c.requires.within)

pub returns-in-Ok : goal.returns-in-Ok
returns-in-Ok c =
    let u = c.args.u.now in
    let v = c.in-Ok.verdict in
    let goals : c.deref-2.result.now ≡ pair_goals c.args.targets.now = c.deref-2.ensures.value ∙ c.in_ok-goals.ensures in
    let actions : c.deref.result.now ≡ c.args.plan.now.actions = c.deref.ensures.value ∙ ap (λ (p : Plan). p.actions) c.plan.view_is in
    let good : c.match-matches.matches ≡ is_good v = elim c.match-matches.branch [
      | in-Good w ↦ w.matches-is ∙ ap is_good (sym w.in-Good.is)
      | in_default w ↦ w.matches-is ∙ no_good v w.in_default.not-Good
    ] in
    (v, subst (λ (a : List Action). Tells u a (pair_goals c.args.targets.now) v) actions (subst (λ (gs : List Goal). Tells u c.deref.result.now gs v) goals c.in-Ok.ensures.tells), good)
