use Rattle.std.proofs.Common.{ap, inl, inr}
use Rattle.std.proofs.lemmas.Result.{IfOk-weaker}
use Rattle.metis_choice.proofs.GoalLists.{found_among}
use Rattle.metis_layers.proofs.Order.{attained_set}
use Rattle.metis_layers.specs.Terms.{attained_pairs}
use Rattle.metis_output.specs.Terms.{status_for}
use Rattle.metis_universe.proofs.Served.{goals_refused}
use Rattle.metis_universe.specs.Terms.{IsGoalOf, lacks}
use Rattle.metis_commands.proofs.audit.answer.Goals as goal

pub returns-in-Pairs : goal.returns-in-Pairs
returns-in-Pairs c =
    let pairs = c.in-Pairs.pairs.items in
    let found = rw c.in-Pairs.is at c.in_ok-resolved.ensures.resolved in
    let attains = c.pairs_for_goals_hold_them.ensures.attains c.args.u.now c.args.goals.now pairs found.resolved found.attained in
    IfOk-weaker c.audited.result _ _ (λ a said. inl (record { attains = attains; pairs = pairs; resolved = found.resolved; for_pairs = said })) (rw c.deref.ensures.value at c.audited.ensures)

pub not_attained-requires : goal.not_attained-requires
not_attained-requires c =
    let u = c.args.u.now in
    found_among (IsGoalOf u) (lacks u (attained_pairs u)) c.args.goals.now c.in-Lacks.lacks c.requires.within (rw c.in-Lacks.is at c.in_ok-resolved.ensures.resolved).1

pub returns : goal.returns
returns c =
    let u = c.args.u.now in
    let goals = c.args.goals.now in
    let set = attained_pairs u in
    let lacking = c.in-Lacks.lacks in
    let refusal = rw c.in-Lacks.is at c.in_ok-resolved.ensures.resolved in
    let unattained = goals_refused u goals set lacking refusal in
    IfOk-weaker c.not_attained.result _ _
    (λ a said. inr (record { unattained = unattained; set = set; all = attained_set u c.keeps_invariant.ensures.universe; lacking = lacking; refusal = refusal; told = said.0; is = ap status_for said.1 })) c.not_attained.ensures
