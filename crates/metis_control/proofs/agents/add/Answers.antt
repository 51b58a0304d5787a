use Rattle.std.proofs.Common.{◌∙◌, ◌++◌, ◌∷◌, [], Some, ap, sym, subst, cond, length, arith}
use Rattle.std.specs.Prelude.{is_some}
use Rattle.std.specs.BTreeMap.{insert_entry, is_at}
use Rattle.std.specs.Map.{lookup}
use Rattle.std.specs.Ordering.{nat_cmp}
use Rattle.std.proofs.lemmas.Result.{on_ok_weaker}
use Rattle.metis_control.proofs.Carried.{added_new, added_to, found_agent}
use Rattle.metis_control.specs.Terms.{AgentState, IsRising, with_number}
use Rattle.metis_control.proofs.agents.add.Goals as goal

pub take_on-requires-clause-rising : goal.take_on-requires-clause-rising
take_on-requires-clause-rising c = subst (λ (a : AgentState). IsRising 0 (a.own ++ c.args.number ∷ [])) (found_agent c.args.agents.now.entries c.args.z c.in-Some.agent.now (sym c.in-Some.ensures.value)) c.requires.rising

pub take_on-requires-clause-few : goal.take_on-requires-clause-few
take_on-requires-clause-few c =
    let same = ap (λ (a : AgentState). length a.own) (found_agent c.args.agents.now.entries c.args.z c.in-Some.agent.now (sym c.in-Some.ensures.value)) in
    omega (arith, c.requires.few)

pub returns-in-Some : goal.returns-in-Some
returns-in-Some c =
    let h = c.get_mut.follows.holds c.take_on.new.self in
    let old = c.args.agents.now.entries in
    on_ok_weaker c.take_on.result (λ is. added_to old (c.get_mut.follows.lender c.take_on.new.self).entries c.args.z c.args.number c.in-Some.agent.now c.take_on.new.self
    c.in-Some.ensures.ordered (sym c.in-Some.ensures.value) is h.0 (h.3 (ap is_some (sym c.in-Some.ensures.value))).0) c.take_on.ensures

pub returns : goal.returns
returns c =
    let old = c.args.agents.now.entries in
    let same = c.get_mut.follows.holds-at-none in
    added_new old c.insert.new.self.entries c.args.z c.args.number c.take_on-2.new.self (sym c.in_default.ensures.value) (c.in_ok-take_on.ensures ∙ ap (λ (a : AgentState). with_number a c.args.number) c.in_ok-agent.ensures)
    (c.in_ok-insert.ensures.entries ∙ (λ i. insert_entry nat_cmp (same i).entries c.args.z c.take_on-2.new.self))
    (λ q. c.in_ok-insert.ensures.updates.0 q ∙ (λ i. cond (is_at (nat_cmp c.args.z) q) (Some c.take_on-2.new.self) (lookup (is_at (nat_cmp q)) (same i).entries)))
