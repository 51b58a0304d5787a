use Rattle.std.proofs.Common.{◌≡◌, ◌<◌, ◌&&◌, ◌||◌, true, false, None, length, get_or, nat_eq, sym, ap, ◌∙◌, arith}
use Rattle.std.specs.Option.{is_none, is_some}
use Rattle.std.proofs.lemmas.Bool.{and_from, eq-eqb}
use Rattle.std.proofs.lemmas.List.{get_or_read}
use Rattle.metis_universe.specs.Terms.{has}
use Rattle.metis_layers.specs.Terms.{Counters, comes}
use Rattle.metis_layers.proofs.CounterFacts.{comes_by, none_at, put_in}
use Rattle.metis_layers.proofs.counters.Counters.settle.Goals as goal

pub returns-in_ok-insert-clause-next : goal.returns-in_ok-insert-clause-next
returns-in_ok-insert-clause-next c = λ x.
    let q = c.args.q in
    let at : c.q.inside.0 ≡ q = c.q.view_is in
    let rounds = c.self.inside.rounds.items in
    let led = c.self.inside.led.items in
    let unmet = c.self.inside.unmet.items in
    let size = ap (λ (v : Counters). length v.rounds) c.self.view_is in
    let low : q < length rounds = (let r = c.requires in omega arith) in
    let sizes = c.self.invariant in
    let none : is_none (get_or rounds q None) ≡ true = ap is_none (none_at rounds c.q.inside.0 q c.index.result.now c.is_none.result at low (ap is_some (sym c.index.ensures) ∙ c.is_none.ensures) c.if-is_none.true) in
    let flag : get_or led q false ≡ true = sym (get_or_read led c.q.inside.0 _ (omega (arith, sizes.0)) c.index-then-is_none.ensures false ∙ ap (λ k. get_or led k false) at) ∙ c.if-index.true in
    let met : nat_eq (get_or unmet q 0) 0 ≡ true = eq-eqb _ _ (sym (get_or_read unmet c.q.inside.0 _ (omega (arith, sizes.1)) c.index-then-index.ensures 0 ∙ ap (λ k. get_or unmet k 0) at) ∙ c.if-index-eq0.true) in
    put_in c.self.inside.next.keys c.insert.new.self.keys q (comes_by rounds led unmet q) c.in_ok-insert.ensures.keys (and_from _ _ none (and_from _ _ flag met)) x
    ∙ ap (λ (v : Counters). (nat_eq x q && comes v q) || has v.next x) c.self.view_is
