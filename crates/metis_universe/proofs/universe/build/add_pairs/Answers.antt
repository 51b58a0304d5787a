use Rattle.std.proofs.Common.{◌≡◌, ◌+◌, length, string_bytes, ap, ◌∙◌, arith}
use Rattle.std.proofs.lemmas.List.{length-append, length-map}
use Rattle.metis_universe.specs.Terms.{NeedRow, names_needed, number_of, pair_from, ports_of_state, unnamed}
use Rattle.metis_universe.proofs.SeenPorts.{items_next, entries_next}
use Rattle.metis_universe.proofs.universe.build.add_pairs.Goals as goal

pub loop-state-preserved : goal.loop-state-preserved
loop-state-preserved c =
    let x = c.state-item.result in
    let i = c.loop-state.state-index in
    let states = c.args.row.now.states in
    let ports = c.args.ports.now in
    let same : c.deref-state-items.result.now ≡ states = c.deref-state-items.ensures.value ∙ ap (λ r. r.states) c.row.view_is in
    let provide = ap (λ s. length s.provide) c.state.view_is in
    let require = ap (λ s. length s.require) c.state.view_is in
    let many : c.len-in-loop-state.result + c.len-in-loop-state-2.result ≡ length (ports_of_state x) =
    omega (arith, c.len-in-loop-state.ensures, c.len-in-loop-state-2.ensures, provide, require, length-append x.provide (names_needed x.require), length-map x.require (λ (n : NeedRow). n.port), length-map c.state.inside.provide.items (λ t. string_bytes t)) in
    record {
      pairs = items_next states c.deref-state-items.result.now same i x c.loop-state-test.true c.state-item.is (λ state. unnamed (pair_from ports c.args.t c.len.result c.args.row.now state)) c.args.pairs.now.items c.loop-state.pairs.items c.push.new.self.items c.in_ok-pair_of.field-0 c.loop-state.invariant.pairs c.in_ok-pair_of.ensures c.in_ok-push.ensures.items;
      rest = λ later are. entries_next states c.deref-state-items.result.now same i x c.loop-state-test.true c.state-item.is (number_of ports) ports_of_state later c.loop-state.rest.now c.split_at.result.1.now (c.len-in-loop-state.result + c.len-in-loop-state-2.result) (c.loop-state.invariant.rest later are) many c.split_at.ensures.back;
    }
