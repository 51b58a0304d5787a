use Rattle.std.proofs.Common.{◌≡◌, ◌+◌, ◌<◌, drop, length, take, sym, ap, ◌∙◌, arith}
use Rattle.std.proofs.Math.Seq.{take-length}
use Rattle.std.proofs.lemmas.List.{get_or_default}
use Rattle.metis_universe.specs.Terms.{no_pair, pair_at, states_of_type}
use Rattle.json.specs.Token.{begin_array, end_array}
use Rattle.metis_ujson.specs.Terms.{state_row, state_value}
use Rattle.metis_ujson.proofs.Adding.{adds_next, adds_none, adds_rows, adds_token, on_ok}
use Rattle.metis_ujson.proofs.Blocks.{block_at, block_within}
use Rattle.metis_ujson.proofs.spelling.put_states.Goals as goal

pub loop-place-init : goal.loop-place-init
loop-place-init c = adds_none c.begin_array.new.self

pub overflow_add-first : goal.overflow_add-first
overflow_add-first c =
    let u = c.args.u.now in
    let states = states_of_type u c.args.t in
    let is : states ≡ take (length states) (drop c.first.inside.0 u.pairs) = c.first_of.ensures ∙ ap (λ n. take (length states) (drop n u.pairs)) (sym c.first.view_is) in
    omega (arith, c.keeps_invariant.ensures.limits.pairs, block_within states u.pairs c.first.inside.0 is c.loop-place.place (omega (arith, c.states-place-end.ensures)))

pub loop-place-preserved : goal.loop-place-preserved
loop-place-preserved c =
    let u = c.args.u.now in
    let states = states_of_type u c.args.t in
    let k = c.loop-place.place in
    let is : states ≡ take (length states) (drop c.first.inside.0 u.pairs) = c.first_of.ensures ∙ ap (λ n. take (length states) (drop n u.pairs)) (sym c.first.view_is) in
    let low : k < length states = omega (arith, c.states-place-end.ensures) in
    let at = block_at states u.pairs c.first.inside.0 is k low in
    adds_next (λ p. state_value (state_row u p)) states k (pair_at u (c.first.inside.0 + k)) _ _ _ low (sym at ∙ get_or_default states k no_pair _ low) c.loop-place.invariant c.in_ok-put_state.ensures

pub returns : goal.returns
returns c =
    let u = c.args.u.now in
    let states = states_of_type u c.args.t in
    let all : c.loop-place.place ≡ length states = omega (arith, c.states-place-end.ensures) in
    let whole : take c.loop-place.place states ≡ states = ap (λ n. take n states) all ∙ take-length states in
    on_ok c.end_array.result (λ last. adds_rows state_value (state_row u) states c.loop-place.place _ _ _ _ whole
    (adds_token c.args.out.now c.begin_array.new.self begin_array c.begin_array.ensures.room.0 c.in_ok-begin_array.ensures.ok) c.loop-place.invariant
    (adds_token c.loop-place.out c.end_array.new.self end_array c.end_array.ensures.room.0 last)) c.end_array.ensures.ok
