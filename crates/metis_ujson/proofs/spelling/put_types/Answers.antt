use Rattle.std.proofs.Common.{◌≡◌, ◌+◌, ◌<◌, length, take, sym, ap, ◌∙◌, arith}
use Rattle.std.specs.List.{range_with_len}
use Rattle.std.proofs.Math.Seq.{take-length}
use Rattle.std.proofs.lemmas.List.FromFn.{get_or-range_with_len, length-range_with_len}
use Rattle.json.specs.Token.{begin_array, end_array}
use Rattle.metis_universe.specs.Terms.{type_count}
use Rattle.metis_ujson.specs.Terms.{type_row, type_value}
use Rattle.metis_ujson.proofs.Adding.{adds_next, adds_rows, adds_token, on_ok}
use Rattle.metis_ujson.proofs.spelling.put_types.Goals as goal

pub loop-t-preserved : goal.loop-t-preserved
loop-t-preserved c =
    let n = type_count c.args.u.now in
    let k = c.loop-t.t in
    let low : k < n = omega (arith, c.types-t-end.ensures) in
    let zero : 0 + k ≡ k = omega arith in
    adds_next (λ t. type_value (type_row c.args.u.now t)) (range_with_len 0 n) k k _ _ _ (omega (arith, low, length-range_with_len 0 n)) (sym (get_or-range_with_len 0 n k k low ∙ zero)) c.loop-t.invariant c.in_ok-put_type.ensures

pub returns : goal.returns
returns c =
    let u = c.args.u.now in
    let types = range_with_len 0 (type_count u) in
    let all : c.loop-t.t ≡ length types = omega (arith, c.types-t-end.ensures, length-range_with_len 0 (type_count u)) in
    let whole : take c.loop-t.t types ≡ types = ap (λ n. take n types) all ∙ take-length types in
    on_ok c.end_array.result (λ last. adds_rows type_value (type_row u) types c.loop-t.t _ _ _ _ whole
    (adds_token c.args.out.now c.begin_array.new.self begin_array c.begin_array.ensures.room.0 c.in_ok-begin_array.ensures.ok) c.loop-t.invariant
    (adds_token c.loop-t.out c.end_array.new.self end_array c.end_array.ensures.room.0 last)) c.end_array.ensures.ok
