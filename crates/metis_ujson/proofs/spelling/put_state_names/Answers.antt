use Rattle.std.proofs.Common.{◌≡◌, length, take, ap, ◌∙◌, arith, subst}
use Rattle.std.proofs.Math.Seq.{take-length}
use Rattle.json.specs.Token.{begin_array, end_array}
use Rattle.json.specs.Token as token
use Rattle.serde_json.specs.Data.{string}
use Rattle.metis_universe.specs.Terms.{state_name_of}
use Rattle.metis_ujson.specs.Terms.{Adds, tokens_of}
use Rattle.metis_ujson.proofs.Adding.{adds_next, adds_rows, adds_token, on_ok}
use Rattle.metis_ujson.proofs.spelling.put_state_names.Goals as goal

pub loop-pair-preserved : goal.loop-pair-preserved
loop-pair-preserved c =
    let u = c.args.u.now in
    let next = adds_token c.loop-pair.out c.string.new.self (token.string c.state_name.result.now) c.string.ensures.room.0 c.in_ok-string.ensures.ok in
    adds_next (λ x. string (state_name_of u x)) c.args.pairs.now c.loop-pair.pair-index c.pair-item.result _ _ _ c.loop-pair-test.true c.pair-item.is c.loop-pair.invariant
    (subst (λ n. Adds c.loop-pair.out c.string.new.self (tokens_of (string n))) c.state_name.ensures next)

pub returns : goal.returns
returns c =
    let pairs = c.args.pairs.now in
    let all : c.loop-pair.pair-index ≡ length pairs = omega arith in
    let whole : take c.loop-pair.pair-index pairs ≡ pairs = ap (λ n. take n pairs) all ∙ take-length pairs in
    on_ok c.end_array.result (λ last. adds_rows string (state_name_of c.args.u.now) pairs c.loop-pair.pair-index _ _ _ _ whole
    (adds_token c.args.out.now c.begin_array.new.self begin_array c.begin_array.ensures.room.0 c.in_ok-begin_array.ensures.ok) c.loop-pair.invariant
    (adds_token c.loop-pair.out c.end_array.new.self end_array c.end_array.ensures.room.0 last)) c.end_array.ensures.ok
