use Rattle.std.proofs.Common.{◌∷◌, [], ◌∙◌, ap, codes, subst}
use Rattle.json.specs.Token.{key, string}
use Rattle.metis_universe.specs.Terms.{state_name_of}
use Rattle.metis_ujson.specs.Terms.{Adds}
use Rattle.metis_ujson.proofs.Adding.{adds_then, adds_token, on_ok}
use Rattle.metis_ujson.proofs.spelling.put_type.Goals as goal

pub returns : goal.returns
returns c =
    let initial = subst (λ n. Adds c.begin_object.new.self c.put_text.new.out (key (codes "initial") ∷ string n ∷ [])) (c.state_name.ensures ∙ ap (state_name_of c.args.u.now) c.initial.ensures.pair) c.in_ok-put_text.ensures in
    let name = subst (λ n. Adds c.put_text.new.out c.put_text-2.new.out (key (codes "name") ∷ string n ∷ [])) c.type_name.ensures c.in_ok-put_text-2.ensures in
    on_ok c.end_object.result (λ last.
    adds_then _ _ _ _ _ (adds_token c.args.out.now c.begin_object.new.self _ c.begin_object.ensures.room.0 c.in_ok-begin_object.ensures.ok)
    (adds_then _ _ _ _ _ initial
    (adds_then _ _ _ _ _ name
    (adds_then _ _ _ _ _ (adds_token c.put_text-2.new.out c.key.new.self _ c.key.ensures.room.0 c.in_ok-key.ensures.ok)
    (adds_then _ _ _ _ _ c.in_ok-put_states.ensures
    (adds_token c.put_states.new.out c.end_object.new.self _ c.end_object.ensures.room.0 last))))))
    c.end_object.ensures.ok
