use Rattle.std.proofs.Common.{◌∷◌, [], codes, map, subst}
use Rattle.json.specs.Token.{key, string}
use Rattle.serde_json.specs.Data.{string as text}
use Rattle.metis_universe.specs.Terms.{port_name_of, state_name_of}
use Rattle.metis_ujson.specs.Terms.{Adds, list_of, tokens_of}
use Rattle.metis_ujson.proofs.Adding.{adds_then, adds_token, on_ok}
use Rattle.metis_ujson.proofs.spelling.put_state.Goals as goal

pub returns : goal.returns
returns c =
    let u = c.args.u.now in
    let name = subst (λ n. Adds c.begin_object.new.self c.put_text.new.out (key (codes "name") ∷ string n ∷ [])) c.state_name.ensures c.in_ok-put_text.ensures in
    let next = subst (λ ps. Adds c.key.new.self c.put_state_names.new.out (tokens_of (list_of text (map (state_name_of u) ps)))) c.next.ensures.pairs c.in_ok-put_state_names.ensures in
    let provide = subst (λ rs. Adds c.key-2.new.self c.put_port_names.new.out (tokens_of (list_of text (map (port_name_of u) rs)))) c.provided.ensures.ports c.in_ok-put_port_names.ensures in
    on_ok c.end_object.result (λ last.
    adds_then _ _ _ _ _ (adds_token c.args.out.now c.begin_object.new.self _ c.begin_object.ensures.room.0 c.in_ok-begin_object.ensures.ok)
    (adds_then _ _ _ _ _ name
    (adds_then _ _ _ _ _ (adds_token c.put_text.new.out c.key.new.self _ c.key.ensures.room.0 c.in_ok-key.ensures.ok)
    (adds_then _ _ _ _ _ next
    (adds_then _ _ _ _ _ (adds_token c.put_state_names.new.out c.key-2.new.self _ c.key-2.ensures.room.0 c.in_ok-key-2.ensures.ok)
    (adds_then _ _ _ _ _ provide
    (adds_then _ _ _ _ _ (adds_token c.put_port_names.new.out c.key-3.new.self _ c.key-3.ensures.room.0 c.in_ok-key-3.ensures.ok)
    (adds_then _ _ _ _ _ c.in_ok-put_needs.ensures
    (adds_token c.put_needs.new.out c.end_object.new.self _ c.end_object.ensures.room.0 last)))))))))
    c.end_object.ensures.ok
