use Rattle.std.proofs.Common.{◌≡◌, ◌∷◌, ◌&&◌, true, false, cond, nat_eq, Some, sym, ap, ◌∙◌, subst}
use Rattle.std.specs.Prelude.{option_map}
use Rattle.std.specs.List.{find, filter}
use Rattle.std.specs.Map.Iter.{deref}
use Rattle.std.proofs.lemmas.Bool.{and_from}
use Rattle.std.proofs.lemmas.Map.Iter.{rest_more, rest_all}
use Rattle.metis_universe.specs.Terms.{Binding}
use Rattle.metis_config.proofs.Prefixes.{IsRest, IsRest-filter, find-from, find_none, is_from}
use Rattle.metis_config.proofs.Keys.{and_none, has_front-from, is_front, no_front_after, third}
use Rattle.metis_config.proofs.ends.first_at.Goals as goal
use Rattle.metis_config.proofs.ends.first_at.Goals.{else-eq-via-then-eq+else-eq-2, else-eq-via-else-eq}

pub returns-then-eq-2 : goal.returns-then-eq-2
returns-then-eq-2 c =
    let start : Binding = (c.args.r, c.args.z, 0) in
    let front = is_front c.args.r c.args.z in
    let is : c.range.result ≡ filter (is_from start) c.args.bindings.now.keys = c.range.ensures.between tt in
    let e = sym is ∙ rest_more deref _ _ _ _ c.in-Some.is c.next.ensures.steps in
    let at : front c.in-Some.tie.now ≡ true = and_from _ _ (sym c.eq.ensures ∙ c.if-eq.true) (sym c.eq-then-eq.ensures ∙ c.if-eq-2.true) in
    sym (ap (option_map third) (ap (λ v. cond v (Some c.in-Some.tie.now) (find front c.next.new.self)) at))
    ∙ sym (ap (λ l. option_map third (find front l)) e)
    ∙ ap (option_map third) (find-from start front (λ b h. has_front-from c.args.r c.args.z b h) c.args.bindings.now.keys)

pub returns-else-eq : goal.returns-else-eq
returns-else-eq c =
    let start : Binding = (c.args.r, c.args.z, 0) in
    let front = is_front c.args.r c.args.z in
    let is : c.range.result ≡ filter (is_from start) c.args.bindings.now.keys = c.range.ensures.between tt in
    let e = sym is ∙ rest_more deref _ _ _ _ c.in-Some.is c.next.ensures.steps in
    let other : front c.in-Some.tie.now ≡ false = elim c.else-eq.branch [
      | else-eq-via-then-eq+else-eq-2 w ↦ and_none (nat_eq c.in-Some.tie.now.0 c.args.r) _ (sym w.eq-then-eq.ensures ∙ w.if-eq-2.false)
      | else-eq-via-else-eq w ↦ ap (λ v. v && nat_eq c.in-Some.tie.now.1 c.args.z) (sym c.eq.ensures ∙ w.if-eq.false)
    ] in
    let rest = subst (IsRest start) e (IsRest-filter start c.args.bindings.now.keys c.range.ensures.ordered) in
    sym (ap (option_map third) (find_none front (c.in-Some.tie.now ∷ c.next.new.self) (no_front_after c.args.r c.args.z c.in-Some.tie.now c.next.new.self rest other)))
    ∙ sym (ap (λ l. option_map third (find front l)) e)
    ∙ ap (option_map third) (find-from start front (λ b h. has_front-from c.args.r c.args.z b h) c.args.bindings.now.keys)

pub returns-in-None : goal.returns-in-None
returns-in-None c =
    let start : Binding = (c.args.r, c.args.z, 0) in
    let front = is_front c.args.r c.args.z in
    let is : c.range.result ≡ filter (is_from start) c.args.bindings.now.keys = c.range.ensures.between tt in
    let e = sym is ∙ rest_all deref _ _ _ c.in-None.is c.next.ensures.steps in
    sym (ap (λ l. option_map third (find front l)) e)
    ∙ ap (option_map third) (find-from start front (λ b h. has_front-from c.args.r c.args.z b h) c.args.bindings.now.keys)
