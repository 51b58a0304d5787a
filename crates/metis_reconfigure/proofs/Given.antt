-- What leaves, what is settled, and what the settled instances give.
use Rattle.std.proofs.Common.{◌≡◌, ℕ, Bool, true, false, cond, not, ◌&&◌, List, [], ◌∷◌, Some, map, refl, sym, ap, ◌∙◌, subst, nat_eq, inl, inr}
use Rattle.std.specs.Prelude.{IsSome}
use Rattle.std.specs.List.{filter}
use Rattle.std.specs.List.Sorted.{IsStrictlyIncreasing}
use Rattle.std.specs.Option.{option_map_or}
use Rattle.std.proofs.lemmas.Bool.{and_from, and_parts, both_ways, eq-eqb, eqb-true, false_from_ne_true, false≢true, not-true, or_cases, or_left, or_right}
use Rattle.std.proofs.lemmas.List.Kept.{IsStrictlyIncreasing-filter}
use Rattle.std.proofs.lemmas.Map.Keys.{IsStrictlyIncreasing-from_sorted}
use Rattle.metis_ids.proofs.Lists.{has-filter}
use Rattle.metis_universe.proofs.Bindings.{own_tie}
use Rattle.metis_universe.proofs.Demands.{some_provides}
use Rattle.metis_universe.proofs.Edits.{tie_is}
use Rattle.metis_universe.specs.Terms.{Binding, Config, IsConfig, Universe, has, is_bound, is_tie, pair_of, provides}
use Rattle.metis_completion.specs.Terms.{AreGiven}
use Rattle.metis_rollout.proofs.Quiet.{is_in, keys-has}
use Rattle.metis_rollout.specs.Terms.{is_idle, members}
use Rattle.metis_wishes.specs.Terms.{is_avoided, rebound}
use Rattle.metis_wishes.specs.declared.wish.Wish.{Wish}
use Rattle.metis_reconfigure.specs.Terms.{AreLeaving, Edge, IsReached, dependents, given, gives, has_edge, is_root, next, roots, settled, start}

-- ---- edges that are made of bindings

-- a binding of which the edge is made
pub record IsEdgeOf (f : Binding → Edge) (p : Binding → Bool) (bs : List Binding) (x y : ℕ) : Type 0 where
  pub binding : Binding
  pub among : is_in bs binding.0 binding.1 binding.2 ≡ true
  pub passes : p binding ≡ true
  pub from : (f binding).0 ≡ x
  pub to : (f binding).1 ≡ y

module _ (f : Binding → Edge) (p : Binding → Bool) where
  later_edge : (b : Binding) (bs : List Binding) (x y : ℕ) → IsEdgeOf f p bs x y → IsEdgeOf f p (b ∷ bs) x y
  later_edge b bs x y e = record { binding = e.binding; among = or_right _ _ e.among; passes = e.passes; from = e.from; to = e.to }

  pub edge_from : (bs : List Binding) (x y : ℕ) → has_edge (map f (filter p bs)) x y ≡ true → IsEdgeOf f p bs x y
  edge_from [] x y h = absurd (false≢true h)
  edge_from (b ∷ bs) x y h = elim (p b) as (λ v. p b ≡ v → has_edge (map f (cond v (b ∷ filter p bs) (filter p bs))) x y ≡ true → IsEdgeOf f p (b ∷ bs) x y) [
    | true ↦ λ is g. elim (or_cases (nat_eq (f b).0 x && nat_eq (f b).1 y) (has_edge (map f (filter p bs)) x y) g) [
      | inl now ↦
          let ends = and_parts (nat_eq (f b).0 x) (nat_eq (f b).1 y) now in
          record { binding = b; among = or_left (is_tie b.0 b.1 b.2 b) _ (own_tie b); passes = is; from = eqb-true (f b).0 x ends.0; to = eqb-true (f b).1 y ends.1 }
      | inr later ↦ later_edge b bs x y (edge_from bs x y later)
    ]
    | false ↦ λ _ g. later_edge b bs x y (edge_from bs x y g)
  ] refl h

  pub edge_to : (b : Binding) (bs : List Binding) → is_in bs b.0 b.1 b.2 ≡ true → p b ≡ true → has_edge (map f (filter p bs)) (f b).0 (f b).1 ≡ true
  edge_to b [] h is = absurd (false≢true h)
  edge_to b (d ∷ bs) h is = elim (p d) as (λ v. p d ≡ v → has_edge (map f (cond v (d ∷ filter p bs) (filter p bs))) (f b).0 (f b).1 ≡ true) [
    | true ↦ λ _. elim (or_cases (is_tie b.0 b.1 b.2 d) (is_in bs b.0 b.1 b.2) h) [
      | inl now ↦ or_left (nat_eq (f d).0 (f b).0 && nat_eq (f d).1 (f b).1) _ (subst (λ (e : Binding). (nat_eq (f e).0 (f b).0 && nat_eq (f e).1 (f b).1) ≡ true) (sym (tie_is b.0 b.1 b.2 d now)) (and_from _ _ (eq-eqb (f b).0 (f b).0 refl) (eq-eqb (f b).1 (f b).1 refl)))
      | inr later ↦ or_right (nat_eq (f d).0 (f b).0 && nat_eq (f d).1 (f b).1) _ (edge_to b bs later is)
    ]
    | false ↦ λ off. elim (or_cases (is_tie b.0 b.1 b.2 d) (is_in bs b.0 b.1 b.2) h) [
      | inl now ↦ absurd (both_ways (p d) off (subst (λ (e : Binding). p e ≡ true) (sym (tie_is b.0 b.1 b.2 d now)) is))
      | inr later ↦ edge_to b bs later is
    ]
  ] refl

-- ---- what leaves

module _ (u : Universe) (wishes : List Wish) (c : Config) (k : IsConfig c) (leaving : List ℕ) (leave : AreLeaving u wishes c leaving) where
  abbrev starts : List ℕ
  starts = roots u wishes c

  abbrev edges : List Edge
  edges = dependents u c (rebound wishes)

  abbrev back : Binding → Edge
  back b = (b.2, b.1, b.0)

  abbrev binds_up : Binding → Bool
  binds_up b = not (is_idle u c b) && not (has (rebound wishes) b.1)

  reached_inside : (z : ℕ) → IsReached starts edges z → has (members c) z ≡ true
  reached_inside z (start _ h) = (and_parts (is_root u wishes c z) (has (members c) z) (sym (has-filter (is_root u wishes c) z (members c)) ∙ h)).1
  reached_inside y (next z _ r h) =
      let e = edge_from back binds_up c.bindings z y h in
      keys-has c.instances y (subst (λ x. IsSome (pair_of c x)) e.to (k.requirer e.binding.0 e.binding.1 e.binding.2 e.among))

  pub leaves_inside : (z : ℕ) → has leaving z ≡ true → has (members c) z ≡ true
  leaves_inside z h = reached_inside z ((leave z).0 h)

  pub root_leaves : (z : ℕ) → is_root u wishes c z ≡ true → has (members c) z ≡ true → has leaving z ≡ true
  root_leaves z is there = (leave z).1 (start z (has-filter (is_root u wishes c) z (members c) ∙ and_from (is_root u wishes c z) (has (members c) z) is there))

  -- what stands on a leaving instance leaves too, but what may be bound anew
  pub follows : (r z y : ℕ) → is_bound c r z y ≡ true → is_idle u c (r, z, y) ≡ false → has (rebound wishes) z ≡ false → has leaving y ≡ true → has leaving z ≡ true
  follows r z y bound needed free h =
      (leave z).1 (next y z ((leave y).0 h) (edge_to back binds_up (r, z, y) c.bindings bound (and_from (not (is_idle u c (r, z, y))) (not (has (rebound wishes) z)) (ap not needed) (ap not free))))

  -- ---- what is settled

  pub is_settled : (z : ℕ) → has (settled c leaving) z ≡ true → (has leaving z ≡ false) × (has (members c) z ≡ true)
  is_settled z h =
      let parts = and_parts (not (has leaving z)) (has (members c) z) (sym (has-filter (λ x. not (has leaving x)) z (members c)) ∙ h) in
      (not-true (has leaving z) parts.0, parts.1)

  pub settles : (z : ℕ) → has leaving z ≡ false → has (members c) z ≡ true → has (settled c leaving) z ≡ true
  settles z off there = has-filter (λ x. not (has leaving x)) z (members c) ∙ and_from (not (has leaving z)) (has (members c) z) (ap not off) there

  -- ---- what is given

  pub is_given : (r y : ℕ) → has (given u c leaving r) y ≡ true → (gives u c r y ≡ true) × (has (settled c leaving) y ≡ true)
  is_given r y h = and_parts (gives u c r y) (has (settled c leaving) y) (sym (has-filter (gives u c r) y (settled c leaving)) ∙ h)

  pub is_giver : (r y : ℕ) → gives u c r y ≡ true → has (settled c leaving) y ≡ true → has (given u c leaving r) y ≡ true
  is_giver r y is there = has-filter (gives u c r) y (settled c leaving) ∙ and_from (gives u c r y) (has (settled c leaving) y) is there

  members_ascend : IsStrictlyIncreasing (members c)
  members_ascend = IsStrictlyIncreasing-from_sorted (members c) k.ascending

  pub given_ones : AreGiven u c (given u c leaving)
  given_ones = record {
    ascend = λ r. IsStrictlyIncreasing-filter (gives u c r) (settled c leaving) (IsStrictlyIncreasing-filter (λ x. not (has leaving x)) (members c) members_ascend);
    stand = λ r y h. some_provides (λ p. provides u p r) (pair_of c y) (is_given r y h).0;
  }

  pub given_settled : (r y : ℕ) → has (given u c leaving r) y ≡ true → has leaving y ≡ false
  given_settled r y h = (is_settled y (is_given r y h).1).0

  -- a given instance's pair is not avoided, since otherwise it were a root
  pub given_unavoided : (r y p : ℕ) → has (given u c leaving r) y ≡ true → pair_of c y ≡ Some p → is_avoided u wishes p ≡ false
  given_unavoided r y p h there = false_from_ne_true (is_avoided u wishes p) (λ is.
      let at = is_settled y (is_given r y h).1 in
      both_ways (has leaving y) at.0 (root_leaves y (or_right _ _ (ap (λ o. option_map_or (is_avoided u wishes) o false) there ∙ is)) at.1))
