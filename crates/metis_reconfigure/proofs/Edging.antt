-- Edges that are put into a set one by one, as the bindings of a configuration are gone through.
use Rattle.std.proofs.Common.{◌≡◌, ℕ, Bool, true, false, cond, ◌&&◌, ◌||◌, List, [], ◌∷◌, map, refl, sym, ap, ◌∙◌, nat_eq}
use Rattle.std.specs.List.{filter, list_any}
use Rattle.std.specs.BTreeSet.{insert_key}
use Rattle.std.specs.Ordering.{is_eq, match_ordering}
use Rattle.std.specs.declared.cmp.Ordering.TheVariants.{Less, Equal, Greater}
use Rattle.std.proofs.lemmas.Bool.{and_parts, eqb-true}
use Rattle.metis_universe.specs.Terms.{Binding, binding_cmp}
use Rattle.metis_reconfigure.proofs.Reaching.{at_binding}
use Rattle.metis_reconfigure.specs.Terms.{Edge, has_edge}

-- edges in one place are one
same_edge : (e x : Edge) → is_eq (binding_cmp e x) ≡ true → e ≡ x
same_edge e x h =
    let both = and_parts (nat_eq x.0 e.0 && nat_eq x.1 e.1) (nat_eq x.2 e.2) (sym (at_binding e.0 e.1 e.2 x.0 x.1 x.2) ∙ h) in
    let ends = and_parts (nat_eq x.0 e.0) (nat_eq x.1 e.1) both.0 in
    (λ i. (sym (eqb-true x.0 e.0 ends.0) i, sym (eqb-true x.1 e.1 ends.1) i, sym (eqb-true x.2 e.2 both.1) i))

any-insert_key : (p : Edge → Bool) (e : Edge) (es : List Edge) → list_any p (insert_key binding_cmp es e) ≡ (p e || list_any p es)
any-insert_key p e [] = refl
any-insert_key p e (x ∷ es) = elim (binding_cmp e x) as (λ o. binding_cmp e x ≡ o → list_any p (match_ordering o (e ∷ x ∷ es) (x ∷ es) (x ∷ insert_key binding_cmp es e)) ≡ (p e || (p x || list_any p es))) [
  | Less ↦ λ _. refl
  | Equal ↦ λ is. twice (p x) (list_any p es) ∙ ap (λ y. p y || (p x || list_any p es)) (sym (same_edge e x (ap is_eq is)))
  | Greater ↦ λ _. ap (λ b. p x || b) (any-insert_key p e es) ∙ turned (p x) (p e) (list_any p es)
] refl where
  twice : (a b : Bool) → (a || b) ≡ (a || (a || b))
  twice true b = refl
  twice false b = refl

  turned : (a b c : Bool) → (a || (b || c)) ≡ (b || (a || c))
  turned true true c = refl
  turned true false c = refl
  turned false true c = refl
  turned false false c = refl

module _ (f : Binding → Edge) (test : Binding → Bool) (whole : ℕ → ℕ → Bool) where
  -- what is in the set so far, and what the bindings that are left add
  abbrev pub AreSoFar : List Edge → List Binding → Type 0
  AreSoFar edges left = (x w : ℕ) → whole x w ≡ (has_edge edges x w || has_edge (map f (filter test left)) x w)

  pub edge_taken : (edges edges' : List Edge) (b : Binding) (it left : List Binding) → it ≡ b ∷ left → test b ≡ true → edges' ≡ insert_key binding_cmp edges (f b) → AreSoFar edges it → AreSoFar edges' left
  edge_taken edges edges' b it left is passes added k x w =
      let at : Edge → Bool = λ e. nat_eq e.0 x && nat_eq e.1 w in
      k x w
      ∙ ap (λ bs. has_edge edges x w || has_edge (map f (filter test bs)) x w) is
      ∙ ap (λ v. has_edge edges x w || list_any at (map f (cond v (b ∷ filter test left) (filter test left)))) passes
      ∙ moved (has_edge edges x w) (at (f b)) (has_edge (map f (filter test left)) x w)
      ∙ ap (λ v. v || has_edge (map f (filter test left)) x w) (sym (ap (list_any at) added ∙ any-insert_key at (f b) edges)) where
        moved : (a b c : Bool) → (a || (b || c)) ≡ ((b || a) || c)
        moved true true c = refl
        moved true false c = refl
        moved false true c = refl
        moved false false c = refl

  pub edge_skipped : (edges : List Edge) (b : Binding) (it left : List Binding) → it ≡ b ∷ left → test b ≡ false → AreSoFar edges it → AreSoFar edges left
  edge_skipped edges b it left is off k x w =
      k x w
      ∙ ap (λ bs. has_edge edges x w || has_edge (map f (filter test bs)) x w) is
      ∙ ap (λ v. has_edge edges x w || has_edge (map f (cond v (b ∷ filter test left) (filter test left))) x w) off

  pub edges_all : (edges : List Edge) → AreSoFar edges [] → (x w : ℕ) → has_edge edges x w ≡ whole x w
  edges_all edges k x w = sym (k x w ∙ nothing (has_edge edges x w)) where
    nothing : (b : Bool) → (b || false) ≡ b
    nothing true = refl
    nothing false = refl
