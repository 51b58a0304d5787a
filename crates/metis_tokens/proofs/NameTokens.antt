-- A token names a type, a port or a pair just where it is the name of that.
use Rattle.std.proofs.Common.{◌≡◌, ℕ, ◌<◌, true, ◌&&◌, List, [], Option, Some, None, Ok, Err, refl, sym, ap, ◌∙◌, arith}
use Rattle.std.specs.Bool.{◌==◌, if◌then◌else◌}
use Rattle.std.specs.Option.{option_and_then}
use Rattle.std.specs.Str.{bytes_eq}
use Rattle.std.proofs.lemmas.Bool.{and_from, and_parts, eq-eqb, eqb-true, false_from_ne_true}
use Rattle.std.proofs.lemmas.List.Quantifiers.{position-Some}
use Rattle.std.proofs.lemmas.Slice.Eq.{bytes_eq-Decides}
use Rattle.metis_ids.proofs.Finding.{position_here}
use Rattle.metis_ids.proofs.Tests.{bytes_apart, bytes_same}
use Rattle.metis_universe.specs.Terms.{IsNamed, Universe, is_name, no_kind, no_pair, pair_count, port_count, port_name_of, port_named, state_name_of, state_named, type_count, type_name_of, type_named, type_of}
use Rattle.metis_tokens.specs.Terms.{found, named, state_in}
use Rattle.metis_tokens.specs.declared.flaw.Flaw.TheVariants.{Form}
use Rattle.metis_tokens.proofs.Outcomes.{found_is, if_is}

-- ---- a name that is looked for

pub named_is : {A : Type 0} (find : List ℕ → Option A) (t : List ℕ) (a : A) → named find t ≡ Ok a → (is_name t ≡ true) × (find t ≡ Some a)
named_is find t a h = let both = if_is (is_name t) (found (find t)) Form a h in (both.0, found_is (find t) a both.1)

pub named_read : {A : Type 0} (find : List ℕ → Option A) (t : List ℕ) (a : A) → is_name t ≡ true → find t ≡ Some a → named find t ≡ Ok a
named_read find t a name at = ap (λ b. if b then found (find t) else Err Form) name ∙ ap found at

pub and_then_some : {A B : Type 0} (f : A → Option B) (o : Option A) (b : B) → option_and_then f o ≡ Some b → (a : A) × (o ≡ Some a) × (f a ≡ Some b)
and_then_some f None b h = cc
and_then_some f (Some a) b h = (a, refl, h)

-- ---- what has a name that is found

module _ (u : Universe) (name : List ℕ) where
  pub type_is : (t : ℕ) → type_named u name ≡ Some t → (t < type_count u) × (name ≡ type_name_of u t)
  type_is t h = let at = position-Some (λ k. bytes_eq name k.name) u.kinds t no_kind h in (at.0, (bytes_eq-Decides name (type_name_of u t)).0 at.1)

  pub port_is : (r : ℕ) → port_named u name ≡ Some r → (r < port_count u) × (name ≡ port_name_of u r)
  port_is r h = let at = position-Some (λ each. bytes_eq name each) u.ports r [] h in (at.0, (bytes_eq-Decides name (port_name_of u r)).0 at.1)

  pub state_is : (t p : ℕ) → state_named u t name ≡ Some p → (p < pair_count u) × (type_of u p ≡ t) × (name ≡ state_name_of u p)
  state_is t p h =
      let at = position-Some (λ q. (q.kind == t) && bytes_eq name q.state) u.pairs p no_pair h in
      let both = and_parts (type_of u p == t) (bytes_eq name (state_name_of u p)) at.1 in
      (at.0, eqb-true (type_of u p) t both.0, (bytes_eq-Decides name (state_name_of u p)).0 both.1)

-- ---- a name that is found

module _ (u : Universe) (names : IsNamed u) where
  pub type_at : (t : ℕ) → t < type_count u → type_named u (type_name_of u t) ≡ Some t
  type_at t low =
      position_here (λ k. bytes_eq (type_name_of u t) k.name) u.kinds t no_kind low (bytes_same (type_name_of u t))
      (λ k less. bytes_apart (type_name_of u t) (type_name_of u k) (λ e. let same : t ≡ k = names.types_apart t k low (omega arith) e in omega arith))

  pub port_at : (r : ℕ) → r < port_count u → port_named u (port_name_of u r) ≡ Some r
  port_at r low =
      position_here (λ each. bytes_eq (port_name_of u r) each) u.ports r [] low (bytes_same (port_name_of u r))
      (λ k less. bytes_apart (port_name_of u r) (port_name_of u k) (λ e. let same : r ≡ k = names.ports_apart r k low (omega arith) e in omega arith))

  pub state_at : (t p : ℕ) → p < pair_count u → type_of u p ≡ t → state_named u t (state_name_of u p) ≡ Some p
  state_at t p low of =
      position_here (λ q. (q.kind == t) && bytes_eq (state_name_of u p) q.state) u.pairs p no_pair low (and_from _ _ (eq-eqb (type_of u p) t of) (bytes_same (state_name_of u p)))
      (λ k less. false_from_ne_true _ (λ e.
      let both = and_parts (type_of u k == t) (bytes_eq (state_name_of u p) (state_name_of u k)) e in
      let kind : type_of u p ≡ type_of u k = of ∙ sym (eqb-true (type_of u k) t both.0) in
      let same : p ≡ k = names.states_apart p k low (omega arith) kind ((bytes_eq-Decides (state_name_of u p) (state_name_of u k)).0 both.1) in
      omega arith))

  -- a pair that has been found to be of the type, and to have the name
  pub state_found : (t p : ℕ) (name : List ℕ) → p < pair_count u → type_of u p ≡ t → bytes_eq name (state_name_of u p) ≡ true → state_in u (Some t) name ≡ Ok p
  state_found t p name low of same =
      ap (state_in u (Some t)) ((bytes_eq-Decides name (state_name_of u p)).0 same)
      ∙ named_read (λ s. state_named u t s) (state_name_of u p) p (names.states p low) (state_at t p low of)
