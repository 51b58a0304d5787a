-- A correct configuration has a binding for each provider that its instances demand, so that it has as many as a scaffold's replace.
use Rattle.std.proofs.Common.{◌≡◌, ℕ, suc, ◌+◌, ◌-◌, ◌≤◌, Bool, true, false, cond, not, ◌&&◌, ◌||◌, List, [], ◌∷◌, ◌++◌, Some, refl, sym, ◌∙◌, arith, nat_eq, map, length, length-append}
use Rattle.std.specs.List.{AllByRecursion, filter, flat_map, list_any}
use Rattle.std.specs.Map.{keys_of}
use Rattle.std.proofs.lemmas.Bool.{and_from, and_parts, eq-eqb, eqb-true, false≢true, or_left, or_right}
use Rattle.std.proofs.lemmas.List.{length-map}
use Rattle.std.proofs.lemmas.List.Folds.{list_any-append}
use Rattle.std.proofs.lemmas.List.FromFn.{length-range_with_len}
use Rattle.metis_universe.proofs.Demands.{many_bound, passes}
use Rattle.metis_universe.specs.Terms.{AreDifferent, Binding, Config, Correct, IsConfig, IsUniverse, Universe, demand_of, has, pair_of, required_of, requires}
use Rattle.metis_layers.proofs.SlotLists.{required_differ}
use Rattle.metis_layers.specs.Terms.{slots_above}
use Rattle.metis_rollout.specs.Terms.{among, scaffold_bindings, slots_required}
use Rattle.metis_rollout.proofs.Among.{IsConfig-among, pair_from}
use Rattle.metis_rollout.proofs.Each.{each_joined}
use Rattle.metis_rollout.proofs.Rebinding.{AllUnlike, at_slots, each_entry, sorted_unlike}

or_false : (v w : Bool) → (v || w) ≡ false → (v ≡ false) × (w ≡ false)
or_false true w h = absurd (false≢true (sym h))
or_false false w h = (refl, h)

-- a port, an instance, and how many providers it needs there
abbrev Need : Type 0
Need = ℕ × ℕ × ℕ

abbrev total : List Need → ℕ
total [] = 0
total (n ∷ ns) = n.2 + total ns

-- whether a need, or a binding, is of this instance's port
abbrev at_port : ℕ → ℕ → ℕ × ℕ × ℕ → Bool
at_port r z d = nat_eq d.0 r && nat_eq d.1 z

-- no two are of one instance's port
abbrev Apart : List Need → Type 0
Apart [] = Unit {0}
Apart (n ∷ ns) = (list_any (at_port n.0 n.1) ns ≡ false) × Apart ns

-- ---- where each port has as many bindings as it needs, there are as many as all need

abbrev on_port : ℕ → ℕ → List Binding → List Binding
on_port r z fs = filter (at_port r z) fs

abbrev off_port : ℕ → ℕ → List Binding → List Binding
off_port r z fs = filter (λ d. not (at_port r z d)) fs

split : (r z : ℕ) (fs : List Binding) → length (on_port r z fs) + length (off_port r z fs) ≡ length fs
split r z [] = refl
split r z (d ∷ fs) = by (at_port r z d) (split r z fs) where
  by : (b : Bool) → length (on_port r z fs) + length (off_port r z fs) ≡ length fs → length (cond b (d ∷ on_port r z fs) (on_port r z fs)) + length (cond (not b) (d ∷ off_port r z fs) (off_port r z fs)) ≡ suc (length fs)
  by true rest = omega (arith, rest)
  by false rest = omega (arith, rest)

-- those of another port stay
kept : (r z s x : ℕ) (fs : List Binding) → (nat_eq s r && nat_eq x z) ≡ false → length (on_port s x fs) ≤ length (on_port s x (off_port r z fs))
kept r z s x [] other = omega arith
kept r z s x (d ∷ fs) other = by (at_port r z d) (at_port s x d) refl refl (kept r z s x fs other) where
  not_both : at_port r z d ≡ true → at_port s x d ≡ true → ⊥
  not_both here there =
      let one = and_parts (nat_eq d.0 r) (nat_eq d.1 z) here in
      let two = and_parts (nat_eq d.0 s) (nat_eq d.1 x) there in
      false≢true (sym other ∙ and_from (nat_eq s r) (nat_eq x z) (eq-eqb s r (sym (eqb-true d.0 s two.0) ∙ eqb-true d.0 r one.0)) (eq-eqb x z (sym (eqb-true d.1 x two.1) ∙ eqb-true d.1 z one.1)))

  by : (a b : Bool) → at_port r z d ≡ a → at_port s x d ≡ b → length (on_port s x fs) ≤ length (on_port s x (off_port r z fs))
      → length (cond b (d ∷ on_port s x fs) (on_port s x fs)) ≤ length (on_port s x (cond (not a) (d ∷ off_port r z fs) (off_port r z fs)))
  by true true here there rest = absurd (not_both here there)
  by true false here there rest = rest
  by false true here there rest = rw there (omega (arith, rest))
  by false false here there rest = rw there rest

matched : (ns : List Need) (fs : List Binding) → Apart ns → AllByRecursion (λ n. n.2 ≤ length (on_port n.0 n.1 fs)) ns → total ns ≤ length fs
matched [] fs apart enough = omega arith
matched (n ∷ ns) fs apart enough = omega (arith, split n.0 n.1 fs, enough.0, matched ns (off_port n.0 n.1 fs) apart.1 (still ns apart.0 enough.1)) where
  still : (ms : List Need) → list_any (at_port n.0 n.1) ms ≡ false → AllByRecursion (λ m. m.2 ≤ length (on_port m.0 m.1 fs)) ms → AllByRecursion (λ m. m.2 ≤ length (on_port m.0 m.1 (off_port n.0 n.1 fs))) ms
  still [] none all = tt
  still (m ∷ ms) none all =
      let parts = or_false (at_port n.0 n.1 m) (list_any (at_port n.0 n.1) ms) none in
      (omega (arith, all.0, kept n.0 n.1 m.0 m.1 fs parts.0), still ms parts.1 all.1)

-- ---- what instances need

module _ (u : Universe) where
  -- one instance at these ports, and each at those of its pair
  abbrev needs_at : ℕ → ℕ → List ℕ → List Need
  needs_at z p rs = map (λ r. (r, z, demand_of u p r)) rs

  abbrev needs_of : ℕ × ℕ → List Need
  needs_of e = needs_at e.0 e.1 (required_of u e.1)

  other_port : (z p r : ℕ) (rs : List ℕ) → has rs r ≡ false → list_any (at_port r z) (needs_at z p rs) ≡ false
  other_port z p r [] none = refl
  other_port z p r (s ∷ rs) none = let parts = or_false (nat_eq s r) (has rs r) none in λ i. (parts.0 i && nat_eq z z) || other_port z p r rs parts.1 i

  other_instance : (y z p r : ℕ) (rs : List ℕ) → nat_eq y z ≡ false → list_any (at_port r z) (needs_at y p rs) ≡ false
  other_instance y z p r [] other = refl
  other_instance y z p r (s ∷ rs) other = (λ i. (nat_eq s r && other i) || other_instance y z p r rs other i) ∙ never (nat_eq s r) where
    never : (b : Bool) → ((b && false) || false) ≡ false
    never true = refl
    never false = refl

  nobody : (es : List (ℕ × ℕ)) (r z : ℕ) → has (keys_of es) z ≡ false → list_any (at_port r z) (flat_map needs_of es) ≡ false
  nobody [] r z none = refl
  nobody (e ∷ es) r z none =
      let parts = or_false (nat_eq e.0 z) (has (keys_of es) z) none in
      list_any-append (at_port r z) (needs_of e) (flat_map needs_of es) ∙ (λ i. other_instance e.0 z e.1 r (required_of u e.1) parts.0 i || nobody es r z parts.1 i)

  apart_append : (xs ys : List Need) → Apart xs → Apart ys → AllByRecursion (λ n. list_any (at_port n.0 n.1) ys ≡ false) xs → Apart (xs ++ ys)
  apart_append [] ys one two across = two
  apart_append (n ∷ xs) ys one two across = (list_any-append (at_port n.0 n.1) xs ys ∙ (λ i. one.0 i || across.0 i), apart_append xs ys one.1 two across.1)

  ports_apart : (z p : ℕ) (rs : List ℕ) → AreDifferent rs → Apart (needs_at z p rs)
  ports_apart z p [] differ = tt
  ports_apart z p (r ∷ rs) differ = (other_port z p r rs differ.0, ports_apart z p rs differ.1)

  all_apart : IsUniverse u → (es : List (ℕ × ℕ)) → AllUnlike (keys_of es) → Apart (flat_map needs_of es)
  all_apart k [] keys = tt
  all_apart k (e ∷ es) keys = apart_append (needs_of e) (flat_map needs_of es) (ports_apart e.0 e.1 (required_of u e.1) (required_differ u k e.1)) (all_apart k es keys.1) (across (required_of u e.1)) where
    across : (rs : List ℕ) → AllByRecursion (λ n. list_any (at_port n.0 n.1) (flat_map needs_of es) ≡ false) (needs_at e.0 e.1 rs)
    across [] = tt
    across (r ∷ rs) = (nobody es r e.0 keys.0, across rs)

  -- ---- as many as a scaffold's

  abbrev slot_of : ℕ → ℕ → ℕ × ℕ
  slot_of r k = (r, k)

  abbrev port_slots : ℕ → ℕ → List (ℕ × ℕ)
  port_slots p r = map (slot_of r) (slots_above 0 (demand_of u p r))

  slots_total : (z p : ℕ) (rs : List ℕ) → length (flat_map (port_slots p) rs) ≡ total (needs_at z p rs)
  slots_total z p [] = refl
  slots_total z p (r ∷ rs) =
      let at : ℕ → List (ℕ × ℕ) = port_slots p in
      omega (
        arith,
        length-append (at r) (flat_map at rs),
        length-map (slots_above 0 (demand_of u p r)) (slot_of r),
        length-range_with_len 1 (demand_of u p r - 0),
        slots_total z p rs,
      )

  total-append : (xs ys : List Need) → total (xs ++ ys) ≡ total xs + total ys
  total-append [] ys = omega arith
  total-append (n ∷ xs) ys = omega (arith, total-append xs ys)

  module _ (h : ℕ → ℕ → ℕ) where
    ties_total : (es : List (ℕ × ℕ)) → length (flat_map (λ e. at_slots u h e.0 (slots_required u e.1)) es) ≡ total (flat_map needs_of es)
    ties_total [] = refl
    ties_total (e ∷ es) =
        let tie : ℕ × ℕ → Binding = λ s. (s.0, e.0, h s.0 s.1) in
        omega (
          arith,
          length-append (at_slots u h e.0 (slots_required u e.1)) (flat_map (λ e. at_slots u h e.0 (slots_required u e.1)) es),
          length-map (slots_required u e.1) tie,
          slots_total e.0 e.1 (required_of u e.1),
          total-append (needs_of e) (flat_map needs_of es),
          ties_total es,
        )

    -- each provider that is demanded is bound already
    pub ties_few : (goes : ℕ → Bool) (c : Config) → IsUniverse u → IsConfig c → Correct u c → length (scaffold_bindings u h (among goes c)) ≤ length c.bindings
    ties_few goes c k good correct =
        let es = (among goes c).instances in
        let keys = sorted_unlike (keys_of es) (IsConfig-among goes c good).ascending in
        omega (
          arith,
          ties_total es,
          matched (flat_map needs_of es) c.bindings (all_apart k es keys)
              (each_joined (λ n. n.2 ≤ length (on_port n.0 n.1 c.bindings)) needs_of es
              (each_entry (λ e. AllByRecursion (λ n. n.2 ≤ length (on_port n.0 n.1 c.bindings)) (needs_of e)) es keys (λ z p there. bound z p (pair_from goes c z p there).1 (required_of u p) (λ r needs. needs)))),
        ) where
          -- what passes for a provider of any kind is of the port
          any_passes : (r z : ℕ) (bs : List Binding) → length (filter (passes (λ y. true) r z) bs) ≤ length (on_port r z bs)
          any_passes r z [] = omega arith
          any_passes r z (b ∷ bs) = by (at_port r z b) (any_passes r z bs) where
            by : (v : Bool) → length (filter (passes (λ y. true) r z) bs) ≤ length (on_port r z bs) → length (cond (v && true) (b ∷ filter (passes (λ y. true) r z) bs) (filter (passes (λ y. true) r z) bs)) ≤ length (cond v (b ∷ on_port r z bs) (on_port r z bs))
            by true rest = omega (arith, rest)
            by false rest = rest

          at_least : (z p r : ℕ) → pair_of c z ≡ Some p → requires u p r ≡ true → demand_of u p r ≤ length (on_port r z c.bindings)
          at_least z p r there needs =
              let met = correct z p r there needs in
              omega (arith, any_passes r z c.bindings, many_bound (λ y. true) r z c.bindings met.providers (demand_of u p r) met.different met.enough (λ y one. ((met.each y one).bound, refl)))

          bound : (z p : ℕ) → pair_of c z ≡ Some p → (rs : List ℕ) → ((r : ℕ) → has rs r ≡ true → requires u p r ≡ true) → AllByRecursion (λ n. n.2 ≤ length (on_port n.0 n.1 c.bindings)) (needs_at z p rs)
          bound z p there [] all = tt
          bound z p there (r ∷ rs) all = (at_least z p r there (all r (or_left (nat_eq r r) (has rs r) (eq-eqb r r refl))), bound z p there rs (λ s g. all s (or_right (nat_eq r s) (has rs s) g)))
