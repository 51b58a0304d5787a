-- Each reason comes exactly where its condition holds and none before it does.
use Rattle.std.proofs.Common.{◌≡◌, ℕ, ◌⊎◌, Bool, true, false, not, ◌&&◌, Option, Some, None, IfSome, inl, inr, refl, ap, sym, ◌∙◌, subst, nat_eq}
use Rattle.std.specs.Prelude.{◌≢◌, ◌↔◌, is_some, is_none, option_map}
use Rattle.std.specs.Option.{option_map_or, option_or, option_and_then}
use Rattle.std.proofs.lemmas.Bool.{false≢true, true≢false, both_ways, and_parts, and_from, eq-eqb, eqb-true, ne_eqb, not-false, not-true, not_from_false, false_from_ne_true}
use Rattle.metis_ids.specs.declared.actions.Action.{Action}
use Rattle.metis_ids.specs.declared.actions.Action.TheVariants.{New, Delete, Bind, Unbind, Move}
use Rattle.metis_ids.proofs.Options.{IsSome_at, none_from_is_some}
use Rattle.metis_universe.specs.Terms.{Allows, Config, Correct, IsConfig, IsOf, IsUniverse, Universe, after, demand_of, has, initial_of, is_bound, is_met, next_of, pair_of, requires, type_of, type_provides, type_requires}
use Rattle.metis_universe.proofs.Demands.{is_met-true, met, some_provides}
use Rattle.metis_universe.proofs.Kept.{IsConfig-put, IsConfig-remove, IsConfig-untie}
use Rattle.metis_config.specs.Terms.{IsLeast, is_required, is_unmet, unmet}
use Rattle.metis_config.proofs.Leasts.{unmet_least, unmet_is}
use Rattle.metis_actions.specs.declared.faults.AFault.{AFault}
use Rattle.metis_actions.specs.declared.faults.AFault.TheVariants.{InUse, NoInstance, NoState, NoTransition, SameInstance, NoSuchPort, Bound, NotBound, Unmet}
use Rattle.metis_actions.specs.Terms.{IsFirstLack, IsFirstReason, Lacks, absent, already_bound, delete_leaves_unmet, elsewhere, fault_of, in_another_pair, in_use, is_port_between, move_leaves_unmet, new_leaves_unmet, no_provider, no_requirer, no_such_port, no_transition, none_to_delete, none_to_move, not_bound, same_instance, unbind_leaves_unmet, unmet_after, when}
use Rattle.metis_actions.proofs.Causes.{not_when, when_not, there_of, some_there, step-no_fault, no_fault-step}

-- ---- the first of two

if_first : (P : AFault → Type 0) (a b : Option AFault) → IfSome a P → (a ≡ None → IfSome b P) → IfSome (option_or a b) P
if_first P None b one two = two refl
if_first P (Some x) b one two = one

if_when : (P : AFault → Type 0) (b : Bool) (f : AFault) → (b ≡ true → P f) → IfSome (when b f) P
if_when P true f p = p refl
if_when P false f p = tt

at_first : (a b : Option AFault) (f : AFault) → a ≡ Some f → option_or a b ≡ Some f
at_first a b f e = ap (λ o. option_or o b) e

at_later : (a b : Option AFault) (f : AFault) → a ≡ None → b ≡ Some f → option_or a b ≡ Some f
at_later a b f e h = ap (λ o. option_or o b) e ∙ h

when_so : (b : Bool) (f : AFault) → b ≡ true → when b f ≡ Some f
when_so b f h = ap (λ b. when b f) h

gone : (o : Option ℕ) → is_none o ≡ true → o ≡ None
gone None h = refl
gone (Some x) h = absurd (false≢true h)

one_fails : (a b : Bool) → (a && b) ≡ false → (a ≡ false) ⊎ (b ≡ false)
one_fails true b h = inr h
one_fails false b h = inl refl

fails_so : (a b : Bool) → (a ≡ false) ⊎ (b ≡ false) → (a && b) ≡ false
fails_so true b (inl h) = absurd (true≢false h)
fails_so true b (inr h) = h
fails_so false b h = refl

-- ---- what is unmet

module _ (u : Universe) (d : Config) where
  Lacks-from_test : (z r : ℕ) → is_unmet u d z r ≡ true → Lacks u d z r
  Lacks-from_test z r h =
      let parts = and_parts (is_required u d z r) _ h in
      let there = some_provides (λ p. requires u p r) (pair_of d z) parts.0 in
      let n = demand_of u there.0 r in
      let fails : not (is_met u d z r n) ≡ true = sym (ap (λ o. not (is_met u d z r (option_map_or (λ p. demand_of u p r) o 0))) there.1) ∙ parts.1 in
      record { pair = there.0; there = there.1; needs = there.2; unmet = λ m. false≢true (sym (ap not (is_met-true u d z r n m)) ∙ fails) }

  test-from_Lacks : IsConfig d → (z r : ℕ) → Lacks u d z r → is_unmet u d z r ≡ true
  test-from_Lacks h z r l =
      let n = demand_of u l.pair r in
      and_from _ _ (ap (λ o. option_map_or (λ p. requires u p r) o false) l.there ∙ l.needs)
      (ap (λ o. not (is_met u d z r (option_map_or (λ p. demand_of u p r) o 0))) l.there ∙ ap not (false_from_ne_true (is_met u d z r n) (λ e. l.unmet (met u d h z r n e))))

  module _ (k : IsUniverse u) (h : IsConfig d) where
    first_lack : (x : ℕ × ℕ) → unmet u d ≡ Some x → IsFirstLack u d x.0 x.1
    first_lack x is =
        let least : IsLeast (is_unmet u d) (Some x) = subst (IsLeast (is_unmet u d)) is (unmet_least u d k h) in
        record { lacks = Lacks-from_test x.0 x.1 least.0; first = λ z s l. least.1 z s (test-from_Lacks h z s l) }

    lack_told : (w r : ℕ) → IsFirstLack u d w r → option_map (λ x. Unmet x.0 x.1) (unmet u d) ≡ Some (Unmet w r)
    lack_told w r l =
        ap (option_map (λ x. Unmet x.0 x.1)) (sym (unmet_is u d k h (Some (w, r)) (test-from_Lacks h w r l.lacks, λ z s un. l.first z s (Lacks-from_test z s un))))

    if_unmet : (P : AFault → Type 0) → ((w r : ℕ) → IsFirstLack u d w r → P (Unmet w r)) → IfSome (option_map (λ x. Unmet x.0 x.1) (unmet u d)) P
    if_unmet P each = told (unmet u d) refl where
      told : (o : Option (ℕ × ℕ)) → unmet u d ≡ o → IfSome (option_map (λ x. Unmet x.0 x.1) o) P
      told None is = tt
      told (Some x) is = each x.0 x.1 (first_lack x is)

-- ---- what is told holds

module _ (u : Universe) (c : Config) where
  there : (z : ℕ) → absent c z ≡ None → (p : ℕ) × (pair_of c z ≡ Some p)
  there z none = there_of (pair_of c z) (not_when _ _ none)

  between : (r z y p q : ℕ) → pair_of c z ≡ Some p → pair_of c y ≡ Some q → is_port_between u c r z y ≡ (type_requires u (type_of u p) r && type_provides u (type_of u q) r)
  between r z y p q a b = λ i. option_map_or (λ p. type_requires u (type_of u p) r) (a i) false && option_map_or (λ p. type_provides u (type_of u p) r) (b i) false

  elsewhere_is : (z p actual : ℕ) → pair_of c z ≡ Some actual → elsewhere c z p ≡ when (not (nat_eq actual p)) (NoState z actual)
  elsewhere_is z p actual e = ap (option_and_then (λ actual. when (not (nat_eq actual p)) (NoState z actual))) e

  module _ (k : IsUniverse u) (h : IsConfig c) where
    abbrev First : Action → AFault → Type 0
    First a f = IsFirstReason u c a f

    bind_told : (r z y p q : ℕ) → pair_of c z ≡ Some p → pair_of c y ≡ Some q →
        IfSome (option_or (when (nat_eq z y) SameInstance) (option_or (when (not (is_port_between u c r z y)) NoSuchPort) (when (is_bound c r z y) Bound))) (First (Bind r z y))
    bind_told r z y p q at_z at_y =
        let P = First (Bind r z y) in
        let is = between r z y p q at_z at_y in
        if_first P _ _ (if_when P (nat_eq z y) SameInstance (λ e. same_instance r z y (IsSome_at _ p at_z) (IsSome_at _ q at_y) (eqb-true z y e))) (λ none.
        let apart : z ≢ y = λ e. both_ways _ (not_when (nat_eq z y) SameInstance none) (eq-eqb z y e) in
        if_first P _ _ (if_when P (not (is_port_between u c r z y)) NoSuchPort (λ e. no_such_port r z y p q at_z at_y apart (one_fails _ _ (sym is ∙ not-true _ e)))) (λ none.
        let port = and_parts (type_requires u (type_of u p) r) _ (sym is ∙ not-false _ (not_when _ NoSuchPort none)) in
        if_when P (is_bound c r z y) Bound (λ e. already_bound r z y p q at_z at_y apart port.0 port.1 e)))

    move_told : (z p q actual : ℕ) → pair_of c z ≡ Some actual →
        IfSome (option_or (elsewhere c z p) (option_or (when (not (has (next_of u p) q)) NoTransition) (unmet_after u c (Move z p q)))) (First (Move z p q))
    move_told z p q actual at =
        let P = First (Move z p q) in
        let is = elsewhere_is z p actual at in
        if_first P _ _ (subst (λ o. IfSome o P) (sym is) (if_when P (not (nat_eq actual p)) (NoState z actual) (λ e. in_another_pair z p q actual at (λ same. both_ways _ (not-true _ e) (eq-eqb actual p same))))) (λ none.
        let home : pair_of c z ≡ Some p = at ∙ ap Some (eqb-true actual p (not-false _ (not_when _ (NoState z actual) (sym is ∙ none)))) in
        if_first P _ _ (if_when P (not (has (next_of u p) q)) NoTransition (λ e. no_transition z p q home (not-true _ e))) (λ none.
        if_unmet u (after u c (Move z p q)) k (IsConfig-put c z q h) P (λ w r lack. move_leaves_unmet z p q w r home (not-false _ (not_when _ NoTransition none)) lack)))

    told : (a : Action) → IfSome (fault_of u c a) (First a)
    told (New z t) =
        let P = First (New z t) in
        if_first P _ _ (if_when P (is_some (pair_of c z)) (InUse z) (λ e. in_use z t e)) (λ none.
        if_unmet u (after u c (New z t)) k (IsConfig-put c z (initial_of u t) h) P (λ w r lack. new_leaves_unmet z t w r (none_from_is_some _ (not_when _ (InUse z) none)) lack))
    told (Delete z) =
        let P = First (Delete z) in
        if_first P _ _ (if_when P (is_none (pair_of c z)) (NoInstance z) (λ e. none_to_delete z (gone _ e))) (λ none.
        if_unmet u (after u c (Delete z)) k (IsConfig-remove c z h) P (λ w r lack. delete_leaves_unmet z w r (IsSome_at _ (there z none).0 (there z none).1) lack))
    told (Bind r z y) =
        let P = First (Bind r z y) in
        if_first P _ _ (if_when P (is_none (pair_of c z)) (NoInstance z) (λ e. no_requirer r z y (gone _ e))) (λ none_z.
        let p = there z none_z in
        if_first P _ _ (if_when P (is_none (pair_of c y)) (NoInstance y) (λ e. no_provider r z y (IsSome_at _ p.0 p.1) (gone _ e))) (λ none_y.
        let q = there y none_y in bind_told r z y p.0 q.0 p.1 q.1))
    told (Unbind r z y) =
        let P = First (Unbind r z y) in
        if_first P _ _ (if_when P (not (is_bound c r z y)) NotBound (λ e. not_bound r z y (not-true _ e))) (λ none.
        if_unmet u (after u c (Unbind r z y)) k (IsConfig-untie c r z y h) P (λ w s lack. unbind_leaves_unmet r z y w s (not-false _ (not_when _ NotBound none)) lack))
    told (Move z p q) =
        let P = First (Move z p q) in
        if_first P _ _ (if_when P (is_none (pair_of c z)) (NoInstance z) (λ e. none_to_move z p q (gone _ e))) (λ none.
        let actual = there z none in move_told z p q actual.0 actual.1)

    -- ---- what holds is told

    present : (z p : ℕ) → pair_of c z ≡ Some p → absent c z ≡ None
    present z p e = when_not _ _ (ap is_none e)

    fits : (r z y p q : ℕ) → pair_of c z ≡ Some p → pair_of c y ≡ Some q → type_requires u (type_of u p) r ≡ true → type_provides u (type_of u q) r ≡ true → when (not (is_port_between u c r z y)) NoSuchPort ≡ None
    fits r z y p q at_z at_y needs gives = when_not _ _ (ap not (between r z y p q at_z at_y ∙ and_from _ _ needs gives))

    home : (z p : ℕ) → pair_of c z ≡ Some p → elsewhere c z p ≡ None
    home z p e = elsewhere_is z p p e ∙ when_not _ _ (ap not (eq-eqb p p refl))

    holds : (a : Action) (f : AFault) → IsFirstReason u c a f → fault_of u c a ≡ Some f
    holds _ _ (in_use z t e) = at_first _ _ _ (when_so _ _ e)
    holds _ _ (new_leaves_unmet z t w r e lack) = at_later _ _ _ (when_not _ _ (ap is_some e)) (lack_told u (after u c (New z t)) k (IsConfig-put c z (initial_of u t) h) w r lack)
    holds _ _ (none_to_delete z e) = at_first _ _ _ (when_so _ _ (ap is_none e))
    holds _ _ (delete_leaves_unmet z w r e lack) = at_later _ _ _ (when_not _ _ (some_there _ e)) (lack_told u (after u c (Delete z)) k (IsConfig-remove c z h) w r lack)
    holds _ _ (no_requirer r z y e) = at_first _ _ _ (when_so _ _ (ap is_none e))
    holds _ _ (no_provider r z y e none) = at_later _ _ _ (when_not _ _ (some_there _ e)) (at_first _ _ _ (when_so _ _ (ap is_none none)))
    holds _ _ (same_instance r z y a b e) = at_later _ _ _ (when_not _ _ (some_there _ a)) (at_later _ _ _ (when_not _ _ (some_there _ b)) (at_first _ _ _ (when_so _ _ (eq-eqb z y e))))
    holds _ _ (no_such_port r z y p q at_z at_y apart none) =
        at_later _ _ _ (present z p at_z) (at_later _ _ _ (present y q at_y) (at_later _ _ _ (when_not _ _ (ne_eqb z y apart))
        (at_first _ _ _ (when_so _ _ (ap not (between r z y p q at_z at_y ∙ fails_so _ _ none))))))
    holds _ _ (already_bound r z y p q at_z at_y apart needs gives bound) =
        at_later _ _ _ (present z p at_z) (at_later _ _ _ (present y q at_y) (at_later _ _ _ (when_not _ _ (ne_eqb z y apart))
        (at_later _ _ _ (fits r z y p q at_z at_y needs gives) (when_so _ _ bound))))
    holds _ _ (not_bound r z y e) = at_first _ _ _ (when_so _ _ (not_from_false _ e))
    holds _ _ (unbind_leaves_unmet r z y w s e lack) = at_later _ _ _ (when_not _ _ (ap not e)) (lack_told u (after u c (Unbind r z y)) k (IsConfig-untie c r z y h) w s lack)
    holds _ _ (none_to_move z p q e) = at_first _ _ _ (when_so _ _ (ap is_none e))
    holds _ _ (in_another_pair z p q actual at other) =
        at_later _ _ _ (present z actual at) (at_first _ _ _ (elsewhere_is z p actual at ∙ when_so _ _ (ap not (ne_eqb actual p other))))
    holds _ _ (no_transition z p q at e) = at_later _ _ _ (present z p at) (at_later _ _ _ (home z p at) (at_first _ _ _ (when_so _ _ (not_from_false _ e))))
    holds _ _ (move_leaves_unmet z p q w r at leads lack) =
        at_later _ _ _ (present z p at) (at_later _ _ _ (home z p at) (at_later _ _ _ (when_not _ _ (ap not leads))
        (lack_told u (after u c (Move z p q)) k (IsConfig-put c z q h) w r lack)))

pub first_reason : (u : Universe) (c : Config) (a : Action) (f : AFault) → IsUniverse u → IsConfig c → (fault_of u c a ≡ Some f) ↔ IsFirstReason u c a f
first_reason u c a f k h = (λ is. subst (λ o. IfSome o (IsFirstReason u c a)) is (told u c k h a), holds u c k h a f)

pub no_reason : (u : Universe) (c : Config) (a : Action) → IsUniverse u → IsConfig c → Correct u c → IsOf u a → (fault_of u c a ≡ None) ↔ (Allows u c a × Correct u (after u c a))
no_reason u c a k h correct is = (step-no_fault u c k h correct a is, λ fine. no_fault-step u c k h correct a fine.0 fine.1)
