-- Each order of a steadfast run that keeps the waits is steadfast, as far as it goes.
use Rattle.std.proofs.Common.{◌≡◌, ℕ, zero, suc, ◌-◌, ◌<◌, Bool, true, false, not, ◌&&◌, List, [], ◌∷◌, ◌++◌, Option, Some, None, refl, sym, ap, ◌∙◌, subst, arith, inl, inr, nat_eq, take, length, append-nil, append_assoc}
use Rattle.std.specs.Prelude.{slice_get}
use Rattle.std.specs.List.{cons_option, list_any}
use Rattle.std.specs.Option.{option_map_or}
use Rattle.std.proofs.lemmas.Bool.{both_ways, cases_lt, eq-eqb, eqb-true, false≢true, false_from_ne_true, not-true, or_cases, or_left, or_right}
use Rattle.std.proofs.lemmas.List.Folds.{list_any-append}
use Rattle.std.proofs.lemmas.Option.{same_Some}
use Rattle.metis_ids.specs.declared.actions.Action.{Action}
use Rattle.metis_ids.specs.declared.actions.Action.TheVariants.{New, Delete, Bind, Unbind, Move}
use Rattle.metis_universe.specs.Terms.{Allows, Binding, IsKept, IsKeptFrom, IsRun, Universe, after_all, before, empty, has, is_new, is_steadfast, is_steadfast_after, is_steadfast_at, is_tie, picked, provides, settles, standing, waits}
use Rattle.metis_universe.proofs.Correctness.{all_has}
use Rattle.metis_universe.proofs.Frames.{bindings-after_all}
use Rattle.metis_universe.proofs.Places.{action_below, config_at, passes_at, run_at, steadfast_at}
use Rattle.metis_universe.proofs.Ranges.{in_range}
use Rattle.metis_waits.proofs.KeptRuns.{IsAgreeing, agree_next, agree_start, closed_next, closed_start, no_tie_to, of_provider}
use Rattle.metis_waits.proofs.LastPlaces.{passes_from, passes_some}
use Rattle.metis_waits.proofs.Orders.{IsClosedUnderWaits}
use Rattle.metis_waits.proofs.Passed.{all_steadfast}
use Rattle.metis_waits.proofs.Providers.{slice_get-take}
use Rattle.metis_waits.proofs.Pushed.{after_pushed}
use Rattle.metis_universe.proofs.Bindings.{unprovided}
use Rattle.metis_ids.proofs.Lists.{any_place}

-- ---- from each action to all

-- after these earlier actions each is steadfast
abbrev GoesSteadily : Universe → List Action → List Action → Type 0
GoesSteadily u earlier [] = Unit {0}
GoesSteadily u earlier (a ∷ rest) = (is_steadfast_after u earlier a ≡ true) × GoesSteadily u (earlier ++ a ∷ []) rest

steady_at : (u : Universe) (earlier actions : List Action) (i : ℕ) (a : Action) → GoesSteadily u earlier actions → slice_get actions i ≡ Some a → is_steadfast_after u (earlier ++ take i actions) a ≡ true
steady_at u earlier [] i a go is = cc
steady_at u earlier (b ∷ rest) zero a go is = subst (λ e. is_steadfast_after u e a ≡ true) (sym (append-nil earlier)) (subst (λ c. is_steadfast_after u earlier c ≡ true) (same_Some b a is) go.0)
steady_at u earlier (b ∷ rest) (suc i) a go is = subst (λ e. is_steadfast_after u e a ≡ true) (append_assoc earlier (b ∷ []) (take i rest)) (steady_at u (earlier ++ b ∷ []) rest i a go.1 is)

steady_number : (u : Universe) (actions : List Action) (j : ℕ) → GoesSteadily u [] actions → is_steadfast_at u actions j ≡ true
steady_number u actions zero go = refl
steady_number u actions (suc i) go = at (slice_get actions i) refl where
  at : (o : Option Action) → slice_get actions i ≡ o → option_map_or (is_steadfast_after u (take (suc i - 1) actions)) o true ≡ true
  at None is = refl
  at (Some a) is = subst (λ j. is_steadfast_after u (take j actions) a ≡ true) (omega arith) (steady_at u [] actions i a go is)

steady_all : (u : Universe) (actions : List Action) → GoesSteadily u [] actions → is_steadfast u actions ≡ true
steady_all u actions go = all_steadfast u actions (length actions) (omega arith) (λ j low. steady_number u actions j go)

-- ---- one more action

-- a steadfast New is the first one of its instance
new_is_first : (u : Universe) (earlier : List Action) (a : Action) (z : ℕ) → is_steadfast_after u earlier a ≡ true → is_new z a ≡ true → list_any (is_new z) earlier ≡ false
new_is_first u earlier (New x t) z steady makes = subst (λ w. list_any (is_new w) earlier ≡ false) (eqb-true x z makes) (not-true _ steady)
new_is_first u earlier (Delete x) z steady makes = absurd (false≢true makes)
new_is_first u earlier (Bind r x w) z steady makes = absurd (false≢true makes)
new_is_first u earlier (Unbind r x w) z steady makes = absurd (false≢true makes)
new_is_first u earlier (Move x p q) z steady makes = absurd (false≢true makes)

-- so no instance is made twice
made_once : (u : Universe) (A : List Action) (z n i : ℕ) → is_steadfast u A ≡ true → passes_at (is_new z) A n ≡ true → passes_at (is_new z) A i ≡ true → n < i → ⊥
made_once u A z n i steady first second less =
    let one = passes_some (is_new z) A n first in
    let two = passes_some (is_new z) A i second in
    both_ways _ (new_is_first u (take i A) two.0 z (steadfast_at u A i two.0 steady two.1) two.2) (any_place (is_new z) (take i A) n one.0 (slice_get-take A i n less ∙ one.1) one.2)

-- what these actions made, those of done numbers made
abbrev AreMade : List Action → List ℕ → List Action → Type 0
AreMade A done earlier = (z : ℕ) → list_any (is_new z) earlier ≡ true → (n : ℕ) × (has done (suc n) ≡ true) × (passes_at (is_new z) A n ≡ true)

module _ (u : Universe) (A : List Action) (run : IsRun u empty A) (steady : is_steadfast u A ≡ true) (done : List ℕ) (closed : IsClosedUnderWaits A done) (earlier : List Action)
    (agree : IsAgreeing u A done (after_all u empty earlier)) (made : AreMade A done earlier)
    (i : ℕ) (a : Action) (at : slice_get A i ≡ Some a) (new : has done (suc i) ≡ false) (waited : (m : ℕ) → has (waits A (suc i)) m ≡ true → has done m ≡ true) where
  -- no earlier action makes what this one makes
  is_new_here : (z : ℕ) → is_new z a ≡ true → list_any (is_new z) earlier ≡ false
  is_new_here z makes = false_from_ne_true _ (λ h.
      let was = made z h in
      let here = passes_from (is_new z) A i a at makes in
      elim (cases_lt was.0 i) [
        | inl less ↦ made_once u A z was.0 i steady was.2 here less
        | inr not_less ↦ elim (cases_lt i was.0) [
          | inl less ↦ made_once u A z i was.0 steady here was.2 less
          | inr no_more ↦ let same : was.0 ≡ i = omega arith in both_ways _ new (subst (λ n. has done (suc n) ≡ true) same was.1)
        ]
      ])

  none_to : (y : ℕ) → settles y a ≡ true → not (list_any (λ b. nat_eq b.2 y) (standing earlier)) ≡ true
  none_to y change = ap not (unprovided y (standing earlier) (λ r z.
      ap (list_any (is_tie r z y)) (sym (bindings-after_all u empty earlier)) ∙ no_tie_to u A run steady done closed (after_all u empty earlier) agree i a at new waited r z y change))

  steady_next : is_steadfast_after u earlier a ≡ true
  steady_next = by_action a refl (steadfast_at u A i a steady at) where
    by_action : (b : Action) → a ≡ b → is_steadfast_after u (take i A) b ≡ true → is_steadfast_after u earlier b ≡ true
    by_action (New z t) e s = ap not (is_new_here z (ap (is_new z) e ∙ eq-eqb z z refl))
    by_action (Delete y) e s = none_to y (ap (settles y) e ∙ eq-eqb y y refl)
    by_action (Bind r z y) e s =
        let apart = (subst (λ b. Allows u (config_at u A i) b) e (run_at u A i a run at).0).apart in
        ap (λ o. option_map_or (λ q. provides u q r) o false) (of_provider u A run steady done closed (after_all u empty earlier) agree i a at new waited r z y e apart) ∙ s
    by_action (Unbind r z y) e s = refl
    by_action (Move y p q) e s = none_to y (ap (settles y) e ∙ eq-eqb y y refl)

  made_next : AreMade A (suc i ∷ done) (earlier ++ a ∷ [])
  made_next z h = elim (or_cases (list_any (is_new z) earlier) (list_any (is_new z) (a ∷ [])) (sym (list_any-append (is_new z) earlier (a ∷ [])) ∙ h)) [
    | inl before ↦ let was = made z before in (was.0, or_right (nat_eq (suc i) (suc was.0)) _ was.1, was.2)
    | inr now ↦ elim (or_cases (is_new z a) false now) [
      | inl makes ↦ (i, or_left _ _ (eq-eqb (suc i) (suc i) refl), passes_from (is_new z) A i a at makes)
      | inr none ↦ absurd (false≢true none)
    ]
  ]

steady_from : (u : Universe) (A : List Action) → IsRun u empty A → is_steadfast u A ≡ true → (done : List ℕ) (earlier : List Action) (ks : List ℕ)
    → IsClosedUnderWaits A done → IsAgreeing u A done (after_all u empty earlier) → AreMade A done earlier → IsKeptFrom A done ks → GoesSteadily u earlier (picked A ks)
steady_from u A run steady done earlier [] closed agree made kept = tt
steady_from u A run steady done earlier (zero ∷ ks) closed agree made kept = let range = in_range 1 (length A) zero kept.0 in absurd (omega (arith, range.0))
steady_from u A run steady done earlier (suc i ∷ ks) closed agree made kept =
    let range = in_range 1 (length A) (suc i) kept.0 in
    let here = action_below A i (omega (arith, range.1)) in
    let a = here.0 in
    let waited = λ (m : ℕ) (w : has (waits A (suc i)) m ≡ true). all_has (has done) m (waits A (suc i)) kept.2 w in
    let d = after_all u empty earlier in
    let rest = steady_from u A run steady (suc i ∷ done) (earlier ++ a ∷ []) ks
    (closed_next u A run steady done closed d agree i a here.1 kept.1 waited)
    (subst (IsAgreeing u A (suc i ∷ done)) (sym (after_pushed u earlier a)) (agree_next u A run steady done closed d agree i a here.1 kept.1 waited))
    (made_next u A run steady done closed earlier agree made i a here.1 kept.1 waited) kept.3 in
    let same : a ∷ picked A ks ≡ picked A (suc i ∷ ks) = ap (λ o. cons_option o (picked A ks)) (sym here.1) in
    subst (GoesSteadily u earlier) same (steady_next u A run steady done closed earlier agree made i a here.1 kept.1 waited, rest)

pub kept_steadfast : (u : Universe) (A : List Action) → IsRun u empty A → is_steadfast u A ≡ true → (ks : List ℕ) → IsKept A ks → is_steadfast u (picked A ks) ≡ true
kept_steadfast u A run steady ks kept = steady_all u (picked A ks) (steady_from u A run steady [] [] ks (closed_start A) (agree_start u A run steady) (λ z h. absurd (false≢true h)) kept)
