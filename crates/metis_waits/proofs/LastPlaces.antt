-- The last place that passes a test, and what an action waits for by it.
use Rattle.std.proofs.Common.{◌≡◌, ℕ, zero, suc, ◌+◌, ◌-◌, ◌<◌, ◌≤◌, Bool, true, false, not, List, [], ◌∷◌, ◌⊎◌, Option, Some, None, refl, sym, ap, ◌∙◌, arith, inl, inr, take, length, get_or}
use Rattle.std.specs.Prelude.{slice_get}
use Rattle.std.specs.List.{filter, suffix_len}
use Rattle.std.specs.Option.{option_map_or}
use Rattle.std.proofs.lemmas.List.Sums.{suffix_len-take_no, suffix_len-take_yes}
use Rattle.std.proofs.lemmas.Bool.{false≢true, and_parts, or_left, eq-eqb, cases_eq, cases_Bool, not_from_true, not_from_false}
use Rattle.metis_ids.specs.Terms.{actor_of}
use Rattle.metis_ids.specs.declared.actions.Action.{Action}
use Rattle.metis_ids.specs.declared.actions.Action.TheVariants.{New, Delete, Bind, Unbind, Move}
use Rattle.metis_ids.proofs.Lists.{take_short}
use Rattle.metis_universe.specs.Terms.{action_at, before, has, is_wait, last_number, numbers, waits}
use Rattle.metis_universe.proofs.Places.{action_below, passes_at, place_below}
use Rattle.metis_universe.proofs.Ranges.{in_range}
use Rattle.metis_universe.proofs.Rounds.{has-filter}
use Rattle.metis_waits.specs.Terms.{is_by}

get_of : (A : List Action) (i : ℕ) (a d : Action) → slice_get A i ≡ Some a → get_or A i d ≡ a
get_of [] i a d h = cc
get_of (x ∷ A) zero a d h = cc
get_of (x ∷ A) (suc i) a d h = get_of A i a d h

pub passes_some : (t : Action → Bool) (A : List Action) (i : ℕ) → passes_at t A i ≡ true → (a : Action) × (slice_get A i ≡ Some a) × (t a ≡ true)
passes_some t A i h = some_of (slice_get A i) refl h where
  some_of : (o : Option Action) → slice_get A i ≡ o → option_map_or t o false ≡ true → (a : Action) × (slice_get A i ≡ Some a) × (t a ≡ true)
  some_of None e p = absurd (false≢true p)
  some_of (Some a) e p = (a, e, p)

pub passes_from : (t : Action → Bool) (A : List Action) (i : ℕ) (a : Action) → slice_get A i ≡ Some a → t a ≡ true → passes_at t A i ≡ true
passes_from t A i a at h = ap (λ o. option_map_or t o false) at ∙ h

length_next : (A : List Action) (i : ℕ) (a : Action) → slice_get A i ≡ Some a → length (take (suc i) A) ≡ suc (length (take i A))
length_next [] i a h = cc
length_next (x ∷ A) zero a h = one_taken x A where
  one_taken : (x : Action) (A : List Action) → length (take 1 (x ∷ A)) ≡ suc (length (take zero (x ∷ A)))
  one_taken x [] = refl
  one_taken x (y ∷ A) = refl
length_next (x ∷ A) (suc i) a h = ap suc (length_next A i a h)

pub length_is : (A : List Action) (i : ℕ) (a : Action) → slice_get A i ≡ Some a → length (take i A) ≡ i
length_is [] i a h = cc
length_is (x ∷ A) zero a h = refl
length_is (x ∷ A) (suc i) a h = ap suc (length_is A i a h)

last-yes : (t : Action → Bool) (A : List Action) (i : ℕ) (a : Action) → slice_get A i ≡ Some a → t a ≡ true → last_number t (take (suc i) A) ≡ suc i
last-yes t A i a at h =
    let none : suffix_len (λ x. not (t x)) (take (suc i) A) ≡ 0 =
    suffix_len-take_no (λ x. not (t x)) A (suc i) a (omega arith) (omega (arith, place_below A i a at)) (ap (λ n. not (t (get_or A n a))) (less_one i) ∙ ap (λ x. not (t x)) (get_of A i a a at) ∙ not_from_true _ h) in
    let long = length_next A i a at in
    let long' = length_is A i a at in
    omega arith where
      less_one : (i : ℕ) → suc i - 1 ≡ i
      less_one i = omega arith

last-no : (t : Action → Bool) (A : List Action) (i : ℕ) (a : Action) → slice_get A i ≡ Some a → t a ≡ false → last_number t (take (suc i) A) ≡ last_number t (take i A)
last-no t A i a at h =
    let more : suffix_len (λ x. not (t x)) (take (suc i) A) ≡ 1 + suffix_len (λ x. not (t x)) (take (suc i - 1) A) =
    suffix_len-take_yes (λ x. not (t x)) A (suc i) a (omega arith) (omega (arith, place_below A i a at)) (ap (λ n. not (t (get_or A n a))) (less_one i) ∙ ap (λ x. not (t x)) (get_of A i a a at) ∙ not_from_false _ h) in
    let same : suffix_len (λ x. not (t x)) (take (suc i - 1) A) ≡ suffix_len (λ x. not (t x)) (take i A) = ap (λ n. suffix_len (λ x. not (t x)) (take n A)) (less_one i) in
    let long = length_next A i a at in
    omega arith where
      less_one : (i : ℕ) → suc i - 1 ≡ i
      less_one i = omega arith

-- the last place below i that passes, if there is one
pub record IsLast (t : Action → Bool) (A : List Action) (i m : ℕ) : Type 0 where
  pub below : m < i
  pub passes : passes_at t A m ≡ true
  pub later : (k : ℕ) → m < k → k < i → passes_at t A k ≡ false
  pub number : last_number t (take i A) ≡ suc m

pub last_place : (t : Action → Bool) (A : List Action) (i : ℕ) → i ≤ length A →
    ((m : ℕ) × IsLast t A i m) ⊎ (((k : ℕ) → k < i → passes_at t A k ≡ false) × (last_number t (take i A) ≡ 0))
last_place t A zero h = inr (λ k less. absurd (omega arith), none_taken A) where
  none_taken : (A : List Action) → last_number t (take zero A) ≡ 0
  none_taken [] = refl
  none_taken (x ∷ A) = refl
last_place t A (suc i) h =
    let here = action_below A i (omega arith) in
    elim (cases_Bool (t here.0)) [
      | inl at ↦ inl (i, record { below = omega arith; passes = passes_from t A i here.0 here.1 at; later = λ k low high. absurd (omega arith); number = last-yes t A i here.0 here.1 at })
      | inr no_here ↦
          let same = last-no t A i here.0 here.1 no_here in
          let fails : passes_at t A i ≡ false = ap (λ o. option_map_or t o false) here.1 ∙ no_here in
          elim (last_place t A i (omega arith)) [
            | inl found ↦ inl (
              found.0,
              record {
                below = omega (arith, found.1.below);
                passes = found.1.passes;
                number = same ∙ found.1.number;
                later = λ k low high. elim (cases_eq k i) [ inl e ↦ ap (passes_at t A) e ∙ fails | inr other ↦ found.1.later k low (omega arith) ];
              },
            )
            | inr none ↦ inr (λ k less. elim (cases_eq k i) [ inl e ↦ ap (passes_at t A) e ∙ fails | inr other ↦ none.0 k (omega arith) ], same ∙ none.1)
          ]
    ]

-- an action waits for its actor's last one before it
pub own_is_wait : (earlier : List Action) (a : Action) (m : ℕ) → last_number (is_by (actor_of a)) earlier ≡ m → is_wait earlier a m ≡ true
own_is_wait earlier (New z t) m h = eq-eqb m _ (sym h)
own_is_wait earlier (Delete z) m h = or_left _ _ (eq-eqb m _ (sym h))
own_is_wait earlier (Bind r z y) m h = or_left _ _ (eq-eqb m _ (sym h))
own_is_wait earlier (Unbind r z y) m h = eq-eqb m _ (sym h)
own_is_wait earlier (Move z p q) m h = or_left _ _ (eq-eqb m _ (sym h))

-- an action waits for earlier ones alone
pub waits_earlier : (A : List Action) (k m : ℕ) → has (waits A k) m ≡ true → (1 ≤ m) × (m < k)
waits_earlier A k m h = by_action (action_at A k) refl where
  among : (a : Action) → has (filter (is_wait (before k A) a) (numbers (before k A))) m ≡ true → 1 ≤ k → (1 ≤ m) × (m < k)
  among a w low =
      let parts = and_parts (is_wait (before k A) a m) (has (numbers (before k A)) m) (sym (has-filter (is_wait (before k A) a) m (numbers (before k A))) ∙ w) in
      let range = in_range 1 (length (before k A)) m parts.1 in
      let short = take_short A (k - 1) in
      (range.0, omega (arith, range.1))

  positive : (k : ℕ) (a : Action) → action_at A k ≡ Some a → 1 ≤ k
  positive zero a e = absurd (none_some a e) where
    none_some : (a : Action) → None ≡ Some a → ⊥
    none_some a h = cc
  positive (suc k) a e = omega arith

  by_action : (o : Option Action) → action_at A k ≡ o → (1 ≤ m) × (m < k)
  by_action None e = absurd (false≢true (sym (ap (λ o. has (option_map_or (λ a. filter (is_wait (before k A) a) (numbers (before k A))) o []) m) e) ∙ h))
  by_action (Some a) e = among a (sym (ap (λ o. has (option_map_or (λ a. filter (is_wait (before k A) a) (numbers (before k A))) o []) m) e) ∙ h) (positive k a e)
