-- Lists of steps, none of which stands there twice: one more, one less, and the first so many.
use Rattle.std.proofs.Common.{◌≡◌, ℕ, zero, suc, ◌+◌, ◌-◌, ◌<◌, ◌≤◌, Bool, true, false, cond, not, ◌&&◌, ◌||◌, List, [], ◌∷◌, ◌++◌, length, get_or, take, min, refl, sym, ap, ◌∙◌, subst, arith, nat_eq, nat_lt, inl, inr}
use Rattle.std.specs.List.{list_any}
use Rattle.std.specs.BTreeMap.{is_at}
use Rattle.std.specs.Ordering.{is_eq}
use Rattle.std.specs.declared.cmp.Ordering.{Ordering}
use Rattle.std.specs.declared.cmp.Ordering.TheVariants.{Less, Equal, Greater}
use Rattle.std.proofs.Math.Bool.{or-false}
use Rattle.std.proofs.Math.Seq.{take-append_seam}
use Rattle.std.proofs.lemmas.Bool.{false≢true, both_ways, and_parts, cases_lt, cond-true, cond-false, eq-eqb, false_from_ne_true, lt-ltb, ltb-true, ne_eqb, or_cases, or_left, or_right}
use Rattle.std.proofs.lemmas.List.{get_or-append_right, get_or-take, get_or_append_left, length-take-le, length-take, length_push, take-append-le, take_all}
use Rattle.std.proofs.lemmas.List.Folds.{list_any-append}
use Rattle.std.proofs.lemmas.List.Sums.{passes_at_first, position_or_len_is}
use Rattle.std.specs.Cmp.{both_ways as same_bool}
use Rattle.metis_ids.specs.declared.events.Event.{Event}
use Rattle.metis_ids.specs.declared.events.Event.TheVariants.{End}
use Rattle.metis_lines.specs.Terms.{event_cmp, is_among, same_event}
use Rattle.metis_lines.proofs.SameEvents.{same_events, same_itself, same_turned}
use Rattle.metis_events.proofs.Targets.{equal_events, same_event_equal}
use Rattle.metis_rounds.specs.Terms.{IsApart, IsMet, entry_place, kept_count, kept_steps, place_in, step_at}

-- ---- one event and another

pub equal_is_same : (q k : Event) → is_eq (event_cmp q k) ≡ same_event k q
equal_is_same q k = same_bool (is_eq (event_cmp q k)) (same_event k q) (λ h. ap (λ x. same_event x q) (sym (equal_events q k (is_equal (event_cmp q k) h))) ∙ same_itself q) (λ h. ap is_eq (same_event_equal q k (same_turned k q ∙ h))) where
  is_equal : (o : Ordering) → is_eq o ≡ true → o ≡ Equal
  is_equal Less h = absurd (false≢true h)
  is_equal Equal h = refl
  is_equal Greater h = absurd (false≢true h)

pub contains_is : (keys : List Event) (q : Event) → list_any (is_at (event_cmp q)) keys ≡ is_among keys q
contains_is [] q = refl
contains_is (k ∷ keys) q = λ i. equal_is_same q k i || contains_is keys q i

-- ---- the first so many

pub take_take : (k n : ℕ) (es : List Event) → k ≤ n → take k (take n es) ≡ take k es
take_take zero n es h = refl
take_take (suc k) zero es h = absurd (omega arith)
take_take (suc k) (suc n) [] h = refl
take_take (suc k) (suc n) (x ∷ es) h = ap (λ ys. x ∷ ys) (take_take k n es (omega arith))

pub place_high : (es : List Event) (e : Event) → place_in es e ≤ length es
place_high [] e = omega arith
place_high (x ∷ es) e = let rest = place_high es e in elim (same_event e x) as (λ b. cond (not b) (1 + place_in es e) 0 ≤ length (x ∷ es)) [ true ↦ omega arith | false ↦ omega arith ]

pub place_taken : (m : ℕ) (es : List Event) (e : Event) → is_among (take m es) e ≡ true → place_in es e < m
place_taken zero es e h = absurd (false≢true h)
place_taken (suc m) [] e h = absurd (false≢true h)
place_taken (suc m) (x ∷ es) e h =
    elim (same_event e x) as (λ b. same_event e x ≡ b → cond (not b) (1 + place_in es e) 0 < suc m) [
      | true ↦ λ _. omega arith
      | false ↦ λ other. elim (or_cases (same_event x e) (is_among (take m es) e) h) [
        | inl now ↦ absurd (both_ways _ other (same_turned x e ∙ now))
        | inr later ↦ let rest = place_taken m es e later in omega arith
      ]
    ] refl

pub among_taken : (m k : ℕ) (es : List Event) (e : Event) → k < m → k < length es → same_event e (step_at es k) ≡ true → is_among (take m es) e ≡ true
among_taken zero k es e low short h = absurd (omega arith)
among_taken (suc m) k [] e low short h = absurd (omega arith)
among_taken (suc m) zero (x ∷ es) e low short h = or_left (same_event x e) (is_among (take m es) e) (same_turned e x ∙ h)
among_taken (suc m) (suc k) (x ∷ es) e low short h = or_right (same_event x e) (is_among (take m es) e) (among_taken m k es e (omega arith) (omega arith) h)

pub among_at : (k : ℕ) (es : List Event) → k < length es → is_among es (step_at es k) ≡ true
among_at k es low = sym (ap (λ ys. is_among ys (step_at es k)) (take_all (length es) es (omega arith))) ∙ among_taken (length es) k es (step_at es k) low low (same_itself (step_at es k))

pub place_of_taken : (p : ℕ) (es : List Event) (e : Event) → p ≤ length es → place_in (take p es) e ≡ min p (place_in es e)
place_of_taken zero es e h = omega arith
place_of_taken (suc p) [] e h = absurd (omega arith)
place_of_taken (suc p) (x ∷ es) e h =
    let rest = place_of_taken p es e (omega arith) in
    elim (same_event e x) as (λ b. cond (not b) (1 + place_in (take p es) e) 0 ≡ min (suc p) (cond (not b) (1 + place_in es e) 0)) [ true ↦ omega arith | false ↦ omega arith ]

-- ---- no event twice

pub apart_push : (es : List Event) (e : Event) → IsApart es → is_among es e ≡ false → IsApart (es ++ e ∷ [])
apart_push es e apart new k low =
    let long = length_push es e in
    elim (cases_lt k (length es)) [
      | inl old ↦ (λ i. is_among (take-append-le k es (e ∷ []) (omega arith) i) (get_or_append_left es (e ∷ []) End k old i)) ∙ apart k old
      | inr past ↦
          let same : k ≡ length es = omega arith in
          let none : k - length es ≡ 0 = omega arith in
          (λ i. is_among ((ap (λ n. take n (es ++ e ∷ [])) same ∙ take-append_seam es (e ∷ [])) i) ((get_or-append_right es (e ∷ []) (length es) k End refl past ∙ ap (λ n. get_or (e ∷ []) n End) none) i)) ∙ new
    ]

pub apart_take : (n : ℕ) (es : List Event) → IsApart es → IsApart (take n es)
apart_take n es apart k low =
    let size = length-take n es in
    let below : k < n = omega arith in
    (λ i. is_among (take_take k n es (omega arith) i) (get_or-take n es k End below i)) ∙ apart k (omega arith)

-- a step's place is its first
pub place_is : (es : List Event) (e : Event) (k : ℕ) → IsApart es → k < length es → same_event e (step_at es k) ≡ true → place_in es e ≡ k
place_is es e k apart low here =
    let same = same_events e (step_at es k) here in
    position_or_len_is (same_event e) es k End (omega arith)
    (λ j before. false_from_ne_true (same_event e (step_at es j)) (λ again. both_ways _ (ap (is_among (take k es)) same ∙ apart k low) (among_taken k j es e before (omega arith) again)))
    (λ _. here)

pub place_none : (es : List Event) (e : Event) → ((k : ℕ) → k < length es → same_event e (step_at es k) ≡ false) → place_in es e ≡ length es
place_none es e none = position_or_len_is (same_event e) es (length es) End (omega arith) none (λ bad. absurd (omega arith))

-- ---- with the set of the steps

abbrev pub IsUpdated : Event → Bool → List Event → List Event → Type 0
IsUpdated e b keys new = (q : Event) → list_any (is_at (event_cmp q)) new ≡ cond (is_at (event_cmp e) q) b (list_any (is_at (event_cmp q)) keys)

updated : (keys new : List Event) (e : Event) (b : Bool) → IsUpdated e b keys new → (q : Event) → is_among new q ≡ cond (same_event q e) b (is_among keys q)
updated keys new e b h q = sym (contains_is new q) ∙ h q ∙ (λ i. cond (equal_is_same e q i) b (contains_is keys q i))

pub among_push : (es : List Event) (e q : Event) → is_among (es ++ e ∷ []) q ≡ (is_among es q || same_event e q)
among_push es e q = list_any-append (λ f. same_event f q) es (e ∷ []) ∙ ap (λ b. is_among es q || b) (or-false (same_event e q))

pub met_pushed : (keys new es : List Event) (e : Event) → IsMet keys es → is_among es e ≡ false → IsUpdated e true keys new → IsMet new (es ++ e ∷ [])
met_pushed keys new es e met fresh h = record {
  all = λ q. updated keys new e true h q ∙ by q (same_event q e) refl ∙ sym (among_push es e q);
  apart = apart_push es e met.apart fresh;
} where
  by : (q : Event) (b : Bool) → same_event q e ≡ b → cond b true (is_among keys q) ≡ (is_among es q || same_event e q)
  by q true at = sym (or_right (is_among es q) (same_event e q) (same_turned q e ∙ at))
  by q false at = met.all q ∙ sym (ap (λ b. is_among es q || b) (same_turned q e ∙ at) ∙ or-false (is_among es q))

module _ (keys new es front : List Event) (e : Event) (whole : es ≡ front ++ e ∷ []) (met : IsMet keys es) (h : IsUpdated e false keys new) where
  front_is : take (length front) es ≡ front
  front_is = ap (take (length front)) whole ∙ take-append_seam front (e ∷ [])

  last_is : step_at es (length front) ≡ e
  last_is =
      let none : length front - length front ≡ 0 = omega arith in
      ap (λ ys. step_at ys (length front)) whole ∙ get_or-append_right front (e ∷ []) (length front) (length front) End refl (omega arith) ∙ ap (λ n. get_or (e ∷ []) n End) none

  left : (q : Event) (b : Bool) → same_event q e ≡ b → cond b false (is_among keys q) ≡ is_among front q
  left q true at =
      let long = ap length whole ∙ length_push front e in
      sym (ap (is_among front) (same_events q e at) ∙ sym (λ i. is_among (front_is i) (last_is i)) ∙ met.apart (length front) (omega arith))
  left q false at = met.all q ∙ ap (λ ys. is_among ys q) whole ∙ among_push front e q ∙ ap (λ b. is_among front q || b) (same_turned q e ∙ at) ∙ or-false (is_among front q)

  pub met_popped : IsMet new front
  met_popped = record {
    all = λ q. updated keys new e false h q ∙ left q (same_event q e) refl;
    apart = subst IsApart front_is (apart_take (length front) es met.apart);
  }

-- ---- the steps before one

pub popped_enough : (s all : List Event) (e : Event) → s ≡ take (length s) all → is_among s e ≡ true → place_in all e ≤ length s - 1
popped_enough s all e is there = let low = place_taken (length s) all e (sym (ap (λ ys. is_among ys e) is) ∙ there) in omega arith

pub popped_on : (s all : List Event) → s ≡ take (length s) all → take (length s - 1) s ≡ take (length (take (length s - 1) s)) all
popped_on s all is =
    let size = length-take-le (length s - 1) s (omega arith) in
    ap (take (length s - 1)) is ∙ take_take (length s - 1) (length s) all (omega arith) ∙ sym (ap (λ n. take n all) size)

pub popped_all : (s all : List Event) (e : Event) → s ≡ take (length s) all → place_in all e ≤ length s → is_among s e ≡ false → s ≡ take (place_in all e) all
popped_all s all e is enough none = elim (cases_lt (place_in all e) (length s)) [
  | inl more ↦
      let size = ap length is ∙ length-take (length s) all in
      let low : place_in all e < length all = omega arith in
      absurd (both_ways _ (sym (ap (λ ys. is_among ys e) is) ∙ none) (among_taken (length s) (place_in all e) all e more low (passes_at_first (same_event e) all End low)))
  | inr all_of_it ↦ let same : length s ≡ place_in all e = omega arith in is ∙ ap (λ n. take n all) same
]

-- ---- what a line of its own leaves of them

abbrev pub begins_with : List Event → Event → Bool
begins_with es e = nat_lt 0 (length es) && same_event e (step_at es 0)

first_place : (es : List Event) (e : Event) → 0 < length es → same_event e (step_at es 0) ≡ true → place_in es e ≡ 0
first_place [] e some h = absurd (omega arith)
first_place (x ∷ es) e some h = ap (λ b. cond (not b) (1 + place_in es e) 0) h

later_place : (es : List Event) (e : Event) → 0 < length es → same_event e (step_at es 0) ≡ false → 0 < place_in es e
later_place [] e some h = absurd (omega arith)
later_place (x ∷ es) e some h = let is = ap (λ b. cond (not b) (1 + place_in es e) 0) h in omega arith

module _ (es : List Event) (entry leaving : Event) (s : List Event) (is : s ≡ take (place_in es leaving) es) where
  abbrev p : ℕ
  p = place_in es leaving

  size : length s ≡ p
  size = ap length is ∙ length-take-le p es (place_high es leaving)

  first_step : 0 < length s → step_at s 0 ≡ step_at es 0
  first_step some = let long = size in ap (λ ys. step_at ys 0) is ∙ get_or-take p es 0 End (omega arith)

  pub kept_first : begins_with s entry ≡ true → s ≡ kept_steps entry leaving es
  kept_first h =
      let both = and_parts (nat_lt 0 (length s)) (same_event entry (step_at s 0)) h in
      let some = ltb-true 0 (length s) both.0 in
      let long = size in
      let high = place_high es leaving in
      let place = first_place es entry (omega arith) (ap (same_event entry) (sym (first_step some)) ∙ both.1) in
      let all : entry_place entry es ≡ length es = cond-true (nat_eq (place_in es entry) 0) (length es) (place_in es entry) (eq-eqb (place_in es entry) 0 place) in
      let count : p ≡ kept_count entry leaving es = omega arith in
      is ∙ ap (λ n. take n es) count

  pub kept_other : begins_with s entry ≡ false → take (place_in s entry) s ≡ kept_steps entry leaving es
  kept_other h =
      let long = size in
      let high = place_high es leaving in
      elim (cases_lt 0 (length s)) [
        | inl some ↦
            let other : same_event entry (step_at s 0) ≡ false = sym (ap (λ b. b && same_event entry (step_at s 0)) (lt-ltb 0 (length s) some)) ∙ h in
            let later = later_place es entry (omega arith) (ap (same_event entry) (sym (first_step some)) ∙ other) in
            let at : entry_place entry es ≡ place_in es entry = cond-false (nat_eq (place_in es entry) 0) (length es) (place_in es entry) (ne_eqb (place_in es entry) 0 (λ e. omega arith)) in
            let place : place_in s entry ≡ min p (place_in es entry) = ap (λ ys. place_in ys entry) is ∙ place_of_taken p es entry high in
            let count : place_in s entry ≡ kept_count entry leaving es = omega arith in
            ap (λ n. take n s) count ∙ ap (take (kept_count entry leaving es)) is ∙ take_take (kept_count entry leaving es) p es (omega arith)
        | inr none ↦
            let place = place_high s entry in
            let zero_place : place_in s entry ≡ 0 = omega arith in
            let count : kept_count entry leaving es ≡ 0 = omega arith in
            ap (λ n. take n s) zero_place ∙ sym (ap (λ n. take n es) count)
      ]
