-- At most one answer is true: each says how many tests pass before the one that fails, and where that does.
use Rattle.std.proofs.Common.{◌≡◌, ℕ, zero, suc, ◌-◌, ◌<◌, ◌≤◌, true, false, List, [], ◌∷◌, length, get_or, take, Some, None, refl, sym, ap, ◌∙◌, subst, arith, inl, inr}
use Rattle.std.specs.Prelude.{IsSome, slice_get}
use Rattle.std.specs.List.{All}
use Rattle.std.specs.Option.{is_some, option_map_or}
use Rattle.std.proofs.lemmas.Bool.{both_ways, cases_eq, cases_lt, false≢true}
use Rattle.std.proofs.lemmas.List.{get_or-take, length-take}
use Rattle.std.proofs.lemmas.Option.{slice_get_past}
use Rattle.metis_ids.specs.declared.actions.Action.{Action}
use Rattle.metis_ids.specs.Terms.{Plan}
use Rattle.metis_ids.proofs.Lists.{at_range}
use Rattle.metis_universe.specs.Terms.{Universe, before, is_steadfast_after, is_steadfast_at, layer_of}
use Rattle.metis_choice.specs.Terms.{IsFirstWithout}
use Rattle.metis_lines.specs.Terms.{is_justified_at}
use Rattle.metis_text.specs.Terms.{after_of}
use Rattle.metis_waits.specs.Terms.{IsFirstLoose, waits_on_others}
use Rattle.metis_audit.specs.Terms.{IsAnswer, IsAttained, IsAudited, IsCounted, IsFirstOff, IsFirstOther, IsFirstUnjustified, IsFollowed, IsForced, IsMiscount, IsSteady, follows}
use Rattle.metis_audit.specs.declared.answers.Answer.{Answer}
use Rattle.metis_audit.specs.declared.answers.Answer.TheVariants.{Justified, NotAttained, NoCycle, Count, Path, Loose, After}
use Rattle.metis_ids.proofs.Tests.{least_is_one}

-- how many tests pass, and the numbers that are told of the one that fails
abbrev stage : Answer → ℕ
stage (NotAttained q) = 0
stage (NoCycle k) = 1
stage (Count have want) = 2
stage (Path l) = 3
stage (Loose k) = 4
stage (After k) = 5
stage Justified = 6

abbrev first : Answer → ℕ
first (NotAttained q) = q
first (NoCycle k) = k
first (Count have want) = have
first (Path l) = l
first (Loose k) = k
first (After k) = k
first Justified = 0

abbrev second : Answer → ℕ
second (NotAttained q) = 0
second (NoCycle k) = 0
second (Count have want) = want
second (Path l) = 0
second (Loose k) = 0
second (After k) = 0
second Justified = 0

abbrev made : ℕ → ℕ → ℕ → Answer
made zero a b = NotAttained a
made (suc zero) a b = NoCycle a
made (suc (suc zero)) a b = Count a b
made (suc (suc (suc zero))) a b = Path a
made (suc (suc (suc (suc zero)))) a b = Loose a
made (suc (suc (suc (suc (suc zero))))) a b = After a
made (suc (suc (suc (suc (suc (suc n)))))) a b = Justified

made_of : (a : Answer) → made (stage a) (first a) (second a) ≡ a
made_of (NotAttained q) = refl
made_of (NoCycle k) = refl
made_of (Count have want) = refl
made_of (Path l) = refl
made_of (Loose k) = refl
made_of (After k) = refl
made_of Justified = refl

got : (xs : List ℕ) (i q : ℕ) → slice_get xs i ≡ Some q → (i < length xs) × (get_or xs i q ≡ q)
got [] i q is = absurd (none_some q is) where
  none_some : (q : ℕ) → None ≡ Some q → ⊥
  none_some q h = cc
got (x ∷ xs) zero q is = (omega arith, same_some x q is) where
  same_some : (a b : ℕ) → Some a ≡ Some b → a ≡ b
  same_some a b h = cc
got (x ∷ xs) (suc i) q is = let rest = got xs i q is in (omega (arith, rest.0), rest.1)

-- a target before the first one that has no layer has one
layered_before : (u : Universe) (xs : List ℕ) (i k q : ℕ) → All (λ r. IsSome (layer_of u r)) (take k xs) → i < k → slice_get xs i ≡ Some q → layer_of u q ≡ None → ⊥
layered_before u xs i k q all low is none =
    let at = got xs i q is in
    let long : i < length (take k xs) = omega (arith, length-take k xs, at.0) in
    let same : get_or (take k xs) i q ≡ q = get_or-take k xs i q low ∙ at.1 in
    not_some (subst (λ r. IsSome (layer_of u r)) same (all i q long)) none where
      not_some : IsSome (layer_of u q) → layer_of u q ≡ None → ⊥
      not_some some none = false≢true (sym (ap is_some none) ∙ some)

-- an action that is not steadfast is there
loose_inside : (u : Universe) (actions : List Action) (k : ℕ) → is_steadfast_at u actions k ≡ false → (1 ≤ k) × (k ≤ length actions)
loose_inside u actions zero loose = absurd (false≢true (sym loose))
loose_inside u actions (suc i) loose = elim (cases_lt i (length actions)) [
  | inl low ↦ (omega arith, omega arith)
  | inr past ↦ absurd (false≢true (sym loose ∙ ap (λ o. option_map_or (is_steadfast_after u (before (suc i) actions)) o true) (slice_get_past actions i past)))
]

module _ (u : Universe) (g : List ℕ) (p : Plan) (after : List (List ℕ)) where
  -- the first so many tests pass
  abbrev Upto : ℕ → Type 0
  Upto zero = Unit {0}
  Upto (suc zero) = IsAttained u g
  Upto (suc (suc zero)) = IsForced u g p
  Upto (suc (suc (suc zero))) = IsCounted u g p
  Upto (suc (suc (suc (suc zero)))) = IsFollowed u g p
  Upto (suc (suc (suc (suc (suc zero))))) = IsSteady u g p
  Upto (suc (suc (suc (suc (suc (suc n)))))) = IsAudited u g p after

  down : (n : ℕ) → Upto (suc n) → Upto n
  down zero h = tt
  down (suc zero) h = h.attained
  down (suc (suc zero)) h = h.forced
  down (suc (suc (suc zero))) h = h.counted
  down (suc (suc (suc (suc zero)))) h = h.followed
  down (suc (suc (suc (suc (suc zero))))) h = h.steady
  down (suc (suc (suc (suc (suc (suc n)))))) h = h

  fewer : (m n : ℕ) → n ≤ m → Upto m → Upto n
  fewer zero n low h = let same : 0 ≡ n = omega arith in subst Upto same h
  fewer (suc m) n low h = elim (cases_eq n (suc m)) [
    | inl same ↦ subst Upto (sym same) h
    | inr other ↦ fewer m n (omega arith) (down m h)
  ]

  passed : (a : Answer) → IsAnswer u g p after a → Upto (stage a)
  passed (NotAttained q) h = tt
  passed (NoCycle k) h = h.0
  passed (Count have want) h = h.0
  passed (Path l) h = h.0
  passed (Loose k) h = h.0
  passed (After k) h = h.0
  passed Justified h = h

  failed : (a : Answer) → IsAnswer u g p after a → stage a < 6 → Upto (suc (stage a)) → ⊥
  failed (NotAttained q) h low next =
      let at = got g h.place q h.there in
      false≢true (sym (ap is_some h.without) ∙ subst (λ r. IsSome (layer_of u r)) at.1 (next h.place q at.0))
  failed (NoCycle k) h low next =
      let one = h.1.first in
      let last = h.1.last in
      both_ways _ h.1.fails (at_range (is_justified_at u g p.dups) 0 (length p.dups) (k - 1) next.justified (omega arith) (omega arith))
  failed (Count have want) h low next = h.1.differ (h.1.made ∙ next.count ∙ sym h.1.needed)
  failed (Path l) h low next = h.1.fails (next.each l h.1.within)
  failed (Loose k) h low next =
      let at = loose_inside u p.actions k h.1.loose in
      both_ways _ h.1.loose (at_range (is_steadfast_at u p.actions) 1 (length p.actions) k next.steadfast at.0 (omega (arith, at.1)))
  failed (After k) h low next = h.1.fails (next.printed k h.1.first h.1.last)
  failed Justified h low next = omega arith

  no_later : (a b : Answer) → IsAnswer u g p after a → IsAnswer u g p after b → stage b ≤ stage a
  no_later a b one two = elim (cases_lt (stage a) (stage b)) [
    | inl low ↦
        let six = most_six b in
        absurd (failed a one (omega arith) (fewer (stage b) (suc (stage a)) (omega arith) (passed b two)))
    | inr done ↦ done
  ] where
    most_six : (b : Answer) → stage b ≤ 6
    most_six (NotAttained q) = omega arith
    most_six (NoCycle k) = omega arith
    most_six (Count have want) = omega arith
    most_six (Path l) = omega arith
    most_six (Loose k) = omega arith
    most_six (After k) = omega arith
    most_six Justified = omega arith

  -- what the numbers are
  abbrev Told : ℕ → ℕ → ℕ → Type 0
  Told zero a b = IsFirstWithout u g a × (b ≡ 0)
  Told (suc zero) a b = IsFirstUnjustified u g p.dups a × (b ≡ 0)
  Told (suc (suc zero)) a b = IsMiscount u g p a b
  Told (suc (suc (suc zero))) a b = IsFirstOff u g p a × (b ≡ 0)
  Told (suc (suc (suc (suc zero)))) a b = IsFirstLoose u p.actions a × (b ≡ 0)
  Told (suc (suc (suc (suc (suc zero))))) a b = IsFirstOther p.actions after a × (b ≡ 0)
  Told (suc (suc (suc (suc (suc (suc n)))))) a b = (a ≡ 0) × (b ≡ 0)

  told : (a : Answer) → IsAnswer u g p after a → Told (stage a) (first a) (second a)
  told (NotAttained q) h = (h, refl)
  told (NoCycle k) h = (h.1, refl)
  told (Count have want) h = h.1
  told (Path l) h = (h.1, refl)
  told (Loose k) h = (h.1, refl)
  told (After k) h = (h.1, refl)
  told Justified h = (refl, refl)

  without_one : (a c : ℕ) → IsFirstWithout u g a → IsFirstWithout u g c → a ≡ c
  without_one a c one two = elim (cases_lt one.place two.place) [
    | inl low ↦ absurd (layered_before u g one.place two.place a two.before low one.there one.without)
    | inr high ↦ elim (cases_lt two.place one.place) [
      | inl low ↦ absurd (layered_before u g two.place one.place c one.before low two.there two.without)
      | inr other ↦ let same : one.place ≡ two.place = omega arith in same_some a c (sym one.there ∙ ap (slice_get g) same ∙ two.there)
    ]
  ] where
    same_some : (a b : ℕ) → Some a ≡ Some b → a ≡ b
    same_some a b h = cc

  one_told : (n a b c d : ℕ) → Told n a b → Told n c d → (a ≡ c) × (b ≡ d)
  one_told zero a b c d x y = (without_one a c x.0 y.0, x.1 ∙ sym y.1)
  one_told (suc zero) a b c d x y = (
    least_is_one (λ i. 1 ≤ i → is_justified_at u g p.dups (i - 1) ≡ true) a c (λ h. both_ways _ x.0.fails (h x.0.first)) (λ h. both_ways _ y.0.fails (h y.0.first)) (λ i low one. x.0.before (i - 1) (omega arith)) (λ i low one. y.0.before (i - 1) (omega arith)),
    x.1 ∙ sym y.1,
  )
  one_told (suc (suc zero)) a b c d x y = (x.made ∙ sym y.made, x.needed ∙ sym y.needed)
  one_told (suc (suc (suc zero))) a b c d x y = (least_is_one (follows u g p) a c x.0.fails y.0.fails x.0.before y.0.before, x.1 ∙ sym y.1)
  one_told (suc (suc (suc (suc zero)))) a b c d x y = (least_is_one (λ j. is_steadfast_at u p.actions j ≡ true) a c (both_ways _ x.0.loose) (both_ways _ y.0.loose) x.0.before y.0.before, x.1 ∙ sym y.1)
  one_told (suc (suc (suc (suc (suc zero))))) a b c d x y = (
    least_is_one (λ j. 1 ≤ j → after_of after j ≡ waits_on_others p.actions j) a c (λ h. x.0.fails (h x.0.first)) (λ h. y.0.fails (h y.0.first)) (λ j low one. x.0.before j one low) (λ j low one. y.0.before j one low),
    x.1 ∙ sym y.1,
  )
  one_told (suc (suc (suc (suc (suc (suc n)))))) a b c d x y = (x.0 ∙ sym y.0, x.1 ∙ sym y.1)

  pub one_answer : (a b : Answer) → IsAnswer u g p after a → IsAnswer u g p after b → a ≡ b
  one_answer a b one two =
      let up = no_later a b one two in
      let back = no_later b a two one in
      let same : stage a ≡ stage b = omega arith in
      let numbers = one_told (stage b) (first a) (second a) (first b) (second b) (subst (λ n. Told n (first a) (second a)) same (told a one)) (told b two) in
      sym (made_of a) ∙ (λ i. made (same i) (numbers.0 i) (numbers.1 i)) ∙ made_of b
