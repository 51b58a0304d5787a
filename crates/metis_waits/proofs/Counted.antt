-- How many elements of a sorted list pass, after one came or went.
use Rattle.std.proofs.Common.{◌≡◌, ℕ, suc, ◌+◌, ◌<◌, Bool, true, false, cond, not, ◌||◌, List, [], ◌∷◌, length, inl, inr, refl, sym, ap, ◌∙◌, arith, nat_eq}
use Rattle.std.proofs.lemmas.Bool.{both_ways, cases_Bool}
use Rattle.std.proofs.lemmas.Bool.Decides.{nat_tests}
use Rattle.std.specs.BTreeMap.{is_at}
use Rattle.std.specs.BTreeSet.{insert_key}
use Rattle.std.specs.Cmp.{IsTotalOrder}
use Rattle.std.specs.List.{AllByRecursion, filter, list_any}
use Rattle.std.specs.List.Sorted.{IsStrictlySortedBy}
use Rattle.std.specs.Ordering.{is_eq, match_ordering, ordering_reverse}
use Rattle.std.specs.declared.cmp.Ordering.{Ordering}
use Rattle.std.specs.declared.cmp.Ordering.TheVariants.{Less, Equal, Greater}

some : (n : ℕ) → nat_eq (suc n) 0 ≡ false
some n = grind (arith, nat_tests)

-- none where no element passes
pub none_counted : {A : Type 0} (p : A → Bool) (xs : List A) → nat_eq (length (filter p xs)) 0 ≡ not (list_any p xs)
none_counted p [] = refl
none_counted p (x ∷ xs) = elim (p x) as (λ b. nat_eq (length (cond b (x ∷ filter p xs) (filter p xs))) 0 ≡ not (b || list_any p xs)) [ true ↦ some (length (filter p xs)) | false ↦ none_counted p xs ]

-- one is counted where one passes
pub one_counted : {A : Type 0} (p : A → Bool) (xs : List A) → list_any p xs ≡ true → 0 < length (filter p xs)
one_counted p (x ∷ xs) h = elim (p x) as (λ b. (b || list_any p xs) ≡ true → 0 < length (cond b (x ∷ filter p xs) (filter p xs))) [ true ↦ λ _. omega arith | false ↦ λ later. one_counted p xs later ] h
one_counted p [] h = absurd (both_ways _ refl h)

more : {A : Type 0} (b : Bool) (x : A) (xs : List A) → length (cond b (x ∷ xs) xs) ≡ length xs + cond b 1 0
more true x xs = omega arith
more false x xs = omega arith

module _ {K : Type 0} {R : K → K → Ordering} (o : IsTotalOrder R) where
  same_as_itself : (k : K) → R k k ≡ Equal
  same_as_itself k = by (R k k) (o.antisymm k k) where
    by : (c : Ordering) → c ≡ ordering_reverse c → c ≡ Equal
    by Less h = cc
    by Equal h = refl
    by Greater h = cc

  -- what comes before each of them is none of them
  none_below : (k : K) (xs : List K) → AllByRecursion (λ y. R k y ≡ Less) xs → list_any (is_at (R k)) xs ≡ false
  none_below k [] below = refl
  none_below k (x ∷ xs) below = ap (λ c. is_eq c || list_any (is_at (R k)) xs) below.0 ∙ none_below k xs below.1

  below_too : (k x : K) (xs : List K) → R k x ≡ Less → AllByRecursion (λ y. R x y ≡ Less) xs → AllByRecursion (λ y. R k y ≡ Less) xs
  below_too k x [] l below = tt
  below_too k x (y ∷ ys) l below = (o.trans k x y l below.0, below_too k x ys l below.1)

  -- a key that is there is not put in again
  pub insert_key-there : (k : K) (xs : List K) → IsStrictlySortedBy R xs → list_any (is_at (R k)) xs ≡ true → insert_key R xs k ≡ xs
  unfolding IsStrictlySortedBy
  insert_key-there k [] s h = absurd (both_ways _ refl h)
  insert_key-there k (x ∷ xs) s h =
      elim (R k x) as (λ c. R k x ≡ c → match_ordering c (k ∷ x ∷ xs) (x ∷ xs) (x ∷ insert_key R xs k) ≡ x ∷ xs) [
        | Less ↦ λ l. absurd (both_ways _ (ap (λ c. is_eq c || list_any (is_at (R k)) xs) l ∙ none_below k xs (below_too k x xs l s.0)) h)
        | Equal ↦ λ _. refl
        | Greater ↦ λ g. ap (λ l. x ∷ l) (insert_key-there k xs s.1 (sym (ap (λ c. is_eq c || list_any (is_at (R k)) xs) g) ∙ h))
      ] refl

  -- same tells the elements that are k
  module _ (same : K → Bool) (k : K) (is : (y : K) → same y ≡ true → y ≡ k) where
    not_below : (x : K) (xs : List K) → x ≡ k → AllByRecursion (λ y. R x y ≡ Less) xs → list_any same xs ≡ false
    not_below x [] e below = refl
    not_below x (y ∷ ys) e below = elim (cases_Bool (same y)) [
      | inl at ↦ absurd (clash (sym below.0 ∙ ap (R x) (is y at ∙ sym e) ∙ same_as_itself x))
      | inr other ↦ ap (λ b. b || list_any same ys) other ∙ not_below x ys e below.1
    ] where
      clash : Less ≡ Equal → ⊥
      clash h = cc

    pub kept_all : (xs : List K) → list_any same xs ≡ false → filter (λ y. not (same y)) xs ≡ xs
    kept_all [] h = refl
    kept_all (x ∷ xs) h = elim (same x) as (λ b. (b || list_any same xs) ≡ false → cond (not b) (x ∷ filter (λ y. not (same y)) xs) (filter (λ y. not (same y)) xs) ≡ x ∷ xs) [
      | true ↦ λ e. absurd (both_ways _ e refl)
      | false ↦ λ e. ap (λ l. x ∷ l) (kept_all xs e)
    ] h

    -- behind its first place there is none
    pub none_behind : (x : K) (xs : List K) → IsStrictlySortedBy R (x ∷ xs) → same x ≡ true → list_any same xs ≡ false
    unfolding IsStrictlySortedBy
    none_behind x xs s at = not_below x xs (is x at) s.0

    pub counted_out : (p : K → Bool) (xs : List K) → IsStrictlySortedBy R xs → list_any same xs ≡ true → length (filter p xs) ≡ length (filter p (filter (λ y. not (same y)) xs)) + cond (p k) 1 0
    unfolding IsStrictlySortedBy
    counted_out p [] s h = absurd (both_ways _ refl h)
    counted_out p (x ∷ xs) s h =
        elim (same x) as (λ b. same x ≡ b → (b || list_any same xs) ≡ true → length (filter p (x ∷ xs)) ≡ length (filter p (cond (not b) (x ∷ filter (λ y. not (same y)) xs) (filter (λ y. not (same y)) xs))) + cond (p k) 1 0) [
          | true ↦ λ at _.
              more (p x) x (filter p xs)
              ∙ (λ i. length (filter p (sym (kept_all xs (not_below x xs (is x at) s.0)) i)) + cond (p (is x at i)) 1 0)
          | false ↦ λ other later.
              let rest = counted_out p xs s.1 later in
              let here = more (p x) x (filter p xs) in
              let there = more (p x) x (filter p (filter (λ y. not (same y)) xs)) in
              omega (arith, rest, here, there)
        ] refl h

-- a key that is not there is counted once more
pub counted_in : {K : Type 0} (R : K → K → Ordering) (p : K → Bool) (k : K) (xs : List K) → list_any (is_at (R k)) xs ≡ false → length (filter p (insert_key R xs k)) ≡ length (filter p xs) + cond (p k) 1 0
counted_in R p k [] h = more (p k) k []
counted_in R p k (x ∷ xs) h =
    elim (R k x) as (λ c. R k x ≡ c → length (filter p (match_ordering c (k ∷ x ∷ xs) (x ∷ xs) (x ∷ insert_key R xs k))) ≡ length (filter p (x ∷ xs)) + cond (p k) 1 0) [
      | Less ↦ λ _. more (p k) k (filter p (x ∷ xs))
      | Equal ↦ λ e. absurd (both_ways _ h (ap (λ c. is_eq c || list_any (is_at (R k)) xs) e))
      | Greater ↦ λ g.
          let rest = counted_in R p k xs (sym (ap (λ c. is_eq c || list_any (is_at (R k)) xs) g) ∙ h) in
          let here = more (p x) x (filter p xs) in
          let there = more (p x) x (filter p (insert_key R xs k)) in
          omega (arith, rest, here, there)
    ] refl
