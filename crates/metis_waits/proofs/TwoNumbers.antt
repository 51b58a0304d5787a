-- Lists of those of two numbers that are not 0.
use Rattle.std.proofs.Common.{◌≡◌, ℕ, ◌<◌, Bool, false, not, ◌&&◌, ◌||◌, List, [], ◌∷◌, ◌++◌, sym, ap, subst, ◌∙◌, arith, nat_eq, nat_lt, nat_cmp}
use Rattle.std.proofs.lemmas.Bool.Decides.{nat_tests}
use Rattle.std.proofs.lemmas.List.Elements.{filter-append}
use Rattle.std.proofs.lemmas.List.Kept.{IsStrictlySortedBy-filter}
use Rattle.std.specs.List.{filter}
use Rattle.std.specs.List.Sorted.{IsStrictlySortedBy}
use Rattle.metis_ids.proofs.Tests.{cmp_less}
use Rattle.metis_universe.proofs.Rounds.{has-filter}
use Rattle.metis_universe.specs.Terms.{has}
use Rattle.metis_waits.specs.Terms.{has_number}

-- the numbers of the one list and then of the other
pub joined : (a b : ℕ) (xs ys : List ℕ) → xs ≡ filter (λ m. not (nat_eq m 0)) (a ∷ []) → ys ≡ xs ++ filter (λ m. not (nat_eq m 0)) (b ∷ []) → ys ≡ filter (λ m. not (nat_eq m 0)) (a ∷ b ∷ [])
joined a b xs ys first second = second ∙ ap (λ l. l ++ filter (λ m. not (nat_eq m 0)) (b ∷ [])) first ∙ sym (filter-append (λ m. not (nat_eq m 0)) (a ∷ []) (b ∷ []))

sorted_two : (a b : ℕ) → a < b → IsStrictlySortedBy nat_cmp (a ∷ b ∷ [])
unfolding IsStrictlySortedBy
sorted_two a b l = ((cmp_less a b l, tt), (tt, tt))

sorted_one : (a : ℕ) → IsStrictlySortedBy nat_cmp (a ∷ [])
unfolding IsStrictlySortedBy
sorted_one a = (tt, tt)

-- two numbers, the lower one first
pub two_sorted : (a b : ℕ) (xs : List ℕ) → a < b → xs ≡ filter (λ m. not (nat_eq m 0)) (a ∷ b ∷ []) → IsStrictlySortedBy nat_cmp xs
two_sorted a b xs l is = subst (IsStrictlySortedBy nat_cmp) (sym is) (IsStrictlySortedBy-filter nat_cmp (λ m. not (nat_eq m 0)) (a ∷ b ∷ []) (sorted_two a b l))

pub two_members : (a b : ℕ) (xs : List ℕ) → xs ≡ filter (λ m. not (nat_eq m 0)) (a ∷ b ∷ []) → (m : ℕ) → has xs m ≡ (has_number b m || has_number a m)
two_members a b xs is m = ap (λ l. has l m) is ∙ has-filter (λ m. not (nat_eq m 0)) m (a ∷ b ∷ []) ∙ test a b m where
  test : (a b m : ℕ) → (not (nat_eq m 0) && (nat_eq a m || (nat_eq b m || false))) ≡ ((nat_lt 0 m && nat_eq m b) || (nat_lt 0 m && nat_eq m a))
  test a b m = grind (arith, nat_tests)

-- one number
pub one_sorted : (a : ℕ) (xs : List ℕ) → xs ≡ filter (λ m. not (nat_eq m 0)) (a ∷ []) → IsStrictlySortedBy nat_cmp xs
one_sorted a xs is = subst (IsStrictlySortedBy nat_cmp) (sym is) (IsStrictlySortedBy-filter nat_cmp (λ m. not (nat_eq m 0)) (a ∷ []) (sorted_one a))

-- 0 is no number
pub no_number : (m : ℕ) (b : Bool) → (has_number 0 m || b) ≡ b
no_number m b = ap (λ v. v || b) (none m) where
  none : (m : ℕ) → (nat_lt 0 m && nat_eq m 0) ≡ false
  none m = grind (arith, nat_tests)
