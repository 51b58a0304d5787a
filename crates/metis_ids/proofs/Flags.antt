-- The places of the flags that are set.
use Rattle.std.proofs.Common.{◌≡◌, ℕ, suc, zero, ◌+◌, ◌<◌, ◌≤◌, Bool, true, false, List, [], ◌∷◌, length, get_or, refl, sym, ap, ◌∙◌, subst, arith, eqb, replicate, set, zero-add}
use Rattle.std.proofs.lemmas.Bool.Decides.{nat_tests}
use Rattle.std.proofs.Math.ListN.{get_or-eq_default}
use Rattle.std.proofs.lemmas.List.{get_or_default, length-set}
use Rattle.std.proofs.lemmas.Map.Keys.{IsStrictlyIncreasing-from_sorted}
use Rattle.std.specs.List.{AllByRecursion, All, list_any}
use Rattle.std.specs.List.Sorted.{IsStrictlySortedBy, IsStrictlyIncreasing}
use Rattle.std.specs.Ordering.{nat_cmp}
use Rattle.std.specs.declared.cmp.Ordering.TheVariants.{Less, Equal, Greater}
use Rattle.std.specs.BTreeSet.{insert_key}
use Rattle.metis_ids.specs.Terms.{members_from, members_of}

-- numbers from k on are not below it
none_below : (k n : ℕ) (flags : List Bool) → n < k → list_any (λ q. eqb q n) (members_from k flags) ≡ false
none_below k n [] h = refl
none_below k n (true ∷ flags) h =
    let here : eqb k n ≡ false = grind (arith, nat_tests) in
    let later : list_any (λ q. eqb q n) (members_from (k + 1) flags) ≡ false = none_below (k + 1) n flags (omega arith) in
    rw (here, later)
none_below k n (false ∷ flags) h = none_below (k + 1) n flags (omega arith)

-- a number is among the places exactly where its flag is set
pub has_flag : (k i : ℕ) (flags : List Bool) → list_any (λ q. eqb q (k + i)) (members_from k flags) ≡ get_or flags i false
has_flag k i [] = refl
has_flag k zero (true ∷ flags) = let e : eqb k (k + 0) ≡ true = grind (arith, nat_tests) in rw e
has_flag k zero (false ∷ flags) = none_below (k + 1) (k + 0) flags (omega arith)
has_flag k (suc i) (true ∷ flags) =
    let e : eqb k (k + suc i) ≡ false = grind (arith, nat_tests) in
    let s : (k + 1) + i ≡ k + suc i = omega arith in
    rw e (subst (λ n. list_any (λ q. eqb q n) (members_from (k + 1) flags) ≡ get_or flags i false) s (has_flag (k + 1) i flags))
has_flag k (suc i) (false ∷ flags) =
    let s : (k + 1) + i ≡ k + suc i = omega arith in
    subst (λ n. list_any (λ q. eqb q n) (members_from (k + 1) flags) ≡ get_or flags i false) s (has_flag (k + 1) i flags)

-- no place is below the first
from_start : (k n : ℕ) (flags : List Bool) → n < k → AllByRecursion (λ q. nat_cmp n q ≡ Less) (members_from k flags)
from_start k n [] h = tt
from_start k n (true ∷ flags) h = (grind (arith, nat_tests), from_start (k + 1) n flags (omega arith))
from_start k n (false ∷ flags) h = from_start (k + 1) n flags (omega arith)

-- the places ascend
sorted : (k : ℕ) (flags : List Bool) → IsStrictlySortedBy nat_cmp (members_from k flags)
unfolding IsStrictlySortedBy
sorted k [] = tt
sorted k (true ∷ flags) = (from_start (k + 1) k flags (omega arith), sorted (k + 1) flags)
sorted k (false ∷ flags) = sorted (k + 1) flags

pub members_ascend : (flags : List Bool) → IsStrictlyIncreasing (members_of flags)
members_ascend flags = IsStrictlyIncreasing-from_sorted (members_of flags) (sorted 0 flags)

All-cons_here : (x n : ℕ) (xs : List ℕ) → x < n → All (λ q. q < n) xs → All (λ q. q < n) (x ∷ xs)
All-cons_here x n xs here later zero d h = here
All-cons_here x n xs here later (suc i) d h = later i d (omega arith)

-- and are below the number of flags
below_end : (k n : ℕ) (flags : List Bool) → k + length flags ≤ n → All (λ q. q < n) (members_from k flags)
below_end k n [] h = grind arith
below_end k n (true ∷ flags) h = All-cons_here k n (members_from (k + 1) flags) (omega arith) (below_end (k + 1) n flags (omega arith))
below_end k n (false ∷ flags) h = below_end (k + 1) n flags (omega arith)

pub members_below : (flags : List Bool) → All (λ q. q < length flags) (members_of flags)
members_below flags = below_end 0 (length flags) flags (omega arith)

-- an insertion before all others
insert_first : (n : ℕ) (xs : List ℕ) → AllByRecursion (λ q. nat_cmp n q ≡ Less) xs → insert_key nat_cmp xs n ≡ n ∷ xs
insert_first n [] h = refl
insert_first n (x ∷ xs) h = rw h.0

-- a flag that is set puts its place in
pub members_from-set : (k i : ℕ) (flags : List Bool) → i < length flags → members_from k (set flags i true) ≡ insert_key nat_cmp (members_from k flags) (k + i)
members_from-set k i [] h = absurd (omega arith)
members_from-set k zero (true ∷ flags) h = let e : nat_cmp (k + 0) k ≡ Equal = grind (arith, nat_tests) in rw e
members_from-set k zero (false ∷ flags) h =
    let e : k + 0 ≡ k = omega arith in
    sym (subst (λ n. insert_key nat_cmp (members_from (k + 1) flags) n ≡ k ∷ members_from (k + 1) flags) (sym e) (insert_first k (members_from (k + 1) flags) (from_start (k + 1) k flags (omega arith))))
members_from-set k (suc i) (true ∷ flags) h =
    let e : nat_cmp (k + suc i) k ≡ Greater = grind (arith, nat_tests) in
    let s : (k + 1) + i ≡ k + suc i = omega arith in
    rw e (ap (λ l. k ∷ l) (subst (λ n. members_from (k + 1) (set flags i true) ≡ insert_key nat_cmp (members_from (k + 1) flags) n) s (members_from-set (k + 1) i flags (omega arith))))
members_from-set k (suc i) (false ∷ flags) h =
    let s : (k + 1) + i ≡ k + suc i = omega arith in
    subst (λ n. members_from (k + 1) (set flags i true) ≡ insert_key nat_cmp (members_from (k + 1) flags) n) s (members_from-set (k + 1) i flags (omega arith))

-- one that was not set makes one more
length-set_flag : (k i : ℕ) (flags : List Bool) → get_or flags i true ≡ false → length (members_from k (set flags i true)) ≡ length (members_from k flags) + 1
length-set_flag k i [] h = cc
length-set_flag k zero (true ∷ flags) h = cc
length-set_flag k zero (false ∷ flags) h = omega arith
length-set_flag k (suc i) (true ∷ flags) h = omega (arith, length-set_flag (k + 1) i flags h)
length-set_flag k (suc i) (false ∷ flags) h = length-set_flag (k + 1) i flags h

-- one that was set changes nothing
pub set_again : (i : ℕ) (flags : List Bool) → get_or flags i false ≡ true → set flags i true ≡ flags
set_again i [] h = refl
set_again zero (b ∷ flags) h = ap (λ c. c ∷ flags) (sym h)
set_again (suc i) (b ∷ flags) h = ap (λ l. b ∷ l) (set_again i flags h)

-- no more places than flags
pub length-members_from : (k : ℕ) (flags : List Bool) → length (members_from k flags) ≤ length flags
length-members_from k [] = omega arith
length-members_from k (true ∷ flags) = omega (arith, length-members_from (k + 1) flags)
length-members_from k (false ∷ flags) = omega (arith, length-members_from (k + 1) flags)

-- none of no flags
pub members_from-replicate : (k n : ℕ) → members_from k (replicate n false) ≡ []
members_from-replicate k zero = refl
members_from-replicate k (suc n) = members_from-replicate (k + 1) n

-- ---- of a whole set, as its calls meet it: b is the flag of i

module _ (i : ℕ) (flags : List Bool) where
  from_zero : list_any (λ q. eqb q i) (members_of flags) ≡ get_or flags i false
  from_zero = subst (λ n. list_any (λ q. eqb q n) (members_from 0 flags) ≡ get_or flags i false) (zero-add i) (has_flag 0 i flags)

  pub has_at : (b : Bool) → i < length flags → b ≡ get_or flags i b → list_any (λ q. eqb q i) (members_of flags) ≡ b
  has_at b h e = from_zero ∙ get_or_default flags i false b h ∙ sym e

  pub has_past : length flags ≤ i → list_any (λ q. eqb q i) (members_of flags) ≡ false
  has_past h = from_zero ∙ get_or-eq_default flags false h

  pub members_of-set : i < length flags → members_of (set flags i true) ≡ insert_key nat_cmp (members_of flags) i
  members_of-set h = subst (λ n. members_of (set flags i true) ≡ insert_key nat_cmp (members_of flags) n) (zero-add i) (members_from-set 0 i flags h)

  pub members_of-again : (b : Bool) → i < length flags → b ≡ get_or flags i b → b ≡ true → members_of flags ≡ insert_key nat_cmp (members_of flags) i
  members_of-again b h e t = sym (ap members_of (set_again i flags (get_or_default flags i false b h ∙ sym e ∙ t))) ∙ members_of-set h

  pub one_more : (b : Bool) → i < length flags → b ≡ get_or flags i b → b ≡ false → length (members_of (set flags i true)) ≡ length (members_of flags) + 1
  one_more b h e f = length-set_flag 0 i flags (get_or_default flags i true b h ∙ sym e ∙ f)

  pub room : (b : Bool) → i < length flags → b ≡ get_or flags i b → b ≡ false → length (members_of flags) + 1 ≤ length flags
  room b h e f = omega (arith, one_more b h e f, length-members_from 0 (set flags i true), length-set flags i true)
