-- What a sorted insertion into a list of numbers has: for callers of `PairSet::add`.
use Rattle.std.proofs.Common.{◌≡◌, ℕ, Bool, true, false, ◌||◌, List, [], ◌∷◌, length, ◌+◌, eqb, refl, ap, ◌∙◌, arith}
use Rattle.std.proofs.lemmas.Bool.Decides.{nat_tests}
use Rattle.std.specs.List.{list_any}
use Rattle.std.specs.Ordering.{nat_cmp, match_ordering}
use Rattle.std.specs.declared.cmp.Ordering.TheVariants.{Less, Equal, Greater}
use Rattle.std.specs.BTreeSet.{insert_key}

or_twice : (a b : Bool) → (a || b) ≡ (a || (a || b))
or_twice true b = refl
or_twice false b = refl

or_swap : (a b c : Bool) → (a || (b || c)) ≡ (b || (a || c))
or_swap true true c = refl
or_swap true false c = refl
or_swap false true c = refl
or_swap false false c = refl

same_test : (n x r : ℕ) → nat_cmp n x ≡ Equal → eqb n r ≡ eqb x r
same_test n x r e = let s : n ≡ x = grind (arith, nat_tests) in ap (λ k. eqb k r) s

-- the number itself, and what the list had
pub has-insert_key : (xs : List ℕ) (n r : ℕ) → list_any (λ q. eqb q r) (insert_key nat_cmp xs n) ≡ (eqb n r || list_any (λ q. eqb q r) xs)
has-insert_key [] n r = refl
has-insert_key (x ∷ xs) n r =
    elim (nat_cmp n x) as (λ o. nat_cmp n x ≡ o → list_any (λ q. eqb q r) (match_ordering o (n ∷ x ∷ xs) (x ∷ xs) (x ∷ insert_key nat_cmp xs n)) ≡ (eqb n r || list_any (λ q. eqb q r) (x ∷ xs))) [
      | Less ↦ λ _. refl
      | Equal ↦ λ e. rw (same_test n x r e) (or_twice (eqb x r) (list_any (λ q. eqb q r) xs))
      | Greater ↦ λ _. ap (λ b. eqb x r || b) (has-insert_key xs n r) ∙ or_swap (eqb x r) (eqb n r) (list_any (λ q. eqb q r) xs)
    ] refl

or_false : (a b : Bool) → (a || b) ≡ false → (a ≡ false) × (b ≡ false)
or_false true b h = absurd (cc)
or_false false b h = (refl, h)

equal_test : (n x : ℕ) → nat_cmp n x ≡ Equal → eqb x n ≡ false → ⊥
equal_test n x e h = grind (arith, nat_tests)

-- one more where it was not there
pub length-insert_key : (xs : List ℕ) (n : ℕ) → list_any (λ q. eqb q n) xs ≡ false → length (insert_key nat_cmp xs n) ≡ length xs + 1
length-insert_key [] n h = refl
length-insert_key (x ∷ xs) n h =
    let apart = or_false (eqb x n) (list_any (λ q. eqb q n) xs) h in
    elim (nat_cmp n x) as (λ o. nat_cmp n x ≡ o → length (match_ordering o (n ∷ x ∷ xs) (x ∷ xs) (x ∷ insert_key nat_cmp xs n)) ≡ length (x ∷ xs) + 1) [
      | Less ↦ λ _. omega arith
      | Equal ↦ λ e. absurd (equal_test n x e apart.0)
      | Greater ↦ λ _. omega (arith, length-insert_key xs n apart.1)
    ] refl
