-- Tests of numbers and of bytes.
use Rattle.std.proofs.Common.{◌≡◌, ℕ, ◌<◌, ◌≤◌, true, false, cond, List, max, nat_eq, refl, sym, ap, ◌∙◌, arith, inl, inr}
use Rattle.std.specs.Bool.{◌==◌}
use Rattle.std.specs.Cmp.{nat_cmp_is}
use Rattle.std.specs.Ordering.{is_lt, nat_cmp, ord_max}
use Rattle.std.specs.Str.{bytes_eq}
use Rattle.std.specs.declared.cmp.Ordering.TheVariants.{Less, Equal, Greater}
use Rattle.std.proofs.lemmas.Bool.{cases_eq, cases_lt, false_from_ne_true}
use Rattle.std.proofs.lemmas.Bool.Decides.{nat_tests}
use Rattle.std.proofs.lemmas.Slice.Eq.{bytes_eq-Decides}

pub eq_comm : (a b : ℕ) → nat_eq a b ≡ nat_eq b a
eq_comm a b = grind (arith, nat_tests)

pub nonzero : (n : ℕ) → 1 ≤ n → (n == 0) ≡ false
nonzero n some = grind (arith, nat_tests)

pub cmp_less : (a b : ℕ) → a < b → nat_cmp a b ≡ Less
cmp_less a b h = grind (arith, nat_tests)

pub cmp_equal : (a b : ℕ) → nat_cmp a b ≡ Equal → a ≡ b
cmp_equal a b h = grind (arith, nat_tests)

pub less_apart : (a b : ℕ) → nat_cmp a b ≡ Less → nat_eq b a ≡ false
less_apart a b h = grind (arith, nat_tests)

pub ord_max_is : (a b : ℕ) → ord_max nat_cmp a b ≡ max a b
ord_max_is a b = elim (cases_lt b a) [
  | inl less ↦ ap (λ o. cond (is_lt o) a b) (sym (nat_cmp_is b a Less less)) ∙ omega arith
  | inr more ↦ elim (cases_eq b a) [
    | inl same ↦ ap (λ o. cond (is_lt o) a b) (sym (nat_cmp_is b a Equal same)) ∙ omega arith
    | inr other ↦ ap (λ o. cond (is_lt o) a b) (sym (nat_cmp_is b a Greater (omega arith))) ∙ omega arith
  ]
]

-- a number that fails, and before which all pass, is one
pub least_is_one : (P : ℕ → Type 0) (j k : ℕ) → (P j → ⊥) → (P k → ⊥) → ((i : ℕ) → i < j → P i) → ((i : ℕ) → i < k → P i) → j ≡ k
least_is_one P j k one two below_j below_k = elim (cases_lt j k) [
  | inl low ↦ absurd (one (below_k j low))
  | inr high ↦ elim (cases_lt k j) [
    | inl low ↦ absurd (two (below_j k low))
    | inr same ↦ omega arith
  ]
]

pub bytes_same : (a : List ℕ) → bytes_eq a a ≡ true
bytes_same a = (bytes_eq-Decides a a).1 refl

pub bytes_apart : (a b : List ℕ) → (a ≡ b → ⊥) → bytes_eq a b ≡ false
bytes_apart a b apart = false_from_ne_true (bytes_eq a b) (λ e. apart ((bytes_eq-Decides a b).0 e))
