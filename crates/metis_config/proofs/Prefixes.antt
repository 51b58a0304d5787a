-- What stands in order from a start on, where a walk stops at the first with another front.
use Rattle.std.proofs.Common.{◌≡◌, ℕ, Bool, true, false, cond, ◌&&◌, ◌||◌, List, [], ◌∷◌, Some, None, refl, ap, ◌∙◌, nat_eq, arith}
use Rattle.std.specs.List.{list_any, find, filter, AllByRecursion}
use Rattle.std.specs.List.Sorted.{IsStrictlySortedBy}
use Rattle.std.specs.Ordering.{is_le}
use Rattle.std.specs.declared.cmp.Ordering.TheVariants.{Less}
use Rattle.std.proofs.lemmas.Bool.{both_ways}
use Rattle.std.proofs.lemmas.Bool.Decides.{nat_tests}
use Rattle.std.proofs.lemmas.List.Kept.{IsStrictlySortedBy-filter}
use Rattle.metis_universe.specs.Terms.{Binding, binding_cmp}

-- whether the binding stands at the start or later
abbrev pub is_from : Binding → Binding → Bool
is_from start b = is_le (binding_cmp start b) && true

-- in order, and none earlier than the start
pub record IsRest (start : Binding) (xs : List Binding) : Type 0 where
  pub in_order : IsStrictlySortedBy binding_cmp xs
  pub from : AllByRecursion (λ b. is_from start b ≡ true) xs

each_from : (start : Binding) (xs : List Binding) → AllByRecursion (λ b. is_from start b ≡ true) (filter (is_from start) xs)
each_from start [] = tt
each_from start (x ∷ xs) =
    elim (is_from start x) as (λ b. is_from start x ≡ b → AllByRecursion (λ b. is_from start b ≡ true) (cond b (x ∷ filter (is_from start) xs) (filter (is_from start) xs))) [
      | true ↦ λ at. (at, each_from start xs)
      | false ↦ λ _. each_from start xs
    ] refl

pub IsRest-filter : (start : Binding) (xs : List Binding) → IsStrictlySortedBy binding_cmp xs → IsRest start (filter (is_from start) xs)
IsRest-filter start xs s = record { in_order = IsStrictlySortedBy-filter binding_cmp (is_from start) xs s; from = each_from start xs }

pub IsRest-tail : (start x : Binding) (xs : List Binding) → IsRest start (x ∷ xs) → IsRest start xs
unfolding IsStrictlySortedBy
IsRest-tail start x xs k = record { in_order = k.in_order.1; from = k.from.1 }

-- a test that only what stands from the start on can pass
pub any-from : (start : Binding) (t : Binding → Bool) → ((b : Binding) → t b ≡ true → is_from start b ≡ true) → (xs : List Binding) → list_any t (filter (is_from start) xs) ≡ list_any t xs
any-from start t h [] = refl
any-from start t h (x ∷ xs) =
    elim (is_from start x) as (λ b. is_from start x ≡ b → list_any t (cond b (x ∷ filter (is_from start) xs) (filter (is_from start) xs)) ≡ (t x || list_any t xs)) [
      | true ↦ λ _. ap (λ b. t x || b) (any-from start t h xs)
      | false ↦ λ out. elim (t x) as (λ b. t x ≡ b → list_any t (filter (is_from start) xs) ≡ (b || list_any t xs)) [
        | true ↦ λ at. absurd (both_ways _ out (h x at))
        | false ↦ λ _. any-from start t h xs
      ] refl
    ] refl

pub find-from : (start : Binding) (t : Binding → Bool) → ((b : Binding) → t b ≡ true → is_from start b ≡ true) → (xs : List Binding) → find t (filter (is_from start) xs) ≡ find t xs
find-from start t h [] = refl
find-from start t h (x ∷ xs) =
    elim (is_from start x) as (λ b. is_from start x ≡ b → find t (cond b (x ∷ filter (is_from start) xs) (filter (is_from start) xs)) ≡ cond (t x) (Some x) (find t xs)) [
      | true ↦ λ _. ap (λ o. cond (t x) (Some x) o) (find-from start t h xs)
      | false ↦ λ out. elim (t x) as (λ b. t x ≡ b → find t (filter (is_from start) xs) ≡ cond b (Some x) (find t xs)) [
        | true ↦ λ at. absurd (both_ways _ out (h x at))
        | false ↦ λ _. find-from start t h xs
      ] refl
    ] refl

pub any_none : (t : Binding → Bool) (xs : List Binding) → AllByRecursion (λ b. t b ≡ false) xs → list_any t xs ≡ false
any_none t [] h = refl
any_none t (x ∷ xs) h = λ i. h.0 i || any_none t xs h.1 i

pub find_none : (t : Binding → Bool) (xs : List Binding) → AllByRecursion (λ b. t b ≡ false) xs → find t xs ≡ None
find_none t [] h = refl
find_none t (x ∷ xs) h = ap (λ b. cond b (Some x) (find t xs)) h.0 ∙ find_none t xs h.1

pub each_after : (P : Binding → Type 0) (x : Binding) (xs : List Binding) → ((b : Binding) → binding_cmp x b ≡ Less → P b) → AllByRecursion (λ b. binding_cmp x b ≡ Less) xs → AllByRecursion P xs
each_after P x [] h s = tt
each_after P x (b ∷ xs) h s = (h b s.0, each_after P x xs h s.1)

-- ---- a front of one number, as a provider

head_from : (z a b c : ℕ) → nat_eq a z ≡ true → is_from (z, 0, 0) (a, b, c) ≡ true
head_from z a b c h = grind (arith, nat_tests)

pub has_head-from : (z : ℕ) (b : Binding) → nat_eq b.0 z ≡ true → is_from (z, 0, 0) b ≡ true
has_head-from z b h = head_from z b.0 b.1 b.2 h

head_past : (q a b c x y z : ℕ) → is_from (q, 0, 0) (a, b, c) ≡ true → nat_eq a q ≡ false → binding_cmp (a, b, c) (x, y, z) ≡ Less → nat_eq x q ≡ false
head_past q a b c x y z h n l = grind (arith, nat_tests)

pub no_head_after : (q : ℕ) (x : Binding) (xs : List Binding) → IsRest (q, 0, 0) (x ∷ xs) → nat_eq x.0 q ≡ false → AllByRecursion (λ b. nat_eq b.0 q ≡ false) (x ∷ xs)
unfolding IsStrictlySortedBy
no_head_after q x xs k n = (n, each_after (λ b. nat_eq b.0 q ≡ false) x xs (λ b l. head_past q x.0 x.1 x.2 b.0 b.1 b.2 k.from.0 n l) k.in_order.0)

-- where one test fails for each, one that it rules out does too
pub each_weaker : (t t' : Binding → Bool) → ((b : Binding) → t b ≡ false → t' b ≡ false) → (xs : List Binding) → AllByRecursion (λ b. t b ≡ false) xs → AllByRecursion (λ b. t' b ≡ false) xs
each_weaker t t' h [] all = tt
each_weaker t t' h (x ∷ xs) all = (h x all.0, each_weaker t t' h xs all.1)
