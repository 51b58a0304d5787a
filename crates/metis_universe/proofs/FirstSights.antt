-- Names in the order in which they are first seen.
use Rattle.std.proofs.Common.{◌≡◌, ℕ, suc, zero, IsTrue, ◌+◌, ◌<◌, ◌≤◌, arith, Bool, true, false, cond, List, [], ◌∷◌, ◌++◌, length, get_or, flat_map, refl, ◌∙◌}
use Rattle.std.specs.List.{list_any, AllByRecursion, IsDistinct}
use Rattle.std.specs.Cmp.Lexicographic.{nat_list_eq_equiv}
use Rattle.std.proofs.lemmas.Bool.{or_left, or_right}
use Rattle.std.proofs.lemmas.List.Folds.{list_any-append}
use Rattle.std.proofs.lemmas.Map.Keys.{IsDistinct-push}
use Rattle.std.specs.Str.{bytes_eq}
use Rattle.std.proofs.lemmas.List.{length_push}
use Rattle.metis_ids.proofs.Tests.{bytes_same}
use Rattle.metis_universe.specs.Terms.{sights_after, with_name}

length-with_name : (seen : List (List ℕ)) (name : List ℕ) → length (with_name seen name) ≤ length seen + 1
length-with_name seen name = elim (list_any (bytes_eq name) seen) as (λ b. length (cond b seen (seen ++ name ∷ [])) ≤ length seen + 1) [
  | true ↦ omega arith
  | false ↦ omega (arith, length_push seen name)
]

pub length-sights_after : (seen names : List (List ℕ)) → length (sights_after seen names) ≤ length seen + length names
length-sights_after seen [] = omega arith
length-sights_after seen (name ∷ names) = omega (arith, length-with_name seen name, length-sights_after (with_name seen name) names)

-- ---- what the names that were seen have

seen_stays_one : (p : List ℕ → Bool) (seen : List (List ℕ)) (name : List ℕ) → list_any p seen ≡ true → list_any p (with_name seen name) ≡ true
seen_stays_one p seen name h = elim (list_any (bytes_eq name) seen) as (λ b. list_any p (cond b seen (seen ++ name ∷ [])) ≡ true) [
  | true ↦ h
  | false ↦ list_any-append p seen (name ∷ []) ∙ or_left (list_any p seen) _ h
]

pub seen_stays : (p : List ℕ → Bool) (seen names : List (List ℕ)) → list_any p seen ≡ true → list_any p (sights_after seen names) ≡ true
seen_stays p seen [] h = h
seen_stays p seen (name ∷ names) h = seen_stays p (with_name seen name) names (seen_stays_one p seen name h)

pub seen_now : (seen : List (List ℕ)) (name : List ℕ) → list_any (bytes_eq name) (with_name seen name) ≡ true
seen_now seen name = elim (list_any (bytes_eq name) seen) as (λ b. list_any (bytes_eq name) seen ≡ b → list_any (bytes_eq name) (cond b seen (seen ++ name ∷ [])) ≡ true) [
  | true ↦ λ e. e
  | false ↦ λ e. list_any-append (bytes_eq name) seen (name ∷ []) ∙ or_right (list_any (bytes_eq name) seen) _ (or_left (bytes_eq name name) false (bytes_same name))
] refl

-- each name is there
pub each_seen : (seen names : List (List ℕ)) → AllByRecursion (λ name. IsTrue (list_any (bytes_eq name) (sights_after seen names))) names
each_seen seen [] = tt
each_seen seen (name ∷ names) = (seen_stays (bytes_eq name) (with_name seen name) names (seen_now seen name), each_seen (with_name seen name) names)

pub each_append : {A : Type 0} (P : A → Type 0) (xs ys : List A) → AllByRecursion P xs → AllByRecursion P ys → AllByRecursion P (xs ++ ys)
each_append P [] ys h k = k
each_append P (x ∷ xs) ys h k = (h.0, each_append P xs ys h.1 k)

pub each_parts : {A : Type 0} (P : A → Type 0) (xs ys : List A) → AllByRecursion P (xs ++ ys) → AllByRecursion P xs × AllByRecursion P ys
each_parts P [] ys h = (tt, h)
each_parts P (x ∷ xs) ys h = let rest = each_parts P xs ys h.1 in ((h.0, rest.0), rest.1)

pub sights_keep : (P : List ℕ → Type 0) (seen names : List (List ℕ)) → AllByRecursion P seen → AllByRecursion P names → AllByRecursion P (sights_after seen names)
sights_keep P seen [] h k = h
sights_keep P seen (name ∷ names) h k =
    sights_keep P (with_name seen name) names (elim (list_any (bytes_eq name) seen) as (λ b. AllByRecursion P (cond b seen (seen ++ name ∷ []))) [ true ↦ h | false ↦ each_append P seen (name ∷ []) h (k.0, tt) ]) k.1

-- no name is there twice
pub sights_distinct : (seen names : List (List ℕ)) → IsDistinct bytes_eq seen → IsDistinct bytes_eq (sights_after seen names)
sights_distinct seen [] h = h
sights_distinct seen (name ∷ names) h =
    sights_distinct (with_name seen name) names (elim (list_any (bytes_eq name) seen) as (λ b. list_any (bytes_eq name) seen ≡ b → IsDistinct bytes_eq (cond b seen (seen ++ name ∷ []))) [
      | true ↦ λ _. h
      | false ↦ λ new. IsDistinct-push nat_list_eq_equiv seen name h new
    ] refl)

pub distinct_none : IsDistinct bytes_eq []
unfolding IsDistinct
distinct_none = tt

-- what each list has, and all of them together
pub each_of_flat_map : {A B : Type 0} (P : B → Type 0) (f : A → List B) (xs : List A) → AllByRecursion P (flat_map f xs) → (i : ℕ) (d : A) → i < length xs → AllByRecursion P (f (get_or xs i d))
each_of_flat_map P f [] h i d l = absurd (omega arith)
each_of_flat_map P f (x ∷ xs) h zero d l = (each_parts P (f x) (flat_map f xs) h).0
each_of_flat_map P f (x ∷ xs) h (suc i) d l = each_of_flat_map P f xs (each_parts P (f x) (flat_map f xs) h).1 i d (omega arith)

pub flat_map_each : {A B : Type 0} (P : B → Type 0) (f : A → List B) (xs : List A) → ((i : ℕ) (d : A) → i < length xs → AllByRecursion P (f (get_or xs i d))) → AllByRecursion P (flat_map f xs)
flat_map_each P f [] h = tt
flat_map_each P f (x ∷ xs) h = each_append P (f x) (flat_map f xs) (h 0 x (omega arith)) (flat_map_each P f xs (λ i d l. h (suc i) d (omega arith)))
