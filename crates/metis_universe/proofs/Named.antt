-- Names among lists.
use Rattle.std.proofs.Common.{◌≡◌, ℕ, ◌+◌, ◌<◌, Bool, true, false, cond, List, [], ◌∷◌, map, length, position, refl, ap, sym, ◌∙◌, suc, zero, Option, None, Some, IfSome, not, arith}
use Rattle.std.specs.List.{prefix_len, slice_index_or}
use Rattle.std.specs.Str.{bytes_eq}
use Rattle.std.proofs.lemmas.Bool.{both_ways}
use Rattle.std.proofs.lemmas.List.{length-map}
use Rattle.std.proofs.lemmas.List.Quantifiers.{position-Some}
use Rattle.std.proofs.lemmas.Slice.Eq.{bytes_eq-Decides}
use Rattle.metis_universe.specs.Terms.{Kind, kinds_of, no_kind}

-- names differ from either side
pub turned : (a b : List ℕ) → bytes_eq a b ≡ false → bytes_eq b a ≡ false
turned a b apart = elim (bytes_eq b a) as (λ t. bytes_eq b a ≡ t → t ≡ false) [
  | true ↦ λ is. absurd (both_ways (bytes_eq a b) apart ((bytes_eq-Decides a b).1 (sym ((bytes_eq-Decides b a).0 is))))
  | false ↦ λ _. refl
] refl

prefix_len-map : {A B : Type 0} (f : A → B) (p : B → Bool) (xs : List A) → prefix_len p (map f xs) ≡ prefix_len (λ x. p (f x)) xs
prefix_len-map f p [] = refl
prefix_len-map f p (x ∷ xs) = ap (λ n. cond (p (f x)) (1 + n) 0) (prefix_len-map f p xs)

pub position-map : {A B : Type 0} (f : A → B) (p : B → Bool) (xs : List A) → position p (map f xs) ≡ position (λ x. p (f x)) xs
position-map f p xs = rw (prefix_len-map f (λ x. not (p x)) xs, length-map xs f) refl

names-kinds_of : (names : List (List ℕ)) (initials : List ℕ) → map (λ (k : Kind). k.name) (kinds_of names initials) ≡ names
names-kinds_of [] initials = refl
names-kinds_of (name ∷ names) [] = ap (λ ns. name ∷ ns) (names-kinds_of names [])
names-kinds_of (name ∷ names) (p ∷ initials) = ap (λ ns. name ∷ ns) (names-kinds_of names initials)

pub length-kinds_of : (names : List (List ℕ)) (initials : List ℕ) → length (kinds_of names initials) ≡ length names
length-kinds_of names initials = sym (length-map (kinds_of names initials) (λ (k : Kind). k.name)) ∙ ap length (names-kinds_of names initials)

pub position-kinds_of : (name : List ℕ) (names : List (List ℕ)) (initials : List ℕ) → position (λ k. bytes_eq name k.name) (kinds_of names initials) ≡ position (bytes_eq name) names
position-kinds_of name names initials = sym (position-map (λ (k : Kind). k.name) (bytes_eq name) (kinds_of names initials)) ∙ ap (position (bytes_eq name)) (names-kinds_of names initials)

pub name-kinds_of : (names : List (List ℕ)) (initials : List ℕ) (t : ℕ) → (slice_index_or (kinds_of names initials) t no_kind).name ≡ slice_index_or names t []
name-kinds_of [] initials t = refl
name-kinds_of (name ∷ names) [] zero = refl
name-kinds_of (name ∷ names) (p ∷ initials) zero = refl
name-kinds_of (name ∷ names) [] (suc t) = name-kinds_of names [] t
name-kinds_of (name ∷ names) (p ∷ initials) (suc t) = name-kinds_of names initials t

pub initial-kinds_of : (names : List (List ℕ)) (initials : List ℕ) (t : ℕ) → t < length names → (slice_index_or (kinds_of names initials) t no_kind).initial ≡ slice_index_or initials t 0
initial-kinds_of [] initials t h = absurd (omega arith)
initial-kinds_of (name ∷ names) [] zero h = refl
initial-kinds_of (name ∷ names) (p ∷ initials) zero h = refl
initial-kinds_of (name ∷ names) [] (suc t) h = initial-kinds_of names [] t (omega arith)
initial-kinds_of (name ∷ names) (p ∷ initials) (suc t) h = initial-kinds_of names initials t (omega arith)

pub position_within : {A : Type 0} (p : A → Bool) (xs : List A) (i : ℕ) → position p xs ≡ Some i → i < length xs
position_within p [] i h = cc
position_within p (x ∷ xs) i h = (position-Some p (x ∷ xs) i x h).0

pub some_within : {A : Type 0} (p : A → Bool) (xs : List A) (found : Option ℕ) → found ≡ position p xs → IfSome found (λ i. i < length xs)
some_within p xs None is = tt
some_within p xs (Some i) is = position_within p xs i (sym is)
