-- How often a number stands in a list, and the greatest number of a list.
use Rattle.std.proofs.Common.{◌≡◌, ℕ, ◌+◌, List, [], ◌∷◌, ◌++◌, length, max, ap, ◌∙◌, arith, nat_eq, length-append}
use Rattle.std.specs.List.{filter}
use Rattle.std.proofs.lemmas.List.Elements.{filter-append}
use Rattle.metis_ids.specs.Terms.{greatest, occurrences}

pub occurrences-append : (n : ℕ) (xs ys : List ℕ) → occurrences n (xs ++ ys) ≡ occurrences n xs + occurrences n ys
occurrences-append n xs ys = ap length (filter-append (λ x. nat_eq x n) xs ys) ∙ length-append (filter (λ x. nat_eq x n) xs) (filter (λ x. nat_eq x n) ys)

pub greatest_push : (xs : List ℕ) (y : ℕ) → greatest (xs ++ y ∷ []) ≡ max (greatest xs) y
greatest_push [] y = omega arith
greatest_push (x ∷ xs) y = let rest = greatest_push xs y in omega arith
