-- The lines of a script.
use Rattle.std.proofs.Common.{◌≡◌, ℕ, ◌+◌, ◌-◌, ◌≤◌, nat_eq, Bool, true, false, cond, List, [], ◌∷◌, ◌++◌, map, take, get_or, refl, sym, ap, ◌∙◌, arith}
use Rattle.std.proofs.lemmas.Bool.{cond-false, cond-true}
use Rattle.std.proofs.lemmas.Bool.Decides.{nat_tests}
use Rattle.std.proofs.lemmas.List.{map-append, take_all, take_more}
use Rattle.std.specs.Prelude.{length}
use Rattle.metis_universe.specs.Terms.{is_empty}
use Rattle.metis_tokens.specs.Terms.{without_empty_end}

pub counted_empty : (xs : List ℕ) → nat_eq (length xs) 0 ≡ is_empty xs
counted_empty [] = refl
counted_empty (x ∷ xs) = grind (arith, nat_tests)

same_start : (b : Bool) (y : List ℕ) (xs ys : List (List ℕ)) → cond b (y ∷ xs) (y ∷ ys) ≡ y ∷ cond b xs ys
same_start true y xs ys = refl
same_start false y xs ys = refl

-- a last piece counts where it is not empty
pub without_empty_end-append : (xs : List (List ℕ)) (x : List ℕ) → without_empty_end (xs ++ x ∷ []) ≡ cond (is_empty x) xs (xs ++ x ∷ [])
without_empty_end-append [] x = refl
without_empty_end-append (y ∷ []) x = sym (same_start (is_empty x) y [] (x ∷ []))
without_empty_end-append (y ∷ z ∷ xs) x = ap (λ l. y ∷ l) (without_empty_end-append (z ∷ xs) x) ∙ sym (same_start (is_empty x) y (z ∷ xs) (z ∷ xs ++ x ∷ []))

-- the last of some pieces that are lent
module _ {A : Type 0} (v : A → List ℕ) (ws : List A) (d : A) (some : 1 ≤ length ws) where
  abbrev before : List (List ℕ)
  before = map v (take (length ws - 1) ws)

  abbrev last : List ℕ
  last = v (get_or ws (length ws - 1) d)

  ends : map v ws ≡ before ++ last ∷ []
  ends =
      let all : take (length ws - 1 + 1) ws ≡ ws = take_all (length ws - 1 + 1) ws (omega arith) in
      ap (map v) (sym all) ∙ ap (map v) (take_more ws (length ws - 1) d (omega arith)) ∙ map-append v (take (length ws - 1) ws) (get_or ws (length ws - 1) d ∷ [])

  pub empty_end : nat_eq (length last) 0 ≡ true → before ≡ without_empty_end (map v ws)
  empty_end none = sym (ap without_empty_end ends ∙ without_empty_end-append before last ∙ cond-true (is_empty last) before (before ++ last ∷ []) (sym (counted_empty last) ∙ none))

  pub other_end : nat_eq (length last) 0 ≡ false → map v ws ≡ without_empty_end (map v ws)
  other_end more = ends ∙ sym (ap without_empty_end ends ∙ without_empty_end-append before last ∙ cond-false (is_empty last) before (before ++ last ∷ []) (sym (counted_empty last) ∙ more))
