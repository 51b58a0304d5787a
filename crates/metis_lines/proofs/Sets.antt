-- Sets of pairs that grow by a list, and by the origins of a list.
use Rattle.std.proofs.Common.{◌≡◌, ℕ, ◌<◌, ◌+◌, Bool, true, false, not, ◌&&◌, ◌||◌, List, [], ◌∷◌, ◌++◌, length, take, get_or, Some, refl, sym, ap, ◌∙◌, append_assoc, nat_eq}
use Rattle.std.specs.List.{list_any}
use Rattle.std.proofs.lemmas.List.Folds.{list_any-append, list_any_more}
use Rattle.std.proofs.Math.Bool.{or-false}
use Rattle.metis_ids.proofs.Lists.{has_here}
use Rattle.metis_universe.specs.Terms.{has}
use Rattle.metis_support.proofs.Lists.{any-append_right}
use Rattle.metis_support.specs.Terms.{Support, is_number, origin_at}

or_turned : (a b c : Bool) → (c || (a || b)) ≡ ((a || c) || b)
or_turned true b true = refl
or_turned true b false = refl
or_turned false b c = refl

or_last : (a b c : Bool) → (c || (a || b)) ≡ (a || (b || c))
or_last true b true = refl
or_last true b false = refl
or_last false true true = refl
or_last false true false = refl
or_last false false true = refl
or_last false false false = refl

-- neither of the two
pub neither : (a b : Bool) → not (a || b) ≡ (not a && not b)
neither true b = refl
neither false b = refl

-- one more pair of a list
pub listed_more : (xs : List ℕ) (i x p : ℕ) (old now : Bool) → i < length xs → x ≡ get_or xs i x → now ≡ (has (take i xs) p || old) → (nat_eq x p || now) ≡ (has (take (i + 1) xs) p || old)
listed_more xs i x p old now low at is =
    ap (λ b. nat_eq x p || b) is ∙ or_turned (has (take i xs) p) old (nat_eq x p)
    ∙ ap (λ b. b || old) (sym (list_any_more (λ q. nat_eq q p) xs i x low ∙ ap (λ q. has (take i xs) p || nat_eq q p) (sym at)))

module _ (s : Support) where
  -- whether p is the origin of one of these
  abbrev is_origin_of : List ℕ → ℕ → Bool
  is_origin_of ys p = list_any (λ q. is_number p (origin_at s q)) ys

  -- one more pair with its origin
  pub origin_more : (ys : List ℕ) (x o p : ℕ) (old now : Bool) → origin_at s x ≡ Some o → now ≡ (old || is_origin_of ys p) → (nat_eq o p || now) ≡ (old || is_origin_of (ys ++ x ∷ []) p)
  origin_more ys x o p old now at is =
      ap (λ b. nat_eq o p || b) is ∙ or_last old (is_origin_of ys p) (nat_eq o p)
      ∙ ap (λ b. old || b) (sym (list_any-append (λ q. is_number p (origin_at s q)) ys (x ∷ []) ∙ ap (λ b. is_origin_of ys p || b) (or-false (is_number p (origin_at s x)) ∙ ap (is_number p) at)))

-- what an iteration takes is of the list
pub taken : (members yielded left rest : List ℕ) (p : ℕ) → yielded ++ left ≡ members → left ≡ p ∷ rest → has members p ≡ true
taken members yielded left rest p all next =
    ap (λ xs. has xs p) (sym all ∙ ap (λ xs. yielded ++ xs) next) ∙ any-append_right (λ q. nat_eq q p) yielded (p ∷ rest) (has_here p rest)

pub still_left : (members yielded left rest : List ℕ) (p : ℕ) → yielded ++ left ≡ members → left ≡ p ∷ rest → (yielded ++ p ∷ []) ++ rest ≡ members
still_left members yielded left rest p all next = append_assoc yielded (p ∷ []) rest ∙ ap (λ xs. yielded ++ xs) (sym next) ∙ all
