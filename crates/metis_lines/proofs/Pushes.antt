-- What a test finds in a list with one more element.
use Rattle.std.proofs.Common.{◌≡◌, suc, ◌+◌, Bool, true, false, cond, not, ◌||◌, List, [], ◌∷◌, ◌++◌, length, ap, ◌∙◌, arith, nat_eq}
use Rattle.std.specs.List.{list_any, position_or_len}
use Rattle.std.proofs.lemmas.Bool.{or_parts, cond-false, ne_eqb}
use Rattle.std.proofs.lemmas.List.Folds.{position_or_len_push}
use Rattle.metis_support.proofs.Lists.{first_passes}

pub any_push : {X : Type 0} (t : X → Bool) (xs : List X) (y : X) → t y ≡ false → list_any t (xs ++ y ∷ []) ≡ list_any t xs
any_push t [] y none = ap (λ b. b || false) none
any_push t (x ∷ xs) y none = ap (λ b. t x || b) (any_push t xs y none)

-- where some element passes, the first is the same
pub first_push : {X : Type 0} (t : X → Bool) (xs : List X) (y d : X) → list_any t xs ≡ true → position_or_len t (xs ++ y ∷ []) ≡ position_or_len t xs
first_push t xs y d some =
    let low = (first_passes t xs d some).low in
    position_or_len_push t xs y ∙ cond-false (nat_eq (position_or_len t xs) (length xs)) _ _ (ne_eqb (position_or_len t xs) (length xs) (λ e. omega arith))

-- where none does, the new one is, if it passes
pub new_first : {X : Type 0} (t : X → Bool) (xs : List X) (y : X) → list_any t xs ≡ false → t y ≡ true → position_or_len t (xs ++ y ∷ []) ≡ length xs
new_first t [] y none passes = ap (λ b. cond (not b) (1 + 0) 0) passes
new_first t (x ∷ xs) y none passes =
    let parts = or_parts (t x) (list_any t xs) none in
    let rest = new_first t xs y parts.1 passes in
    let more : 1 + position_or_len t (xs ++ y ∷ []) ≡ suc (length xs) = omega arith in
    ap (λ b. cond (not b) (1 + position_or_len t (xs ++ y ∷ [])) 0) parts.0 ∙ more
