-- The lists behind the actions of a text.
use Rattle.std.proofs.Common.{◌≡◌, ℕ, suc, ◌+◌, ◌<◌, List, [], length, get_or, map, sym, ap, ◌∙◌, arith}
use Rattle.std.proofs.lemmas.List.{get_or-map}
use Rattle.metis_text.specs.Terms.{after_of}

-- what stands behind the action of the number behind a place
pub listed : {V : Type 0} (f : V → List ℕ) (xs : List V) (i : ℕ) (v : V) → i < length xs → v ≡ get_or xs i v → f v ≡ after_of (map f xs) (i + 1)
listed f xs i v low is =
    let step : suc i ≡ i + 1 = omega arith in
    ap f is ∙ sym (get_or-map f xs i v [] low) ∙ ap (after_of (map f xs)) step
