-- Lists that are made slot by slot and port by port.
use Rattle.std.proofs.Common.{◌≡◌, ℕ, suc, ◌+◌, ◌<◌, List, [], ◌∷◌, ◌++◌, length, get_or, map, take, sym, ap, ◌∙◌, arith, append-nil}
use Rattle.std.specs.List.{flat_map, range_with_len}
use Rattle.std.proofs.lemmas.List.{map-append, take_more}
use Rattle.std.proofs.lemmas.List.Concat.{flat_map-append}
use Rattle.metis_ids.proofs.Lists.{range_next}

-- one more slot, the slots counted from 1
pub slots_more : {X : Type 0} (f : ℕ → X) (n : ℕ) → map f (range_with_len 1 (n + 1)) ≡ map f (range_with_len 1 n) ++ f (n + 1) ∷ []
slots_more f n =
    let next : n + 1 ≡ suc n = omega arith in
    let same : 1 + n ≡ n + 1 = omega arith in
    ap (λ k. map f (range_with_len 1 k)) next ∙ ap (map f) (range_next 1 n ∙ ap (λ k. range_with_len 1 n ++ k ∷ []) same) ∙ map-append f (range_with_len 1 n) ((n + 1) ∷ [])

-- one more port
pub ports_more : {X : Type 0} (f : ℕ → List X) (ports : List ℕ) (i r : ℕ) → i < length ports → r ≡ get_or ports i r → flat_map f (take (i + 1) ports) ≡ flat_map f (take i ports) ++ f r
ports_more f ports i r low at =
    ap (flat_map f) (take_more ports i r low ∙ ap (λ q. take i ports ++ q ∷ []) (sym at)) ∙ flat_map-append f (take i ports) (r ∷ []) ∙ ap (λ xs. flat_map f (take i ports) ++ xs) (append-nil (f r))
