-- The scan over a host's deletes gives the further waits of a New on it.
use Rattle.std.proofs.Common.{◌≡◌, ℕ, zero, suc, ◌+◌, List, [], ◌∷◌, refl, sym, ap, ◌∙◌, arith, leb, length, map, take}
use Rattle.std.specs.List.{AllByRecursion, find, range_with_len}
use Rattle.std.specs.Option.{option_map_or}
use Rattle.std.proofs.lemmas.List.{length-map}
use Rattle.std.proofs.lemmas.List.Sums.{sum_by-cons}
use Rattle.metis_ids.specs.declared.actions.Action.{Action}
use Rattle.metis_universe.specs.Terms.{action_at}
use Rattle.metis_place.specs.Terms.{HostLists, Seat, freed, freed_by, freed_sum, is_enough, made_size, room_of, shortest, shortest_deletes}

-- each delete stands with the size that it frees
abbrev pub AreFreed : List Action → List Seat → List (ℕ × ℕ) → Type 0
AreFreed A S es = AllByRecursion (λ e. e.1 ≡ option_map_or (freed_by S) (action_at A e.0) 0) es

numbers_taken : (es : List (ℕ × ℕ)) (n : ℕ) → map (λ (e : ℕ × ℕ). e.0) (take n es) ≡ take n (map (λ (e : ℕ × ℕ). e.0) es)
numbers_taken [] zero = refl
numbers_taken [] (suc n) = refl
numbers_taken (e ∷ es) zero = refl
numbers_taken (e ∷ es) (suc n) = ap (λ l. e.0 ∷ l) (numbers_taken es n)

freed_same : (A : List Action) (S : List Seat) (es : List (ℕ × ℕ)) (n : ℕ) → AreFreed A S es → freed_sum (take n es) ≡ freed A S (take n (map (λ (e : ℕ × ℕ). e.0) es))
freed_same A S [] zero h = refl
freed_same A S [] (suc n) h = refl
freed_same A S (e ∷ es) zero h = refl
freed_same A S (e ∷ es) (suc n) h =
    let rest = freed_same A S es n h.1 in
    let one = sum_by-cons (λ (x : ℕ × ℕ). x.1) e (take n es) in
    let other = sum_by-cons (λ j. option_map_or (freed_by S) (action_at A j) 0) e.0 (take n (map (λ (e : ℕ × ℕ). e.0) es)) in
    let here = h.0 in
    omega arith

pub further_is : (h : HostLists) (A : List Action) (S : List Seat) (i : ℕ) (es : List (ℕ × ℕ)) → AreFreed A S es → shortest_deletes (room_of h i) (made_size S i) es ≡ shortest (is_enough h A S i) (map (λ (e : ℕ × ℕ). e.0) es)
further_is h A S i es freed_es =
    let ks = map (λ (e : ℕ × ℕ). e.0) es in
    let long : length es ≡ length ks = sym (length-map es (λ (e : ℕ × ℕ). e.0)) in
    let same = λ (n : ℕ). ap (λ m. leb (made_size S i) (room_of h i + m)) (freed_same A S es n freed_es) in
    (λ j. option_map_or (λ n. map (λ (e : ℕ × ℕ). e.0) (take n es)) (find (λ n. same n j) (range_with_len 0 (long j + 1))) [])
    ∙ (λ j. option_map_or (λ n. numbers_taken es n j) (find (λ n. is_enough h A S i (take n ks)) (range_with_len 0 (length ks + 1))) [])
