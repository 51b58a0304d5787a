-- The list of an action, among those of all.
use Rattle.std.proofs.Common.{◌≡◌, ℕ, zero, suc, ◌+◌, ◌-◌, ◌<◌, ◌≤◌, ◌^◌, List, [], length, map, get_or, ap, ◌∙◌, arith}
use Rattle.std.proofs.lemmas.List.FromFn.{length-map-range_with_len}
use Rattle.std.specs.List.{range_with_len}
use Rattle.metis_ids.specs.declared.actions.Action.{Action}
use Rattle.metis_universe.specs.Terms.{waits}
use Rattle.metis_waits.specs.Terms.{AreWaits, IsNumbered, WaitLists, list_of, waits_on_others}

map_at : (f : ℕ → List ℕ) (a n i : ℕ) → i < n → get_or (map f (range_with_len a n)) i [] ≡ f (a + i)
map_at f a zero i low = absurd (omega arith)
map_at f a (suc n) zero low = let e : a ≡ a + 0 = omega arith in ap f e
map_at f a (suc n) (suc i) low = let e : a + 1 + i ≡ a + suc i = omega arith in map_at f (a + 1) n i (omega arith) ∙ ap f e

list_of-map : (f : ℕ → List ℕ) (n k : ℕ) → 1 ≤ k → k ≤ n → list_of (map f (range_with_len 1 n)) k ≡ f k
list_of-map f n k low high = let e : 1 + (k - 1) ≡ k = omega arith in map_at f 1 n (k - 1) (omega arith) ∙ ap f e

-- there is a list for each action
pub length-each : (actions : List Action) (w : WaitLists) → AreWaits actions w → length w.each ≡ length actions
length-each actions w are = ap length are.each ∙ length-map-range_with_len (waits actions) 1 (length actions)

pub list_of-each : (actions : List Action) (w : WaitLists) (k : ℕ) → AreWaits actions w → 1 ≤ k → k ≤ length w.each → list_of w.each k ≡ waits actions k
list_of-each actions w k are low high =
    let long = length-each actions w are in
    ap (λ ls. list_of ls k) are.each ∙ list_of-map (waits actions) (length actions) k low (omega arith)

pub list_of-others : (actions : List Action) (w : WaitLists) (k : ℕ) → AreWaits actions w → 1 ≤ k → k ≤ length w.each → list_of w.others k ≡ waits_on_others actions k
list_of-others actions w k are low high =
    let long = length-each actions w are in
    ap (λ ls. list_of ls k) are.others ∙ list_of-map (waits_on_others actions) (length actions) k low (omega arith)

-- as many lists of each kind as there are actions so far, and few enough
pub numbered : (actions : List Action) (i : ℕ) (each others : List (List ℕ)) → each ≡ map (waits actions) (range_with_len 1 i) → others ≡ map (waits_on_others actions) (range_with_len 1 i) → i < 2 ^ 32 → IsNumbered each others
numbered actions i each others is other_is few =
    let long = ap length is ∙ length-map-range_with_len (waits actions) 1 i in
    let other_long = ap length other_is ∙ length-map-range_with_len (waits_on_others actions) 1 i in
    record { alike = omega arith; few = omega arith }
