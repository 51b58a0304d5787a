-- Numbers that ascend between two bounds, by test and by place.
use Rattle.std.proofs.Common.{◌≡◌, ℕ, zero, suc, ◌+◌, ◌<◌, ◌≤◌, true, ◌&&◌, List, [], ◌∷◌, get_or, refl, subst, arith}
use Rattle.std.specs.Bool.{nat_lt}
use Rattle.std.specs.List.{All, AllByRecursion}
use Rattle.std.specs.List.Sorted.{IsStrictlyIncreasing}
use Rattle.std.proofs.lemmas.Bool.{and_from, and_parts, lt-ltb, ltb-true}
use Rattle.std.proofs.lemmas.List.Elements.{All-from_recursion, recursion_from_All}
use Rattle.metis_universe.proofs.PortRows.{Rises, rises}
use Rattle.metis_text.specs.Terms.{rise}

pub increasing : (xs : List ℕ) → Rises xs → IsStrictlyIncreasing xs
increasing [] r k l = absurd (omega arith)
increasing (x ∷ []) r k l = absurd (omega arith)
increasing (x ∷ y ∷ xs) r zero l = r.0.0
increasing (x ∷ y ∷ xs) r (suc k) l =
    let next : suc (k + 1) ≡ suc k + 1 = omega arith in
    subst (λ n. get_or (x ∷ y ∷ xs) (suc k) 0 < get_or (x ∷ y ∷ xs) n 0) next (increasing (y ∷ xs) r.1 k (omega arith))

-- from below and from above
abbrev pub Between : ℕ → ℕ → List ℕ → Type 0
Between low high xs = AllByRecursion (λ m. (low < m) × (m < high)) xs

all_above : (low m high : ℕ) (xs : List ℕ) → low < m → Between m high xs → Between low high xs × AllByRecursion (λ x. m < x) xs
all_above low m high [] less h = (tt, tt)
all_above low m high (x ∷ xs) less h = let rest = all_above low m high xs less h.1 in (((omega (arith, h.0.0), h.0.1), rest.0), (h.0.0, rest.1))

rises_between : (low high : ℕ) (xs : List ℕ) → rise low high xs ≡ true → Rises xs × Between low high xs
rises_between low high [] h = (tt, tt)
rises_between low high (m ∷ xs) h =
    let both = and_parts (nat_lt low m && nat_lt m high) (rise m high xs) h in
    let ends = and_parts (nat_lt low m) (nat_lt m high) both.0 in
    let less = ltb-true low m ends.0 in
    let rest = rises_between m high xs both.1 in
    let above = all_above low m high xs less rest.1 in
    ((above.1, rest.0), ((less, ltb-true m high ends.1), above.0))

raised : (m low high : ℕ) (xs : List ℕ) → AllByRecursion (λ x. m < x) xs → Between low high xs → Between m high xs
raised m low high [] up h = tt
raised m low high (x ∷ xs) up h = ((up.0, h.0.1), raised m low high xs up.1 h.1)

rise_from : (low high : ℕ) (xs : List ℕ) → Rises xs → Between low high xs → rise low high xs ≡ true
rise_from low high [] r h = refl
rise_from low high (m ∷ xs) r h = and_from _ _ (and_from _ _ (lt-ltb low m h.0.0) (lt-ltb m high h.0.1)) (rise_from m high xs r.1 (raised m low high xs r.0 h.1))

-- ---- the numbers of the list of action number k

pub rise_is : (k : ℕ) (ks : List ℕ) → rise 0 k ks ≡ true → IsStrictlyIncreasing ks × All (λ m. (1 ≤ m) × (m < k)) ks
rise_is k ks h =
    let both = rises_between 0 k ks h in
    (increasing ks both.0, λ i d l. let at = All-from_recursion (λ m. (0 < m) × (m < k)) ks both.1 i d l in (omega (arith, at.0), at.1))

pub is_rise : (k : ℕ) (ks : List ℕ) → IsStrictlyIncreasing ks → All (λ m. (1 ≤ m) × (m < k)) ks → rise 0 k ks ≡ true
is_rise k ks up within =
    rise_from 0 k ks (rises ks up) (recursion_from_All (λ m. (0 < m) × (m < k)) ks (λ i d l. let at = within i d l in (omega (arith, at.0), at.1)))
