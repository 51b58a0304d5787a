-- How many of a crowd are in which pairs.
use Rattle.std.proofs.Common.{◌≡◌, ℕ, zero, suc, ◌+◌, ◌<◌, ◌≤◌, Bool, true, false, cond, List, [], ◌∷◌, ◌++◌, length, get_or, Option, Some, None, refl, ap, sym, ◌∙◌, nat_eq, arith}
use Rattle.std.specs.Prelude.{option_map, position}
use Rattle.std.specs.List.{All}
use Rattle.std.proofs.lemmas.Bool.{eqb-true}
use Rattle.std.proofs.lemmas.List.Sums.{sum_by-cons, sum_by_push}
use Rattle.std.proofs.lemmas.List.Quantifiers.{position-Some}
use Rattle.std.proofs.lemmas.List.{get_or_past}
use Rattle.metis_universe.specs.Terms.{Pair, Universe, has, no_pair, pair_count, provides}
use Rattle.metis_universe.proofs.TypePlaces.{position-cons}
use Rattle.metis_config.specs.Terms.{IsCrowd, total_of, weight}

-- each share counts at least one
pub length-le-total : (ss : List (ℕ × ℕ)) → All (λ s. 0 < s.1) ss → length ss ≤ total_of ss
length-le-total [] h = omega arith
length-le-total (s ∷ ss) h =
    let rest = length-le-total ss (λ k d l. h (suc k) d (omega arith)) in
    let first = h 0 s (omega arith) in
    omega (arith, sum_by-cons (λ (s : ℕ × ℕ). s.1) s ss)

-- where no share is of the pair, none is in it
pub weight-absent : (q : ℕ) (ss : List (ℕ × ℕ)) → position (λ s. nat_eq s.0 q) ss ≡ None → weight (λ p. nat_eq p q) ss ≡ 0
weight-absent q [] e = refl
weight-absent q (s ∷ ss) e =
    sum_by-cons (λ (s : ℕ × ℕ). cond (nat_eq s.0 q) s.1 0) s ss
    ∙ elim (nat_eq s.0 q) as (λ b. cond b (Some 0) (option_map suc (position (λ s. nat_eq s.0 q) ss)) ≡ None → cond b s.1 0 + weight (λ p. nat_eq p q) ss ≡ 0) [
      | true ↦ λ some. cc
      | false ↦ λ rest. let h = weight-absent q ss (none (position (λ s. nat_eq s.0 q) ss) rest) in omega (arith, h)
    ] (sym (position-cons (λ (s : ℕ × ℕ). nat_eq s.0 q) s ss) ∙ e) where
      none : (o : Option ℕ) → option_map suc o ≡ None → o ≡ None
      none None e = refl
      none (Some k) e = cc

-- the share at the place that was found is of the pair
pub found_pair : (q : ℕ) (ss : List (ℕ × ℕ)) (i : ℕ) → position (λ s. nat_eq s.0 q) ss ≡ Some i → (i < length ss) × ((get_or ss i (0, 0)).0 ≡ q)
found_pair q ss i e = let at = position-Some (λ (s : ℕ × ℕ). nat_eq s.0 q) ss i (0, 0) e in (at.0, eqb-true (get_or ss i (0, 0)).0 q at.1)

pub weight-push : (f : ℕ → Bool) (q : ℕ) (ss : List (ℕ × ℕ)) → weight f (ss ++ (q, 1) ∷ []) ≡ weight f ss + cond (f q) 1 0
weight-push f q ss = sum_by_push (λ (s : ℕ × ℕ). cond (f s.0) s.1 0) ss (q, 1)

pub weight-one : (f : ℕ → Bool) (q : ℕ) → weight f ((q, 1) ∷ []) ≡ cond (f q) 1 0
weight-one f q = let pushed : weight f ((q, 1) ∷ []) ≡ 0 + cond (f q) 1 0 = weight-push f q [] in omega (arith, pushed)

pub total-by_weight : (ss : List (ℕ × ℕ)) → weight (λ q. true) ss ≡ total_of ss
total-by_weight ss = refl

pub weight-le-total : (f : ℕ → Bool) (ss : List (ℕ × ℕ)) → weight f ss ≤ total_of ss
weight-le-total f [] = omega arith
weight-le-total f (s ∷ ss) =
    let rest = weight-le-total f ss in
    let a = sum_by-cons (λ (s : ℕ × ℕ). cond (f s.0) s.1 0) s ss in
    let b = sum_by-cons (λ (s : ℕ × ℕ). s.1) s ss in
    let c = at_most (f s.0) s.1 in
    omega (arith, a, b, c) where
      at_most : (b : Bool) (n : ℕ) → cond b n 0 ≤ n
      at_most true n = omega arith
      at_most false n = omega arith

pub all-push : (P : ℕ × ℕ → Type 0) (ss : List (ℕ × ℕ)) (s : ℕ × ℕ) → All P ss → P s → All P (ss ++ s ∷ [])
all-push P [] s h p zero d l = p
all-push P [] s h p (suc k) d l = absurd (omega arith)
all-push P (x ∷ ss) s h p zero d l = h 0 d (omega arith)
all-push P (x ∷ ss) s h p (suc k) d l = all-push P ss s (λ k d l. h (suc k) d (omega arith)) p k d (omega arith)

-- one more, in a pair that is listed or is not
pub entered : (ss ss' : List (ℕ × ℕ)) (total room room' : ℕ) → IsCrowd ss total room → total_of ss < room → All (λ s. 0 < s.1) ss' → total_of ss' ≡ total_of ss + 1 → room ≤ room' → IsCrowd ss' (total + 1) room'
entered ss ss' total room room' k low some one more = record { sum = omega (arith, k.sum, one); some = some; fits = omega (arith, one, low, more) }

-- past the last pair there is none that provides a port
pub provides-past : (u : Universe) (q r : ℕ) → pair_count u ≤ q → provides u q r ≡ false
provides-past u q r past = ap (λ (p : Pair). has p.provided r) (get_or_past u.pairs q no_pair past)
