-- The tables of a generated universe, by place: types, pairs and ports, each with what holds of all of them.
use Rattle.std.proofs.Common.{◌≡◌, ℕ, suc, zero, ◌+◌, ◌*◌, ◌/◌, ◌%◌, ◌<◌, List, [], get_or, refl, ap, sym, ◌∙◌, subst, zero-add, arith}
use Rattle.metis_universe.specs.Terms.{Kind, Pair, kind_at, no_kind, no_pair, pair_at, pair_count, port_count, port_name_of, type_count}
use Rattle.metis_gen.specs.Terms.{kinds_at, pairs_at, ports_at, tables}
use Rattle.metis_gen.proofs.Pieces.{length_pieces, piece_at}

-- ---- how many there are

pub types_counted : (n : ℕ) → type_count (tables n) ≡ 2 * n
unfolding tables
types_counted n = length_pieces kinds_at 2 (λ i. refl) 0 n

pub pairs_counted : (n : ℕ) → pair_count (tables n) ≡ 8 * n
unfolding tables
pairs_counted n = length_pieces pairs_at 8 (λ i. refl) 0 n

pub ports_counted : (n : ℕ) → port_count (tables n) ≡ 3 * n
unfolding tables
ports_counted n = length_pieces ports_at 3 (λ i. refl) 0 n

-- ---- those of a place

pub kind_in : (n i k : ℕ) → i < n → k < 2 → kind_at (tables n) (2 * i + k) ≡ get_or (kinds_at i) k no_kind
unfolding tables
kind_in n i k li lk = piece_at kinds_at 2 (λ j. refl) 0 n i k no_kind li lk ∙ ap (λ j. get_or (kinds_at j) k no_kind) (zero-add i)

pub pair_in : (n i k : ℕ) → i < n → k < 8 → pair_at (tables n) (8 * i + k) ≡ get_or (pairs_at i) k no_pair
unfolding tables
pair_in n i k li lk = piece_at pairs_at 8 (λ j. refl) 0 n i k no_pair li lk ∙ ap (λ j. get_or (pairs_at j) k no_pair) (zero-add i)

pub port_in : (n i k : ℕ) → i < n → k < 3 → port_name_of (tables n) (3 * i + k) ≡ get_or (ports_at i) k []
unfolding tables
port_in n i k li lk = piece_at ports_at 3 (λ j. refl) 0 n i k [] li lk ∙ ap (λ j. get_or (ports_at j) k []) (zero-add i)

-- ---- what holds of each

pub each_of_two : (P : ℕ → Type 0) → P 0 → P 1 → (k : ℕ) → k < 2 → P k
each_of_two P a b zero l = a
each_of_two P a b (suc zero) l = b
each_of_two P a b (suc (suc k)) l = absurd (omega arith)

pub each_of_three : (P : ℕ → Type 0) → P 0 → P 1 → P 2 → (k : ℕ) → k < 3 → P k
each_of_three P a b c zero l = a
each_of_three P a b c (suc zero) l = b
each_of_three P a b c (suc (suc zero)) l = c
each_of_three P a b c (suc (suc (suc k))) l = absurd (omega arith)

pub each_of_eight : (P : ℕ → Type 0) → P 0 → P 1 → P 2 → P 3 → P 4 → P 5 → P 6 → P 7 → (k : ℕ) → k < 8 → P k
each_of_eight P a b c d e f g h zero l = a
each_of_eight P a b c d e f g h (suc zero) l = b
each_of_eight P a b c d e f g h (suc (suc zero)) l = c
each_of_eight P a b c d e f g h (suc (suc (suc zero))) l = d
each_of_eight P a b c d e f g h (suc (suc (suc (suc zero)))) l = e
each_of_eight P a b c d e f g h (suc (suc (suc (suc (suc zero))))) l = f
each_of_eight P a b c d e f g h (suc (suc (suc (suc (suc (suc zero)))))) l = g
each_of_eight P a b c d e f g h (suc (suc (suc (suc (suc (suc (suc zero))))))) l = h
each_of_eight P a b c d e f g h (suc (suc (suc (suc (suc (suc (suc (suc k)))))))) l = absurd (omega arith)

-- what holds of the two types of each place, with their numbers, holds of all types
pub each_kind : (n : ℕ) (P : ℕ → Kind → Type 0) → ((i k : ℕ) → i < n → k < 2 → P (2 * i + k) (get_or (kinds_at i) k no_kind)) → (t : ℕ) → t < 2 * n → P t (kind_at (tables n) t)
each_kind n P h t l =
    let is : 2 * (t / 2) + t % 2 ≡ t = omega arith in
    let place : t / 2 < n = omega arith in
    let rest : t % 2 < 2 = omega arith in
    let Here : ℕ → Type 0 = λ s. P s (kind_at (tables n) s) in
    subst Here is (subst (P (2 * (t / 2) + t % 2)) (sym (kind_in n (t / 2) (t % 2) place rest)) (h (t / 2) (t % 2) place rest))

pub each_pair : (n : ℕ) (P : ℕ → Pair → Type 0) → ((i k : ℕ) → i < n → k < 8 → P (8 * i + k) (get_or (pairs_at i) k no_pair)) → (p : ℕ) → p < 8 * n → P p (pair_at (tables n) p)
each_pair n P h p l =
    let is : 8 * (p / 8) + p % 8 ≡ p = omega arith in
    let place : p / 8 < n = omega arith in
    let rest : p % 8 < 8 = omega arith in
    let Here : ℕ → Type 0 = λ q. P q (pair_at (tables n) q) in
    subst Here is (subst (P (8 * (p / 8) + p % 8)) (sym (pair_in n (p / 8) (p % 8) place rest)) (h (p / 8) (p % 8) place rest))

pub each_port : (n : ℕ) (P : ℕ → List ℕ → Type 0) → ((i k : ℕ) → i < n → k < 3 → P (3 * i + k) (get_or (ports_at i) k [])) → (r : ℕ) → r < 3 * n → P r (port_name_of (tables n) r)
each_port n P h r l =
    let is : 3 * (r / 3) + r % 3 ≡ r = omega arith in
    let place : r / 3 < n = omega arith in
    let rest : r % 3 < 3 = omega arith in
    let Here : ℕ → Type 0 = λ s. P s (port_name_of (tables n) s) in
    subst Here is (subst (P (3 * (r / 3) + r % 3)) (sym (port_in n (r / 3) (r % 3) place rest)) (h (r / 3) (r % 3) place rest))
