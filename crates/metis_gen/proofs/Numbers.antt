-- The numbers of the tables are those of a universe.
use Rattle.std.proofs.Common.{◌≡◌, ℕ, suc, zero, ◌+◌, ◌*◌, ◌/◌, ◌<◌, List, [], ◌∷◌, length, map, get_or, inl, refl, ap, sym, ◌∙◌, subst, arith}
use Rattle.std.specs.List.{All}
use Rattle.std.specs.List.Sorted.{IsNonDecreasingBy, IsStrictlyIncreasing}
use Rattle.std.proofs.lemmas.List.{get_or_default}
use Rattle.std.proofs.lemmas.List.Elements.{All-from_recursion, All-nil}
use Rattle.metis_universe.specs.Terms.{IsUniverse, Pair, initial_of, next_of, no_kind, no_pair, pair_at, pair_count, provided_of, required_of, type_of}
use Rattle.metis_gen.specs.Terms.{earlier_z_number, kinds_at, pairs_at, tables}
use Rattle.metis_gen.proofs.Places.{types_counted, pairs_counted, ports_counted, each_of_two, each_of_eight, each_kind, each_pair}

-- ---- lists of at most one number

none_rises : IsStrictlyIncreasing []
none_rises k l = absurd (omega arith)

one_rises : (x : ℕ) → IsStrictlyIncreasing (x ∷ [])
one_rises x k l = absurd (omega arith)

one_all : (P : ℕ → Type 0) (x : ℕ) → P x → All P (x ∷ [])
one_all P x h = All-from_recursion P (x ∷ []) (h, tt)

abbrev IsPart : ℕ → List ℕ → Type 0
IsPart m xs = IsStrictlyIncreasing xs × All (λ r. r < m) xs

none_part : (m : ℕ) → IsPart m []
none_part m = (none_rises, All-nil (λ r. r < m))

one_part : (m x : ℕ) → x < m → IsPart m (x ∷ [])
one_part m x l = (one_rises x, one_all (λ r. r < m) x l)

earlier_part : (n i : ℕ) → i < n → IsPart (3 * n) (earlier_z_number i)
earlier_part n zero l = none_part (3 * n)
earlier_part n (suc h) l = one_part (3 * n) (3 * h + 2) (omega arith)

-- ---- types

pub initial_is : (n t : ℕ) → t < 2 * n → initial_of (tables n) t ≡ 4 * t
initial_is n = each_kind n (λ t row. row.initial ≡ 4 * t) (λ i k li. each_of_two (λ k. (get_or (kinds_at i) k no_kind).initial ≡ 4 * (2 * i + k)) (omega arith) (omega arith) k)

pub type_is : (n p : ℕ) → p < 8 * n → type_of (tables n) p ≡ p / 4
type_is n = each_pair n (λ p row. row.kind ≡ p / 4) (λ i k li. each_of_eight (λ k. (get_or (pairs_at i) k no_pair).kind ≡ (8 * i + k) / 4)
    (omega arith) (omega arith) (omega arith) (omega arith) (omega arith) (omega arith) (omega arith) (omega arith) k)

-- ---- ports

provided_part : (n p : ℕ) → p < 8 * n → IsPart (3 * n) (provided_of (tables n) p)
provided_part n = each_pair n (λ p row. IsPart (3 * n) row.provided) (λ i k li. each_of_eight (λ k. IsPart (3 * n) (get_or (pairs_at i) k no_pair).provided)
    (none_part (3 * n)) (one_part (3 * n) (3 * i) (omega arith)) (none_part (3 * n)) (none_part (3 * n))
    (none_part (3 * n)) (one_part (3 * n) (3 * i + 1) (omega arith)) (none_part (3 * n)) (one_part (3 * n) (3 * i + 2) (omega arith)) k)

required_part : (n p : ℕ) → p < 8 * n → IsPart (3 * n) (required_of (tables n) p)
required_part n = each_pair n (λ p row. IsPart (3 * n) row.required) (λ i k li. each_of_eight (λ k. IsPart (3 * n) (get_or (pairs_at i) k no_pair).required)
    (none_part (3 * n)) (earlier_part n i li) (one_part (3 * n) (3 * i + 1) (omega arith)) (none_part (3 * n))
    (none_part (3 * n)) (none_part (3 * n)) (one_part (3 * n) (3 * i) (omega arith)) (none_part (3 * n)) k)

-- ---- demands

abbrev OneOfEach : Pair → Type 0
OneOfEach p = (length p.further ≡ length p.required) × All (λ n. n ≡ 0) p.further

abbrev zeros : List ℕ → List ℕ
zeros rs = map (λ _. 0) rs

abbrev Ones : List ℕ → Type 0
Ones rs = (length (zeros rs) ≡ length rs) × All (λ n. n ≡ 0) (zeros rs)

none_ones : Ones []
none_ones = (refl, All-nil (λ n. n ≡ 0))

one_ones : (r : ℕ) → Ones (r ∷ [])
one_ones r = (refl, one_all (λ n. n ≡ 0) 0 refl)

earlier_ones : (i : ℕ) → Ones (earlier_z_number i)
earlier_ones zero = none_ones
earlier_ones (suc h) = one_ones (3 * h + 2)

one_of_each : (n p : ℕ) → p < 8 * n → OneOfEach (pair_at (tables n) p)
one_of_each n = each_pair n (λ p row. OneOfEach row) (λ i k li. each_of_eight (λ k. OneOfEach (get_or (pairs_at i) k no_pair))
    none_ones (earlier_ones i) (one_ones (3 * i + 1)) none_ones none_ones none_ones (one_ones (3 * i)) none_ones k)

-- ---- next pairs

abbrev Leads : ℕ → ℕ → List ℕ → Type 0
Leads n p xs = IsStrictlyIncreasing xs × All (λ q. (q < 8 * n) × (q / 4 ≡ p / 4)) xs

none_leads : (n p : ℕ) → Leads n p []
none_leads n p = (none_rises, All-nil (λ q. (q < 8 * n) × (q / 4 ≡ p / 4)))

one_leads : (n p q : ℕ) → q < 8 * n → q / 4 ≡ p / 4 → Leads n p (q ∷ [])
one_leads n p q l e = (one_rises q, one_all (λ q. (q < 8 * n) × (q / 4 ≡ p / 4)) q (l, e))

next_leads : (n p : ℕ) → p < 8 * n → Leads n p (next_of (tables n) p)
next_leads n = each_pair n (λ p row. Leads n p row.next) (λ i k li. each_of_eight (λ k. Leads n (8 * i + k) (get_or (pairs_at i) k no_pair).next)
    (one_leads n (8 * i + 0) (8 * i + 1) (omega arith) (omega arith))
    (one_leads n (8 * i + 1) (8 * i + 2) (omega arith) (omega arith))
    (one_leads n (8 * i + 2) (8 * i + 3) (omega arith) (omega arith))
    (none_leads n (8 * i + 3))
    (one_leads n (8 * i + 4) (8 * i + 5) (omega arith) (omega arith))
    (one_leads n (8 * i + 5) (8 * i + 6) (omega arith) (omega arith))
    (one_leads n (8 * i + 6) (8 * i + 7) (omega arith) (omega arith))
    (none_leads n (8 * i + 7)) k)

-- ---- all of it

of_one_type : (n p : ℕ) (xs : List ℕ) → p < 8 * n → All (λ q. (q < 8 * n) × (q / 4 ≡ p / 4)) xs → All (λ q. (q < pair_count (tables n)) × (type_of (tables n) q ≡ type_of (tables n) p)) xs
of_one_type n p xs lp all k d m =
    let h = all k d m in
    (omega (arith, pairs_counted n, h.0), type_is n (get_or xs k d) h.0 ∙ h.1 ∙ sym (type_is n p lp))

by_type : (n : ℕ) → IsNonDecreasingBy (λ (p : Pair). p.kind) (tables n).pairs
by_type n i j d le l =
    let pairs = (tables n).pairs in
    let lj : j < 8 * n = omega (arith, pairs_counted n) in
    let first : (get_or pairs i d).kind ≡ i / 4 = ap (λ (p : Pair). p.kind) (get_or_default pairs i d no_pair (omega arith)) ∙ type_is n i (omega arith) in
    let second : (get_or pairs j d).kind ≡ j / 4 = ap (λ (p : Pair). p.kind) (get_or_default pairs j d no_pair l) ∙ type_is n j lj in
    omega arith

version_is : (n : ℕ) → (tables n).version ≡ 1
unfolding tables
version_is n = refl

pub tables_universe : (n : ℕ) → IsUniverse (tables n)
tables_universe n = record {
  version = inl (version_is n);
  single = λ _ p l. (one_of_each n p (omega (arith, pairs_counted n))).1;
  demands = λ p l.
      let one = one_of_each n p (omega (arith, pairs_counted n)) in
      (one.0, λ k d m. let none = one.1 k d m in omega arith);
  by_type = by_type n;
  types = λ p l. let w : p < 8 * n = omega (arith, pairs_counted n) in omega (arith, type_is n p w, types_counted n);
  initials = λ t l.
      let w : t < 2 * n = omega (arith, types_counted n) in
      let at : initial_of (tables n) t ≡ 4 * t = initial_is n t w in
      let within : initial_of (tables n) t < 8 * n = omega arith in
      (omega (arith, pairs_counted n), type_is n (initial_of (tables n) t) within ∙ omega arith);
  provided = λ p l. subst (λ m. IsPart m (provided_of (tables n) p)) (sym (ports_counted n)) (provided_part n p (omega (arith, pairs_counted n)));
  required = λ p l. subst (λ m. IsPart m (required_of (tables n) p)) (sym (ports_counted n)) (required_part n p (omega (arith, pairs_counted n)));
  next = λ p l.
      let w : p < 8 * n = omega (arith, pairs_counted n) in
      let h = next_leads n p w in
      (h.0, of_one_type n p (next_of (tables n) p) w h.1);
}
