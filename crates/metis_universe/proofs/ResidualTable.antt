-- A residual universe keeps what every universe keeps.
use Rattle.std.proofs.Common.{◌≡◌, ℕ, zero, suc, ◌+◌, ◌<◌, ◌≤◌, Bool, true, false, cond, List, [], ◌∷◌, length, map, get_or, sum, sum_by, refl, sym, ap, ◌∙◌, subst, arith, nat_eq}
use Rattle.std.specs.Prelude.{IsTrue}
use Rattle.std.specs.List.{All, filter, range_with_len}
use Rattle.std.specs.List.Sorted.{IsStrictlyIncreasing}
use Rattle.std.proofs.lemmas.List.Elements.{All-filter, All-nil}
use Rattle.std.proofs.lemmas.List.FromFn.{fill_by_all, get_or-map-range_with_len}
use Rattle.std.proofs.lemmas.List.Sums.{sum_by-cons}
use Rattle.metis_universe.specs.Terms.{IsNamed, IsTable, IsUniverse, IsWithinLimits, Pair, Universe, all_pairs, demand_total, further_left, has, initial_of, is_initial, is_left, is_name, no_pair, pair_at, pair_count, port_count, required_left, residual, residual_row, type_of}
use Rattle.metis_universe.proofs.ResidualRows.{left_length, left_low, left_none, left_rises, left_total, residual_at, residual_count}

none_increase : IsStrictlyIncreasing []
none_increase k h = absurd (omega arith)

module _ (u : Universe) (g : ℕ → ℕ) (avoided : List ℕ) where
  abbrev left : Universe
  left = residual u g avoided

  -- what holds of the row holds of the pair
  pub at_row : (P : Pair → Type 0) (p : ℕ) → p < pair_count u → P (residual_row u g avoided p) → P (pair_at left p)
  at_row P p h = subst P (sym (residual_at u g avoided p h))

  below : (p : ℕ) → p < pair_count left → p < pair_count u
  below p h = omega (arith, residual_count u g avoided)

  pub kind_same : (p : ℕ) → p < pair_count u → type_of left p ≡ type_of u p
  kind_same p h = ap (λ (x : Pair). x.kind) (residual_at u g avoided p h)

  -- what holds of an empty list and of the pair's own holds of what it provides
  provided_row : (P : List ℕ → Type 0) (p : ℕ) → P [] → P (pair_at u p).provided → P (residual_row u g avoided p).provided
  provided_row P p none own = elim (has avoided p) as (λ b. P (cond b [] (pair_at u p).provided)) [
    | true ↦ none
    | false ↦ own
  ]

  required_row : (P : List ℕ → List ℕ → Type 0) (p : ℕ) → P (pair_at u p).required (pair_at u p).further → P (required_left g (pair_at u p)) (further_left g (pair_at u p))
      → P (residual_row u g avoided p).required (residual_row u g avoided p).further
  required_row P p own less = elim (is_initial u p) as (λ b. P (cond b (pair_at u p).required (required_left g (pair_at u p))) (cond b (pair_at u p).further (further_left g (pair_at u p)))) [
    | true ↦ own
    | false ↦ less
  ]

  module _ (k : IsUniverse u) where
    pub residual_universe : IsUniverse left
    residual_universe = record {
      version = k.version;
      single = λ one p h.
          let l = below p h in
          let none = k.single one p l in
          at_row (λ x. All (λ n. n ≡ 0) x.further) p l (required_row (λ _ further. All (λ n. n ≡ 0) further) p none (left_none g (pair_at u p) (k.required p l).0 (k.demands p l).0 none));
      by_type = λ i j d le h.
          let lj = below j h in
          let li : i < pair_count u = omega arith in
          let one : (get_or left.pairs i d).kind ≡ type_of u i = ap (λ (x : Pair). x.kind) (get_or-map-range_with_len (residual_row u g avoided) 0 (pair_count u) i i d li (omega arith)) in
          let two : (get_or left.pairs j d).kind ≡ type_of u j = ap (λ (x : Pair). x.kind) (get_or-map-range_with_len (residual_row u g avoided) 0 (pair_count u) j j d lj (omega arith)) in
          omega (arith, one, two, k.by_type i j no_pair le lj);
      types = λ p h. let l = below p h in omega (arith, kind_same p l, k.types p l);
      initials = λ t h. let own = k.initials t h in (omega (arith, own.0, residual_count u g avoided), kind_same (initial_of u t) own.0 ∙ own.1);
      provided = λ p h.
          let l = below p h in
          at_row (λ x. IsStrictlyIncreasing x.provided × All (λ r. r < port_count u) x.provided) p l
          (provided_row (λ rs. IsStrictlyIncreasing rs × All (λ r. r < port_count u) rs) p (none_increase, All-nil (λ r. r < port_count u)) (k.provided p l));
      required = λ p h.
          let l = below p h in
          let own = k.required p l in
          at_row (λ x. IsStrictlyIncreasing x.required × All (λ r. r < port_count u) x.required) p l
          (required_row (λ rs _. IsStrictlyIncreasing rs × All (λ r. r < port_count u) rs) p own (
            left_rises g (pair_at u p) own.0 (k.demands p l).0,
            All-filter (is_left g (pair_at u p)) (λ r. r < port_count u) (pair_at u p).required own.1,
          ));
      demands = λ p h.
          let l = below p h in
          let own = k.demands p l in
          let up = (k.required p l).0 in
          at_row (λ x. (length x.further ≡ length x.required) × All (λ n. n < 16) x.further) p l
          (required_row (λ rs fs. (length fs ≡ length rs) × All (λ n. n < 16) fs) p own (left_length g (pair_at u p) up own.0, left_low g (pair_at u p) up own.0 own.1));
      next = λ p h.
          let l = below p h in
          let own = k.next p l in
          at_row (λ x. IsStrictlyIncreasing x.next × All (λ q. (q < pair_count left) × (type_of left q ≡ type_of left p)) x.next) p l (
            own.0,
            λ i d m.
                let at = own.1 i d m in
                (omega (arith, at.0, residual_count u g avoided), kind_same (get_or (pair_at u p).next i d) at.0 ∙ at.1 ∙ sym (kind_same p l)),
          );
    }

    state_same : (p : ℕ) → p < pair_count u → (pair_at left p).state ≡ (pair_at u p).state
    state_same p h = ap (λ (x : Pair). x.state) (residual_at u g avoided p h)

    pub residual_named : IsNamed u → IsNamed left
    residual_named n = record {
      types = n.types;
      states = λ p h. let l = below p h in subst (λ name. IsTrue (is_name name)) (sym (state_same p l)) (n.states p l);
      ports = n.ports;
      types_apart = n.types_apart;
      states_apart = λ p q hp hq kinds names.
          let lp = below p hp in
          let lq = below q hq in
          n.states_apart p q lp lq (sym (kind_same p lp) ∙ kinds ∙ kind_same q lq) (sym (state_same p lp) ∙ names ∙ state_same q lq);
      ports_apart = n.ports_apart;
    }

    -- ---- limits

    row_total : (p : ℕ) → p < pair_count u → demand_total (residual_row u g avoided p) ≤ demand_total (pair_at u p)
    row_total p l = required_row (λ rs fs. length rs + sum fs ≤ demand_total (pair_at u p)) p (omega arith) (left_total g (pair_at u p) (k.required p l).0 (k.demands p l).0)

    abbrev of_type : ℕ → Pair → Bool
    of_type t x = nat_eq x.kind t

    as_many : (t a n : ℕ) → length (filter (of_type t) (map (residual_row u g avoided) (range_with_len a n))) ≡ length (filter (of_type t) (map (pair_at u) (range_with_len a n)))
    as_many t a zero = refl
    as_many t a (suc n) =
        let ours = filter (of_type t) (map (residual_row u g avoided) (range_with_len (a + 1) n)) in
        let owns = filter (of_type t) (map (pair_at u) (range_with_len (a + 1) n)) in
        elim (nat_eq (pair_at u a).kind t) as (λ b. length (cond b (residual_row u g avoided a ∷ ours) ours) ≡ length (cond b (pair_at u a ∷ owns) owns)) [
          | true ↦ ap suc (as_many t (a + 1) n)
          | false ↦ as_many t (a + 1) n
        ]

    no_more : (t a n : ℕ) → a + n ≤ pair_count u
        → sum_by demand_total (filter (of_type t) (map (residual_row u g avoided) (range_with_len a n))) ≤ sum_by demand_total (filter (of_type t) (map (pair_at u) (range_with_len a n)))
    no_more t a zero l = omega arith
    no_more t a (suc n) l =
        let ours = filter (of_type t) (map (residual_row u g avoided) (range_with_len (a + 1) n)) in
        let owns = filter (of_type t) (map (pair_at u) (range_with_len (a + 1) n)) in
        let rest = no_more t (a + 1) n (omega arith) in
        elim (nat_eq (pair_at u a).kind t) as (λ b. sum_by demand_total (cond b (residual_row u g avoided a ∷ ours) ours) ≤ sum_by demand_total (cond b (pair_at u a ∷ owns) owns)) [
          | true ↦ omega (arith, rest, row_total a (omega arith), sum_by-cons demand_total (residual_row u g avoided a) ours, sum_by-cons demand_total (pair_at u a) owns)
          | false ↦ rest
        ]

    all_owns : map (pair_at u) (all_pairs u) ≡ u.pairs
    all_owns = sym (fill_by_all (pair_at u) u.pairs (pair_count u) no_pair refl (λ i h. refl))

    pub residual_limits : IsWithinLimits u → IsWithinLimits left
    residual_limits most = record {
      types = most.types;
      pairs = omega (arith, residual_count u g avoided, most.pairs);
      ports = most.ports;
      states = λ t. omega (arith, as_many t 0 (pair_count u), ap (λ rows. length (filter (of_type t) rows)) all_owns, most.states t);
      required = λ t. omega (arith, no_more t 0 (pair_count u) (omega arith), ap (λ rows. sum_by demand_total (filter (of_type t) rows)) all_owns, most.required t);
    }

pub residual_table : (u : Universe) (g : ℕ → ℕ) (avoided : List ℕ) → IsTable u → IsTable (residual u g avoided)
residual_table u g avoided t = record {
  universe = residual_universe u g avoided t.universe;
  named = residual_named u g avoided t.universe t.named;
  limits = residual_limits u g avoided t.universe t.limits;
}
