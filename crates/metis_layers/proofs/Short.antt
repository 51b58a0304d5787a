-- A line has at most 320 actions: its pairs are of one type and none comes twice, and a type has few states and demands few providers.
use Rattle.std.proofs.Common.{◌≡◌, ℕ, zero, suc, ◌+◌, ◌-◌, ◌*◌, ◌<◌, ◌≤◌, Bool, true, false, ◌&&◌, List, [], ◌∷◌, ◌++◌, length, map, Some, refl, sym, ap, ◌∙◌, subst, arith, nat_eq, length-append, sum_by}
use Rattle.std.proofs.lemmas.Bool.{eq-eqb, false≢true, and_parts, and_from, or_left, or_right}
use Rattle.std.proofs.lemmas.List.{length-map}
use Rattle.std.proofs.lemmas.List.Concat.{length-flat_map}
use Rattle.std.proofs.lemmas.List.FromFn.{length-range_with_len}
use Rattle.std.proofs.lemmas.List.Sums.{sum_by-append, sum_by-cons, sum_by-le-sum_by}
use Rattle.std.specs.List.{filter}
use Rattle.std.specs.Option.{option_map_or}
use Rattle.std.specs.Prelude.{IsSome}
use Rattle.metis_ids.specs.declared.actions.Action.{Action}
use Rattle.metis_ids.specs.declared.actions.Action.TheVariants.{Bind, Unbind, Move}
use Rattle.metis_universe.proofs.Rounds.{grows_to, layers_grow}
use Rattle.metis_universe.specs.Terms.{IsTable, IsUniverse, IsWithinLimits, Universe, all_pairs, demand_of, demand_total, has, layer_of, layer_set, next_of, pair_at, pair_count, required_of, type_of}
use Rattle.metis_layers.proofs.Counts.{slot_lines_make}
use Rattle.metis_layers.proofs.DemandSums.{demands_within}
use Rattle.metis_layers.proofs.LayerFacts.{layer_first, layer_has, layer_pair, no_origin, origin_at}
use Rattle.metis_layers.proofs.Order.{layered_some}
use Rattle.metis_layers.proofs.Standing.{AllLayered, ends_layered}
use Rattle.metis_layers.proofs.TypeWeights.{is_of, kept_besides, kept_more, type_weight, weight}
use Rattle.metis_layers.proofs.Ways.{all_has, layered_pair}
use Rattle.metis_layers.specs.Terms.{instances_of, layer_order, line_ends, path_to, path_within, slot_binds, slot_holder, slot_line, slot_lines, slot_move, slot_moves, slot_unbinds, slots_above, slots_gained}

-- ---- how many actions a path asks for

module _ (u : Universe) where
  -- how many providers the pair demands
  abbrev needs : ℕ → ℕ
  needs p = demand_total (pair_at u p)

  -- moves along a path are short where each move is
  along_short : (move : ℕ → ℕ → List Action) (moves : ℕ → List ℕ → List Action) → ((p q : ℕ) → length (move p q) ≤ needs p + needs q + 1)
      → ((p : ℕ) → moves p [] ≡ []) → ((p q : ℕ) (path : List ℕ) → moves p (q ∷ path) ≡ move p q ++ moves q path) → (p : ℕ) (path : List ℕ) → length (moves p path) ≤ needs p + sum_by (weight u) path
  along_short move moves short none next p [] = omega (arith, ap length (none p))
  along_short move moves short none next p (q ∷ path) = omega (
    arith,
    ap length (next p q path),
    length-append (move p q) (moves q path),
    short p q,
    along_short move moves short none next q path,
    sum_by-cons (weight u) q path,
  )

  module _ (k : IsUniverse u) (holder : ℕ → ℕ → ℕ) where
    -- a pair gains at most what it demands
    gained_few : (p q : ℕ) → length (slots_gained u p q) ≤ needs q
    gained_few p q =
        let above : ℕ → List ℕ = λ r. slots_above (demand_of u p r) (demand_of u q r) in
        let slot_at : ℕ → ℕ → ℕ × ℕ = λ r j. (r, j) in
        let at : ℕ → List (ℕ × ℕ) = λ r. map (slot_at r) (above r) in
        omega (
          arith,
          length-flat_map at (required_of u q),
          sum_by-le-sum_by (λ r. length (at r)) (demand_of u q) (required_of u q) (λ r. omega (arith, length-map (above r) (slot_at r), length-range_with_len (demand_of u p r + 1) (demand_of u q r - demand_of u p r))),
          demands_within u k q,
        )

    -- a move binds and unbinds at most what its two pairs demand
    move_short : (z p q : ℕ) → length (slot_move u holder z p q) ≤ needs p + needs q + 1
    move_short z p q =
        let before = slot_binds holder z (slots_gained u p q) in
        let after = slot_unbinds holder z (slots_gained u q p) in
        omega (
          arith,
          length-append before (Move z p q ∷ after),
          length-map (slots_gained u p q) (λ s. Bind s.0 z (holder s.0 s.1)),
          length-map (slots_gained u q p) (λ s. Unbind s.0 z (holder s.0 s.1)),
          gained_few p q,
          gained_few q p,
        )

    line_short : (z : ℕ) (path : List ℕ) → length (slot_line u holder z path) ≤ sum_by (weight u) path
    line_short z [] = omega arith
    line_short z (p ∷ path) = omega (arith, along_short (slot_move u holder z) (slot_moves u holder z) (move_short z) (λ q. refl) (λ q r rest. refl) p path, sum_by-cons (weight u) p path)

  -- ---- what a path weighs

  -- the pair has come by the round and is of the type
  abbrev is_of_by : ℕ → ℕ → ℕ → Bool
  is_of_by t round p = has (layer_set u round) p && is_of u t p

  -- what has come by a round has come by each later one
  later_has : (i j p : ℕ) → i ≤ j → has (layer_set u i) p ≡ true → has (layer_set u j) p ≡ true
  later_has i j p low there = let at : j ≡ i + (j - i) = omega arith in ap (λ n. has (layer_set u n) p) at ∙ grows_to (layers_grow u) i (j - i) p there

  -- a pair that has come counts among those that have come
  alone : (t p l : ℕ) → layer_of u p ≡ Some l → type_of u p ≡ t → weight u p ≤ sum_by (weight u) (filter (is_of_by t l) (all_pairs u))
  alone t p l is kind =
      let more = kept_besides (weight u) (λ x. false) (is_of_by t l) (all_pairs u) p (λ x never. absurd (false≢true never)) (layer_pair u p l is) refl (and_from (has (layer_set u l) p) (is_of u t p) (layer_has u p l is) (eq-eqb (type_of u p) t kind)) in
      omega (arith, more)

  module _ (k : IsUniverse u) where
    -- the pairs of a path are of one type, and each comes in a later round than the one before it, so that none counts twice
    path_weight : (t n p l : ℕ) → layer_of u p ≡ Some l → type_of u p ≡ t → sum_by (weight u) (path_within u n p) ≤ sum_by (weight u) (filter (is_of_by t l) (all_pairs u))
    path_weight t zero p l is kind = omega (arith, alone t p l is kind)
    path_weight t (suc n) p zero is kind = subst (λ o. sum_by (weight u) (option_map_or (path_within u n) o [] ++ p ∷ []) ≤ sum_by (weight u) (filter (is_of_by t 0) (all_pairs u))) (sym (no_origin u p is)) (omega (arith, alone t p 0 is kind))
    path_weight t (suc n) p (suc l) is kind =
        let o = origin_at u p l is in
        let q = o.origin in
        let round = o.lower.layer in
        let same = (all_has (λ x. (x < pair_count u) × (type_of u x ≡ type_of u q)) (next_of u q) p (k.next q (layered_pair u q round o.lower.is)).1 o.leads).1 in
        let before = path_weight t n q round o.lower.is (sym same ∙ kind) in
        let besides = kept_besides (weight u) (is_of_by t round) (is_of_by t (suc l)) (all_pairs u) p
        (λ x h. let parts = and_parts (has (layer_set u round) x) (is_of u t x) h in and_from (has (layer_set u (suc l)) x) (is_of u t x) (later_has round (suc l) x (omega (arith, o.lower.low)) parts.0) parts.1)
        (layer_pair u p (suc l) is)
        (ap (λ b. b && is_of u t p) (layer_first u p (suc l) round is (omega (arith, o.lower.low))))
        (and_from (has (layer_set u (suc l)) p) (is_of u t p) (layer_has u p (suc l) is) (eq-eqb (type_of u p) t kind)) in
        subst (λ v. sum_by (weight u) (option_map_or (path_within u n) v [] ++ p ∷ []) ≤ sum_by (weight u) (filter (is_of_by t (suc l)) (all_pairs u))) (sym o.is)
        (omega (arith, before, besides, sum_by-append (weight u) (path_within u n q) (p ∷ [])))

    path_short : IsWithinLimits u → (p l : ℕ) → layer_of u p ≡ Some l → sum_by (weight u) (path_to u p) ≤ 320
    path_short limits p l is =
        let t = type_of u p in
        omega (
          arith,
          path_weight t (pair_count u) p l is refl,
          kept_more (weight u) (is_of_by t l) (is_of u t) (all_pairs u) (λ x h. (and_parts (has (layer_set u l) x) (is_of u t x) h).1),
          type_weight u limits t,
        )

    -- ---- all lines

    -- lines along paths to pairs that have a layer are short where each is no longer than its path weighs
    each_short : (limits : IsWithinLimits u) (line : ℕ → List ℕ → List Action) (lines : ℕ → List (List ℕ) → List Action) → ((z : ℕ) (path : List ℕ) → length (line z path) ≤ sum_by (weight u) path)
        → ((z : ℕ) → lines z [] ≡ []) → ((z : ℕ) (path : List ℕ) (paths : List (List ℕ)) → lines z (path ∷ paths) ≡ line z path ++ lines (z + 1) paths)
        → (z : ℕ) (ends : List ℕ) → AllLayered u ends → length (lines z (map (path_to u) ends)) ≤ 320 * length ends
    each_short limits line lines short none next z [] all = omega (arith, ap length (none z))
    each_short limits line lines short none next z (p ∷ ends) all =
        let paths = map (path_to u) ends in
        let at = all p (or_left (nat_eq p p) (has ends p) (eq-eqb p p refl)) in
        omega (
          arith,
          ap length (next z (path_to u p) paths),
          length-append (line z (path_to u p)) (lines (z + 1) paths),
          short z (path_to u p),
          path_short limits p at.layer at.is,
          each_short limits line lines short none next (z + 1) ends (λ q h. all q (or_right (nat_eq p q) (has ends q) h)),
        )

    slot_lines_short : (limits : IsWithinLimits u) (holder : ℕ → ℕ → ℕ) (z : ℕ) (ends : List ℕ) → AllLayered u ends → length (slot_lines u holder z (map (path_to u) ends)) ≤ 320 * length ends
    slot_lines_short limits holder = each_short limits (slot_line u holder) (slot_lines u holder) (line_short k holder) (λ z. refl) (λ z path paths. refl)

pub order_short : (u : Universe) (g : List ℕ) → IsTable u → ((p : ℕ) → has g p ≡ true → IsSome (layer_of u p)) → length (layer_order u g) ≤ 321 * instances_of (layer_order u g)
order_short u g table all =
    let k = table.universe in
    let ends = line_ends u g in
    omega (
      arith,
      slot_lines_short u k table.limits (slot_holder u) 0 ends (ends_layered u g (λ p h. layered_some u p (layer_of u p) refl (all p h))),
      slot_lines_make u (slot_holder u) 0 ends,
    )
