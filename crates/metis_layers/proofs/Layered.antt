-- The table is that of the universe.
use Rattle.std.proofs.Common.{◌≡◌, ℕ, ◌<◌, List, map, length, get_or, Option, None, sym, ap, ◌∙◌, subst}
use Rattle.std.proofs.lemmas.List.Elements.{All-from_recursion}
use Rattle.std.specs.List.{All, filter, find, flat_map, range_with_len}
use Rattle.metis_ids.specs.Terms.{PairSet}
use Rattle.metis_universe.specs.Terms.{Universe, all_pairs, is_in_layer, layer_of, layered, pair_count, port_count, provides}
use Rattle.metis_layers.proofs.Tables.{all_low, entries_count, entry, kept_alike}
use Rattle.metis_layers.specs.Terms.{IsLayers, attained_pairs, found_before, is_round, of_round, order_by}

module _ (u : Universe) (rounds : List (Option ℕ)) (known : rounds ≡ map (found_before u (pair_count u)) (all_pairs u)) where
  count : length rounds ≡ pair_count u
  count = ap length known ∙ entries_count (found_before u (pair_count u)) (pair_count u)

  round_at : (p : ℕ) → p < pair_count u → get_or rounds p None ≡ layer_of u p
  round_at p low = ap (λ l. get_or l p None) known ∙ entry (found_before u (pair_count u)) (pair_count u) p None low

  pub order_low : (order : List ℕ) → order ≡ order_by rounds (length rounds) → All (λ p. p < pair_count u) order
  order_low order is = subst (All (λ p. p < pair_count u)) (sym is)
      (subst (λ n. All (λ p. p < n) (order_by rounds (length rounds))) count (All-from_recursion (λ p. p < length rounds) (order_by rounds (length rounds)) (all_low (λ k p. is_round (get_or rounds p None) k) (length rounds) (range_with_len 0 (length rounds)))))

  same_round : (k : ℕ) → of_round rounds (pair_count u) k ≡ filter (is_in_layer u k) (all_pairs u)
  same_round k = kept_alike (λ p. is_round (get_or rounds p None) k) (is_in_layer u k) (pair_count u) (λ p low. ap (λ o. is_round o k) (round_at p low))

  order_layered : order_by rounds (length rounds) ≡ layered u
  order_layered = ap (λ n. flat_map (of_round rounds n) (range_with_len 0 n)) count ∙ (λ i. flat_map (λ k. same_round k i) (all_pairs u))

  pub is_layers : (attained : PairSet) (order : List ℕ) (first : List (Option ℕ)) → attained.size ≡ pair_count u → attained.members ≡ attained_pairs u → order ≡ order_by rounds (length rounds)
      → first ≡ map (λ r. find (λ p. provides u p r) order) (range_with_len 0 (port_count u)) → IsLayers u (record { rounds = rounds; attained = attained; order = order; first = first })
  is_layers attained order first size members in_order providers = record {
    pairs = count;
    ports = ap length providers ∙ entries_count (λ r. find (λ p. provides u p r) order) (port_count u);
    layer = round_at;
    size = size;
    attained = members;
    order = in_order ∙ order_layered;
    provider = λ r low. ap (λ l. get_or l r None) providers ∙ entry (λ s. find (λ p. provides u p s) order) (port_count u) r None low ∙ ap (find (λ p. provides u p r)) (in_order ∙ order_layered);
  }
