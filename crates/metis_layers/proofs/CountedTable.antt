-- The table that the counters make is that of the universe.
use Rattle.std.proofs.Common.{◌≡◌, ℕ, zero, suc, ◌+◌, ◌-◌, ◌<◌, ◌≤◌, Bool, true, false, not, cond, ◌&&◌, List, ◌∷◌, ◌++◌, Option, Some, None, length, get_or, map, refl, sym, ap, ◌∙◌, arith, inl, inr}
use Rattle.std.specs.List.{filter, find, flat_map, range_with_len}
use Rattle.std.specs.Option.{is_none, is_some, option_or}
use Rattle.std.proofs.lemmas.Bool.{both_ways, cases_Bool, eq-eqb, ne_eqb, and_parts, and_from, lt-ltb, ltb-true}
use Rattle.std.proofs.lemmas.List.Folds.{find-append}
use Rattle.std.proofs.lemmas.List.FromFn.{fill_by_all, get_or-map-range_with_len, length-map-range_with_len, length-range_with_len}
use Rattle.std.specs.Cmp.{both_ways as same_bool}
use Rattle.metis_ids.specs.Terms.{PairSet}
use Rattle.metis_ids.proofs.Finding.{found, not_found}
use Rattle.metis_ids.proofs.Lists.{has-filter, has_below, has_range, in_range}
use Rattle.metis_ids.proofs.Options.{none_from_is_none}
use Rattle.metis_universe.specs.Terms.{Universe, all_pairs, has, is_free, layer_set, pair_count, port_count, provides}
use Rattle.metis_universe.proofs.Rounds.{among_all, comes_early, grows_to, layers_grow}
use Rattle.metis_universe.proofs.PortRows.{Rises}
use Rattle.metis_layers.specs.Terms.{IsAt, IsLayers, attained_pairs, come_before, found_before, is_round, new_at, of_round, order_by}
use Rattle.metis_layers.specs.declared.work.Work.{Work}
use Rattle.metis_layers.proofs.Layered.{is_layers}
use Rattle.metis_layers.proofs.RoundFacts.{kept_rises, rises_same}
use Rattle.metis_layers.proofs.Tables.{kept_alike}

some_none : {X : Type 0} (o : Option X) → is_some o ≡ not (is_none o)
some_none None = refl
some_none (Some x) = refl

split_range : (k m a : ℕ) → range_with_len a (k + m) ≡ range_with_len a k ++ range_with_len (a + k) m
split_range zero m a =
    let e : 0 + m ≡ m = omega arith in
    let z : a ≡ a + 0 = omega arith in
    ap (range_with_len a) e ∙ ap (λ b. range_with_len b m) z
split_range (suc k) m a =
    let e : suc k + m ≡ suc (k + m) = omega arith in
    let at : a + 1 + k ≡ a + suc k = omega arith in
    ap (range_with_len a) e ∙ ap (λ xs. a ∷ xs) (split_range k m (a + 1) ∙ ap (λ b. range_with_len (a + 1) k ++ range_with_len b m) at)

-- what a search through numbers below n finds is k exactly where k passes and none below it does
round_is : (t : ℕ → Bool) (n k : ℕ) → k < n → is_round (find t (range_with_len 0 n)) k ≡ (t k && is_none (find t (range_with_len 0 k)))
round_is t n k low =
    let e : n ≡ k + (n - k) = omega arith in
    let z : 0 + k ≡ k = omega arith in
    ap (λ m. is_round (find t (range_with_len 0 m)) k) e
    ∙ ap (λ xs. is_round (find t xs) k) (split_range k (n - k) 0 ∙ ap (λ b. range_with_len 0 k ++ range_with_len b (n - k)) z)
    ∙ ap (λ o. is_round o k) (find-append t (range_with_len 0 k) (range_with_len k (n - k)))
    ∙ by (find t (range_with_len 0 k)) refl where
      later : (m a : ℕ) → k < a → is_round (find t (range_with_len a m)) k ≡ false
      later zero a above = refl
      later (suc m) a above = elim (t a) as (λ b. is_round (cond b (Some a) (find t (range_with_len (a + 1) m))) k ≡ false) [
        | true ↦ ne_eqb a k (λ q. absurd (omega arith))
        | false ↦ later m (a + 1) (omega arith)
      ]

      here : (m : ℕ) → 0 < m → is_round (find t (range_with_len k m)) k ≡ t k
      here zero some = absurd (omega arith)
      here (suc m) some = elim (t k) as (λ b. is_round (cond b (Some k) (find t (range_with_len (k + 1) m))) k ≡ b) [
        | true ↦ eq-eqb k k refl
        | false ↦ later m (k + 1) (omega arith)
      ]

      and_true : (a : Bool) → a ≡ (a && true)
      and_true true = refl
      and_true false = refl

      and_false : (a : Bool) → false ≡ (a && false)
      and_false true = refl
      and_false false = refl

      by : (o : Option ℕ) → find t (range_with_len 0 k) ≡ o → is_round (option_or o (find t (range_with_len k (n - k)))) k ≡ (t k && is_none o)
      by None is = here (n - k) (omega arith) ∙ and_true (t k)
      by (Some l) is =
          let at = in_range 0 k l (found t (range_with_len 0 k) l is).1 in
          ne_eqb l k (λ q. absurd (omega (arith, at.1))) ∙ and_false (t k)

pieces_same : (f h : ℕ → List ℕ) (m a : ℕ) → ((k : ℕ) → a ≤ k → k < a + m → f k ≡ h k) → flat_map f (range_with_len a m) ≡ flat_map h (range_with_len a m)
pieces_same f h zero a same = refl
pieces_same f h (suc m) a same =
    let now = same a (omega arith) (omega arith) in
    let rest = pieces_same f h m (a + 1) (λ k low high. same k (omega arith) (omega arith)) in
    λ i. now i ++ rest i

module _ (u : Universe) (rounds : List (Option ℕ)) (known : rounds ≡ map (found_before u (pair_count u)) (all_pairs u)) where
  count : length rounds ≡ pair_count u
  count = ap length known ∙ length-map-range_with_len (found_before u (pair_count u)) 0 (pair_count u)

  at : (p : ℕ) → p < pair_count u → get_or rounds p None ≡ found_before u (pair_count u) p
  at p low = ap (λ l. get_or l p None) known ∙ get_or-map-range_with_len (found_before u (pair_count u)) 0 (pair_count u) p p None low (omega arith)

  pub order_is : come_before u (pair_count u) ≡ order_by rounds (length rounds)
  order_is =
      pieces_same (new_at u) (of_round rounds (pair_count u)) (pair_count u) 0 (λ k _ high.
      kept_alike (λ p. has (layer_set u k) p && is_none (found_before u k p)) (λ p. is_round (get_or rounds p None) k) (pair_count u) (λ p low.
      sym (ap (λ o. is_round o k) (at p low) ∙ round_is (λ j. has (layer_set u j) p) (pair_count u) k (omega arith))))
      ∙ ap (λ n. flat_map (of_round rounds n) (range_with_len 0 n)) (sym count)

  set_kept : (k : ℕ) → Rises (layer_set u k)
  set_kept zero = kept_rises (is_free u) (pair_count u) 0
  set_kept (suc k) = kept_rises _ (pair_count u) 0

  found_some : (p : ℕ) → p < pair_count u → is_some (found_before u (pair_count u) p) ≡ has (layer_set u (pair_count u)) p
  found_some p low = some_none (found_before u (pair_count u) p) ∙ same_bool _ _
      (λ h. elim (cases_Bool (has (layer_set u (pair_count u)) p)) [
        | inl there ↦ there
        | inr out ↦ absurd (both_ways _ (not_true' (is_none (found_before u (pair_count u) p)) (none_all out)) h)
      ])
      (λ h.
      let early = comes_early (layers_grow u) (pair_count u) p h in
      let below : early.0 < pair_count u = omega (arith, early.1, length-range_with_len 0 (pair_count u)) in
      elim (cases_Bool (is_none (found_before u (pair_count u) p))) [
        | inr some ↦ ap not some
        | inl none ↦ absurd (both_ways _ (not_found (λ j. has (layer_set u j) p) (range_with_len 0 (pair_count u)) (none_from_is_none _ none) early.0 (has_range 0 (pair_count u) early.0 (omega arith) (omega arith))) early.2)
      ]) where
        not_true' : (b : Bool) → b ≡ true → not b ≡ false
        not_true' b e = ap not e

        grown_in : (o : Option ℕ) → found_before u (pair_count u) p ≡ o → is_none (found_before u (pair_count u) p) ≡ false → has (layer_set u (pair_count u)) p ≡ false → ⊥
        grown_in None is some out = both_ways _ some (ap is_none is)
        grown_in (Some j) is some out =
            let h = found (λ i. has (layer_set u i) p) (range_with_len 0 (pair_count u)) j is in
            let below = in_range 0 (pair_count u) j h.1 in
            let e : j + (pair_count u - j) ≡ pair_count u = omega (arith, below.1) in
            both_ways _ out (sym (ap (λ m. has (layer_set u m) p) e) ∙ grows_to (layers_grow u) j (pair_count u - j) p h.0)

        none_all : has (layer_set u (pair_count u)) p ≡ false → is_none (found_before u (pair_count u) p) ≡ true
        none_all out = elim (cases_Bool (is_none (found_before u (pair_count u) p))) [
          | inl none ↦ none
          | inr some ↦ absurd (grown_in (found_before u (pair_count u) p) refl some out)
        ]

  pub attained_is : filter (λ p. is_some (get_or rounds p None)) (range_with_len 0 (length rounds)) ≡ attained_pairs u
  attained_is =
      ap (λ n. filter (λ p. is_some (get_or rounds p None)) (range_with_len 0 n)) count
      ∙ rises_same _ (attained_pairs u) (kept_rises (λ p. is_some (get_or rounds p None)) (pair_count u) 0) (set_kept (pair_count u)) (λ q.
      has-filter (λ p. is_some (get_or rounds p None)) q (all_pairs u) ∙ same_bool _ _
      (λ h.
      let both = and_parts _ _ h in
      let low = ltb-true q (pair_count u) (sym (has_below (pair_count u) q) ∙ both.1) in
      sym (found_some q low) ∙ sym (ap is_some (at q low)) ∙ both.0)
      (λ h.
      let early = comes_early (layers_grow u) (pair_count u) q h in
      let low = ltb-true q (pair_count u) (sym (has_below (pair_count u) q) ∙ among_all (layers_grow u) (pair_count u) q h) in
      and_from _ _ (ap is_some (at q low) ∙ found_some q low ∙ h) (has_below (pair_count u) q ∙ lt-ltb q (pair_count u) low)))

-- what is known after as many rounds as there are pairs is the table
pub counted_layers : (u : Universe) (w : Work) (rounds : List (Option ℕ)) (attained : PairSet) → IsAt u (pair_count u) w → rounds ≡ w.counters.rounds →
    attained.size ≡ length rounds → attained.members ≡ filter (λ p. is_some (get_or rounds p None)) (range_with_len 0 (length rounds)) → IsLayers u (record { rounds = rounds; attained = attained; order = w.order.items; first = w.first.items })
counted_layers u w rounds attained now is size members =
    let known = is ∙ now.known in
    is_layers u rounds known attained w.order.items w.first.items (size ∙ count u rounds known) (members ∙ attained_is u rounds known) (now.come ∙ order_is u rounds known)
    (fill_by_all (λ r. find (λ p. provides u p r) w.order.items) w.first.items (port_count u) None now.read.first_size (λ r low. now.read.first_by r))
