-- The scaffold: the providers of all that the selection requires, by layer, each as often as it has slots, and bound only to earlier ones.
use Rattle.std.proofs.Common.{◌≡◌, ℕ, zero, suc, ◌+◌, ◌-◌, ◌≤◌, true, List, [], ◌∷◌, ◌++◌, Option, Some, None, refl, sym, ap, ◌∙◌, subst, arith, nat_eq, map, append_assoc, append-nil, inl, inr}
use Rattle.std.specs.Prelude.{nat_le, replicate, slice_get}
use Rattle.std.specs.List.{All, cons_option, list_any, filter_map}
use Rattle.std.specs.Option.{option_map_or, option_to_list}
use Rattle.std.proofs.lemmas.Bool.{and_from, and_parts, eq-eqb, eqb-true, false≢true, leb-true, or_cases, or_left, or_right}
use Rattle.metis_ids.proofs.Lists.{any_at, has-replicate}
use Rattle.metis_universe.proofs.Greatest.{demand_least}
use Rattle.metis_universe.proofs.Rounds.{has-filter}
use Rattle.metis_universe.proofs.Selected.{selected-least}
use Rattle.metis_universe.proofs.Slots.{slots_enough}
use Rattle.metis_universe.specs.Terms.{IsOf, IsUniverse, Universe, all_pairs, demand_of, greatest_demand, has, layer_of, layered, needs_of, origin_of, pair_count, provider_of, provider_pairs, providers_needed, provides, required_of, requires, selected}
use Rattle.metis_layers.proofs.Copies.{block_back, block_own, block_slot}
use Rattle.metis_layers.proofs.Going.{GoesOn}
use Rattle.metis_layers.proofs.LayerFacts.{HasLayer, layer_free, layer_pair, provider_at, some_of}
use Rattle.metis_layers.proofs.Numbers.{slot_ways_within}
use Rattle.metis_layers.proofs.SlotLines.{AreWays, Downward, end_of, free_needs, last_of, slot_lines_go, ways_down}
use Rattle.metis_layers.proofs.SlotLists.{wants_required}
use Rattle.metis_layers.proofs.Slots.{IsFilled, Stand, wants}
use Rattle.metis_layers.proofs.Standing.{HasSomeLayer, Rising, has-append, layer_in, layered_has, layered_rises, rising-filter, rising-suffix}
use Rattle.metis_layers.proofs.Ways.{FilledUpTo, HaveOrigins, ways_on}
use Rattle.metis_layers.specs.Terms.{path_to, path_within, place_of}
use Rattle.metis_layers.proofs.Repeated.{blocks, has_block}
use Rattle.metis_support.proofs.Selections.{mapped_from}
use Rattle.metis_rollout.specs.Terms.{scaffold_ends, scaffold_holder, scaffold_list, scaffold_pairs, slot_count}
use Rattle.metis_rollout.proofs.Blocks.{blocks-push, copy_in}

-- ---- lists

mapped : (h : ℕ → Option ℕ) (xs : List ℕ) (r y : ℕ) → has xs r ≡ true → h r ≡ Some y → has (filter_map h xs) y ≡ true
mapped h [] r y there is = absurd (false≢true there)
mapped h (x ∷ xs) r y there is = elim (or_cases (nat_eq x r) (has xs r) there) [
  | inl now ↦ subst (λ o. has (cons_option o (filter_map h xs)) y ≡ true) (sym (ap h (eqb-true x r now) ∙ is)) (or_left (nat_eq y y) (has (filter_map h xs) y) (eq-eqb y y refl))
  | inr later ↦ more (h x) (mapped h xs r y later is)
] where
  more : (o : Option ℕ) → has (filter_map h xs) y ≡ true → has (cons_option o (filter_map h xs)) y ≡ true
  more None g = g
  more (Some v) g = or_right (nat_eq v y) (has (filter_map h xs) y) g

module _ (u : Universe) where
  some_same : (a b : ℕ) → Some a ≡ Some b → a ≡ b
  some_same a b h = cc

module _ (u : Universe) (k : IsUniverse u) (g : List ℕ) where
  abbrev pub pairs : List ℕ
  pairs = scaffold_pairs u g

  abbrev pub ends : List ℕ
  ends = scaffold_ends u g

  abbrev pub holder : ℕ → ℕ → ℕ
  holder = scaffold_holder u g

  -- how many slots a pair has
  abbrev count : ℕ → ℕ
  count = slot_count u (selected u g)

  -- where the slots of a port's provider begin
  abbrev start : ℕ → ℕ
  start r = option_map_or (place_of ends) (provider_of u r) 0

  -- which slot of the port an instance is
  abbrev pub slot : ℕ → ℕ → ℕ
  slot r y = block_slot (start r) (greatest_demand u) y

  pub slot_back : (r y : ℕ) → 1 ≤ slot r y → holder r (slot r y) ≡ y
  slot_back r y some = block_back (start r) (greatest_demand u) y some

  -- the slots of a port are different instances
  pub holders_differ : (r i j : ℕ) → 1 ≤ i → 1 ≤ j → holder r i ≡ holder r j → i ≡ j
  holders_differ r i j some more same = omega (arith, some, more, same)

  abbrev pub Selected : ℕ → Type 0
  Selected p = has (selected u g) p ≡ true

  -- ---- the selection

  selected_need : (q p l : ℕ) → Selected q → layer_of u p ≡ Some l → has (needs_of u q) p ≡ true → Selected p
  selected_need q p l there at need = (selected-least u g).needs q p (layer_pair u p l at) there need

  selected_origin : (q o l : ℕ) → Selected q → origin_of u q ≡ Some o → layer_of u o ≡ Some l → Selected o
  selected_origin q o l there is at = selected_need q o l there at (subst (λ v. has (option_to_list v ++ providers_needed u q) o ≡ true) (sym is) (or_left (nat_eq o o) (has (providers_needed u q) o) (eq-eqb o o refl)))

  provider_listed : (q r y l : ℕ) → Selected q → requires u q r ≡ true → provider_of u r ≡ Some y → layer_of u y ≡ Some l → has pairs y ≡ true
  provider_listed q r y l there needs is at =
      has-filter (has (provider_pairs u g)) y (layered u) ∙ and_from (has (provider_pairs u g) y) (has (layered u) y)
      (has-filter (λ p. list_any (λ q. has (providers_needed u q) p) (selected u g)) y (all_pairs u) ∙ and_from (list_any (λ q. has (providers_needed u q) y) (selected u g)) (has (all_pairs u) y)
      (any_at (λ q. has (providers_needed u q) y) q (selected u g) there (mapped (provider_of u) (required_of u q) r y needs is)) (layer_pair u y l at))
      (layered_has u y l at)

  pub listed_layer : (p : ℕ) → has pairs p ≡ true → HasSomeLayer u p
  listed_layer p h = layer_in u p (and_parts (has (provider_pairs u g) p) (has (layered u) p) (sym (has-filter (has (provider_pairs u g)) p (layered u)) ∙ h)).1

  -- a selected pair that requires a port whose provider is p
  pub record IsTaken (p : ℕ) : Type 0 where
    pub pair : ℕ
    pub port : ℕ
    pub chosen : has (selected u g) pair ≡ true
    pub needs : requires u pair port ≡ true
    pub is : provider_of u port ≡ Some p

  pub taken_from : (p : ℕ) → has pairs p ≡ true → IsTaken p
  taken_from p h =
      let provided = (and_parts (has (provider_pairs u g) p) (has (layered u) p) (sym (has-filter (has (provider_pairs u g)) p (layered u)) ∙ h)).0 in
      let some = some_of (λ q. has (providers_needed u q) p) (selected u g) (and_parts (list_any (λ q. has (providers_needed u q) p) (selected u g)) (has (all_pairs u) p)
      (sym (has-filter (λ p. list_any (λ q. has (providers_needed u q) p) (selected u g)) p (all_pairs u)) ∙ provided)).0 in
      let port = mapped_from (provider_of u) (required_of u some.number) p some.passes in
      record { pair = some.number; port = port.0; chosen = some.there; needs = port.1; is = port.2 }

  pub listed_selected : (p : ℕ) → has pairs p ≡ true → Selected p
  listed_selected p h =
      let from = taken_from p h in
      let at = listed_layer p h in
      let need = mapped (provider_of u) (required_of u from.pair) from.port p from.needs from.is in
      selected_need from.pair p at.layer from.chosen at.is (has-append (option_to_list (origin_of u from.pair)) (providers_needed u from.pair) p ∙ or_right (has (option_to_list (origin_of u from.pair)) p) (has (providers_needed u from.pair) p) need)

  origins : HaveOrigins u Selected
  origins q o l there is at = selected_origin q o l there is at

  -- ---- what is filled

  -- a slot is filled once the instances of its port's provider stand
  filled_by : (done rest : List ℕ) (q r j y : ℕ) → pairs ≡ done ++ rest → Selected q → wants u q r j ≡ true → provider_of u r ≡ Some y → has done y ≡ true → provides u y r ≡ true → IsFilled u holder slot (blocks count done) r j
  filled_by done rest q r j y whole chosen wanted is there gives =
      let parts = and_parts (nat_le 1 j) (nat_le j (demand_of u q r)) wanted in
      let some = leb-true 1 j parts.0 in
      let few = leb-true j (demand_of u q r) parts.1 in
      let enough = slots_enough (provider_of u) u (selected u g) y q r chosen (wants_required u q r j wanted) is in
      let copy = copy_in count done rest y (j - 1) there (omega (arith, some, few, enough)) in
      let at : holder r j ≡ place_of (blocks count (done ++ rest)) y + (j - 1) = ap (λ o. option_map_or (place_of ends) o 0 + (j - 1)) is ∙ ap (λ ps. place_of (blocks count ps) y + (j - 1)) whole in
      record {
        first = some;
        own = block_own (start r) (greatest_demand u) j some (omega (arith, few, demand_least u q r));
        stands = omega (arith, at, copy.before);
        pair = y;
        there = ap (slice_get (blocks count done)) at ∙ copy.there;
        gives = gives;
      }

  -- what selected pairs up to a layer need is filled once all pairs of lower layers stand
  filled_below : (done rest : List ℕ) (m : ℕ) → pairs ≡ done ++ rest → ((q l : ℕ) → has rest q ≡ true → layer_of u q ≡ Some l → m ≤ l) → FilledUpTo u k holder slot Selected origins (blocks count done) m
  filled_below done rest m whole high p zero r j there is low wanted = absurd (false≢true (sym (free_needs u p r j (layer_free u p is)) ∙ wanted))
  filled_below done rest m whole high p (suc l) r j there is low wanted =
      let required = wants_required u p r j wanted in
      let h = provider_at u p l r is required in
      let listed = sym (has-append done rest h.pair) ∙ ap (λ xs. has xs h.pair) (sym whole) ∙ provider_listed p r h.pair h.layer there required h.is h.at in
      let stands : has done h.pair ≡ true = elim (or_cases (has done h.pair) (has rest h.pair) listed) [
        | inl in_done ↦ in_done
        | inr in_rest ↦ absurd (too_low h.layer (high h.pair h.layer in_rest h.at) h.low)
      ] in
      filled_by done rest p r j h.pair whole there wanted h.is stands h.gives where
        too_low : (i : ℕ) → m ≤ i → i ≤ l → ⊥
        too_low i high lower = omega (arith, low)

  -- ---- line after line

  ways_from : (rest done : List ℕ) → pairs ≡ done ++ rest → AreWays u holder slot (blocks count done) (map (path_to u) (blocks count rest))
  ways_from [] done whole = tt
  ways_from (p ∷ rest) done whole =
      let listed : has pairs p ≡ true = ap (λ xs. has xs p) whole ∙ has-append done (p ∷ rest) p ∙ or_right (has done p) (has (p ∷ rest) p) (or_left (nat_eq p p) (has rest p) (eq-eqb p p refl)) in
      let at = listed_layer p listed in
      let rises = rising-suffix u done (p ∷ rest) (subst (Rising u) whole (rising-filter u (has (provider_pairs u g)) (layered u) (layered_rises u))) in
      let high : (q l : ℕ) → has (p ∷ rest) q ≡ true → layer_of u q ≡ Some l → at.layer ≤ l = λ q l h is. elim (or_cases (nat_eq p q) (has rest q) h) [
        | inl same ↦ omega (arith, some_same u at.layer l (sym at.is ∙ ap (layer_of u) (eqb-true p q same) ∙ is))
        | inr later ↦ rises.0 q at.layer l later at.is is
      ] in
      let next = ways_from rest (done ++ p ∷ []) (whole ∙ sym (append_assoc done (p ∷ []) rest)) in
      let each : (q : ℕ) → has (replicate (count p) p) q ≡ true → Selected q × HasLayer u q at.layer =
      λ q h. let same = has-replicate (count p) p q h in (subst Selected same (listed_selected p listed), record { layer = at.layer; is = ap (layer_of u) (sym same) ∙ at.is; low = omega arith }) in
      ways_on u k holder slot Selected origins (replicate (count p) p) (blocks count rest) (blocks count done) at.layer (filled_below done (p ∷ rest) at.layer whole high) each
      (subst (λ l. AreWays u holder slot l (map (path_to u) (blocks count rest))) (blocks-push count done p) next)

  -- ---- the whole scaffold

  pub end_layer : (p : ℕ) → has ends p ≡ true → HasSomeLayer u p
  end_layer p h = listed_layer p (has_block count pairs p h)

  pub end_selected : (p : ℕ) → has ends p ≡ true → Selected p
  end_selected p h = listed_selected p (has_block count pairs p h)

  last_added : (p q : ℕ) (path : List ℕ) → last_of q (path ++ p ∷ []) ≡ p
  last_added p q [] = refl
  last_added p q (x ∷ path) = last_added p x path

  end_added : (p : ℕ) (path : List ℕ) → end_of (path ++ p ∷ []) ≡ p
  end_added p [] = refl
  end_added p (x ∷ path) = last_added p x path

  path_end : (n p : ℕ) → end_of (path_within u n p) ≡ p
  path_end zero p = refl
  path_end (suc n) p = end_added p (option_map_or (path_within u n) (origin_of u p) [])

  path_ends : (xs : List ℕ) → map end_of (map (path_to u) xs) ≡ xs
  path_ends [] = refl
  path_ends (x ∷ xs) = λ i. path_end (pair_count u) x i ∷ path_ends xs i

  abbrev paths : List (List ℕ)
  paths = map (path_to u) ends

  ways : AreWays u holder slot [] paths
  ways = ways_from pairs [] refl

  pub scaffold_within : All (IsOf u) (scaffold_list u g)
  scaffold_within = slot_ways_within u k holder slot [] 0 paths ways

  pub scaffold_goes : GoesOn u [] (scaffold_list u g) × Stand u holder slot ends (scaffold_list u g)
  scaffold_goes =
      let went = slot_lines_go u k holder slot slot_back paths ways in
      (went.0, subst (λ l. Stand u holder slot l (scaffold_list u g)) (path_ends ends) went.1)

  pub scaffold_down : Downward u holder slot ends
  scaffold_down = subst (Downward u holder slot) (path_ends ends) (ways_down u holder slot paths [] ways (λ x r j needed. absurd (false≢true needed)))

  -- it serves each pair of g that has a layer
  pub scaffold_serves : (p l r j : ℕ) → has g p ≡ true → layer_of u p ≡ Some l → wants u p r j ≡ true → IsFilled u holder slot ends r j
  scaffold_serves p l r j there at wanted = filled_below pairs [] l (sym (append-nil pairs)) (λ q m h. absurd (false≢true h)) p l r j ((selected-least u g).targets p (layer_pair u p l at) there) at (omega arith) wanted
