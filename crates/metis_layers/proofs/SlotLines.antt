-- Whole lines: an instance is made, goes along its path, and then the next one is.
use Rattle.std.proofs.Common.{◌≡◌, ℕ, ◌+◌, ◌<◌, ◌≤◌, Bool, true, false, cond, not, ◌&&◌, ◌||◌, List, [], ◌∷◌, ◌++◌, length, map, Some, refl, sym, ap, ◌∙◌, subst, arith, nat_eq, inl, inr, append_assoc, append-nil, length-append}
use Rattle.std.proofs.lemmas.Bool.{eqb-true, false≢true, and_parts, or_cases, or_right}
use Rattle.std.specs.List.{slice_get}
use Rattle.std.specs.Option.{option_map_or}
use Rattle.std.proofs.lemmas.Option.{slice_get_past}
use Rattle.metis_ids.specs.declared.actions.Action.{Action}
use Rattle.metis_ids.specs.declared.actions.Action.TheVariants.{New, Move}
use Rattle.metis_universe.proofs.Demands.{demand_none}
use Rattle.metis_universe.specs.Terms.{Correct, IsUniverse, Universe, demand_of, has, initial_of, is_empty, is_free, is_initial, next_of, required_of, type_count, type_of, type_requires}
use Rattle.metis_layers.proofs.Deploying.{slice_get-before, slice_get-push}
use Rattle.metis_layers.proofs.Going.{at-next, GoesOn, GoesOn-append, type_requires-own}
use Rattle.metis_layers.proofs.Hops.{at_begin, at_move, at_retest, at_finish, binds_go, unbinds_go, move_goes, correct_at}
use Rattle.metis_layers.proofs.SlotLists.{gained_apart, has_gained, wants_required}
use Rattle.metis_layers.proofs.Slots.{IsFilled, AreServed, IsAt, Stand, all_fresh, all_ready, between, between_needed, ends_want, exchanged, has_slot, needed_before, none_between, none_to_none, up_to, wants, with_all, with_all-has, without_all, without_all-has}
use Rattle.metis_layers.specs.Terms.{slot_binds, slot_line, slot_lines, slot_move, slot_moves, slot_unbinds, slots_gained}

-- ---- hops and ways

-- the path begins in its type's initial pair, which is free, and goes on by hops
pub record IsBegun (u : Universe) (p : ℕ) : Type 0 where
  pub free : is_free u p ≡ true
  pub kind : type_of u p < type_count u
  pub initial : initial_of u (type_of u p) ≡ p

abbrev pub last_of : ℕ → List ℕ → ℕ
last_of p [] = p
last_of p (q ∷ path) = last_of q path

abbrev pub end_of : List ℕ → ℕ
end_of [] = 0
end_of (p ∷ path) = last_of p path

module _ (u : Universe) where
  needs_nothing : (xs : List ℕ) → is_empty xs ≡ true → (r : ℕ) → has xs r ≡ false
  needs_nothing [] h r = refl
  needs_nothing (x ∷ xs) h r = absurd (false≢true h)

  -- a free pair needs no slot
  pub free_needs : (p r j : ℕ) → is_free u p ≡ true → wants u p r j ≡ false
  free_needs p r j free =
      let none = needs_nothing (required_of u p) (and_parts (is_initial u p) (is_empty (required_of u p)) free).1 r in
      ap (λ n. up_to n j) (demand_none u p r none) ∙ none_to_none j

module _ (u : Universe) (holder slot : ℕ → ℕ → ℕ) where
  -- p may go to q, a pair of the same type, and the slots that q needs are filled
  pub record IsHop (ends : List ℕ) (p q : ℕ) : Type 0 where
    pub next : has (next_of u p) q ≡ true
    pub same : type_of u q ≡ type_of u p
    pub served : (r k : ℕ) → wants u q r k ≡ true → IsFilled u holder slot ends r k

  abbrev pub AreHops : List ℕ → ℕ → List ℕ → Type 0
  AreHops ends p [] = Unit {0}
  AreHops ends p (q ∷ path) = IsHop ends p q × AreHops ends q path

  abbrev pub IsWay : List ℕ → List ℕ → Type 0
  IsWay ends [] = ⊥
  IsWay ends (p ∷ path) = IsBegun u p × AreHops ends p path

  abbrev pub AreWays : List ℕ → List (List ℕ) → Type 0
  AreWays ends [] = Unit {0}
  AreWays ends (path ∷ paths) = IsWay ends path × AreWays (ends ++ end_of path ∷ []) paths

  begun_filled : (ends : List ℕ) (p : ℕ) → IsBegun u p → (r j : ℕ) → wants u p r j ≡ true → IsFilled u holder slot ends r j
  begun_filled ends p begun r j h = absurd (false≢true (sym (free_needs u p r j begun.free) ∙ h))

  last_filled : (ends : List ℕ) (p : ℕ) (path : List ℕ) → AreHops ends p path → ((r j : ℕ) → wants u p r j ≡ true → IsFilled u holder slot ends r j) → (r j : ℕ) → wants u (last_of p path) r j ≡ true → IsFilled u holder slot ends r j
  last_filled ends p [] hops filled = filled
  last_filled ends p (q ∷ path) hops filled = last_filled ends q path hops.1 hops.0.served

  -- what the end of a way needs is filled
  pub way_filled : (ends path : List ℕ) → IsWay ends path → (r j : ℕ) → wants u (end_of path) r j ≡ true → IsFilled u holder slot ends r j
  way_filled ends [] way = absurd way
  way_filled ends (p ∷ path) way = last_filled ends p path way.1 (begun_filled ends p way.0)

  -- each instance needs only slots of lower numbers
  abbrev pub Downward : List ℕ → Type 0
  Downward ends = (x r j : ℕ) → ends_want u ends x r j ≡ true → holder r j < x

  down_push : (ends : List ℕ) (p : ℕ) → Downward ends → ((r j : ℕ) → wants u p r j ≡ true → IsFilled u holder slot ends r j) → Downward (ends ++ p ∷ [])
  down_push ends p down filled x r j needed =
      elim (nat_eq x (length ends)) as (λ b. nat_eq x (length ends) ≡ b → option_map_or (λ e. wants u e r j) (cond b (Some p) (slice_get ends x)) false ≡ true → holder r j < x) [
        | true ↦ λ is h. subst (λ n. holder r j < n) (sym (eqb-true x (length ends) is)) (filled r j h).stands
        | false ↦ λ _ h. down x r j h
      ] refl (sym (ap (λ o. option_map_or (λ e. wants u e r j) o false) (slice_get-push ends p x)) ∙ needed)

  pub ways_down : (paths : List (List ℕ)) (ends : List ℕ) → AreWays ends paths → Downward ends → Downward (ends ++ map end_of paths)
  ways_down [] ends ways down = subst Downward (sym (append-nil ends)) down
  ways_down (path ∷ paths) ends ways down =
      subst Downward (append_assoc ends (end_of path ∷ []) (map end_of paths)) (ways_down paths (ends ++ end_of path ∷ []) ways.1 (down_push ends (end_of path) down (way_filled ends path ways.0)))

module _ (u : Universe) (k : IsUniverse u) (holder slot : ℕ → ℕ → ℕ) (back : (r y : ℕ) → 1 ≤ slot r y → holder r (slot r y) ≡ y) where
  module _ (ends : List ℕ) (served : AreServed u holder slot ends) where
    abbrev Filled : ℕ → ℕ → Type 0
    Filled r j = IsFilled u holder slot ends r j

    -- from one pair to the next: both ends hold exactly the slots that they need
    hop_goes : (p q : ℕ) (earlier : List Action) → IsHop u holder slot ends p q → ((r j : ℕ) → wants u p r j ≡ true → Filled r j) → IsAt u holder slot ends p (wants u p) earlier
        → GoesOn u earlier (slot_move u holder (length ends) p q) × IsAt u holder slot ends q (wants u q) (earlier ++ slot_move u holder (length ends) p q)
    hop_goes p q earlier hop filled s =
        let z = length ends in
        let rs = slots_gained u p q in
        let lost = slots_gained u q p in
        let t1 = with_all (wants u p) rs in
        let m : ℕ → ℕ = demand_of u p in
        let n : ℕ → ℕ = demand_of u q in
        let new : (r j : ℕ) → has_slot rs r j ≡ true → between (m r) (n r) j ≡ true = λ r j h. sym (has_gained u p q r j) ∙ h in
        let old : (r j : ℕ) → has_slot lost r j ≡ true → between (n r) (m r) j ≡ true = λ r j h. sym (has_gained u q p r j) ∙ h in
        let first = binds_go u holder slot back ends p rs (wants u p) earlier s served (λ r j h. h) filled
        (all_fresh (wants u p) rs (gained_apart u k p q) (λ r j h. none_between (m r) (n r) j (new r j h)))
        (λ r j h. let wanted = between_needed (m r) (n r) j (new r j h) in
        (subst (λ t. type_requires u t r ≡ true) hop.same (type_requires-own u q r (wants_required u q r j wanted)), hop.served r j wanted)) in
        let all1 : (r j : ℕ) → t1 r j ≡ (between (m r) (n r) j || up_to (m r) j) = λ r j. with_all-has (wants u p) rs r j ∙ ap (λ b. b || wants u p r j) (has_gained u p q r j) in
        let enough : (r j : ℕ) → wants u q r j ≡ true → t1 r j ≡ true = λ r j h. all1 r j ∙ needed_before (m r) (n r) j h in
        let filled1 : (r j : ℕ) → t1 r j ≡ true → Filled r j = λ r j h. elim (or_cases (between (m r) (n r) j) (up_to (m r) j) (sym (all1 r j) ∙ h)) [
          | inl besides ↦ hop.served r j (between_needed (m r) (n r) j besides)
          | inr before ↦ filled r j before
        ] in
        let mid = earlier ++ slot_binds holder z rs in
        let moves = move_goes u holder slot back ends p q t1 mid first.1 served hop.next enough filled1 in
        let moved = at_move u holder slot back ends p q t1 mid first.1 in
        let last = unbinds_go u holder slot back ends q lost t1 (mid ++ Move z p q ∷ []) moved served enough filled1
        (all_ready t1 lost (gained_apart u k q p) (λ r j h. all1 r j ∙ or_right (between (m r) (n r) j) (up_to (m r) j) (between_needed (n r) (m r) j (old r j h))))
        (λ r j h. none_between (n r) (m r) j (old r j h)) in
        let ends_in : (r j : ℕ) → without_all t1 lost r j ≡ wants u q r j =
        λ r j. without_all-has t1 lost r j ∙ (λ i. not (has_gained u q p r j i) && all1 r j i) ∙ exchanged (m r) (n r) j in (
          GoesOn-append u earlier (slot_binds holder z rs) (Move z p q ∷ slot_unbinds holder z lost) first.0 (GoesOn-append u mid (Move z p q ∷ []) (slot_unbinds holder z lost) moves last.0),
          subst (λ l. IsAt u holder slot ends q (wants u q) l) (append_assoc mid (Move z p q ∷ []) (slot_unbinds holder z lost) ∙ append_assoc earlier (slot_binds holder z rs) (Move z p q ∷ slot_unbinds holder z lost))
              (at_retest u holder slot back ends q (without_all t1 lost) (wants u q) _ ends_in last.1),
        )

    -- ---- paths

    path_goes : (p : ℕ) (path : List ℕ) (earlier : List Action) → AreHops u holder slot ends p path → ((r j : ℕ) → wants u p r j ≡ true → Filled r j) → IsAt u holder slot ends p (wants u p) earlier
        → GoesOn u earlier (slot_moves u holder (length ends) p path) × IsAt u holder slot ends (last_of p path) (wants u (last_of p path)) (earlier ++ slot_moves u holder (length ends) p path)
    path_goes p [] earlier hops filled s = (tt, subst (λ l. IsAt u holder slot ends p (wants u p) l) (sym (append-nil earlier)) s)
    path_goes p (q ∷ path) earlier hops filled s =
        let first = hop_goes p q earlier hops.0 filled s in
        let now = slot_move u holder (length ends) p q in
        let rest = path_goes q path (earlier ++ now) hops.1 hops.0.served first.1 in
        let e = last_of q path in (
          GoesOn-append u earlier now (slot_moves u holder (length ends) q path) first.0 rest.0,
          subst (λ l. IsAt u holder slot ends e (wants u e) l) (append_assoc earlier now (slot_moves u holder (length ends) q path)) rest.1,
        )

    line_goes : (path : List ℕ) (earlier : List Action) → Stand u holder slot ends earlier → IsWay u holder slot ends path
        → GoesOn u earlier (slot_line u holder (length ends) path) × Stand u holder slot (ends ++ end_of path ∷ []) (earlier ++ slot_line u holder (length ends) path)
    line_goes [] earlier s way = absurd way
    line_goes (p ∷ path) earlier s way =
        let z = length ends in
        let a = New z (type_of u p) in
        let made = at_begin u holder slot back ends earlier (type_of u p) p s way.0.initial in
        let none : (r j : ℕ) → wants u p r j ≡ false = λ r j. free_needs u p r j way.0.free in
        let filled = begun_filled u holder slot ends p way.0 in
        let begun = at_retest u holder slot back ends p (λ r j. false) (wants u p) (earlier ++ a ∷ []) (λ r j. sym (none r j)) made in
        let rest = path_goes p path (earlier ++ a ∷ []) way.1 filled begun in
        let correct = correct_at u holder slot back ends p (wants u p) (earlier ++ a ∷ []) begun served (λ r j h. h) filled in
        let e = last_of p path in
        let there = s.pairs z ∙ slice_get_past ends z (omega arith) in
        let new = ap not (s.news z (omega arith)) in (
          ((way.0.kind, there), subst (Correct u) (at-next u earlier a) correct, new, rest.0),
          subst (λ l. Stand u holder slot (ends ++ e ∷ []) l) (append_assoc earlier (a ∷ []) (slot_moves u holder z p path)) (at_finish u holder slot back ends e _ rest.1),
        )

  filled_more : (ends : List ℕ) (e r j : ℕ) → IsFilled u holder slot ends r j → IsFilled u holder slot (ends ++ e ∷ []) r j
  filled_more ends e r j h = record {
    first = h.first;
    own = h.own;
    stands = omega (arith, length-append ends (e ∷ []), h.stands);
    pair = h.pair;
    there = slice_get-before ends (e ∷ []) (holder r j) h.stands ∙ h.there;
    gives = h.gives;
  }

  served_more : (ends : List ℕ) (e : ℕ) → AreServed u holder slot ends → ((r j : ℕ) → wants u e r j ≡ true → IsFilled u holder slot ends r j) → AreServed u holder slot (ends ++ e ∷ [])
  served_more ends e served last x r j needed = filled_more ends e r j (by_place (nat_eq x (length ends)) refl) where
    by_place : (b : Bool) → nat_eq x (length ends) ≡ b → IsFilled u holder slot ends r j
    by_place true is = last r j (sym (ap (λ o. option_map_or (λ p. wants u p r j) o false) (slice_get-push ends e x ∙ ap (λ c. cond c (Some e) (slice_get ends x)) is)) ∙ needed)
    by_place false is = served x r j (sym (ap (λ o. option_map_or (λ p. wants u p r j) o false) (slice_get-push ends e x ∙ ap (λ c. cond c (Some e) (slice_get ends x)) is)) ∙ needed)

  -- ---- line after line

  lines_go : (paths : List (List ℕ)) (ends : List ℕ) (earlier : List Action) → Stand u holder slot ends earlier → AreServed u holder slot ends → AreWays u holder slot ends paths
      → GoesOn u earlier (slot_lines u holder (length ends) paths) × Stand u holder slot (ends ++ map end_of paths) (earlier ++ slot_lines u holder (length ends) paths)
  lines_go [] ends earlier s served ways = (tt, subst (λ l. Stand u holder slot l (earlier ++ [])) (sym (append-nil ends)) (subst (λ l. Stand u holder slot ends l) (sym (append-nil earlier)) s))
  lines_go (path ∷ paths) ends earlier s served ways =
      let e = end_of path in
      let line = slot_line u holder (length ends) path in
      let first = line_goes ends served path earlier s ways.0 in
      let number : length (ends ++ e ∷ []) ≡ length ends + 1 = length-append ends (e ∷ []) in
      let rest = lines_go paths (ends ++ e ∷ []) (earlier ++ line) first.1 (served_more ends e served (way_filled u holder slot ends path ways.0)) ways.1 in
      let more = slot_lines u holder (length ends + 1) paths in
      let go : GoesOn u (earlier ++ line) more = subst (λ n. GoesOn u (earlier ++ line) (slot_lines u holder n paths)) number rest.0 in
      let stand : Stand u holder slot ((ends ++ e ∷ []) ++ map end_of paths) ((earlier ++ line) ++ more) =
      subst (λ n. Stand u holder slot ((ends ++ e ∷ []) ++ map end_of paths) ((earlier ++ line) ++ slot_lines u holder n paths)) number rest.1 in (
        GoesOn-append u earlier line more first.0 go,
        subst (λ l. Stand u holder slot l (earlier ++ (line ++ more))) (append_assoc ends (e ∷ []) (map end_of paths))
            (subst (λ l. Stand u holder slot ((ends ++ e ∷ []) ++ map end_of paths) l) (append_assoc earlier line more) stand),
      )

  stand_none : Stand u holder slot [] []
  stand_none = record { pairs = λ x. refl; bound = λ r x y. refl; news = λ x h. refl }

  -- all lines, from the empty configuration
  pub slot_lines_go : (paths : List (List ℕ)) → AreWays u holder slot [] paths → GoesOn u [] (slot_lines u holder 0 paths) × Stand u holder slot (map end_of paths) (slot_lines u holder 0 paths)
  slot_lines_go paths ways = lines_go paths [] [] stand_none (λ x r j needed. absurd (false≢true needed)) ways
