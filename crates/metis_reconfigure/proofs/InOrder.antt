-- The instances of a plan are made in the order of their numbers: an instance's first event waits for nothing, and of the events that
-- can go the first goes.
use Rattle.std.proofs.Common.{◌≡◌, ℕ, zero, suc, ◌+◌, ◌<◌, ◌≤◌, Bool, true, false, cond, not, ◌&&◌, ◌||◌, List, [], ◌∷◌, ◌++◌, Option, Some, None, length, map, refl, sym, ap, ◌∙◌, subst, arith, nat_eq, inl, inr, append_assoc}
use Rattle.std.specs.Prelude.{◌⊎◌, nat_le}
use Rattle.std.specs.List.{cons_option, filter, filter_map, find, flat_map, list_all, list_any, range_with_len}
use Rattle.std.proofs.lemmas.Bool.{and_from, and_parts, both_ways, cases_eq, cases_lt, eq-eqb, eqb-true, false_from_ne_true, false≢true, lt-leb, ne_eqb, not-true, or_cases, or_left, or_right}
use Rattle.std.proofs.lemmas.List.Elements.{filter_map-append}
use Rattle.metis_emit.specs.Terms.{IsLeastAfter, before_end, binds, can_go, event_actions, gained, move_actions, unbinds}
use Rattle.metis_events.proofs.Numbered.{graph_of_plan}
use Rattle.metis_emit.proofs.Numbered.{least_numbers}
use Rattle.metis_ids.proofs.Lists.{in_range}
use Rattle.metis_ids.proofs.Orders.{order_sorts, order_without}
use Rattle.metis_ids.specs.Terms.{Plan, order_of}
use Rattle.metis_ids.specs.declared.actions.Action.{Action}
use Rattle.metis_ids.specs.declared.actions.Action.TheVariants.{New, Delete, Bind, Unbind, Move}
use Rattle.metis_ids.specs.declared.events.Event.{Event}
use Rattle.metis_ids.specs.declared.events.Event.TheVariants.{At, End}
use Rattle.metis_lines.specs.Terms.{AbstractPlan, IsSound, Supply, events, events_of, is_among, is_event, is_go, is_return_of, is_start, is_start_of, is_supplied, is_target, is_there, last, leaving, line_count, own_pairs, precedes, predecessors, same_event, station_at, stations, step_count}
use Rattle.metis_layers.specs.Terms.{place_of}
use Rattle.metis_planner.proofs.Ending.{attained_layered}
use Rattle.metis_planner.proofs.Forced.{providers, sound_for}
use Rattle.metis_planner.specs.Terms.{IsByRounds, graph_after, numbered, ordered_events}
use Rattle.metis_rollout.proofs.Going.{going_from_steady}
use Rattle.metis_rollout.proofs.Listed.{map_alike}
use Rattle.metis_rollout.proofs.Together.{has-news, touches_own}
use Rattle.metis_rollout.proofs.Touching.{At as Made}
use Rattle.metis_rollout.specs.Terms.{free_number, fresh_name, is_made, made_by, news_of, renumber, renumbered}
use Rattle.metis_universe.proofs.Once.{free_needs}
use Rattle.metis_universe.specs.Terms.{Attains, IsSteadfastRun, IsTable, Universe, demand_of, has, required_of}
use Rattle.metis_support.specs.Terms.{layer_number}

-- ---- the lines whose instances the events make

abbrev pub first_of : Event → Option ℕ
first_of (At l zero) = Some l
first_of (At l (suc j)) = None
first_of End = None

abbrev pub firsts : List Event → List ℕ
firsts es = filter_map first_of es

binds_make : (ss : List Supply) → news_of (binds ss) ≡ []
binds_make [] = refl
binds_make (s ∷ ss) = binds_make ss

unbinds_make : (ss : List Supply) → news_of (unbinds ss) ≡ []
unbinds_make [] = refl
unbinds_make (s ∷ ss) = unbinds_make ss

event_makes : (u : Universe) (w : AbstractPlan) (e : Event) → news_of (event_actions u w e) ≡ cons_option (first_of e) []
event_makes u w (At l zero) = refl
event_makes u w (At l (suc i)) = elim (is_there w l (suc i)) as (λ b. news_of (cond b (move_actions w l i (suc i)) (Delete l ∷ [])) ≡ []) [
  | true ↦
      filter_map-append made_by (binds (gained w l i (suc i))) (Move l (station_at w l i) (station_at w l (suc i)) ∷ unbinds (gained w l (suc i) i))
      ∙ (λ j. binds_make (gained w l i (suc i)) j ++ unbinds_make (gained w l (suc i) i) j)
  | false ↦ refl
]
event_makes u w End = refl

emission_makes : (u : Universe) (w : AbstractPlan) (es : List Event) → news_of (flat_map (event_actions u w) es) ≡ firsts es
emission_makes u w [] = refl
emission_makes u w (e ∷ es) =
    filter_map-append made_by (event_actions u w e) (flat_map (event_actions u w) es)
    ∙ (λ i. event_makes u w e i ++ emission_makes u w es i)
    ∙ joined (first_of e) where
      joined : (o : Option ℕ) → cons_option o [] ++ firsts es ≡ cons_option o (firsts es)
      joined None = refl
      joined (Some l) = refl

-- ---- the first event of a line waits for nothing

-- an element that passes one test makes each test pass that it passes
pub record IsOneOf {X : Type 0} (t : X → Bool) (xs : List X) : Type 1 where
  pub element : X
  pub passes : t element ≡ true
  pub any : (s : X → Bool) → s element ≡ true → list_any s xs ≡ true

one_of : {X : Type 0} (t : X → Bool) (xs : List X) → list_any t xs ≡ true → IsOneOf t xs
one_of t [] h = absurd (false≢true h)
one_of t (x ∷ xs) h = elim (or_cases (t x) (list_any t xs) h) [
  | inl now ↦ record { element = x; passes = now; any = λ s is. or_left (s x) _ is }
  | inr later ↦ let rest = one_of t xs later in record { element = rest.element; passes = rest.passes; any = λ s is. or_right (s x) _ (rest.any s is) }
]

module _ (u : Universe) (level : ℕ → ℕ) (w : AbstractPlan) (sound : IsSound u level w) where
  nothing_needed : (l r : ℕ) → l < line_count w → demand_of u (station_at w l 0) r ≡ 0
  nothing_needed l r low = elim (has (required_of u (station_at w l 0)) r) as (λ b. has (required_of u (station_at w l 0)) r ≡ b → demand_of u (station_at w l 0) r ≡ 0) [
    | true ↦ λ is. absurd (free_needs u (station_at w l 0) r (sound.formed.free l low) is)
    | false ↦ λ off. rw off refl
  ] refl

  none_supplied : (l : ℕ) → l < line_count w → (e : Event) → is_start w e (At l 0) ≡ false
  none_supplied l low e = false_from_ne_true _ (λ h.
      let s = one_of (is_start_of e (At l 0)) w.supplies h in
      let at = (and_parts (same_event (At s.element.holder s.element.place) e) (nat_eq s.element.line l && nat_eq s.element.station 0) s.passes).1 in
      let supplied : is_supplied w l 0 s.element.port s.element.slot ≡ true =
      s.any (λ t. (nat_eq t.line l && nat_eq t.station 0 && nat_eq t.port s.element.port) && nat_eq t.slot s.element.slot)
      (and_from _ _ (and_from _ _ at (eq-eqb s.element.port s.element.port refl)) (eq-eqb s.element.slot s.element.slot refl)) in
      let served = sound.served.exactly l 0 s.element.port s.element.slot low (omega arith) in
      false≢true (sym (none s.element.slot) ∙ ap (λ n. nat_le 1 s.element.slot && nat_le s.element.slot n) (sym (nothing_needed l s.element.port low)) ∙ sym served ∙ supplied)) where
        no_more : (b : Bool) → (b && false) ≡ false
        no_more true = refl
        no_more false = refl

        none : (k : ℕ) → (nat_le 1 k && nat_le k 0) ≡ false
        none zero = refl
        none (suc k) = ap (λ b. nat_le 1 (suc k) && b) (lt-leb (suc k) 0 (omega arith)) ∙ no_more (nat_le 1 (suc k))

  none_goes : (l : ℕ) (e : Event) → is_go w e (At l 0) ≡ false
  none_goes l (At m j) = ap (λ b. (nat_eq m l && b) && is_event w (At l 0)) (ne_eqb 0 (j + 1) (λ e. absurd (omega (arith, e)))) ∙ neither (nat_eq m l) (is_event w (At l 0)) where
    neither : (a b : Bool) → ((a && false) && b) ≡ false
    neither true b = refl
    neither false b = refl
  none_goes l End = refl

  left_later : (l m j : ℕ) → same_event (leaving w m j) (At l 0) ≡ false
  left_later l m j = elim (is_target w m && nat_eq j (last w m)) as (λ b. same_event (cond b End (At m (j + 1))) (At l 0) ≡ false) [
    | true ↦ refl
    | false ↦ ap (λ b. nat_eq m l && b) (ne_eqb (j + 1) 0 (λ e. absurd (omega (arith, e)))) ∙ neither (nat_eq m l)
  ] where
    neither : (a : Bool) → (a && false) ≡ false
    neither true = refl
    neither false = refl

  none_returned : (l : ℕ) (e : Event) (ss : List Supply) → list_any (is_return_of w e (At l 0)) ss ≡ false
  none_returned l e [] = refl
  none_returned l e (s ∷ ss) = (λ i. (same_event (leaving w s.line s.station) e && left_later l s.holder s.place i) || none_returned l e ss i) ∙ neither (same_event (leaving w s.line s.station) e) where
    neither : (a : Bool) → ((a && false) || false) ≡ false
    neither true = refl
    neither false = refl

  none_before : (l : ℕ) → l < line_count w → (e : Event) → precedes w e (At l 0) ≡ false
  none_before l low e = λ i. (none_goes l e i || none_supplied l low e i) || none_returned l e w.supplies i

  none_waited : (l : ℕ) → l < line_count w → (es : List Event) → filter (λ e. precedes w e (At l 0)) es ≡ []
  none_waited l low [] = refl
  none_waited l low (e ∷ es) = ap (λ b. cond b (e ∷ filter (λ f. precedes w f (At l 0)) es) (filter (λ f. precedes w f (At l 0)) es)) (none_before l low e) ∙ none_waited l low es

  -- it can go as long as it did not
  first_goes : (done : List Event) (l : ℕ) → l < line_count w → is_among done (At l 0) ≡ false → can_go w done (At l 0) ≡ true
  first_goes done l low off = and_from _ _ (ap not off) (ap (list_all (is_among done)) (none_waited l low (events w)))

  -- ---- of two first events the one of the lesser line comes first

  find_in : (f : Event → Bool) (a : ℕ) (js : List ℕ) (more : List Event) (e : Event) → find f (map (At a) js ++ more) ≡ Some e
      → ((j : ℕ) × (e ≡ At a j)) ⊎ (find f more ≡ Some e)
  find_in f a [] more e is = inr is
  find_in f a (j ∷ js) more e is = elim (f (At a j)) as (λ b. cond b (Some (At a j)) (find f (map (At a) js ++ more)) ≡ Some e → ((k : ℕ) × (e ≡ At a k)) ⊎ (find f more ≡ Some e)) [
    | true ↦ λ h. inl (j, cc)
    | false ↦ λ h. find_in f a js more e h
  ] is

  not_passed : (f : Event → Bool) (k l a n : ℕ) → f (At k 0) ≡ true → a ≤ k → k < l → k < a + n → 0 < step_count w k
      → find f (flat_map (events_of w) (range_with_len a n) ++ End ∷ []) ≡ Some (At l 0) → ⊥
  not_passed f k l a zero passes from less low some is = absurd (omega arith)
  not_passed f k l a (suc n) passes from less low some is =
      let more = flat_map (events_of w) (range_with_len (a + 1) n) ++ End ∷ [] in
      let split : find f (events_of w a ++ more) ≡ Some (At l 0) = ap (find f) (sym (append_assoc (events_of w a) (flat_map (events_of w) (range_with_len (a + 1) n)) (End ∷ []))) ∙ is in
      elim (cases_eq a k) [
        | inl same ↦ here (step_count w k) some (subst (λ b. find f (events_of w b ++ more) ≡ Some (At l 0)) same split)
        | inr other ↦ elim (find_in f a (range_with_len 0 (step_count w a)) more (At l 0) split) [
          | inl found ↦ let at : l ≡ a = line_of found.1 in absurd (omega (arith, at))
          | inr later ↦ not_passed f k l (a + 1) n passes (omega arith) less (omega arith) some later
        ]
      ] where
        line_of : {j : ℕ} → At l 0 ≡ At a j → l ≡ a
        line_of e = cc

        here : (m : ℕ) → 0 < m → find f (map (At k) (range_with_len 0 m) ++ (flat_map (events_of w) (range_with_len (a + 1) n) ++ End ∷ [])) ≡ Some (At l 0) → ⊥
        here zero h e = absurd (omega arith)
        here (suc m) h e =
            let first : Some (At k 0) ≡ Some (At l 0) = ap (λ b. cond b (Some (At k 0)) (find f (map (At k) (range_with_len 1 m) ++ (flat_map (events_of w) (range_with_len (a + 1) n) ++ End ∷ [])))) (sym passes) ∙ e in
            let same : k ≡ l = cc in
            absurd (omega (arith, same))

  line_low : (f : Event → Bool) (l a n : ℕ) → find f (flat_map (events_of w) (range_with_len a n) ++ End ∷ []) ≡ Some (At l 0) → l < a + n
  line_low f l a zero is = absurd (no_end (f End) is) where
    no_end : (b : Bool) → cond b (Some End) None ≡ Some (At l 0) → ⊥
    no_end true e = cc
    no_end false e = cc
  line_low f l a (suc n) is =
      let more = flat_map (events_of w) (range_with_len (a + 1) n) ++ End ∷ [] in
      elim (find_in f a (range_with_len 0 (step_count w a)) more (At l 0) (ap (find f) (sym (append_assoc (events_of w a) (flat_map (events_of w) (range_with_len (a + 1) n)) (End ∷ []))) ∙ is)) [
        | inl found ↦ let at : l ≡ a = line_of found.1 in omega (arith, at)
        | inr later ↦ let low = line_low f l (a + 1) n later in omega (arith, low)
      ] where
        line_of : {j : ℕ} → At l 0 ≡ At a j → l ≡ a
        line_of e = cc

  find_passes : (f : Event → Bool) (es : List Event) (e : Event) → find f es ≡ Some e → f e ≡ true
  find_passes f [] e is = cc
  find_passes f (x ∷ es) e is = elim (f x) as (λ b. f x ≡ b → cond b (Some x) (find f es) ≡ Some e → f e ≡ true) [
    | true ↦ λ at h. let same : x ≡ e = cc in ap f (sym same) ∙ at
    | false ↦ λ _ h. find_passes f es e h
  ] refl is

  some_steps : (l : ℕ) → l < line_count w → 0 < step_count w l
  some_steps l low = elim (is_target w l) as (λ b. 0 < cond b (length (stations w l)) (length (stations w l) + 1)) [
    | true ↦ sound.formed.some l low
    | false ↦ omega arith
  ]

  -- ---- all first events, one after another

  pub record IsFront (done : List Event) (k : ℕ) : Type 0 where
    pub before : (l : ℕ) → l < k → is_among done (At l 0) ≡ true
    pub behind : (l : ℕ) → k ≤ l → is_among done (At l 0) ≡ false

  never : (b : Bool) → (b && false) ≡ false
  never true = refl
  never false = refl

  pub in_order : (es done : List Event) (k : ℕ) → IsFront done k → IsLeastAfter w done es → firsts (before_end es) ≡ range_with_len k (length (firsts (before_end es)))
  in_order [] done k f least = refl
  in_order (End ∷ es) done k f least = refl
  in_order (At l (suc j) ∷ es) done k f least =
      in_order es (At l (suc j) ∷ done) k (record {
        before = λ x low. or_right _ _ (f.before x low);
        behind = λ x high. λ i. (ap (λ b. nat_eq l x && b) (ne_eqb (suc j) 0 (λ e. absurd (omega (arith, e)))) ∙ never (nat_eq l x)) i || f.behind x high i;
      }) least.1
  in_order (At l zero ∷ es) done k f least =
      let goes = find_passes (can_go w done) (events w) (At l 0) least.0 in
      let off : is_among done (At l 0) ≡ false = not-true _ (and_parts (not (is_among done (At l 0))) (list_all (is_among done) (predecessors w (At l 0))) goes).0 in
      let low = line_low (can_go w done) l 0 (line_count w) least.0 in
      elim (cases_eq l k) [
        | inl same ↦
            let rest = in_order es (At l 0 ∷ done) (k + 1) (record {
              before = λ x less. elim (cases_eq x k) [
                | inl is ↦ or_left _ _ (ap (λ b. b && true) (eq-eqb l x (same ∙ sym is)))
                | inr other ↦ or_right _ _ (f.before x (omega arith))
              ];
              behind = λ x high. λ i. ap (λ b. b && true) (ne_eqb l x (λ e. absurd (omega (arith, e, same)))) i || f.behind x (omega arith) i;
            }) least.1 in
            (λ i. same i ∷ rest i)
        | inr other ↦ elim (cases_lt l k) [
          | inl less ↦ absurd (both_ways (is_among done (At l 0)) off (f.before l less))
          | inr high ↦
              let inside : k < line_count w = omega arith in
              absurd (not_passed (can_go w done) k l 0 (line_count w) (first_goes done k inside (f.behind k (omega arith))) (omega arith) (omega arith) (omega arith) (some_steps k inside) least.0)
        ]
      ]

-- ---- so the numbers are those that an empty list leaves free

pub free_from_none : (n : ℕ) → free_number [] n ≡ n
free_from_none zero = refl
free_from_none (suc n) = ap suc (free_from_none n)

place_in_range : (n a z : ℕ) → a ≤ z → z < a + n → a + place_of (range_with_len a n) z ≡ z
place_in_range zero a z low high = absurd (omega arith)
place_in_range (suc n) a z low high = elim (nat_eq a z) as (λ b. nat_eq a z ≡ b → a + place_of (range_with_len a (suc n)) z ≡ z) [
  | true ↦ λ is. rw is (let e = eqb-true a z is in omega (arith, e))
  | false ↦ λ off. rw off (
      let above : a + 1 ≤ z = elim (cases_lt a z) [
        | inl less ↦ omega (arith, less)
        | inr more ↦ let same : a ≡ z = omega (arith, low, more) in absurd (both_ways (nat_eq a z) off (eq-eqb a z same))
      ] in
      let rest = place_in_range n (a + 1) z above (omega (arith, high)) in
      omega (arith, rest)
      )
] refl

itself : (a : Action) → renumber (λ z. z) a ≡ a
itself (New z t) = refl
itself (Delete z) = refl
itself (Bind r z y) = refl
itself (Unbind r z y) = refl
itself (Move z p q) = refl

all_themselves : (xs : List Action) → map (renumber (λ z. z)) xs ≡ xs
all_themselves [] = refl
all_themselves (a ∷ xs) = λ i. itself a i ∷ all_themselves xs i

from_zero : (n z : ℕ) → 0 + n ≡ z → n ≡ z
from_zero n z h = omega (arith, h)

pub same_numbers : (u : Universe) (xs : List Action) → IsSteadfastRun u xs → news_of xs ≡ range_with_len 0 (length (news_of xs)) → renumbered [] xs ≡ xs
same_numbers u xs steady order =
    map_alike (Made (is_made xs)) (fresh_name [] xs) (λ z. z) (λ z made.
    let news = news_of xs in
    let low = (in_range 0 (length news) z (ap (λ l. has l z) (sym order) ∙ (has-news xs z ∙ made))).1 in
    let place : place_of news z ≡ z = ap (λ l. place_of l z) order ∙ from_zero (place_of (range_with_len 0 (length news)) z) z (place_in_range (length news) 0 z (omega arith) low) in
    ap (free_number []) place ∙ free_from_none z) xs (touches_own u xs (going_from_steady u xs steady))
    ∙ all_themselves xs

-- a plan over a universe makes its instances so
pub planned_in_order : (u : Universe) (g : List ℕ) (p : Plan) → IsTable u → Attains u g → IsByRounds u g p → news_of p.actions ≡ range_with_len 0 (length (news_of p.actions))
planned_in_order u g p table attained by =
    let layered = attained_layered u table.universe g attained in
    let w = graph_after u g p.dups in
    let own = providers u table g layered p.dups by.forced in
    let sound = sound_for u table g layered (own_pairs p.dups) own in
    let of = graph_of_plan u w sound.formed in
    let order = order_without (numbered w) of.within by.ended in
    let least = least_numbers w (numbered w) of (order_of (numbered w)) order (order_sorts (numbered w) (order_of (numbered w)) of.within order) in
    let made : news_of p.actions ≡ firsts (before_end (ordered_events w)) = ap news_of by.actions ∙ emission_makes u w (before_end (ordered_events w)) in
    made ∙ in_order u (layer_number u) w sound (ordered_events w) [] 0 (record { before = λ l low. absurd (omega arith); behind = λ l high. refl }) least.each
    ∙ ap (λ xs. range_with_len 0 (length xs)) (sym made)
