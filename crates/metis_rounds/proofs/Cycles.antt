-- A cycle of the events' numbers is a round of edges between the events.
use Rattle.std.proofs.Common.{◌≡◌, ℕ, suc, ◌+◌, ◌-◌, ◌<◌, ◌≤◌, true, false, List, [], ◌∷◌, length, get_or, map, sym, ap, ◌∙◌, subst, arith, inl, inr}
use Rattle.std.specs.List.{All, AllByRecursion, list_all}
use Rattle.std.proofs.lemmas.Bool.{false≢true, or_cases, cases_lt}
use Rattle.std.proofs.lemmas.List.{get_or-map, length-map}
use Rattle.std.proofs.lemmas.List.Elements.{All-from_recursion}
use Rattle.metis_ids.proofs.Orders.{cycle_with}
use Rattle.metis_ids.proofs.Taken.{edge_to}
use Rattle.metis_ids.specs.Terms.{Graph, HasCycle, IsCycle, cycle_of, is_edge}
use Rattle.metis_ids.specs.declared.events.Event.{Event}
use Rattle.metis_ids.specs.declared.events.Event.TheVariants.{At, End}
use Rattle.metis_universe.specs.Terms.{Universe}
use Rattle.metis_lines.specs.Terms.{AbstractPlan, IsFormed, Rises, StandsOnLower, around, events, is_cycle, is_end, is_event, is_return_into_move, leaving, precedes, station_at}
use Rattle.metis_events.proofs.Numbered.{graph_of_plan}
use Rattle.metis_events.proofs.Ranks.{cycle_returns, leaving_by}
use Rattle.metis_events.proofs.Returns.{of_supply}
use Rattle.metis_events.specs.Terms.{IsGraphOf, dag_of, graph_of, nth_event}
use Rattle.metis_rounds.proofs.Around.{all_by_place, around_count, around_inside, around_last, no_pair}
use Rattle.metis_rounds.proofs.Numbered.{is_nth_event}

some_cycle : (w : AbstractPlan) (es : List Event) → 0 < length es → list_all (λ c. precedes w c.1 c.0) (around es) ≡ true → is_cycle w es ≡ true
some_cycle w [] some all = absurd (omega arith)
some_cycle w (e ∷ es) some all = all

module _ (w : AbstractPlan) (g : Graph) (of : IsGraphOf w g) (c : List ℕ) (cycle : IsCycle g c) where
  es : List Event
  es = map (nth_event w) c

  count : length es ≡ length c
  unfolding es
  count = length-map c (nth_event w)

  event_at_place : (k : ℕ) → k < length c → get_or es k End ≡ nth_event w (get_or c k 0)
  unfolding es
  event_at_place k low = get_or-map (nth_event w) c k 0 End low

  -- each node has an edge into it
  node_low : (k : ℕ) → k < length c → get_or c k 0 < g.nodes
  node_low k low = elim (cases_lt (k + 1) (length c)) [
    | inl more ↦ edge_to g of.within _ _ (cycle.next k more)
    | inr end ↦ let last : length c - 1 ≡ k = omega arith in subst (λ i. get_or c i 0 < g.nodes) last (edge_to g of.within _ _ cycle.closed)
  ]

  edge_between : (a b : ℕ) → a < length c → b < length c → is_edge g (get_or c a 0) (get_or c b 0) ≡ true → precedes w (get_or es a End) (get_or es b End) ≡ true
  edge_between a b low high edge =
      (λ i. precedes w (event_at_place a low i) (event_at_place b high i)) ∙ sym (of.edges _ _ (node_low a low) (node_low b high)) ∙ edge

  around_edges : (k : ℕ) → k < length (around es) → precedes w (get_or (around es) k no_pair).1 (get_or (around es) k no_pair).0 ≡ true
  around_edges k low = elim (cases_lt (k + 1) (length c)) [
    | inl more ↦
        let next : k + 1 ≡ suc k = omega arith in
        let edge = subst (λ i. is_edge g (get_or c i 0) (get_or c k 0) ≡ true) next (cycle.next k more) in
        ap (λ (p : Event × Event). precedes w p.1 p.0) (around_inside es k (omega (arith, count))) ∙ edge_between (suc k) k (omega arith) (omega arith) edge
    | inr end ↦
        let short : k < length c = omega (arith, count, around_count es) in
        let last : length c - 1 ≡ k = omega arith in
        let edge = subst (λ i. is_edge g (get_or c 0 0) (get_or c i 0) ≡ true) last cycle.closed in
        ap (λ (p : Event × Event). precedes w p.1 p.0) (around_last es k (omega (arith, count))) ∙ edge_between 0 k (omega arith) short edge
  ]

  pub is_round : is_cycle w (map (nth_event w) c) ≡ true
  unfolding es
  is_round = some_cycle w es (let some = cycle.some in omega (arith, count)) (all_by_place (λ (p : Event × Event). precedes w p.1 p.0) (around es) no_pair around_edges)

-- ---- over a plan without an order

mapped_events : (w : AbstractPlan) (ns : List ℕ) → AllByRecursion (λ n. n < length (events w)) ns → AllByRecursion (λ e. is_event w e ≡ true) (map (nth_event w) ns)
mapped_events w [] low = tt
mapped_events w (n ∷ ns) low = (is_nth_event w n low.0, mapped_events w ns low.1)

by_places : (P : ℕ → Type 0) (ns : List ℕ) → ((k : ℕ) → k < length ns → P (get_or ns k 0)) → AllByRecursion P ns
by_places P [] each = tt
by_places P (n ∷ ns) each = (each 0 (omega arith), by_places P ns (λ k low. each (suc k) (omega arith)))

abbrev numbered : AbstractPlan → Graph
numbered w = dag_of (graph_of w)

module _ (u : Universe) (w : AbstractPlan) (formed : IsFormed u w) (h : HasCycle (numbered w)) where
  of : IsGraphOf w (numbered w)
  of = graph_of_plan u w formed

  nodes : IsCycle (numbered w) (cycle_of (numbered w))
  nodes = cycle_with (numbered w) of.within h

  pub cycle_is_round : is_cycle w (map (nth_event w) (cycle_of (numbered w))) ≡ true
  cycle_is_round = is_round w (numbered w) of (cycle_of (numbered w)) nodes

  all_low : AllByRecursion (λ n. n < length (events w)) (cycle_of (numbered w))
  all_low = by_places (λ n. n < length (events w)) (cycle_of (numbered w)) (λ k low. node_low w (numbered w) of (cycle_of (numbered w)) nodes k low)

  pub nodes_low : All (λ n. n < length (events w)) (cycle_of (numbered w))
  nodes_low = All-from_recursion (λ n. n < length (events w)) (cycle_of (numbered w)) all_low

  pub cycle_of_all_events : All (λ e. is_event w e ≡ true) (map (nth_event w) (cycle_of (numbered w)))
  cycle_of_all_events = All-from_recursion (λ e. is_event w e ≡ true) (map (nth_event w) (cycle_of (numbered w))) (mapped_events w (cycle_of (numbered w)) all_low)

-- no event precedes itself, so a round has at least two
module _ (u : Universe) (level : ℕ → ℕ) (w : AbstractPlan) (formed : IsFormed u w) (rises : Rises level w) (on_lower : StandsOnLower u level w) where
  same_steps : (l j m k : ℕ) → At l j ≡ At m k → (l ≡ m) × (j ≡ k)
  same_steps l j m k h = (cc, cc)

  not_itself : (e : Event) → is_return_into_move w e e ≡ true → ⊥
  not_itself e h =
      let s = of_supply w e e h in
      let same : leaving w s.supply.line s.supply.station ≡ At s.supply.holder (s.supply.place + 1) = s.left_by ∙ sym s.leads_to in
      let step = leaving_by w s.supply.line s.supply.station (ap is_end same) in
      let both = same_steps s.supply.line (s.supply.station + 1) s.supply.holder (s.supply.place + 1) (sym step ∙ same) in
      let station : s.supply.station ≡ s.supply.place = let next = both.1 in omega arith in
      let lower = on_lower.lower s.supply s.listed in
      let one : level (station_at w s.supply.line s.supply.station) ≡ level (station_at w s.supply.holder s.supply.place) = (λ i. level (station_at w (both.0 i) (station i))) in
      omega arith

  pub round_of_two : (es : List Event) → is_cycle w es ≡ true → 2 ≤ length es
  round_of_two [] h = absurd (false≢true h)
  round_of_two (e ∷ []) h =
      let back = cycle_returns u level w formed rises on_lower (e ∷ []) h in
      elim (or_cases (is_return_into_move w e e) false back) [ inl itself ↦ absurd (not_itself e itself) | inr none ↦ absurd (false≢true none) ]
  round_of_two (e ∷ f ∷ es) h = omega arith
