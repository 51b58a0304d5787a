-- The stuck nodes of the graph of the events' numbers are the stuck events.
use Rattle.std.proofs.Common.{◌≡◌, ℕ, ◌<◌, Bool, true, List, [], ◌∷◌, length, map, sym, ap, ◌∙◌, arith, nat_eq, inl, inr}
use Rattle.std.specs.List.{filter}
use Rattle.std.proofs.lemmas.Bool.{false≢true, and_parts, and_from, or_cases, or_left, or_right, eqb-true, ltb-true, lt-ltb}
use Rattle.std.proofs.lemmas.List.Folds.{list_any_at}
use Rattle.std.specs.Cmp.{both_ways as same_bool}
use Rattle.metis_ids.proofs.Stuck.{IsStuck-stuck}
use Rattle.metis_ids.specs.Terms.{Graph, all_nodes, has, has_before, is_edge, stuck}
use Rattle.metis_ids.specs.declared.events.Event.{Event}
use Rattle.metis_ids.specs.declared.events.Event.TheVariants.{End}
use Rattle.metis_ids.proofs.Lists.{any_at, has-filter, has_below, has_here, some_member}
use Rattle.metis_lines.specs.Terms.{AbstractPlan, events, is_among, is_event, precedes, same_event}
use Rattle.metis_lines.proofs.SameEvents.{same_events, same_itself}
use Rattle.metis_events.proofs.AllEvents.{all_events}
use Rattle.metis_events.proofs.Befores.{event_of_node}
use Rattle.metis_events.specs.Terms.{IsGraphOf, nth_event}
use Rattle.metis_rounds.proofs.Among.{any_among, some_among, stuck_greatest}
use Rattle.metis_rounds.specs.Terms.{IsHeldUp, is_stuck, stuck_events}

-- ---- events of numbers

pub mapped : (f : ℕ → Event) (xs : List ℕ) (e : Event) → is_among (map f xs) e ≡ true → (n : ℕ) × (has xs n ≡ true) × (f n ≡ e)
mapped f [] e h = absurd (false≢true h)
mapped f (x ∷ xs) e h = elim (or_cases (same_event (f x) e) (is_among (map f xs) e) h) [
  | inl now ↦ (x, has_here x xs, same_events (f x) e now)
  | inr later ↦ let rest = mapped f xs e later in (rest.0, or_right (nat_eq x rest.0) (has xs rest.0) rest.1, rest.2)
]

pub among_mapped : (f : ℕ → Event) (xs : List ℕ) (n : ℕ) → has xs n ≡ true → is_among (map f xs) (f n) ≡ true
among_mapped f [] n h = absurd (false≢true h)
among_mapped f (x ∷ xs) n h = elim (or_cases (nat_eq x n) (has xs n) h) [
  | inl now ↦ or_left (same_event (f x) (f n)) (is_among (map f xs) (f n)) (ap (λ k. same_event (f k) (f n)) (eqb-true x n now) ∙ same_itself (f n))
  | inr later ↦ or_right (same_event (f x) (f n)) (is_among (map f xs) (f n)) (among_mapped f xs n later)
]

pub is_nth_event : (w : AbstractPlan) (n : ℕ) → n < length (events w) → is_event w (nth_event w n) ≡ true
is_nth_event w n low = sym (all_events w (nth_event w n)) ∙ list_any_at (λ f. same_event f (nth_event w n)) (events w) n End low (same_itself (nth_event w n))

-- ---- what is stuck

module _ (w : AbstractPlan) (g : Graph) (of : IsGraphOf w g) where
  at_event : (n : ℕ) → n < g.nodes → is_event w (nth_event w n) ≡ true
  at_event n low = let many = of.nodes in is_nth_event w n (omega arith)

  held : IsHeldUp w (map (nth_event w) (stuck g))
  held = record {
    events = λ e there.
        let m = mapped (nth_event w) (stuck g) e there in
        ap (is_event w) (sym m.2) ∙ at_event m.0 ((IsStuck-stuck g).nodes m.0 m.1);
    before = λ e there.
        let m = mapped (nth_event w) (stuck g) e there in
        let a = some_member (λ a. is_edge g a m.0) (stuck g) ((IsStuck-stuck g).before m.0 m.1) in
        any_among (λ f. precedes w f e) (map (nth_event w) (stuck g)) (nth_event w a.0) (among_mapped (nth_event w) (stuck g) a.0 a.1)
        (ap (precedes w (nth_event w a.0)) (sym m.2) ∙ sym (of.edges a.0 m.0 ((IsStuck-stuck g).nodes a.0 a.1) ((IsStuck-stuck g).nodes m.0 m.1)) ∙ a.2);
  }

  stuck_at : ℕ → Bool
  stuck_at n = is_stuck w (nth_event w n)

  numbers : List ℕ
  numbers = filter stuck_at (all_nodes g)

  in_numbers : (n : ℕ) → n < g.nodes → stuck_at n ≡ true → has numbers n ≡ true
  unfolding numbers
  in_numbers n low h = has-filter stuck_at n (all_nodes g) ∙ and_from (stuck_at n) (has (all_nodes g) n) h (has_below g.nodes n ∙ lt-ltb n g.nodes low)

  of_numbers : (n : ℕ) → has numbers n ≡ true → (stuck_at n ≡ true) × (n < g.nodes)
  unfolding numbers
  of_numbers n h =
      let parts = and_parts (stuck_at n) (has (all_nodes g) n) (sym (has-filter stuck_at n (all_nodes g)) ∙ h) in
      (parts.0, ltb-true n g.nodes (sym (has_below g.nodes n) ∙ parts.1))

  supported : (n : ℕ) → has numbers n ≡ true → (n < g.nodes) × (has_before g numbers n ≡ true)
  unfolding stuck_at
  supported n h =
      let at = of_numbers n h in
      let all = (stuck_greatest w).held_up in
      let b = some_among (λ e. precedes w e (nth_event w n)) (stuck_events w) (all.before (nth_event w n) at.0) in
      let a = event_of_node w b.0 (all.events b.0 b.1) in
      let many = of.nodes in
      let low : a.0 < g.nodes = omega (arith, a.2, many) in
      (at.1, any_at (λ m. is_edge g m n) a.0 numbers (in_numbers a.0 low (ap (is_stuck w) a.3 ∙ b.1)) (of.edges a.0 n low at.1 ∙ ap (λ e. precedes w e (nth_event w n)) a.3 ∙ b.2))

  pub stuck_numbers : (n : ℕ) → n < g.nodes → has (stuck g) n ≡ is_stuck w (nth_event w n)
  unfolding stuck_at
  stuck_numbers n low = same_bool (has (stuck g) n) (is_stuck w (nth_event w n))
      (λ h. (stuck_greatest w).greatest (map (nth_event w) (stuck g)) held (nth_event w n) (among_mapped (nth_event w) (stuck g) n h))
      (λ h. (IsStuck-stuck g).greatest numbers supported n (in_numbers n low h))
