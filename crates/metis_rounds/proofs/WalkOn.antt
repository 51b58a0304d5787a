-- Where rounds stop, the stuck events are those that are not taken: so what is left of a walk is one, a walk begins with the first event that is not taken, and goes on to the least that the last step waits for.
use Rattle.std.proofs.Common.{◌≡◌, ℕ, ◌+◌, ◌-◌, ◌<◌, ◌≤◌, true, false, cond, not, List, length, take, sym, ap, ◌∙◌, subst, arith, nat_lt, inl, inr}
use Rattle.std.specs.Ordering.{nat_cmp, ordering_then}
use Rattle.std.specs.declared.cmp.Ordering.TheVariants.{Less, Equal}
use Rattle.std.proofs.lemmas.Bool.{and_from, and_parts, both_ways, cases_eq, cases_lt, lt-ltb, ltb-false, ltb-true, not-true, not_from_false}
use Rattle.std.proofs.lemmas.Bool.Decides.{nat_tests}
use Rattle.metis_ids.specs.declared.events.Event.{Event}
use Rattle.metis_ids.specs.declared.events.Event.TheVariants.{At, End}
use Rattle.metis_universe.specs.Terms.{Universe}
use Rattle.metis_support.specs.Terms.{Support}
use Rattle.metis_lines.specs.Terms.{AbstractPlan, IsFormed, LifeLines, event_cmp, is_event, is_target, last, line_count, plan_of, precedes, stations, step_count}
use Rattle.metis_events.proofs.AllEvents.{edges_join_events}
use Rattle.metis_events.specs.Terms.{without_supplies}
use Rattle.metis_rounds.proofs.Among.{some_among, stuck_greatest}
use Rattle.metis_rounds.proofs.Closing.{walk_begins}
use Rattle.metis_rounds.proofs.Kept.{kept_is_walk, kept_shorter, later_line, stuck_event}
use Rattle.metis_rounds.specs.Terms.{HasAllBefore, IsBegun, IsFirstMore, IsKept, IsLeastBefore, IsLeastLeft, IsWalk, is_stuck, is_taken, next_of, step_at, stuck_events, taken_of}

-- a later line, or the same one and no earlier step
not_below : (l j m k : ℕ) → m ≤ l → (l ≡ m → k ≤ j) → event_cmp (At l j) (At m k) ≡ Less → ⊥
not_below l j m k low same less = elim (cases_eq l m) [
  | inl at ↦
      let equal : nat_cmp l m ≡ Equal = grind (arith, nat_tests) in
      not_less j k (same at) (sym (ap (λ o. ordering_then o (nat_cmp j k)) equal) ∙ less)
  | inr other ↦ later_line l j m k (omega arith) less
] where
  not_less : (a b : ℕ) → b ≤ a → nat_cmp a b ≡ Less → ⊥
  not_less a b h is = grind (arith, nat_tests)

-- a line that is not in its last station has an event left
pub unfinished_more : (u : Universe) (w : AbstractPlan) → IsFormed u w → (ns : List ℕ) (l : ℕ) → l < line_count w → taken_of ns l ≤ last w l → taken_of ns l < step_count w l
unfinished_more u w formed ns l low left =
    let some = formed.some l low in
    elim (is_target w l) as (λ b. taken_of ns l < cond b (length (stations w l)) (length (stations w l) + 1)) [ true ↦ omega arith | false ↦ omega arith ]

module _ (u : Universe) (w : AbstractPlan) (formed : IsFormed u w) (ns : List ℕ) (left : (e : Event) → is_event w e ≡ true → is_stuck w e ≡ not (is_taken ns e)) where
  untaken : (e : Event) → is_stuck w e ≡ true → is_taken ns e ≡ false
  untaken e stuck = not-true (is_taken ns e) (sym (left e (stuck_event w e stuck)) ∙ stuck)

  stuck_of : (e : Event) → is_event w e ≡ true → is_taken ns e ≡ false → is_stuck w e ≡ true
  stuck_of e there h = left e there ∙ not_from_false (is_taken ns e) h

  -- a stuck event waits for something, and the least of that is the least stuck event before it
  pub some_before : (f : Event) → is_stuck w f ≡ true → HasAllBefore w ns f → ⊥
  some_before f stuck all =
      let at = some_among (λ a. precedes w a f) (stuck_events w) ((stuck_greatest w).held_up.before f stuck) in
      both_ways (is_taken ns at.0) (untaken at.0 at.1) (all at.0 at.2)

  pub left_is_before : (f e : Event) → IsLeastLeft w ns f e → IsLeastBefore w f e
  left_is_before f e h = record {
    stuck = stuck_of e (edges_join_events u w formed e f h.before).0 h.untaken;
    before = h.before;
    least = λ a stuck edge. h.least a edge (untaken a stuck);
  }

  -- ---- what is left of a walk, and one that begins

  pub dropped_walk : (old new : List Event) → IsKept w old → new ≡ take (length new) old → (0 < length new → is_taken ns (step_at new (length new - 1)) ≡ false) → IsWalk w new
  dropped_walk old new kept first ends =
      let shorter = subst (IsKept w) (sym first) (kept_shorter w old kept (length new)) in
      kept_is_walk w new shorter (λ some. stuck_of (step_at new (length new - 1)) (shorter.events (length new - 1) (omega arith)) (ends some))

  first_stuck : (z : ℕ) → IsFirstMore w ns z → is_stuck w (next_of ns z) ≡ true
  first_stuck z h = stuck_of (next_of ns z) (and_from (nat_lt z (line_count w)) (nat_lt (taken_of ns z) (step_count w z)) (lt-ltb z (line_count w) h.low) (lt-ltb (taken_of ns z) (step_count w z) h.more)) past where
    past : nat_lt (taken_of ns z) (taken_of ns z) ≡ false
    past = grind (arith, nat_tests)

  first_least : (z : ℕ) → IsFirstMore w ns z → (a : Event) → is_stuck w a ≡ true → event_cmp a (next_of ns z) ≡ Less → ⊥
  first_least z h End stuck less = cc
  first_least z h (At l j) stuck less =
      let parts = and_parts (nat_lt l (line_count w)) (nat_lt j (step_count w l)) (stuck_event w (At l j) stuck) in
      let short = ltb-true j (step_count w l) parts.1 in
      let past = ltb-false j (taken_of ns l) (untaken (At l j) stuck) in
      elim (cases_lt l z) [
        | inl early ↦ let none = h.before l early in absurd (omega arith)
        | inr late ↦ not_below l j z (taken_of ns z) late (λ at. subst (λ m. taken_of ns m ≤ j) at past) less
      ]

  pub begun_walk : (old new : List Event) → IsWalk w old → IsBegun w ns old new → IsWalk w new
  begun_walk old new walk begun = elim begun [
    | inl same ↦ subst (IsWalk w) (sym same.1) walk
    | inr at ↦ subst (IsWalk w) (sym at.2) (walk_begins w (next_of ns at.0) (first_stuck at.0 at.1) (first_least at.0 at.1))
  ]

-- lines tell as much without the supplies
pub begun_same : (u : Universe) (s : Support) (x : LifeLines) (ns : List ℕ) (old new : List Event) → IsBegun (without_supplies x) ns old new → IsBegun (plan_of u s x) ns old new
begun_same u s x ns old new begun = elim begun [
  | inl same ↦ inl same
  | inr at ↦ let first = at.1 in inr (at.0, record { low = first.low; more = first.more; before = first.before }, at.2)
]
