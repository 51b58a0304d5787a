-- What is kept of a walk, and what a line of its own leaves of it.
use Rattle.std.proofs.Common.{◌≡◌, ℕ, zero, suc, ◌+◌, ◌-◌, ◌<◌, true, false, not, ◌||◌, List, length, take, refl, sym, ap, ◌∙◌, subst, arith, nat_eq, nat_lt, inl, inr}
use Rattle.std.specs.Prelude.{◌⊎◌}
use Rattle.std.specs.List.{list_any}
use Rattle.std.specs.Ordering.{nat_cmp, ordering_then}
use Rattle.std.specs.declared.cmp.Ordering.TheVariants.{Less, Greater}
use Rattle.std.proofs.lemmas.Bool.{false≢true, both_ways, and_parts, or_cases, cases_eq, cond-false, eqb-true, false_from_ne_true, ltb-true, ne_eqb}
use Rattle.std.proofs.lemmas.Bool.Decides.{nat_tests}
use Rattle.std.proofs.lemmas.List.{get_or-take, length-take}
use Rattle.std.proofs.lemmas.List.Sums.{fails_before_first, passes_at_first}
use Rattle.metis_ids.specs.declared.events.Event.{Event}
use Rattle.metis_ids.specs.declared.events.Event.TheVariants.{At, End}
use Rattle.metis_lines.specs.Terms.{AbstractPlan, event_cmp, is_among, is_end, is_event, is_go, is_return, is_return_of, is_start, is_start_of, last, line_count, precedes, same_event, step_count}
use Rattle.metis_lines.proofs.SameEvents.{same_events, same_turned}
use Rattle.metis_support.proofs.Lists.{member}
use Rattle.metis_rounds.proofs.Among.{follows_stuck, stuck_greatest}
use Rattle.metis_rounds.proofs.Freed.{stuck_twin}
use Rattle.metis_rounds.proofs.Stays.{edge_stays}
use Rattle.metis_rounds.proofs.Steps.{among_taken, apart_take}
use Rattle.metis_rounds.proofs.Twins.{follows, kept_event, old_event, old_last, old_or_new, old_twin}
use Rattle.metis_rounds.specs.Terms.{HasMoved, IsKept, IsWalk, IsWithOwnLine, entry_place, is_stuck, kept_count, kept_steps, place_in, step_at, twin_line}

-- ---- what is kept, and walks

pub stuck_event : (w : AbstractPlan) (e : Event) → is_stuck w e ≡ true → is_event w e ≡ true
stuck_event w e stuck = (stuck_greatest w).held_up.events e stuck

pub walk_stuck : (w : AbstractPlan) (es : List Event) → IsWalk w es → (k : ℕ) → k < length es → is_stuck w (step_at es k) ≡ true
walk_stuck w es walk zero low = walk.stuck low
walk_stuck w es walk (suc k) low =
    let next : suc k ≡ k + 1 = omega arith in
    ap (λ n. is_stuck w (step_at es n)) next ∙ (walk.next k (omega arith)).stuck

pub walk_kept : (w : AbstractPlan) (es : List Event) → IsWalk w es → IsKept w es
walk_kept w es walk = record {
  events = λ k low. stuck_event w (step_at es k) (walk_stuck w es walk k low);
  first = walk.first;
  before = λ k low. (walk.next k low).before;
  least = λ k low. (walk.next k low).least;
  apart = walk.apart;
}

pub kept_shorter : (w : AbstractPlan) (es : List Event) → IsKept w es → (k : ℕ) → IsKept w (take k es)
kept_shorter w es kept n = record {
  events = λ k low. subst (λ e. is_event w e ≡ true) (sym (at k low)) (kept.events k (short k low));
  first = λ some a stuck. subst (λ e. event_cmp a e ≡ Less → ⊥) (sym (at 0 some)) (kept.first (short 0 some) a stuck);
  before = λ k low. (λ i. precedes w (at (k + 1) low i) (at k (less k low) i)) ∙ kept.before k (short (k + 1) low);
  least = λ k low a stuck edge. subst (λ e. event_cmp a e ≡ Less → ⊥) (sym (at (k + 1) low)) (kept.least k (short (k + 1) low) a stuck (sym (ap (precedes w a) (at k (less k low))) ∙ edge));
  apart = apart_take n es kept.apart;
} where
  short : (k : ℕ) → k < length (take n es) → k < length es
  short k low = let size = length-take n es in omega arith

  at : (k : ℕ) → k < length (take n es) → step_at (take n es) k ≡ step_at es k
  at k low = let size = length-take n es in get_or-take n es k End (omega arith)

  less : (k : ℕ) → k + 1 < length (take n es) → k < length (take n es)
  less k low = omega arith

module _ (w : AbstractPlan) (es : List Event) (kept : IsKept w es) (ends : 0 < length es → is_stuck w (step_at es (length es - 1)) ≡ true) where
  -- from the last step back, each is stuck
  back : (m k : ℕ) → k + m + 1 ≡ length es → is_stuck w (step_at es k) ≡ true
  back zero k size = let at : k ≡ length es - 1 = omega arith in ap (λ n. is_stuck w (step_at es n)) at ∙ ends (omega arith)
  back (suc m) k size = follows_stuck w (step_at es (k + 1)) (step_at es k) (back m (k + 1) (omega arith)) (kept.before k (omega arith)) (kept.events k (omega arith))

  each_stuck : (k : ℕ) → k < length es → is_stuck w (step_at es k) ≡ true
  each_stuck k low = back (length es - k - 1) k (omega arith)

  pub kept_is_walk : IsWalk w es
  kept_is_walk = record {
    stuck = λ some. each_stuck 0 some;
    first = kept.first;
    next = λ k low. record { stuck = each_stuck (k + 1) low; before = kept.before k low; least = kept.least k low };
    apart = kept.apart;
  }

-- ---- with a line of its own

end_last : (l j : ℕ) → event_cmp End (At l j) ≡ Less → ⊥
end_last l j h = cc

line_before_end : (l j : ℕ) → event_cmp (At l j) End ≡ Less
line_before_end l j = refl

pub later_line : (l j m k : ℕ) → m < l → event_cmp (At l j) (At m k) ≡ Less → ⊥
later_line l j m k low h = clash (sym (ap (λ o. ordering_then o (nat_cmp j k)) more) ∙ h) where
  more : nat_cmp l m ≡ Greater
  more = grind (arith, nat_tests)

  clash : Greater ≡ Less → ⊥
  clash h = cc

not_before_itself : (w : AbstractPlan) → precedes w End End ≡ true → ⊥
not_before_itself w h = elim (or_cases (is_go w End End || is_start w End End) (is_return w End End) h) [
  | inl first ↦ elim (or_cases (is_go w End End) (is_start w End End) first) [
    | inl go ↦ false≢true go
    | inr start ↦ let m = member (is_start_of End End) w.supplies start in false≢true (and_parts (same_event (At m.item.holder m.item.place) End) (same_event (At m.item.line m.item.station) End) m.passes).0
  ]
  | inr return ↦ false≢true (and_parts (not (is_end End)) (list_any (is_return_of w End End) w.supplies) return).0
]

-- only the last station of a line leads to the end
last_to_end : (w : AbstractPlan) (l j : ℕ) → precedes w (At l j) End ≡ true → j ≡ last w l
last_to_end w l j h = elim (or_cases (is_go w (At l j) End || is_start w (At l j) End) (is_return w (At l j) End) h) [
  | inl first ↦ elim (or_cases (is_go w (At l j) End) (is_start w (At l j) End) first) [
    | inl go ↦ eqb-true j (last w l) (and_parts (nat_lt l (line_count w)) (nat_eq j (last w l)) go).1
    | inr start ↦ let m = member (is_start_of (At l j) End) w.supplies start in absurd (false≢true (and_parts (same_event (At m.item.holder m.item.place) (At l j)) (same_event (At m.item.line m.item.station) End) m.passes).1)
  ]
  | inr return ↦ absurd (false≢true (and_parts (not (is_end End)) (list_any (is_return_of w (At l j) End) w.supplies) return).0)
]

event_line : (w : AbstractPlan) (l j : ℕ) → is_event w (At l j) ≡ true → l < line_count w
event_line w l j there = ltb-true l (line_count w) (and_parts (nat_lt l (line_count w)) (nat_lt j (step_count w l)) there).0

module _ (w v : AbstractPlan) (y i : ℕ) (h : IsWithOwnLine w v y i) (moved : HasMoved w v y i) where
  abbrev n : ℕ
  n = line_count w

  -- ---- no new stuck event stands below

  stuck_before_end : (l j : ℕ) → is_stuck v (At l j) ≡ true → is_stuck w (At (twin_line w y l) j) ≡ true
  stuck_before_end l j stuck = stuck_twin w v y i h (At l j) stuck

  stuck_line : (l j : ℕ) → is_stuck v (At l j) ≡ true → (l < n) ⊎ (l ≡ n)
  stuck_line l j stuck = old_or_new w v y i h l (event_line v l j (stuck_event v (At l j) stuck))

  first_stays : (e : Event) → is_event w e ≡ true → ((a : Event) → is_stuck w a ≡ true → event_cmp a e ≡ Less → ⊥) → (a : Event) → is_stuck v a ≡ true → event_cmp a e ≡ Less → ⊥
  first_stays (At m k) there low End stuck = end_last m k
  first_stays End there low End stuck = low End (stuck_twin w v y i h End stuck)
  first_stays End there low (At l j) stuck = λ _. low (At (twin_line w y l) j) (stuck_before_end l j stuck) (line_before_end (twin_line w y l) j)
  first_stays (At m k) there low (At l j) stuck = elim (stuck_line l j stuck) [
    | inl old ↦ low (At l j) (ap (λ x. is_stuck w (At x j)) (sym (old_twin w y l old)) ∙ stuck_before_end l j stuck)
    | inr new ↦ let below = event_line w m k there in later_line l j m k (omega arith)
  ]

  -- an old event that precedes an old one does so in w
  old_edge : (l j : ℕ) (f : Event) → l < n → is_event w f ≡ true → precedes v (At l j) f ≡ true → precedes w (At l j) f ≡ true
  old_edge l j f old there edge = elim (follows w v y i h (At l j) f edge) [
    | inl both ↦ (λ k. precedes w (At (sym (old_twin w y l old) k) j) (sym (old_event w v y i h f there) k)) ∙ both
    | inr exception ↦
        let on = h.goes_on in
        let same : At l j ≡ At y i = ap (λ x. At x j) (sym (old_twin w y l old)) ∙ exception.0 in
        let line : l ≡ y = cc in
        let place : j ≡ i = cc in
        let at = last_to_end v l j (ap (precedes v (At l j)) (sym exception.1) ∙ edge) in
        let long : last v l ≡ last w y = old_last w v y i h l old ∙ ap (last w) line in
        absurd (omega arith)
  ]

  least_stays : (f e : Event) → is_event w f ≡ true → is_event w e ≡ true → precedes w e f ≡ true → ((a : Event) → is_stuck w a ≡ true → precedes w a f ≡ true → event_cmp a e ≡ Less → ⊥) →
      (a : Event) → is_stuck v a ≡ true → precedes v a f ≡ true → event_cmp a e ≡ Less → ⊥
  least_stays f (At m k) to there edge low End stuck before = end_last m k
  least_stays f End to there edge low End stuck before = low End (stuck_twin w v y i h End stuck) edge
  least_stays f End to there edge low (At l j) stuck before = elim (follows w v y i h (At l j) f before) [
    | inl both ↦ λ _. low (At (twin_line w y l) j) (stuck_before_end l j stuck) (ap (precedes w (At (twin_line w y l) j)) (sym (old_event w v y i h f to)) ∙ both) (line_before_end (twin_line w y l) j)
    | inr exception ↦ λ _. not_before_itself w (ap (precedes w End) (sym exception.1) ∙ edge)
  ]
  least_stays f (At m k) to there edge low (At l j) stuck before = elim (stuck_line l j stuck) [
    | inl old ↦ low (At l j) (ap (λ x. is_stuck w (At x j)) (sym (old_twin w y l old)) ∙ stuck_before_end l j stuck) (old_edge l j f old to before)
    | inr new ↦ let below = event_line w m k there in later_line l j m k (omega arith)
  ]

  -- ---- what is left of the walk

  module _ (es : List Event) (walk : IsWalk w es) where
    abbrev count : ℕ
    count = kept_count (At y i) (At y (i + 1)) es

    shorter : IsKept w (kept_steps (At y i) (At y (i + 1)) es)
    shorter = kept_shorter w es (walk_kept w es walk) count

    abbrev left : List Event
    left = kept_steps (At y i) (At y (i + 1)) es

    -- a step before the one that leaves the station is another
    other_leaving : (k : ℕ) → k < length left → same_event (At y (i + 1)) (step_at left k) ≡ false
    other_leaving k low =
        let size = length-take count es in
        ap (same_event (At y (i + 1))) (get_or-take count es k End (omega arith)) ∙ fails_before_first (same_event (At y (i + 1))) es k End (omega arith)

    -- and so is a later one than the first, before the one that enters it
    other_entry : (k : ℕ) → k + 1 < length left → same_event (At y i) (step_at left (k + 1)) ≡ false
    other_entry k low =
        let size = length-take count es in
        ap (same_event (At y i)) (get_or-take count es (k + 1) End (omega arith))
        ∙ elim (cases_eq (place_in es (At y i)) 0) [
          | inl first ↦ false_from_ne_true (same_event (At y i) (step_at es (k + 1))) (λ again.
              let short : k + 1 < length es = omega arith in
              let here = ap (is_among (take (k + 1) es)) (same_events (At y i) (step_at es (k + 1)) again) ∙ walk.apart (k + 1) short in
              both_ways _ here (among_taken (k + 1) 0 es (At y i) (omega arith) (omega arith) (first_is first (omega arith))))
          | inr later ↦
              let at : entry_place (At y i) es ≡ place_in es (At y i) = cond-false (nat_eq (place_in es (At y i)) 0) (length es) (place_in es (At y i)) (ne_eqb (place_in es (At y i)) 0 later) in
              fails_before_first (same_event (At y i)) es (k + 1) End (omega arith)
        ] where
          first_is : place_in es (At y i) ≡ 0 → 0 < length es → same_event (At y i) (step_at es 0) ≡ true
          first_is first some = sym (ap (λ k. same_event (At y i) (step_at es k)) first) ∙ passes_at_first (same_event (At y i)) es End (omega arith)

    pub own_line_keeps : IsKept v left
    own_line_keeps = record {
      events = λ k low. kept_event w v y i h (step_at left k) (shorter.events k low);
      first = λ some. first_stays (step_at left 0) (shorter.events 0 some) (shorter.first some);
      before = λ k low. edge_stays w v y i h moved (step_at left (k + 1)) (step_at left k) (shorter.before k low) (shorter.events k (omega arith)) (same_turned (At y i) (step_at left (k + 1)) ∙ other_entry k low) (same_turned (At y (i + 1)) (step_at left k) ∙ other_leaving k (omega arith));
      least = λ k low. least_stays (step_at left k) (step_at left (k + 1)) (shorter.events k (omega arith)) (shorter.events (k + 1) low) (shorter.before k low) (shorter.least k low);
      apart = shorter.apart;
    }
