-- The instances that the emission names are those of the lines.
use Rattle.std.proofs.Common.{◌≡◌, ℕ, zero, suc, ◌^◌, ◌<◌, ◌≤◌, Bool, true, false, cond, not, ◌&&◌, List, [], ◌∷◌, length, get_or, sym, ap, arith, nat_eq, inl, inr}
use Rattle.std.proofs.lemmas.Bool.{cases_lt, ltb-true}
use Rattle.std.proofs.lemmas.List.{get_or_past}
use Rattle.std.proofs.lemmas.List.Elements.{All-append, All-cons, All-map, All-nil}
use Rattle.std.specs.List.{All, Contains}
use Rattle.metis_ids.specs.declared.actions.Action.{Action}
use Rattle.metis_ids.specs.declared.actions.Action.TheVariants.{New, Delete, Bind, Unbind, Move}
use Rattle.metis_ids.specs.declared.events.Event.{Event}
use Rattle.metis_ids.specs.declared.events.Event.TheVariants.{At, End}
use Rattle.metis_universe.specs.Terms.{NamesBelow, Universe, type_of}
use Rattle.metis_lines.specs.Terms.{AbstractPlan, IsFormed, IsOrder, IsOrderAfter, Supply, is_supplied, is_there, line_count, station_at, stations}
use Rattle.metis_emit.specs.Terms.{binds, emission, event_actions, gained, move_actions, supplies_at, unbinds}
use Rattle.metis_emit.proofs.Members.{In, in_filter, all_from}
use Rattle.metis_emit.proofs.Taken.{event_line}

in_contains : (ss : List Supply) (s : Supply) → In s ss → Contains ss s
in_contains [] s there = absurd there
in_contains (t ∷ ss) s there = elim there [
  | inl here ↦ (0, omega arith, sym here)
  | inr later ↦ let rest = in_contains ss s later in (suc rest.0, omega (arith, rest.1), rest.2)
]

module _ (u : Universe) (w : AbstractPlan) (formed : IsFormed u w) where
  -- a line with a station is there
  line_low : (l j : ℕ) → is_there w l j ≡ true → l < line_count w
  line_low l j there = elim (cases_lt l (line_count w)) [
    | inl low ↦ low
    | inr past ↦
        let short = ltb-true j (length (stations w l)) there in
        let none : length (stations w l) ≡ 0 = ap length (get_or_past w.lines l [] past) in
        absurd (omega arith)
  ]

  abbrev BothBelow : Supply → Type 0
  BothBelow s = (s.line < line_count w) × (s.holder < line_count w)

  gained_below : (l i j : ℕ) → All BothBelow (gained w l i j)
  gained_below l i j = all_from BothBelow (gained w l i j) (λ s there.
      let listed = (in_filter (λ t. nat_eq t.line l && nat_eq t.station j) w.supplies s (in_filter (λ t. not (is_supplied w l i t.port t.slot)) (supplies_at w l j) s there).0).0 in
      let both = formed.within s (in_contains w.supplies s listed) in
      (line_low s.line s.station both.needed, line_low s.holder s.place both.given))

  move_below : (l i : ℕ) → l < line_count w → All (NamesBelow (line_count w)) (move_actions w l i (suc i))
  move_below l i low =
      let P = NamesBelow (line_count w) in
      let behind = unbinds (gained w l (suc i) i) in
      All-append P (binds (gained w l i (suc i))) (Move l (station_at w l i) (station_at w l (suc i)) ∷ behind)
      (All-map P (λ s. Bind s.port s.line s.holder) (gained w l i (suc i)) (gained_below l i (suc i)))
      (All-cons P (Move l (station_at w l i) (station_at w l (suc i))) behind low
      (All-map P (λ s. Unbind s.port s.line s.holder) (gained w l (suc i) i) (gained_below l (suc i) i)))

  event_below : (l j : ℕ) → l < line_count w → All (NamesBelow (line_count w)) (event_actions u w (At l j))
  event_below l zero low = All-cons (NamesBelow (line_count w)) (New l (type_of u (station_at w l 0))) [] low (All-nil (NamesBelow (line_count w)))
  event_below l (suc i) low = by_answer (is_there w l (suc i)) where
    by_answer : (b : Bool) → All (NamesBelow (line_count w)) (cond b (move_actions w l i (suc i)) (Delete l ∷ []))
    by_answer true = move_below l i low
    by_answer false = All-cons (NamesBelow (line_count w)) (Delete l) [] low (All-nil (NamesBelow (line_count w)))

  below_after : (es done : List Event) → IsOrderAfter w done es → All (NamesBelow (line_count w)) (emission u w es)
  below_after [] done order = All-nil (NamesBelow (line_count w))
  below_after (End ∷ es) done order = All-nil (NamesBelow (line_count w))
  below_after (At l j ∷ es) done order = All-append (NamesBelow (line_count w)) (event_actions u w (At l j)) (emission u w es) (event_below l j (event_line u w l j order.0)) (below_after es (At l j ∷ done) order.3)

  pub emission_below : (es : List Event) → IsOrder w es → All (NamesBelow (line_count w)) (emission u w es)
  emission_below es order = below_after es [] order.each

-- what is below a number is below a greater one
pub below : (n : ℕ) → n ≤ 2 ^ 32 → (actions : List Action) → All (NamesBelow n) actions → All (NamesBelow (2 ^ 32)) actions
below n few actions all k d low = one (get_or actions k d) (all k d low) where
  one : (a : Action) → NamesBelow n a → NamesBelow (2 ^ 32) a
  one (New z t) h = omega arith
  one (Delete z) h = omega arith
  one (Bind r z y) h = let first = h.0 in let second = h.1 in (omega arith, omega arith)
  one (Unbind r z y) h = let first = h.0 in let second = h.1 in (omega arith, omega arith)
  one (Move z p q) h = omega arith
