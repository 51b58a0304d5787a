use Rattle.std.proofs.Common.{[], length, ℕ, ◌≤◌}
use Rattle.std.specs.Prelude.{◌+◌, ◌-◌, ◌*◌, ◌==◌, if◌then◌else◌}
use Rattle.metis_lines.specs.Terms.{plan_of}
use Rattle.metis_rounds.specs.Terms.{IsGoing, all_taken, event_count, taken_of}
use Rattle.metis_rounds.proofs.going.Going.go_on.Given as goal

abbrev pub invariant-loop-alloc : goal.invariant-loop-alloc
invariant-loop-alloc l = record {
  going : IsGoing l.over.universe l.over.support l.over.lines l.tables.returns l.self [];
  kept : (n : ℕ) → taken_of l.initial.self.taken.items n ≤ taken_of l.self.taken.items n;
}

-- the events that are not taken, and whether a line is to be looked at
abbrev pub decreases-loop-alloc : goal.decreases-loop-alloc
decreases-loop-alloc l = 2 * (event_count (plan_of l.over.universe l.over.support l.over.lines) - all_taken l.self.taken.items) + (if length l.self.work.items == 0 then 0 else 1)
