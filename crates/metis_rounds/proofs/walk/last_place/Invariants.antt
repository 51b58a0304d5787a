use Rattle.std.proofs.Common.{◌≡◌, ◌<◌, ◌≤◌, ℕ, false, length}
use Rattle.metis_lines.specs.Terms.{same_event}
use Rattle.metis_rounds.specs.Terms.{step_at}
use Rattle.metis_rounds.proofs.walk.last_place.Given as goal

-- the event is at no place from this one on
abbrev pub invariant-loop-place : goal.invariant-loop-place
invariant-loop-place l = record {
  within : l.place ≤ length l.steps;
  none : (k : ℕ) → l.place ≤ k → k < length l.steps → same_event l.e (step_at l.steps k) ≡ false;
}

abbrev pub decreases-loop-place : goal.decreases-loop-place
decreases-loop-place l = l.place
