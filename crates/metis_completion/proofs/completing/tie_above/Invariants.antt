use Rattle.std.proofs.Common.{◌≡◌, ◌≤◌, ◌+◌, ◌++◌, ◌-◌, map}
use Rattle.std.specs.List.{range_with_len}
use Rattle.metis_completion.specs.Terms.{given_holder, given_in, slot_ties}
use Rattle.metis_completion.proofs.completing.tie_above.Given as goal

abbrev pub invariant-loop-below : goal.invariant-loop-below
invariant-loop-below l = record {
  within : l.below - l.held ≤ l.needed - l.held;
  slots : l.actions.items ≡ l.initial.actions.items ++ slot_ties l.tie (given_holder (given_in l.given)) (map (λ k. (l.port, k)) (range_with_len (l.held + 1) (l.below - l.held)));
}
