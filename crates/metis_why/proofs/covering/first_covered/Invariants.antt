use Rattle.std.proofs.Common.{◌≡◌, drop}
use Rattle.std.specs.List.{find, list_all}
use Rattle.metis_why.specs.Terms.{wanted_by}
use Rattle.metis_refusal.specs.Terms.{flag}
use Rattle.metis_why.proofs.covering.first_covered.Given as goal

abbrev pub invariant-loop-goal : goal.invariant-loop-goal
invariant-loop-goal l = find (λ g. list_all (flag l.held) (wanted_by l.u g)) (drop l.goal-index l.goals) ≡ find (λ g. list_all (flag l.held) (wanted_by l.u g)) l.fn.goals
