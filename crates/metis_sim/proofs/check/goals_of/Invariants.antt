use Rattle.std.proofs.Common.{◌≡◌, drop, map}
use Rattle.metis_sim.specs.Terms.{goals_behind, goals_of}
use Rattle.metis_sim.proofs.check.goals_of.Given as goal

abbrev pub invariant-loop-word : goal.invariant-loop-word
invariant-loop-word l = goals_behind l.goals.items l.u (map (λ t. t.now) (drop l.word-index l.words)) ≡ goals_of l.u (map (λ t. t.now) l.words)
