use Rattle.metis_lines.specs.Terms.{loose}
use Rattle.metis_probe.proofs.rounds.go_through.Given as goal

-- each round more has a line less that goes on from a provider pair
abbrev pub decreases-rounds : goal.decreases-rounds
decreases-rounds l = loose l.rounds.lines
