use Rattle.metis_lines.specs.Terms.{AreLines}
use Rattle.metis_probe.proofs.rounds.write_each.Given as goal

abbrev pub invariant-loop-dup : goal.invariant-loop-dup
invariant-loop-dup l = AreLines l.u l.s l.lines
