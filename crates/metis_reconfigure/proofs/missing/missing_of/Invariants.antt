use Rattle.metis_reconfigure.specs.Terms.{settled}
use Rattle.metis_reconfigure.proofs.MissingGoals.{AreMissing}
use Rattle.metis_reconfigure.proofs.missing.missing_of.Given as goal

abbrev pub invariant-loop-place : goal.invariant-loop-place
invariant-loop-place l = AreMissing l.u l.c (settled l.c l.leaving.keys) l.goals l.place l.missing.items
