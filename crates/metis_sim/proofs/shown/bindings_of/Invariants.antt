use Rattle.std.proofs.Common.{◌≡◌, ◌++◌}
use Rattle.metis_sim.proofs.shown.bindings_of.Given as goal

abbrev pub invariant-loop-binding : goal.invariant-loop-binding
invariant-loop-binding l = l.list.items ++ l.binding-iterator ≡ l.c.bindings
