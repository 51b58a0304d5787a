use Rattle.std.proofs.Common.{sym, subst, arith}
use Rattle.metis_universe.specs.Terms.{Attains}
use Rattle.metis_gen.specs.Terms.{generated_targets}
use Rattle.metis_gen.proofs.Attained.{targets_attained}
use Rattle.metis_gen.proofs.SameRows.{generated_tables}
use Rattle.metis_gen.proofs.laws.targets_are_attained.Goals as goal

pub returns : goal.returns
returns c = λ n l. subst (λ u. Attains u (generated_targets n)) (sym (generated_tables n (omega arith))) (targets_attained n)
