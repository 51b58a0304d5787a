use Rattle.std.proofs.Common.{ap, ◌∙◌, arith}
use Rattle.std.specs.Prelude.{codes}
use Rattle.metis_universe.specs.Terms.{pair_named}
use Rattle.metis_gen.specs.Terms.{left_row, right_row}
use Rattle.metis_gen.proofs.SameRows.{generated_tables}
use Rattle.metis_gen.proofs.TargetNames.{left_target, right_target}
use Rattle.metis_gen.proofs.laws.targets_are_last_states.Goals as goal

pub returns-clause-left : goal.returns-clause-left
returns-clause-left c = λ n i most l. ap (λ u. pair_named u (left_row i).name (codes "a3")) (generated_tables n (omega arith)) ∙ left_target n (omega arith) i l

pub returns-clause-right : goal.returns-clause-right
returns-clause-right c = λ n i most l. ap (λ u. pair_named u (right_row i).name (codes "b3")) (generated_tables n (omega arith)) ∙ right_target n (omega arith) i l
