use Rattle.std.proofs.Common.{ap, subst, ◌∙◌, arith}
use Rattle.metis_universe.specs.Terms.{Closed, Refusal, pair_count}
use Rattle.metis_gen.specs.Terms.{generated_targets}
use Rattle.metis_gen.proofs.Places.{pairs_counted}
use Rattle.metis_gen.proofs.SameRows.{generated_tables}
use Rattle.metis_gen.proofs.Whole.{all_in, no_refusal}
use Rattle.metis_gen.proofs.laws.closed_sets_hold_all.Goals as goal

pub returns-clause-pairs : goal.returns-clause-pairs
returns-clause-pairs c = λ n l. ap pair_count (generated_tables n (omega arith)) ∙ pairs_counted n

pub returns-clause-all : goal.returns-clause-all
returns-clause-all c = λ n s l closed. all_in n s (subst (λ u. Closed u s) (generated_tables n (omega arith)) closed)

pub returns-clause-no_refusal : goal.returns-clause-no_refusal
returns-clause-no_refusal c = λ n s p l refusal. no_refusal n s p (subst (λ u. Refusal u (generated_targets n) s p) (generated_tables n (omega arith)) refusal)
