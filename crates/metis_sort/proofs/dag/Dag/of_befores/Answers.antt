use Rattle.std.proofs.Common.{[]}
use Rattle.metis_sort.proofs.DagFacts.{is_dag, rows_within}
use Rattle.metis_sort.proofs.dag.Dag.of_befores.Goals as goal

pub turned-requires-clause-within : goal.turned-requires-clause-within
turned-requires-clause-within c = rows_within c.args.before c.args.last c.requires.last (λ b low. c.requires.rows b [] low)

pub invariant_of-result : goal.invariant_of-result
invariant_of-result c =
    let turned = c.in_ok-after.ensures in
    is_dag c.args.before c.args.last c.requires.last (λ b low. c.requires.rows b [] low) c.in_ok-after.after turned.size turned.rows c.requires.small turned.few
