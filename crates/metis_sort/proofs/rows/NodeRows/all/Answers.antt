use Rattle.std.proofs.Common.{sym, ap, ◌∙◌}
use Rattle.metis_sort.specs.Terms.{joined}
use Rattle.metis_sort.proofs.RowFacts.{joined_is}
use Rattle.metis_sort.proofs.rows.NodeRows.all.Goals as goal

pub returns-clause-nodes : goal.returns-clause-nodes
returns-clause-nodes c = c.deref.ensures.value ∙ sym (joined_is c.self.inside.starts.items c.self.inside.nodes.items c.self.invariant) ∙ ap joined c.self.view_is
