use Rattle.metis_output.proofs.Dropped.{next_of_rest}
use Rattle.metis_output.proofs.each.EachLines.next_line.Goals as goal

pub returns-clause-some : goal.returns-clause-some
returns-clause-some g c more = next_of_rest (g.T.LineAt.lines c.args.self.now.of) c.args.self.now.at _ c.in_ok-set_line.ensures.text
