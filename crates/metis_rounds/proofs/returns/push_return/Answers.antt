use Rattle.std.proofs.Common.{ap}
use Rattle.metis_lines.specs.Terms.{is_end}
use Rattle.metis_rounds.proofs.Brought.{pushed}
use Rattle.metis_rounds.proofs.returns.push_return.Goals as goal

pub returns-in-At : goal.returns-in-At
returns-in-At c = pushed c.push.result c.args.from c.args.to c.args.table.now c.push.new.self (ap is_end c.in-At.is) c.push.ensures.there c.push.ensures.others c.push.ensures.count c.push.ensures.has
