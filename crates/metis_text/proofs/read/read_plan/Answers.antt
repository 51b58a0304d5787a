use Rattle.metis_text.proofs.PlanStops.{had_by}
use Rattle.metis_text.proofs.Accepted.{read_fewer, read_text}
use Rattle.metis_text.proofs.read.read_plan.Goals as goal

pub returns-clause-text : goal.returns-clause-text
returns-clause-text c = read_text c.args.u.now c.args.bytes.now c.read_text.result c.read_text.ensures

pub returns-clause-fewer : goal.returns-clause-fewer
returns-clause-fewer c = read_fewer c.args.u.now c.args.bytes.now c.read_text.result c.read_text.ensures

pub returns-clause-fault : goal.returns-clause-fault
returns-clause-fault c = had_by c.args.u.now c.args.bytes.now c.read_text.result c.read_text.ensures
