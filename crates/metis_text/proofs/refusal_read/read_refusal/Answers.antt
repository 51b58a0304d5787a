use Rattle.metis_text.proofs.FirstFlaws.{had_by}
use Rattle.metis_text.proofs.RefusalRead.{read_bytes, read_lacking}
use Rattle.metis_text.proofs.refusal_read.read_refusal.Goals as goal

pub returns-clause-lacks : goal.returns-clause-lacks
returns-clause-lacks c = read_lacking c.args.u.now c.args.bytes.now c.read_text.result c.read_text.ensures.read

pub returns-clause-text : goal.returns-clause-text
returns-clause-text c = read_bytes c.args.u.now c.args.bytes.now c.read_text.result c.read_text.ensures.read

pub returns-clause-fault : goal.returns-clause-fault
returns-clause-fault c = had_by c.args.u.now c.args.bytes.now c.read_text.result c.keeps_invariant.ensures c.read_text.ensures.read
