use Rattle.metis_uniqueness.proofs.Planned.{audit_one}
use Rattle.metis_uniqueness.proofs.laws.an_audit_has_one_answer.Goals as goal

pub returns : goal.returns
returns c = audit_one
