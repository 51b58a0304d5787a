use Rattle.metis_uniqueness.proofs.AuditsThere.{audit_there}
use Rattle.metis_uniqueness.proofs.existence.an_audit_has_an_answer.Goals as goal

pub returns : goal.returns
returns c = λ u goals plan after table. audit_there u table goals plan after
