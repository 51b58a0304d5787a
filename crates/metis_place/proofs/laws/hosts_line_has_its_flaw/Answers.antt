use Rattle.metis_place.proofs.HostsLineFlaws.{flaw_had, flaw_told}
use Rattle.metis_place.proofs.laws.hosts_line_has_its_flaw.Goals as goal

pub returns-clause-had : goal.returns-clause-had
returns-clause-had c = flaw_had

pub returns-clause-told : goal.returns-clause-told
returns-clause-told c = flaw_told
