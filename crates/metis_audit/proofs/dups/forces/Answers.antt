use Rattle.std.proofs.Common.{◌∙◌, ap}
use Rattle.metis_lines.specs.Terms.{Over}
use Rattle.metis_audit.specs.Terms.{is_forced}
use Rattle.metis_audit.proofs.dups.forces.Goals as goal

pub returns : goal.returns
returns c = c.is_forced.ensures ∙ ap (λ (o : Over). is_forced o.universe o.support o.lines c.args.pair c.args.cycle.now) c.over-over.ensures
