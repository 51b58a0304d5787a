use Rattle.std.proofs.Common.{ap, ◌∙◌}
use Rattle.metis_reconfigure.specs.Terms.{lack_by}
use Rattle.metis_reconfigure.proofs.targets.lack_of.Goals as goal

pub returns : goal.returns
returns c = λ leaving k. c.lack_among.ensures ∙ ap (λ standing. lack_by c.args.u.now c.args.c.now standing c.args.z c.args.r) (c.of.ensures ∙ k)
