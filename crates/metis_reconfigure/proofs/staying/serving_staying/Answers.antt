use Rattle.std.proofs.Common.{◌∙◌}
use Rattle.metis_universe.specs.Terms.{has}
use Rattle.metis_reconfigure.proofs.MissingGoals.{serving_counted}
use Rattle.metis_reconfigure.proofs.staying.serving_staying.Goals as goal

pub returns : goal.returns
returns c = c.serving_in.ensures ∙ serving_counted c.args.u.now c.args.d.now (has c.args.staying.now.keys) c.args.goal c.keeps_invariant.ensures
