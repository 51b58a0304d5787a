use Rattle.std.proofs.Common.{sym, ap, ◌∙◌}
use Rattle.metis_text.specs.Terms.{plan_from, plan_in, said}
use Rattle.metis_text.proofs.Accepted.{well_formed_read}
use Rattle.metis_text.proofs.PlanWhole.{closed, lines_from, plan_text}
use Rattle.metis_tokens.proofs.Texts.{front_of_accepted}
use Rattle.metis_text.proofs.laws.front_is_short.Goals as goal

pub returns : goal.returns
returns c = λ u p after front more table formed text some. front_of_accepted (lines_from u) closed (plan_from u) (plan_text u) front more (said p after) some (ap (plan_in u) (sym text) ∙ well_formed_read u p after table.universe table.named formed)
