use Rattle.metis_text.specs.Terms.{plan_from}
use Rattle.metis_text.proofs.PlanWhole.{closed, lines_from, plan_text}
use Rattle.metis_tokens.proofs.Texts.{short_stays}
use Rattle.metis_text.proofs.laws.short_until_a_line_ends.Goals as goal

pub returns : goal.returns
returns c = λ u. short_stays (lines_from u) closed (plan_from u) (plan_text u)
