use Rattle.metis_text.specs.Terms.{plan_from}
use Rattle.metis_text.proofs.PlanWhole.{closed, lines_from, plan_text}
use Rattle.metis_tokens.proofs.Texts.{front_of_short}
use Rattle.metis_text.proofs.laws.front_of_short_is_short.Goals as goal

pub returns : goal.returns
returns c = λ u. front_of_short (lines_from u) closed (plan_from u) (plan_text u)
