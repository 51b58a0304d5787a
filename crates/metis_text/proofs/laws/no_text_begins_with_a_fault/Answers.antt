use Rattle.metis_text.specs.Terms.{plan_from}
use Rattle.metis_text.proofs.PlanWhole.{closed, lines_from, plan_text}
use Rattle.metis_tokens.proofs.Texts.{fault_stays}
use Rattle.metis_text.proofs.laws.no_text_begins_with_a_fault.Goals as goal

pub returns : goal.returns
returns c = λ u. fault_stays (lines_from u) closed (plan_from u) (plan_text u)
