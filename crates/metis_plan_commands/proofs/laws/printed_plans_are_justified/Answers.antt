use Rattle.metis_plan_commands.proofs.PrintedAudits.{printed_is_justified}
use Rattle.metis_plan_commands.proofs.laws.printed_plans_are_justified.Goals as goal

pub returns : goal.returns
returns c = printed_is_justified
