use Rattle.metis_completion.proofs.Keeping.{fresh_leads, taken_required}
use Rattle.metis_completion.proofs.laws.fresh_instances_lead_to_fresh_and_given_ones.Goals as goal

pub returns-clause-leads : goal.returns-clause-leads
returns-clause-leads c = fresh_leads

pub returns-clause-required : goal.returns-clause-required
returns-clause-required c = taken_required
