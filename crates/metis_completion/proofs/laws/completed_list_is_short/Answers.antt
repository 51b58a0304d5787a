use Rattle.metis_completion.proofs.Short.{completed_renamed, completed_short}
use Rattle.metis_completion.proofs.laws.completed_list_is_short.Goals as goal

pub returns-clause-short : goal.returns-clause-short
returns-clause-short c = completed_short

pub returns-clause-renamed : goal.returns-clause-renamed
returns-clause-renamed c = completed_renamed
