use Rattle.metis_reconfigure.proofs.Unserved.{lesser_want_less, nothing_new_provides, unmet_wants}
use Rattle.metis_reconfigure.proofs.use_laws.the_unmet_wants_more_than_there_are.Goals as goal

pub returns-clause-wants : goal.returns-clause-wants
returns-clause-wants c = unmet_wants

pub returns-clause-least : goal.returns-clause-least
returns-clause-least c = λ u wishes d leaving ts z s x p k unmet. lesser_want_less u wishes d leaving ts z s unmet x p k

pub returns-clause-nowhere : goal.returns-clause-nowhere
returns-clause-nowhere c = λ u wishes d leaving ts z s is k unmet. nothing_new_provides u wishes d leaving ts z s unmet is k
