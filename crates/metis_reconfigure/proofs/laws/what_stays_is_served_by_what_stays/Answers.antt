use Rattle.metis_reconfigure.proofs.Lawful.{labels_free, may_go_all}
use Rattle.metis_reconfigure.proofs.laws.what_stays_is_served_by_what_stays.Goals as goal

pub returns-clause-served : goal.returns-clause-served
returns-clause-served c = λ u wishes old goals r k ans. may_go_all u k wishes old ans.steady goals r ans.answerable

pub returns-clause-names : goal.returns-clause-names
returns-clause-names c = λ u wishes old goals r k s. labels_free u k wishes old s goals r
