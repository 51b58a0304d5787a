use Rattle.metis_reconfigure.proofs.EachLine.{all_kept, avoid_kept, keep_kept, rebind_kept, retire_kept}
use Rattle.metis_reconfigure.proofs.use_laws.each_line_is_kept.Goals as goal

pub returns-clause-keep : goal.returns-clause-keep
returns-clause-keep c = λ u wishes old goals r z k ans. keep_kept u k wishes old goals r ans z

pub returns-clause-rebind : goal.returns-clause-rebind
returns-clause-rebind c = λ u wishes old goals r z k ans. rebind_kept u k wishes old goals r ans z

pub returns-clause-all : goal.returns-clause-all
returns-clause-all c = λ u wishes old goals r z p k ans. all_kept u k wishes old goals r ans z p

pub returns-clause-retire : goal.returns-clause-retire
returns-clause-retire c = λ u wishes old goals r z k ans. retire_kept u k wishes old goals r ans z

pub returns-clause-avoid : goal.returns-clause-avoid
returns-clause-avoid c = λ u wishes old goals r z p k ans. avoid_kept u k wishes old goals r ans z p
