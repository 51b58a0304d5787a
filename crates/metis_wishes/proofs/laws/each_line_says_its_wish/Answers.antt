use Rattle.metis_wishes.proofs.Said.{keep_said, kind_said, pair_said, rebind_said, retire_said}
use Rattle.metis_wishes.proofs.laws.each_line_says_its_wish.Goals as goal

pub returns-clause-keep : goal.returns-clause-keep
returns-clause-keep c = keep_said

pub returns-clause-rebind : goal.returns-clause-rebind
returns-clause-rebind c = rebind_said

pub returns-clause-retire : goal.returns-clause-retire
returns-clause-retire c = retire_said

pub returns-clause-kind : goal.returns-clause-kind
returns-clause-kind c = kind_said

pub returns-clause-pair : goal.returns-clause-pair
returns-clause-pair c = pair_said
