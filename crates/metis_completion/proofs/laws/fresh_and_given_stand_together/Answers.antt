use Rattle.metis_completion.proofs.Completion.{completion, renumbered_completion}
use Rattle.metis_completion.proofs.laws.fresh_and_given_stand_together.Goals as goal

pub returns-clause-together : goal.returns-clause-together
returns-clause-together c = λ u old given avoided new k s among t apart. completion u k old s given among avoided new t apart

pub returns-clause-renumbered : goal.returns-clause-renumbered
returns-clause-renumbered c = λ u old given avoided fresh k s among t. renumbered_completion u k old s given among avoided fresh t
