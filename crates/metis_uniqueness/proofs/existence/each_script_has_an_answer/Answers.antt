use Rattle.metis_uniqueness.proofs.Scripted.{every_script_answers}
use Rattle.metis_uniqueness.proofs.existence.each_script_has_an_answer.Goals as goal

pub returns : goal.returns
returns c = every_script_answers
