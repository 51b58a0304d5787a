use Rattle.metis_ujson.proofs.FirstForms.{first_is_told, told_is_first}
use Rattle.metis_ujson.proofs.laws.first_form_fault_comes_first.Goals as goal

pub returns : goal.returns
returns c bytes f = (told_is_first bytes f, first_is_told bytes f)
