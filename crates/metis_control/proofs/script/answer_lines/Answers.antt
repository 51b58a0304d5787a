use Rattle.metis_control.proofs.script.answer_lines.Goals as goal

pub returns : goal.returns
returns c = rw c.in_ok-script.ensures.lines at c.of.ensures
