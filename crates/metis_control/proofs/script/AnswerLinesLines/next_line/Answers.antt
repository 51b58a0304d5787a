use Rattle.metis_control.proofs.ToldLines.{is_answer, is_counts_line, is_ran_line}
use Rattle.metis_control.proofs.script.AnswerLinesLines.next_line.Goals as goal

pub returns-then-self-len-clause-line : goal.returns-then-self-len-clause-line
returns-then-self-len-clause-line c = λ more.
    let world = c.self.inside.world in
    is_answer world.actions world.state c.index-given.result.now.now _ c.in_ok-set_answer.ensures.text

pub returns-then-self-2-clause-line : goal.returns-then-self-2-clause-line
returns-then-self-2-clause-line c = λ more. is_counts_line _ _ _ _ c.in_ok-set_counts_line.ensures

pub returns-clause-line : goal.returns-clause-line
returns-clause-line c = λ more. is_ran_line _ _ c.in_ok-set_ran_line.ensures
