use Rattle.std.proofs.Common.{◌∙◌, ap, Some}
use Rattle.metis_control.proofs.Scripts.{each_line_is_answered, line_is_answered}
use Rattle.metis_control.specs.Terms.{after_events, answer_of, at_first, events_of}
use Rattle.std.proofs.Common.{take}
use Rattle.metis_control.proofs.laws.a_line_gets_its_answer.Goals as goal

pub returns-clause-each : goal.returns-clause-each
returns-clause-each c = λ A lines. each_line_is_answered A (at_first A) lines

pub returns-clause-event : goal.returns-clause-event
returns-clause-event c = λ A lines i line e at says. line_is_answered A (at_first A) lines i line at ∙ ap (λ o. Some (answer_of A (after_events A (at_first A) (events_of (take i lines))) o).0) says

pub returns-clause-bad : goal.returns-clause-bad
returns-clause-bad c = λ A lines i line at says. line_is_answered A (at_first A) lines i line at ∙ ap (λ o. Some (answer_of A (after_events A (at_first A) (events_of (take i lines))) o).0) says
