use Rattle.metis_control.proofs.Reached.{reached, order_done, order_answered, ack_noted}
use Rattle.metis_control.specs.Terms.{after_events, at_first}
use Rattle.metis_control.proofs.laws.what_arrives_counts.Goals as goal

pub returns-clause-done : goal.returns-clause-done
returns-clause-done c = λ A es n k. order_done A (after_events A (at_first A) es) n k (reached A es)

pub returns-clause-answered : goal.returns-clause-answered
returns-clause-answered c = λ A es n k. order_answered A (after_events A (at_first A) es) n k

pub returns-clause-noted : goal.returns-clause-noted
returns-clause-noted c = λ A es n k. ack_noted A (after_events A (at_first A) es) n k
