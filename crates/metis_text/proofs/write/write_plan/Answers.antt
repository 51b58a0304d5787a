use Rattle.std.proofs.Common.{subst}
use Rattle.metis_outside.specs.Terms.{Writes}
use Rattle.metis_text.proofs.write.write_plan.Goals as goal

pub returns-clause-text : goal.returns-clause-text
returns-clause-text g c =
    subst (λ l. Writes l (g.K.Sink.written c.args.out.now) (g.K.Sink.written c.put_all.new.out) c.put_all.result) c.lines_of_plan-lines.ensures c.put_all.ensures.text
