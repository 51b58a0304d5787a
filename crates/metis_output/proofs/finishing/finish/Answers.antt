use Rattle.std.proofs.Common.{refl}
use Rattle.metis_output.proofs.PutLines.{said_lines}
use Rattle.metis_output.proofs.Shown.{said_is_calm, shown_by_writer}
use Rattle.metis_output.specs.Terms.{status_for}
use Rattle.metis_output.proofs.finishing.finish.Goals as goal

pub returns-in-Ok : goal.returns-in-Ok
returns-in-Ok g c =
    record {
      answer =
          rw (c.said.ensures, c.status_for.ensures, c.in-Ok.is)
          (shown_by_writer _ _ _ _ _ (g.L.Lines.rest c.in-Ok.answer.lines) (status_for c.in-Ok.answer.good) c.put_all.result (refl, refl) c.put_all.ensures.text c.put_all.ensures.cause);
      lines = rw c.said.ensures (said_lines _ _ _ c.put_all.result c.put_all.ensures.lines);
      calm = rw (c.said.ensures, c.status_for.ensures) (said_is_calm c.put_all.result c.in-Ok.answer.good);
    }
