use Rattle.std.proofs.Common.{refl, sym, subst}
use Rattle.std.specs.Prelude.{codes}
use Rattle.std.proofs.lemmas.Result.{on_ok_weaker}
use Rattle.metis_outside.proofs.Feeds.{IsLine-from}
use Rattle.metis_outside.specs.Terms.{IsLine}
use Rattle.metis_why_text.proofs.LineFeeds.{IsLine-count_line, IsLine-lacks_line}
use Rattle.metis_why_text.proofs.write.WhyFrontLineAt.set_line.Goals as goal

pub returns-in-0-clause-line : goal.returns-in-0-clause-line
returns-in-0-clause-line c = on_ok_weaker c.set_text.result (λ is. subst IsLine (sym is) (IsLine-from (codes "metis why 1") refl)) c.set_text.ensures

pub returns-in-1-clause-line : goal.returns-in-1-clause-line
returns-in-1-clause-line c = on_ok_weaker c.set_lacks.result (λ is. subst IsLine (sym is) (IsLine-lacks_line c.self.inside.universe.now c.keeps_invariant.ensures.named c.self.inside.why.now.lacks)) c.set_lacks.ensures

pub returns-in_default-clause-line : goal.returns-in_default-clause-line
returns-in_default-clause-line c = on_ok_weaker c.set_count.result (λ is. subst IsLine (sym is) (IsLine-count_line c.len.result)) c.set_count.ensures
