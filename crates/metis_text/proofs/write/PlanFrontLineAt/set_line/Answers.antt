use Rattle.std.proofs.Common.{refl, sym, subst}
use Rattle.std.specs.Prelude.{codes}
use Rattle.std.proofs.lemmas.Result.{on_ok_weaker}
use Rattle.metis_outside.proofs.Feeds.{IsLine-from}
use Rattle.metis_outside.specs.Terms.{IsLine}
use Rattle.metis_text.proofs.LineFeeds.{IsLine-counts_line}
use Rattle.metis_text.proofs.write.PlanFrontLineAt.set_line.Goals as goal

pub returns-then-place-eq0-clause-line : goal.returns-then-place-eq0-clause-line
returns-then-place-eq0-clause-line c = on_ok_weaker c.set_text.result (λ is. subst IsLine (sym is) (IsLine-from (codes "metis plan 1") refl)) c.set_text.ensures

pub returns-else-place-eq0-clause-line : goal.returns-else-place-eq0-clause-line
returns-else-place-eq0-clause-line c = on_ok_weaker c.set_counts.result (λ is. subst IsLine (sym is) (IsLine-counts_line _ _ _)) c.set_counts.ensures
