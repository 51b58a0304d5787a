use Rattle.std.proofs.Common.{sym, ◌∙◌}
use Rattle.metis_rounds.proofs.Leads.{round_doubles_over}
use Rattle.metis_rounds.proofs.doubled.doubled_by.Goals as goal

pub unreachable-requires : goal.unreachable-requires
unreachable-requires c =
    round_doubles_over c.args.over.now.universe c.args.over.now.support c.args.over.now.lines c.keeps_invariant.ensures.table.universe c.keeps_invariant.ensures.over.support c.keeps_invariant.ensures.over.lines c.args.cycle.now c.requires.cycle (sym c.first_left.ensures ∙ c.in-None.is)
