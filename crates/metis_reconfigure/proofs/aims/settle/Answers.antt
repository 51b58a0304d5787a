use Rattle.std.proofs.Common.{sym, ◌∙◌}
use Rattle.metis_reconfigure.proofs.Aiming.{firm_leaves}
use Rattle.metis_reconfigure.proofs.aims.settle.Goals as goal

pub least_root_under-requires-clause-leaves : goal.least_root_under-requires-clause-leaves
least_root_under-requires-clause-leaves c =
    (c.args.wishes.now, c.in_ok-leaving.ensures, firm_leaves c.args.wishes.now c.in_ok-leaving.leaving.all.keys c.in-Some-first_firm_leaving.z (sym c.first_firm_leaving.ensures ∙ c.in-Some-first_firm_leaving.is))
