use Rattle.std.proofs.Common.{sym, arith}
use Rattle.metis_universe.proofs.TypeFaults.{limit_fault-counts}
use Rattle.metis_universe.proofs.check.fault_of_required.Goals as goal

pub returns-then-count_total-le-MOST_REQUIRED : goal.returns-then-count_total-le-MOST_REQUIRED
returns-then-count_total-le-MOST_REQUIRED c = sym (limit_fault-counts c.args.row.now 128 (omega (arith, c.if-count_total-le-MOST_REQUIRED.true, c.count_total.ensures)))
