use Rattle.std.proofs.Common.{arith}
use Rattle.metis_ids.proofs.Flags.{length-members_from}
use Rattle.metis_ids.proofs.pair_set.PairSet.count.Goals as goal

pub returns-clause-within : goal.returns-clause-within
returns-clause-within c = rw (← c.self.view_is) (omega (arith, length-members_from 0 c.self.inside.flags.items))
