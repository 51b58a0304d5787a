use Rattle.metis_ids.proofs.Flags.{members_ascend, members_below}
use Rattle.metis_ids.proofs.pair_set.PairSet.iter.Goals as goal

pub returns-clause-ascending : goal.returns-clause-ascending
returns-clause-ascending c = rw (← c.self.view_is) (members_ascend c.self.inside.flags.items)

pub returns-clause-below : goal.returns-clause-below
returns-clause-below c = rw (← c.self.view_is) (members_below c.self.inside.flags.items)
