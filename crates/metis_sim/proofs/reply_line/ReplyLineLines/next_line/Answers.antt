use Rattle.std.proofs.Common.{rules}
use Rattle.metis_universe.specs.Terms.{empty}
use Rattle.metis_sim.proofs.ReplyFeeds.{IsLine-of_reply}
use Rattle.metis_sim.proofs.reply_line.ReplyLineLines.next_line.Goals as goal

pub returns-clause-line : goal.returns-clause-line
returns-clause-line c more = IsLine-of_reply c.self.inside.universe.now c.keeps_invariant.ensures.named empty c.in-Some.reply _ (search rules) c.in_ok-set_reply_line.ensures
