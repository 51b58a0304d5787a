use Rattle.metis_why.proofs.Fallen.{greatest_after}
use Rattle.metis_refusal.specs.Terms.{flag}
use Rattle.metis_why.proofs.settling.settle.Goals as goal

pub returns : goal.returns
returns c = greatest_after c.args.u.now (flag c.args.held.now) (flag c.drain.new.held) (flag c.settle_in_rounds.new.held) c.in_ok-drain.ensures c.settle_in_rounds.ensures
