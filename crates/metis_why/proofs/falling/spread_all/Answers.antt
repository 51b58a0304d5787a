use Rattle.metis_why.proofs.Fallen.{shrunk_then}
use Rattle.metis_refusal.specs.Terms.{flag}
use Rattle.metis_why.proofs.falling.spread_all.Goals as goal

pub loop-pair-preserved : goal.loop-pair-preserved
loop-pair-preserved c = record {
  shrunk = shrunk_then c.args.u.now (flag c.args.falling.now.held) (flag c.loop-pair.falling.held) (flag c.spread.new.falling.held) c.loop-pair.invariant.shrunk c.in_ok-spread.ensures.shrunk;
  from = c.in_ok-spread.ensures.from;
}
