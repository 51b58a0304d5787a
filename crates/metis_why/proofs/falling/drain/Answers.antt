use Rattle.std.proofs.Common.{List, Bool, subst}
use Rattle.metis_why.proofs.Fallen.{shrunk_then}
use Rattle.metis_refusal.specs.Terms.{flag}
use Rattle.metis_why.specs.Terms.{IsShrunk}
use Rattle.metis_why.proofs.falling.drain.Goals as goal

pub returns : goal.returns
returns c = subst (λ (x : List Bool). IsShrunk c.args.u.now (flag x) (flag c.spread_all.new.falling.held)) c.of-falling.ensures.held
    (shrunk_then c.args.u.now (flag c.of-falling.result.held) (flag c.let_all_fall.new.falling.held) (flag c.spread_all.new.falling.held) c.in_ok-let_all_fall.ensures.shrunk c.in_ok-spread_all.ensures.shrunk)
