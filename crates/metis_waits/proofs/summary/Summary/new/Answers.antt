use Rattle.std.proofs.Common.{List, [], ℕ, sym, subst}
use Rattle.metis_waits.proofs.Stepped.{IsKnown, nothing_known}
use Rattle.metis_waits.specs.Terms.{InstanceState, state_at}
use Rattle.metis_waits.proofs.summary.Summary.new.Goals as goal

pub returns : goal.returns
returns c =
    let known = subst (λ (es : List (ℕ × InstanceState)). IsKnown c.args.u.now [] (state_at es)) (sym c.new.ensures.empty) (nothing_known c.args.u.now) in
    record { each = known.each; within = known.within }
