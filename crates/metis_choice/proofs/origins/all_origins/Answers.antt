use Rattle.std.proofs.Common.{◌≡◌, subst, arith}
use Rattle.metis_universe.specs.Terms.{pair_count}
use Rattle.metis_choice.specs.Terms.{AreFirstBelow}
use Rattle.metis_choice.proofs.Below.{all_found}
use Rattle.metis_choice.proofs.origins.all_origins.Goals as goal

pub returns : goal.returns
returns c =
    let u = c.args.u.now in
    let all : c.loop-number.number ≡ pair_count u = omega (arith, c.loop-number-test.false, c.loop-number.auto.number-end, c.pairs-count.ensures.count) in
    all_found u c.loop-number.origins (subst (λ n. AreFirstBelow u n c.loop-number.origins) all c.loop-number.invariant)
