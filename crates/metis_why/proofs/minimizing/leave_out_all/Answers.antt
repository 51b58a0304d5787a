use Rattle.std.proofs.Common.{◌≡◌, ◌+◌, ◌-◌, ◌<◌, Bool, List, length, sym, subst, arith}
use Rattle.metis_refusal.specs.Terms.{flag}
use Rattle.metis_why.proofs.Nearest.{nearing_done, nearing_more, nearing_start, place_read}
use Rattle.metis_why.specs.Terms.{IsNearing}
use Rattle.metis_why.proofs.minimizing.leave_out_all.Goals as goal

pub loop-place-init : goal.loop-place-init
loop-place-init c =
    let u = c.args.target.now.u.now in
    let g = c.args.target.now.goal in
    let order = c.args.order.now in
    record {
      low = omega arith;
      nearing = subst (λ (x : List Bool). IsNearing u g order (flag x) (length order)) (sym c.in_ok-kept.ensures.held) (nearing_start u g order (flag c.args.held.now) c.requires.front);
      kept = c.in_ok-kept.ensures.kept;
    }

pub loop-place-preserved : goal.loop-place-preserved
loop-place-preserved c =
    let u = c.args.target.now.u.now in
    let g = c.args.target.now.goal in
    let order = c.args.order.now in
    let x = flag c.loop-place.kept.known.held in
    let z = flag c.leave_out.new.kept.known.held in
    let n = c.loop-place.place - 1 in
    let less : n < length order = omega (arith, c.loop-place.invariant.low, c.loop-place-test.true) in
    let back : c.loop-place.place ≡ n + 1 = omega (arith, c.loop-place-test.true) in
    let before : IsNearing u g order x (n + 1) = subst (λ k. IsNearing u g order x k) back c.loop-place.invariant.nearing in
    let after : IsNearing u g order z n = nearing_more u g order x z n c.index-order-place.result less (place_read order n c.index-order-place.result c.requires.apart less c.index-order-place.is) before c.in_ok-leave_out.ensures.less c.in_ok-leave_out.ensures.keeps c.in_ok-leave_out.ensures.missed in
    record {
      low = omega (arith, less);
      nearing = subst (λ (held : List Bool). IsNearing u g order (flag held) n) (sym c.in_ok-force_near.ensures.held) after;
      kept = c.in_ok-force_near.ensures.kept;
    }

pub returns-clause-nearest : goal.returns-clause-nearest
returns-clause-nearest c =
    let none : c.loop-place.place ≡ 0 = omega (arith, c.loop-place-test.false) in
    let held = c.loop-place.kept.known.held in
    nearing_done c.args.target.now.u.now c.args.target.now.goal c.args.order.now (flag held) (subst (λ k. IsNearing c.args.target.now.u.now c.args.target.now.goal c.args.order.now (flag held) k) none c.loop-place.invariant.nearing)
