use Rattle.std.proofs.Common.{◌≡◌, ◌+◌, ◌∙◌, length, ap, arith, get_or, refl, sym}
use Rattle.metis_refusal.specs.Terms.{flag}
use Rattle.metis_universe.specs.Terms.{providers_of, required_of}
use Rattle.metis_why.proofs.Lowered.{entry_is, fold_done, led_not, led_too, port_off, port_on}
use Rattle.metis_why.proofs.Open.{stay_same, stay_then}
use Rattle.metis_why.proofs.Ordered.{few_low, few_named}
use Rattle.metis_why.specs.Terms.{before_of, far_in, led_by_moves, led_by_ports, lowered}
use Rattle.metis_why.specs.declared.reason.Reason.TheVariants.{Comes, Needs}
use Rattle.metis_why.proofs.distance.lead_on.Goals as goal
use Rattle.metis_why.proofs.distance.lead_on.Goals.{then-not-given-port+in_ok-bring_near, else-not-given-port}

pub overflow_cast-providers : goal.overflow_cast-providers
overflow_cast-providers c = let few = few_named c.args.u.now 2000 c.keeps_invariant.ensures.limits.pairs c.args.pair (Needs c.port.inside.0) in omega (arith, few, ap length c.providers-providers.ensures)

pub overflow_add-here : goal.overflow_add-here
overflow_add-here c =
    let few = few_named c.args.u.now 2000 c.keeps_invariant.ensures.limits.pairs c.args.pair (Needs c.port.inside.0) in
    let near = c.requires.near in
    let here = entry_is c.args.ways.now.far c.pair.inside.0 c.args.pair c.pair.view_is (omega (arith, near)) in
    omega (arith, few, near, here, ap length c.providers-providers.ensures)

pub bring_near-requires : goal.bring_near-requires
bring_near-requires c = few_low c.args.u.now c.keeps_invariant.ensures.limits.pairs c.args.pair (Needs c.port.inside.0) c.providers-providers.result.now c.providers-providers.ensures

pub loop-port-preserved : goal.loop-port-preserved
loop-port-preserved c =
    let here = get_or c.args.ways.now.far c.pair.inside.0 0 in
    elim c.if-not-given-port.branch [
      | then-not-given-port+in_ok-bring_near w ↦ record {
        far =
            port_on c.args.u.now c.args.given.now here (far_in c.args.ways.now.far) (far_in c.loop-port.ways.far) (far_in c.if-not-given-port.ways.far) c.requires_-port-items.result.now c.loop-port.port-index c.port-item.result
            c.loop-port-test.true c.port-item.is c.loop-port.invariant.far (ap (flag c.args.given.now) (sym c.port.view_is) ∙ w.if-not-given-port.true) w.providers-providers.result.now (w.providers-providers.ensures ∙ ap (providers_of c.args.u.now) c.port.view_is)
            (ap (λ ways. far_in ways.far) w.ways-is ∙ w.in_ok-bring_near.ensures.far);
        stay = stay_then c.args.ways.now c.loop-port.ways w.bring_near.new.ways c.if-not-given-port.ways c.loop-port.invariant.stay w.in_ok-bring_near.ensures.stay w.ways-is;
      }
      | else-not-given-port w ↦ record {
        far =
            port_off c.args.u.now c.args.given.now here (far_in c.args.ways.now.far) (far_in c.loop-port.ways.far) (far_in c.if-not-given-port.ways.far) c.requires_-port-items.result.now c.loop-port.port-index c.port-item.result
            c.loop-port-test.true c.port-item.is c.loop-port.invariant.far (ap (flag c.args.given.now) (sym c.port.view_is) ∙ w.if-not-given-port.false) (ap (λ ways. far_in ways.far) w.ways-is);
        stay = stay_same c.args.ways.now c.loop-port.ways c.if-not-given-port.ways c.loop-port.invariant.stay w.ways-is;
      }
    ]

pub returns-then-is_set-clause-far : goal.returns-then-is_set-clause-far
returns-then-is_set-clause-far c = λ x given led.
    let near = c.requires.near in
    let far = far_in c.args.ways.now.far in
    let ports = far_in c.loop-port.ways.far in
    let here = entry_is c.args.ways.now.far c.pair.inside.0 c.args.pair c.pair.view_is (omega (arith, near)) in
    let by_ports : ports ≡ led_by_ports c.args.u.now (flag c.args.given.now) (far c.args.pair) far c.args.pair =
    fold_done _ far ports c.requires_-port-items.result.now (required_of c.args.u.now c.args.pair) c.loop-port.port-index c.loop-port.invariant.far c.loop-port-test.false c.requires_-port-items.ensures.ports
    ∙ ap (λ h. led_by_ports c.args.u.now (flag c.args.given.now) h far c.args.pair) here in
    led_not c.args.u.now x c.args.given.now c.args.led.now given led (far c.args.pair) far ports c.args.pair by_ports ports (sym c.is_set.ensures ∙ c.if-is_set.true) refl

pub overflow_cast-len : goal.overflow_cast-len
overflow_cast-len c =
    let few = few_named c.args.u.now 2000 c.keeps_invariant.ensures.limits.pairs c.args.pair Comes in
    omega (arith, few, c.len.ensures, c.deref.ensures.len, ap length c.in_ok-before.ensures)

pub overflow_add-here-2 : goal.overflow_add-here-2
overflow_add-here-2 c =
    let few = few_named c.args.u.now 2000 c.keeps_invariant.ensures.limits.pairs c.args.pair Comes in
    let near = c.requires.near in
    let here = entry_is c.args.ways.now.far c.pair.inside.0 c.args.pair c.pair.view_is (omega (arith, near)) in
    omega (arith, few, near, here, c.len.ensures, c.deref.ensures.len, ap length c.in_ok-before.ensures)

pub bring_near-requires-2 : goal.bring_near-requires-2
bring_near-requires-2 c = few_low c.args.u.now c.keeps_invariant.ensures.limits.pairs c.args.pair Comes c.deref.result.now (c.deref.ensures.value ∙ c.in_ok-before.ensures)

pub returns-clause-far : goal.returns-clause-far
returns-clause-far c = λ x given led.
    let near = c.requires.near in
    let far = far_in c.args.ways.now.far in
    let ports = far_in c.loop-port.ways.far in
    let from = get_or c.args.ways.now.far c.pair.inside.0 0 in
    let here = entry_is c.args.ways.now.far c.pair.inside.0 c.args.pair c.pair.view_is (omega (arith, near)) in
    let by_ports : ports ≡ led_by_ports c.args.u.now (flag c.args.given.now) (far c.args.pair) far c.args.pair =
    fold_done _ far ports c.requires_-port-items.result.now (required_of c.args.u.now c.args.pair) c.loop-port.port-index c.loop-port.invariant.far c.loop-port-test.false c.requires_-port-items.ensures.ports
    ∙ ap (λ h. led_by_ports c.args.u.now (flag c.args.given.now) h far c.args.pair) here in
    let same : c.deref.result.now ≡ before_of c.args.u.now c.args.pair = c.deref.ensures.value ∙ c.in_ok-before.ensures in
    let count : c.len.result ≡ length (before_of c.args.u.now c.args.pair) = omega (arith, c.len.ensures, c.deref.ensures.len, ap length c.in_ok-before.ensures) in
    let moves : far_in c.bring_near-2.new.ways.far ≡ led_by_moves c.args.u.now from ports c.args.pair = c.in_ok-bring_near-2.ensures.far ∙ (λ i. lowered ports (same i) (from + count i)) in
    led_too c.args.u.now x c.args.given.now c.args.led.now given led (far c.args.pair) far ports c.args.pair by_ports (far_in c.bring_near-2.new.ways.far) (sym c.is_set.ensures ∙ c.if-is_set.false)
    (moves ∙ ap (λ h. led_by_moves c.args.u.now h ports c.args.pair) here)
