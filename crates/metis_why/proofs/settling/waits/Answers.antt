use Rattle.std.proofs.Common.{◌∙◌, sym}
use Rattle.metis_why.proofs.Reasons.{comes_reason, free_no, led_not_held, needs_reason}
use Rattle.metis_why.specs.declared.reason.Reason.TheVariants.{Needs, Comes}
use Rattle.metis_why.proofs.settling.waits.Goals as goal
use Rattle.metis_why.proofs.settling.waits.Goals.{then-is_set-via-then-is_set, then-is_set-via-else-is_set+then-is_free}

pub returns-then-not-are_given-clause-waits : goal.returns-then-not-are_given-clause-waits
returns-then-not-are_given-clause-waits c = λ _ x given led.
    let one = c.are_given.ensures.one c.if-not-are_given.true in
    (Needs one.0, needs_reason c.args.u.now x c.args.given.now c.args.led.now given led c.args.pair one.0 one.1 one.2)

pub returns-then-is_set-clause-falls : goal.returns-then-is_set-clause-falls
returns-then-is_set-clause-falls c = λ _ x given led y barred inside.
    elim c.then-is_set.branch [
      | then-is_set-via-then-is_set w ↦ led_not_held c.args.u.now x c.args.given.now c.args.led.now given led c.args.pair y (sym c.is_set.ensures ∙ w.if-is_set.true) (c.are_given.ensures.all c.if-not-are_given.false) barred inside
      | then-is_set-via-else-is_set+then-is_free w ↦ free_no c.args.u.now y c.args.pair (sym w.is_free.ensures ∙ w.if-is_free.true) barred
    ]

pub returns-clause-waits : goal.returns-clause-waits
returns-clause-waits c = λ _ x given led. (Comes, comes_reason c.args.u.now x c.args.given.now c.args.led.now given led c.args.pair (sym c.is_set.ensures ∙ c.if-is_set.false) (sym c.is_free.ensures ∙ c.if-is_free.false))
