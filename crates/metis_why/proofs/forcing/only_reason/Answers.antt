use Rattle.std.proofs.Common.{◌∙◌, sym}
use Rattle.std.proofs.lemmas.Bool.{both_ways}
use Rattle.metis_refusal.specs.Terms.{flag}
use Rattle.metis_why.proofs.Reasons.{comes_unled, only_comes, only_needs}
use Rattle.metis_universe.specs.Terms.{is_free}
use Rattle.metis_why.proofs.forcing.only_reason.Goals as goal
use Rattle.metis_why.proofs.forcing.only_reason.Goals.{then-is_set-via-then-is_set, then-is_set-via-else-is_set+then-is_free}

pub returns-in-Some : goal.returns-in-Some
returns-in-Some c = λ x given led.
    let u = c.args.u.now in
    let q = c.args.pair in (
      c.in-Some.ensures.0,
      only_needs u x c.args.given.now c.args.led.now given led q c.in-Some.port c.in-Some.ensures.1 (λ why.
          elim c.then-is_set.branch [
            | then-is_set-via-then-is_set w ↦ both_ways (flag c.args.led.now q) (comes_unled u x c.args.given.now c.args.led.now given led q why) (sym c.is_set.ensures ∙ w.if-is_set.true)
            | then-is_set-via-else-is_set+then-is_free w ↦ both_ways (is_free u q) why.own (sym w.is_free.ensures ∙ w.if-is_free.true)
          ]),
    )

pub returns-then-are_given : goal.returns-then-are_given
returns-then-are_given c = λ x given led. (tt, only_comes c.args.u.now x c.args.given.now c.args.led.now given led c.args.pair (c.are_given.ensures.all c.if-are_given.true))
