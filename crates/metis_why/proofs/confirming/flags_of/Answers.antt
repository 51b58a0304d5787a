use Rattle.std.proofs.Common.{arith, false}
use Rattle.std.proofs.lemmas.List.{length-replicate, length-set}
use Rattle.std.proofs.Common.{◌∙◌}
use Rattle.metis_why.proofs.Going.{above_set}
use Rattle.metis_refusal.proofs.Searches.{flagged, unset}
use Rattle.metis_why.specs.Terms.{listed}
use Rattle.metis_why.proofs.confirming.flags_of.Goals as goal

pub loop-number-init : goal.loop-number-init
loop-number-init c = record { places = length-replicate 2000 false; before = λ p low. absurd (omega arith); after = λ p _. unset 2000 p }

pub loop-number-preserved : goal.loop-number-preserved
loop-number-preserved c =
    let flags = c.loop-number.flags in
    let n = c.loop-number.number in
    record {
      places = length-set flags n c.is_listed.result ∙ c.loop-number.invariant.places;
      before = flagged (listed c.args.lines.now) flags n c.is_listed.result (omega (arith, c.loop-number-test.true, c.pairs-number-end.ensures.most, c.loop-number.invariant.places)) c.loop-number.invariant.before c.is_listed.ensures;
      after = above_set flags n c.is_listed.result c.loop-number.invariant.after;
    }
