use Rattle.std.proofs.Common.{sym, ◌∙◌}
use Rattle.std.proofs.lemmas.Bool.{false≢true}
use Rattle.metis_why.proofs.Open.{found_new, found_old, none_start}
use Rattle.metis_why.specs.Terms.{far_in}
use Rattle.metis_why.proofs.distance.nearest.Goals as goal
use Rattle.metis_why.proofs.distance.nearest.Goals.{then-is_before, else-is_before}

pub loop-place-init : goal.loop-place-init
loop-place-init c = record { within = c.requires.some; nearest = none_start (far_in c.args.far.now) c.args.open_pairs.now c.requires.some }

pub loop-place-preserved : goal.loop-place-preserved
loop-place-preserved c =
    let f = far_in c.args.far.now in
    let list = c.args.open_pairs.now in
    let here = c.index-open_pairs-place.result in
    let there = c.index-open_pairs-found.result in
    elim c.if-is_before.branch [
      | then-is_before w ↦
          found_new f list c.loop-place.found c.loop-place.place c.if-is_before.found here there c.loop-place.invariant.within c.loop-place-test.true c.loop-place.invariant.nearest c.index-open_pairs-place.is c.index-open_pairs-found.is
          (c.is_before.ensures.0 w.if-is_before.true) w.found-is
      | else-is_before w ↦
          found_old f list c.loop-place.found c.loop-place.place c.if-is_before.found here there c.loop-place.invariant.within c.loop-place-test.true c.loop-place.invariant.nearest c.index-open_pairs-place.is c.index-open_pairs-found.is
          (λ before. false≢true (sym w.if-is_before.false ∙ c.is_before.ensures.1 before)) w.found-is
    ]
