use Rattle.metis_why.proofs.Lowered.{bring_done, bring_more}
use Rattle.metis_why.specs.Terms.{far_in}
use Rattle.metis_why.proofs.distance.bring_near.Goals as goal

pub loop-pair-preserved : goal.loop-pair-preserved
loop-pair-preserved c = record {
  far =
      bring_more (far_in c.args.ways.now.far) (far_in c.loop-pair.ways.far) (far_in c.bring_one.new.ways.far) c.args.pairs.now c.loop-pair.pair-index c.pair-item.result c.args.cost
      c.loop-pair-test.true c.pair-item.is c.loop-pair.invariant.far c.in_ok-bring_one.ensures.far;
  stay = λ order open_. c.in_ok-bring_one.ensures.stay order (c.loop-pair.invariant.stay order open_);
}

pub returns-clause-far : goal.returns-clause-far
returns-clause-far c = bring_done (far_in c.args.ways.now.far) (far_in c.loop-pair.ways.far) c.args.pairs.now c.loop-pair.pair-index c.args.cost c.loop-pair.invariant.far c.loop-pair-test.false
