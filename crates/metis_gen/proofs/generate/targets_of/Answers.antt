use Rattle.std.proofs.Common.{arith}
use Rattle.std.proofs.lemmas.Grind.{common_steps}
use Rattle.metis_gen.specs.Terms.{generated_targets, targets_at}
use Rattle.metis_gen.proofs.Pieces.{pieces_more}
use Rattle.metis_gen.proofs.generate.targets_of.Goals as goal

pub loop-i-preserved : goal.loop-i-preserved
loop-i-preserved c = rw (pieces_more targets_at 0 c.loop-i.i c.loop-i.i (omega arith)) (grind (arith, common_steps))

pub returns : goal.returns
unfolding generated_targets
returns c = grind (arith, common_steps)
