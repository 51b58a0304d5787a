use Rattle.std.proofs.Common.{refl}
use Rattle.metis_why.proofs.Fallen.{from_start}
use Rattle.metis_why.proofs.falling.Falling.of.Goals as goal

pub returns-clause-from : goal.returns-clause-from
returns-clause-from c = from_start c.args.u.now _ 2000 c.given_outside.ensures c.led_outside.ensures refl
