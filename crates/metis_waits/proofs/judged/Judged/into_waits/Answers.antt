use Rattle.metis_waits.proofs.Begun.{numbered_of}
use Rattle.metis_waits.proofs.judged.Judged.into_waits.Goals as goal

pub new-requires : goal.new-requires
new-requires c = numbered_of c.requires.0 c.requires.1 c.args.self c.requires.2
