use Rattle.metis_commands.proofs.why.answer.Goals as goal
use Rattle.metis_outside.proofs.Feeds.{IsLine-from}
use Rattle.std.proofs.Common.{refl}
use Rattle.std.specs.Prelude.{codes}

pub of-requires : goal.of-requires
of-requires c = IsLine-from (codes "attained") refl
