use Rattle.std.proofs.Common.{refl}
use Rattle.std.specs.Prelude.{codes}
use Rattle.metis_outside.proofs.Feeds.{IsLine-from}
use Rattle.metis_why_text.proofs.write.lines_of_why.Goals as goal

pub of-requires-2 : goal.of-requires-2
of-requires-2 c = IsLine-from (codes "end") refl
