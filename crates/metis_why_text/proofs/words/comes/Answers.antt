use Rattle.std.proofs.Common.{append_assoc}
use Rattle.metis_why_text.proofs.words.comes.Goals as goal

pub returns : goal.returns
returns c = simp append_assoc c.format.ensures.ok
