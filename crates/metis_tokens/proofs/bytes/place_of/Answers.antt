use Rattle.memchr.specs.Find.{is_byte}
use Rattle.metis_tokens.proofs.FirstByte.{first_byte}
use Rattle.metis_tokens.proofs.bytes.place_of.Goals as goal

pub returns : goal.returns
returns c = first_byte (is_byte c.args.byte) c.args.bytes.now c.memchr.result c.memchr.ensures
