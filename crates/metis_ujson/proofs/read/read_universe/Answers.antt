use Rattle.std.proofs.Common.{ap, sym, ◌∙◌, Ok}
use Rattle.metis_ujson.proofs.OfVersion.{rows_in-of_version}
use Rattle.metis_ujson.proofs.read.read_universe.Goals as goal

pub made-requires : goal.made-requires
made-requires c = rows_in-of_version c.args.bytes.now _ (c.in_ok-version.ensures ∙ ap Ok (sym c.version.view_is))
