use Rattle.std.proofs.Common.{◌∙◌, ap, false}
use Rattle.metis_outside.proofs.Opened.{failing-grown}
use Rattle.metis_outside.specs.Terms.{failing}
use Rattle.metis_outside.proofs.whole.read_whole.Goals as goal

pub returns-in-Err-Failed-take-clause-opens : goal.returns-in-Err-Failed-take-clause-opens
returns-in-Err-Failed-take-clause-opens g c =
    let failed = rw c.in-Err-Failed-take.field-0-is at c.in-Err-Failed-take.ensures.opens in
    failed ∙ ap failing (c.loop-chunk.invariant.opens ∙ c.in-Ok.ensures.opens) ∙ failing-grown (g.H.Shelf.opens c.args.shelf.now) c.args.name.now false
