use Rattle.std.proofs.Common.{nat_eq, ap, ◌∙◌}
use Rattle.std.specs.Option.{is_some}
use Rattle.metis_universe.specs.Terms.{has}
use Rattle.metis_universe.proofs.Sought.{found_is_there}
use Rattle.metis_universe.proofs.universe.Universe.provides.Goals as goal

pub returns : goal.returns
returns c =
    c.is_some.ensures ∙ ap is_some c.place_among.ensures ∙ found_is_there (λ s. nat_eq s c.args.r) c.provided.result.now
    ∙ ap (λ ports. has ports c.args.r) c.provided.ensures.ports
