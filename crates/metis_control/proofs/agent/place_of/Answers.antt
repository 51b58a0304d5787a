use Rattle.std.proofs.Common.{sym, subst}
use Rattle.metis_control.proofs.Orders.{place_found}
use Rattle.metis_control.specs.Terms.{IsPlaceOf}
use Rattle.metis_control.proofs.agent.place_of.Goals as goal

pub returns : goal.returns
returns c =
    subst (IsPlaceOf c.args.own.now c.args.k) (sym c.ok.ensures.value)
    (place_found c.args.own.now c.args.k c.binary_search.result c.requires c.binary_search.ensures.position)
