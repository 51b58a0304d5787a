use Rattle.std.proofs.Common.{◌≡◌, arith, ap}
use Rattle.metis_config.specs.Terms.{shares_of, total_of, weight}
use Rattle.metis_config.proofs.Weights.{weight-le-total}
use Rattle.metis_config.proofs.supply.Supply.leave.Goals as goal

pub returns-in-Many-clause-last : goal.returns-in-Many-clause-last
returns-in-Many-clause-last c = λ last f.
    let empty : total_of c.leave.new.self.shares ≡ 0 = c.is_empty.ensures.0 last in
    let none = weight-le-total f c.leave.new.self.shares in
    let one = c.leave.ensures.weight f in
    let at = ap (λ s. weight f (shares_of s)) c.in-Many.is in
    omega (arith, empty, none, one, at)
