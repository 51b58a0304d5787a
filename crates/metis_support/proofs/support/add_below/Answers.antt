use Rattle.std.proofs.Common.{◌||◌, ap, sym, ◌∙◌, nat_eq}
use Rattle.std.proofs.Math.Bool.{or_comm}
use Rattle.metis_support.specs.Terms.{is_number}
use Rattle.metis_support.proofs.support.add_below.Goals as goal
use Rattle.metis_universe.proofs.Ascending.{has-insert_key}
use Rattle.metis_universe.specs.Terms.{has}

pub returns-in-Some-clause-members : goal.returns-in-Some-clause-members
returns-in-Some-clause-members c = λ q low.
    ap (λ ms. has ms q) c.add.ensures.members ∙ has-insert_key q c.in-Some.pair c.args.set.now.members ∙ or_comm (nat_eq c.in-Some.pair q) (has c.args.set.now.members q)
    ∙ ap (λ o. has c.args.set.now.members q || is_number q o) (sym c.in-Some.is)
