use Rattle.std.proofs.Common.{◌∷◌, [], ap, ◌∙◌}
use Rattle.std.specs.BTreeSet.{insert_key}
use Rattle.std.specs.Ordering.{nat_cmp}
use Rattle.metis_universe.specs.Terms.{has}
use Rattle.metis_wishes.specs.Terms.{rebound}
use Rattle.metis_reconfigure.specs.Terms.{has_edge, leads_up}
use Rattle.metis_reconfigure.proofs.Roots.{are_reached_same, leads_up_same}
use Rattle.metis_reconfigure.proofs.leaving.under_of.Goals as goal

pub returns : goal.returns
returns c = λ wishes same.
    let u = c.args.u.now in
    let d = c.args.c.now in
    let z = c.args.z in
    are_reached_same c.insert.new.self.keys (z ∷ []) c.in_ok-edges.edges.keys (leads_up u d (rebound wishes)) c.in_ok-under.under.keys
    (λ x. ap (λ l. has l x) (c.in_ok-insert.ensures.keys ∙ ap (λ l. insert_key nat_cmp l z) c.new-starts.ensures.empty))
    (λ x y. c.in_ok-edges.ensures x y ∙ ap (λ es. has_edge es x y) (leads_up_same u d c.args.free.now.keys (rebound wishes) same))
    c.in_ok-under.ensures.reached
