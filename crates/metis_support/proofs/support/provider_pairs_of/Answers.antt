use Rattle.std.proofs.Common.{◌≡◌, IfOk, subst, arith, get_or}
use Rattle.std.proofs.lemmas.List.Elements.{recursion_from_All}
use Rattle.std.specs.List.{list_any}
use Rattle.metis_support.proofs.Lists.{filter_alike}
use Rattle.metis_support.proofs.support.provider_pairs_of.Goals as goal
use Rattle.metis_support.specs.Terms.{is_number}
use Rattle.metis_universe.specs.Terms.{has}

pub returns : goal.returns
returns c =
    let members = c.args.selected.now.members in
    let providers = c.in_ok-providers.providers.members in
    subst (λ kept. IfOk c.members_of_both.result (λ pairs. pairs.items ≡ kept))
    (filter_alike (has providers) (λ p. list_any (is_number p) c.args.provider.now) members
    (recursion_from_All (λ p. has providers p ≡ list_any (is_number p) c.args.provider.now) members
    (λ k d low. let below = c.keeps_invariant.ensures.below k d low in c.in_ok-providers.ensures (get_or members k d) (omega (arith, c.size.ensures.size)))))
    c.members_of_both.ensures
