use Rattle.std.proofs.Common.{◌≡◌, nat_eq, get_or, [], sym, ap, ◌∙◌, subst}
use Rattle.std.specs.List.{list_any}
use Rattle.std.specs.List.Sorted.{IsNonDecreasingBy}
use Rattle.metis_universe.specs.Terms.{Universe, kind_in, type_requires}
use Rattle.metis_universe.proofs.PortRows.{required_within}
use Rattle.metis_universe.proofs.Sought.{of_type_in_row, row_kinds}
use Rattle.metis_universe.proofs.universe.Universe.type_requires.Goals as goal

pub some_of_type-requires : goal.some_of_type-requires
some_of_type-requires c =
    let k = c.self.invariant in
    let row = get_or c.self.inside.requirers.items c.args.r [] in
    let is : c.pairs_at.result.now ≡ row = c.pairs_at.ensures ∙ ap (λ rows. get_or rows c.args.r []) c.deref-2.ensures.value in
    let rise = row_kinds _ k.universe (λ x. x.required) (required_within _ k.universe) c.self.inside.requirers.items k.indexed.required_rows k.indexed.required c.args.r in
    subst (λ xs. IsNonDecreasingBy (kind_in c.deref.result.now) xs) (sym is) (subst (λ ps. IsNonDecreasingBy (kind_in ps) row) (sym c.deref.ensures.value) rise)

pub returns : goal.returns
returns c =
    let k = c.self.invariant in
    let row = get_or c.self.inside.requirers.items c.args.r [] in
    let is : c.pairs_at.result.now ≡ row = c.pairs_at.ensures ∙ ap (λ rows. get_or rows c.args.r []) c.deref-2.ensures.value in
    c.some_of_type.ensures ∙ ap (list_any (λ p. nat_eq (kind_in c.deref.result.now p) c.args.t)) is ∙ ap (λ ps. list_any (λ p. nat_eq (kind_in ps p) c.args.t) row) c.deref.ensures.value
    ∙ of_type_in_row _ k.universe (λ x. x.required) (required_within _ k.universe) c.self.inside.requirers.items k.indexed.required_rows k.indexed.required c.args.r c.args.t
    ∙ ap (λ (u : Universe). type_requires u c.args.t c.args.r) c.self.view_is
