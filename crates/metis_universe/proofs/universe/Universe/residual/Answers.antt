use Rattle.std.proofs.Common.{◌≡◌, ℕ, sym, ◌∙◌, subst}
use Rattle.std.specs.List.{slice_index_or}
use Rattle.std.proofs.lemmas.List.Elements.{same_from_all_zip}
use Rattle.metis_universe.specs.Terms.{IsTable, kinds_of, residual, universe_of}
use Rattle.metis_universe.proofs.ResidualTable.{residual_table}
use Rattle.metis_universe.proofs.universe.Universe.residual.Goals as goal

pub indexed-requires : goal.indexed-requires
indexed-requires c =
    let g : ℕ → ℕ = λ r. slice_index_or c.args.given.now r 0 in
    let left = residual c.args.self.now g c.args.avoided.now.members in
    let initials : c.in_ok-initials.initials.items ≡ c.self.inside.initials.items = same_from_all_zip _ c.self.inside.initials.items c.in_ok-initials.initials.items c.in_ok-initials.ensures.cases.0 (λ x y h. h) in
    let copied : universe_of c.self.inside.version (kinds_of c.in_ok-kinds.kinds c.in_ok-initials.initials.items) c.in_ok-pairs.pairs.items c.in_ok-ports.ports ≡ universe_of c.self.inside.version (kinds_of c.self.inside.kinds c.self.inside.initials.items) left.pairs c.self.inside.ports = (λ j. universe_of c.self.inside.version (kinds_of (c.in_ok-kinds.ensures j) (initials j)) (c.in_ok-pairs.ensures j) (c.in_ok-ports.ensures j)) in
    let viewed : universe_of c.self.inside.version (kinds_of c.self.inside.kinds c.self.inside.initials.items) left.pairs c.self.inside.ports ≡ left = (λ j. universe_of (c.self.view_is j).version (c.self.view_is j).kinds left.pairs (c.self.view_is j).ports) in
    let whole = subst IsTable c.self.view_is (record { universe = c.self.invariant.universe; named = c.self.invariant.named; limits = c.self.invariant.limits }) in
    subst IsTable (sym (copied ∙ viewed)) (residual_table c.args.self.now g c.args.avoided.now.members whole)

pub returns : goal.returns
returns c =
    let left = residual c.args.self.now (λ r. slice_index_or c.args.given.now r 0) c.args.avoided.now.members in
    let initials : c.in_ok-initials.initials.items ≡ c.self.inside.initials.items = same_from_all_zip _ c.self.inside.initials.items c.in_ok-initials.initials.items c.in_ok-initials.ensures.cases.0 (λ x y h. h) in
    c.in_ok-left.ensures
    ∙ (λ j. universe_of c.self.inside.version (kinds_of (c.in_ok-kinds.ensures j) (initials j)) (c.in_ok-pairs.ensures j) (c.in_ok-ports.ensures j))
    ∙ (λ j. universe_of (c.self.view_is j).version (c.self.view_is j).kinds left.pairs (c.self.view_is j).ports)
