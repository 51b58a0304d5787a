use Rattle.std.proofs.Common.{◌++◌, None, append-nil, ap, sym, ◌∙◌}
use Rattle.std.proofs.lemmas.List.FromFn.{fill_by_all}
use Rattle.metis_universe.specs.Terms.{port_count, provider_of}
use Rattle.metis_support.specs.Terms.{of_needed}
use Rattle.metis_choice.proofs.tables.provider_table.Goals as goal

pub returns : goal.returns
returns c =
    let u = c.args.u.now in
    let all = sym (append-nil c.loop-pair.yielded) ∙ ap (λ rest. c.loop-pair.yielded ++ rest) (sym c.in-None.ensures.steps.0) ∙ c.loop-pair.invariant.left in
    fill_by_all (of_needed u c.args.selected.now.members (provider_of u)) c.loop-pair.table (port_count u) None c.loop-pair.invariant.size
    (λ r low. c.loop-pair.invariant.needed r low ∙ ap (λ s. of_needed u s (provider_of u) r) all)
