use Rattle.std.proofs.Common.{flat_map, not, sym, ap, ◌∙◌}
use Rattle.metis_ids.proofs.Options.{none_from_is_some}
use Rattle.metis_universe.specs.Terms.{ports_of_type}
use Rattle.metis_universe.proofs.SeenPorts.{named_entries}
use Rattle.metis_universe.proofs.TypeFaults.{state_total-fits}
use Rattle.metis_universe.proofs.check.first_fault.Goals as goal

pub state_total-requires : goal.state_total-requires
state_total-requires c = state_total-fits c.args.rows.now c.requires.fits

pub fault_of_types-requires-clause-named : goal.fault_of_types-requires-clause-named
fault_of_types-requires-clause-named c = λ yes.
    let none = none_from_is_some c.place_of_no_name-unnamed.result (c.is_none.ensures ∙ ap not yes) in
    named_entries c.as_slice.result.now (flat_map ports_of_type c.args.rows.now) (c.as_slice.ensures ∙ c.requires.ports)
    (sym c.place_of_no_name-unnamed.ensures ∙ none)
