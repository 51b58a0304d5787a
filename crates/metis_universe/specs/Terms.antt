-- What clauses and proofs cite of this crate, by one module. Universe.antt has the letters that definitions use.
pub use Rattle.metis_universe.specs.Buckets.{IsChained, bucket_numbered, bucket_of, hash_of, name_numbered}
pub use Rattle.metis_universe.specs.Closed.{Closed, IsProvidedIn, Refusal}
pub use Rattle.metis_universe.specs.Config.{AreDifferent, Binding, Config, Correct, IsConfig, IsMet, IsProvider, binding_cmp, config_of, empty, is_bound, is_correct, is_met, is_tie, names, pair_of, put, remove, tie, untie}
pub use Rattle.metis_universe.specs.Goal.{Attainable, Attains, Holds, IsAttainedSet, holding}
pub use Rattle.metis_universe.specs.GoalWords.{IsWordable, goal_named, goal_names, goal_word, means_port}
pub use Rattle.metis_universe.specs.Goals.{AttainsGoals, GoalRefusal, HoldsGoals, IsGoalOf, lacks, occupied, pair_goals, places_of, same_goal, serves, serving}
pub use Rattle.metis_universe.specs.Kinds.{kinds_of}
pub use Rattle.metis_universe.specs.Layers.{IsLeastRound, grown, is_enabled, is_in_layer, is_provided, is_supplied, layer_of, layer_set, layered}
pub use Rattle.metis_universe.specs.Names.{is_between, is_name, is_name_byte}
pub use Rattle.metis_universe.specs.Needs.{count_in, greatest_needs, need_of, need_rows_of, no_need, with_need}
pub use Rattle.metis_universe.specs.Numbers.{IsOf, NamesBelow}
pub use Rattle.metis_universe.specs.PairWords.{if_names, is_colon, pair_names, pair_word}
pub use Rattle.metis_universe.specs.PortRows.{port_rows, rows_from, with_pair}
pub use Rattle.metis_universe.specs.Residual.{further_left, is_left, required_left, residual, residual_row}
pub use Rattle.metis_universe.specs.RowFaults.{HasFault, StateAt, all_faults, faults_of_next, faults_of_state, faults_of_type, first_of, listed}
pub use Rattle.metis_universe.specs.RowShapes.{NeedRow, StateRow, TypeRow, names_needed}
pub use Rattle.metis_universe.specs.Rows.{IsMade, IsOfVersion, RowsFit, StateFits, TypeFits, ascending, demand_fault, demand_sum, earlier_type, fault_after, first_fault, first_from, further_from, greatest_count, has_state, head_fault, initial_from, initials_from, kind_from, kinds_from, limit_fault, link_fault, meaning_of, names_of, next_fault, number_of, or_universe, pair_from, pairs_from, pairs_of_type, port_fault, ports_of, ports_of_state, ports_of_type, require_total, state_fault, state_number, state_total, state_twice, type_fault, universe_from, unless}
pub use Rattle.metis_universe.specs.SeenPorts.{AreNamed, IsNumbered, number_within}
pub use Rattle.metis_universe.specs.Selection.{IsLeastSelection, IsSlot, IsSlotBy, demands_on, is_needed, needs_of, origin_below, origin_of, provider_of, provider_pairs, providers_needed, selected, selected_within, slots, slots_by}
pub use Rattle.metis_universe.specs.Settled.{IsLast, IsLower, NoneSettles, settles}
pub use Rattle.metis_universe.specs.Sights.{first_sights, sights_after, with_name}
pub use Rattle.metis_universe.specs.Single.{HasProviders, IsSingle}
pub use Rattle.metis_universe.specs.Spelled.{Spells, demand_named, is_listed, leads_to, provides_named}
pub use Rattle.metis_universe.specs.Steadfast.{IsSteadfastRun, is_new, is_steadfast, is_steadfast_after, is_steadfast_at, pair_after}
pub use Rattle.metis_universe.specs.Step.{Allows, CanBind, IsRun, Step, after, after_all}
pub use Rattle.metis_universe.specs.Texts.{texts}
pub use Rattle.metis_universe.specs.Tidy.{IsReached, IsTidy}
pub use Rattle.metis_universe.specs.Universe.{IsBySight, IsGreatestMet, IsIndexed, IsNamed, IsTable, IsUniverse, IsWithinLimits, Kind, Pair, Universe, all_pairs, demand_in, demand_of, demand_total, further_of, greatest_demand, has, initial_of, is_empty, is_free, is_initial, kind_at, kind_in, next_of, no_kind, no_pair, pair_at, pair_count, pair_named, port_count, port_name_of, port_named, port_names_of_pair, provided_of, providers_of, provides, required_of, requirers_of, requires, state_name_of, state_named, state_place_of, states_of_type, type_count, type_name_of, type_named, type_of, type_provides, type_requires, universe_of}
pub use Rattle.metis_universe.specs.Unnamed.{unnamed, with_names}
pub use Rattle.metis_universe.specs.Waits.{IsKept, IsKeptFrom, IsStanding, action_at, before, bindings_after, ends, enters, is_complete, is_release_of, is_wait, last_number, numbers, picked, releases, standing, standing_from, waits}
