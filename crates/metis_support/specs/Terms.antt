-- What clauses and proofs cite of this crate, by one module.
pub use Rattle.metis_support.specs.Support.{HasProvider, IsBelow, IsKept, IsOrigin, IsSupport, Support, is_needed, is_number, is_selected, layer_at, layer_number, level_at, of_needed, of_selected, origin_at, path_to, path_within, provider_at, provider_pairs, support_by, support_of, tables}
