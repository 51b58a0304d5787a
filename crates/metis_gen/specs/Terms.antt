-- What clauses and proofs cite of this crate, by one module.
pub use Rattle.metis_gen.specs.Generated.{earlier_z, left_row, one_of, right_row, rows_at, state_row, targets_at, three_digits, x_port, y_port, z_port}
unfoldable pub use Rattle.metis_gen.specs.Generated.{generated, generated_rows, generated_targets}
pub use Rattle.metis_gen.specs.Tables.{earlier_z_number, kinds_at, left_pairs, pair_row, pairs_at, ports_at, right_pairs}
unfoldable pub use Rattle.metis_gen.specs.Tables.{tables}
