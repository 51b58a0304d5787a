-- What clauses and proofs cite of this crate, by one module.
pub use Rattle.metis_config.specs.Clients.{IsIndexed, has_client}
pub use Rattle.metis_config.specs.Crowd.{Crowd, IsCrowd, total_of, weight}
pub use Rattle.metis_config.specs.Kept.{AreOver, Bindings}
pub use Rattle.metis_config.specs.Over.{IsOver}
pub use Rattle.metis_config.specs.Supply.{IsTallied, key_cmp, providers_in, shares_in, shares_of, weight_at, weight_in}
pub use Rattle.metis_config.specs.Unmet.{IsAtMost, IsLeast, changed, demanded, earlier_of, is_lost, is_met_if, is_required, is_unmet, own_unmet, pair_if, providers_if, unmet, unmet_among, unmet_port}
