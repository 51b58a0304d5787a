use Rattle.std.proofs.Common.{◌≡◌, Some}
use Rattle.std.specs.List.{AllByRecursion}
use Rattle.metis_universe.specs.Terms.{pair_of}
use Rattle.metis_config.specs.Terms.{unmet, unmet_among}
use Rattle.metis_config.proofs.config.Config.first_unmet.Given as goal

abbrev pub invariant-loop-z : goal.invariant-loop-z
invariant-loop-z l = record {
  left : unmet_among l.u l.self l.z-iterator ≡ unmet l.u l.self;
  there : AllByRecursion (λ e. pair_of l.self e.0 ≡ Some e.1) l.z-iterator;
}
