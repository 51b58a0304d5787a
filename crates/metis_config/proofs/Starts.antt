-- The empty configuration is over every universe, and correct.
use Rattle.std.proofs.lemmas.Bool.{false≢true}
use Rattle.std.proofs.lemmas.Option.{none-some}
use Rattle.metis_universe.specs.Terms.{Universe, empty}
use Rattle.metis_config.specs.Terms.{IsOver}

pub IsOver-empty : (u : Universe) → IsOver u empty
IsOver-empty u = record { pairs = λ z p there. absurd (none-some _ there); ports = λ r z y b. absurd (false≢true b) }
