-- How many slots a pair has over a support.
use Rattle.std.proofs.Common.{ℕ, cond}
use Rattle.metis_universe.specs.Terms.{Universe, demand_of}
use Rattle.metis_support.specs.Terms.{Support, is_number, provider_at}

-- what q demands of a port, where it is taken from p
abbrev pub demanded_from : Universe → Support → ℕ → ℕ → ℕ → ℕ
demanded_from u s p q r = cond (is_number p (provider_at s r)) (demand_of u q r) 0
