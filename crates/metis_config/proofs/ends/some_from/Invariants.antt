use Rattle.std.proofs.Common.{◌≡◌, ℕ, true, []}
use Rattle.metis_universe.specs.Terms.{config_of, is_bound}
use Rattle.metis_config.proofs.Keys.{AreKeys, has_key}
use Rattle.metis_config.proofs.ends.some_from.Given as goal

abbrev pub invariant-loop-key : goal.invariant-loop-key
invariant-loop-key l = record {
  keys : AreKeys l.z l.key-iterator;
  there : (r y : ℕ) → is_bound (config_of [] l.bindings.keys) r l.z y ≡ true → has_key l.key-iterator l.z r ≡ true;
}
