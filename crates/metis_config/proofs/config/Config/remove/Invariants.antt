use Rattle.std.proofs.Common.{◌≡◌, ℕ, false, length}
use Rattle.metis_universe.specs.Terms.{is_bound}
use Rattle.metis_config.proofs.Removed.{others}
use Rattle.metis_config.proofs.config.Config.remove.Given as goal

abbrev pub invariant-served : goal.invariant-served
invariant-served l = record {
  instances : l.self.instances ≡ l.fn.self.instances;
  others : others l.z l.self.bindings ≡ others l.z l.fn.self.bindings;
}

abbrev pub decreases-served : goal.decreases-served
decreases-served l = length l.self.bindings

abbrev pub invariant-needed : goal.invariant-needed
invariant-needed l = record {
  instances : l.self.instances ≡ l.fn.self.instances;
  others : others l.z l.self.bindings ≡ others l.z l.fn.self.bindings;
  served : (r w : ℕ) → is_bound l.self r w l.z ≡ false;
}

abbrev pub decreases-needed : goal.decreases-needed
decreases-needed l = length l.self.bindings
