use Rattle.std.proofs.Common.{◌≡◌, ℕ, List, ◌++◌, take}
use Rattle.std.specs.Prelude.{flat_map}
use Rattle.metis_completion.specs.Terms.{given_in}
use Rattle.metis_reconfigure.specs.Terms.{given, named_targets, rebinds_of}
use Rattle.metis_reconfigure.proofs.rebinding.rebind_all.Given as goal

abbrev pub invariant-loop-z : goal.invariant-loop-z
invariant-loop-z l = (leaving ts : List ℕ) (name : ℕ → ℕ) → ((r : ℕ) → given_in l.givers.given.now r ≡ given l.u l.c leaving r) → l.givers.fresh.items ≡ named_targets name ts
    → l.actions.items ≡ l.initial.actions.items ++ flat_map (rebinds_of l.u l.c leaving ts name) (take l.z-index l.rebound)
