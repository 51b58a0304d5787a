-- What is said of the script of a session.
--     Simulated u script lines status      the lines are those of the replies of a new session to all lines of the script
use Rattle.std.specs.Prelude.{◌≡◌, ℕ, List}
use Rattle.metis_tokens.specs.Terms.{script_lines}
use Rattle.metis_sim.specs.Terms.{begin, replies_to}
use Rattle.metis_output.specs.declared.status.Status.{Status}
use Rattle.metis_output.specs.declared.status.Status.TheVariants.{Done}
use Rattle.metis_universe.specs.Terms.{Universe}

pub record Simulated (u : Universe) (script : List ℕ) (lines : List (List ℕ)) (status : Status) : Type 0 where
  pub told : lines ≡ replies_to u (begin u) (script_lines script)
  pub is : status ≡ Done
