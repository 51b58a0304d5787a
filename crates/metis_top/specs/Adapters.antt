-- Runs over the files of a disk and a writer of the system, and runs in memory.
--     HeadlineInBytes words file before after status      the headline, where what was put is told by its bytes
--     IsCalm status      neither a read nor a write failed
use Rattle.std.specs.Prelude.{◌≡◌, ◌≤◌, ℕ, List, [], ◌∷◌, ◌++◌, length, Some, Ok}
use Rattle.std.specs.declared.option.Option.{Option}
use Rattle.metis_ids.specs.declared.goals.Goal.{Goal}
use Rattle.metis_inputs.specs.Terms.{goals_named}
use Rattle.metis_outside.specs.Terms.{bytes_of}
use Rattle.metis_output.specs.declared.status.Status.{Status}
use Rattle.metis_output.specs.declared.status.Status.TheVariants.{ReadFault, WriteFault}
use Rattle.metis_top.specs.Deployment.{DeploysOrRefuses}
use Rattle.metis_ujson.specs.Terms.{document_limit, universe_in}
use Rattle.metis_universe.specs.Terms.{Universe}
use Rattle.metis_words.specs.Terms.{TargetName, form_of}
use Rattle.metis_words.specs.declared.words.Verb.TheVariants.{Plan as PlanVerb}

-- the writer had these bytes before, and behind them those of the lines
abbrev pub HeadlineInBytes : List (List ℕ) → (List ℕ → List ℕ) → List ℕ → Option (List ℕ) → Status → Type 0
HeadlineInBytes words file before after status = (name : List ℕ) (targets : List TargetName) (u : Universe) (goals : List Goal)
    → form_of words ≡ Ok (record { verb = PlanVerb; files = name ∷ []; targets = targets; size = 0; numbers = [] })
    → length (file name) ≤ document_limit → universe_in (file name) ≡ Ok u → goals_named 3 u targets ≡ Ok goals
    → (lines : List (List ℕ)) × DeploysOrRefuses u goals lines status × (after ≡ Some (before ++ bytes_of lines))

abbrev pub IsCalm : Status → Type 0
IsCalm ReadFault = ⊥
IsCalm WriteFault = ⊥
IsCalm _ = Unit {0}
