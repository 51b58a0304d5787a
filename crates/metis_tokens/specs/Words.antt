-- Words of two names with a colon between them.
--     of_names find names      what is found by the two names of a word, if it is two names
--     pair_in u word      the pair whose type and state the word names
--     goal_in u word      the goal that the word asks for
use Rattle.std.specs.Prelude.{ℕ, List, Option, Some, None, Result, Err}
use Rattle.metis_ids.specs.declared.goals.Goal.{Goal}
use Rattle.metis_tokens.specs.declared.flaw.Flaw.{Flaw}
use Rattle.metis_tokens.specs.declared.flaw.Flaw.TheVariants.{Form}
use Rattle.metis_tokens.specs.Flaws.{found}
use Rattle.metis_universe.specs.Terms.{Universe, goal_named, pair_named, pair_names}

abbrev pub of_names : {A : Type 0} → (List ℕ → List ℕ → Option A) → Option (List ℕ × List ℕ) → Result A Flaw
of_names find None = Err Form
of_names find (Some names) = found (find names.0 names.1)

abbrev pub pair_in : Universe → List ℕ → Result ℕ Flaw
pair_in u word = of_names (pair_named u) (pair_names word)

abbrev pub goal_in : Universe → List ℕ → Result Goal Flaw
goal_in u word = of_names (goal_named u) (pair_names word)
