-- What clauses and proofs cite of this crate, by one module.
pub use Rattle.metis_inputs.specs.Commands.{bytes_then, command_script, goals_after, goals_named, goals_then, inputs_then, judged, meaning, or_fault, or_word, script_from, script_of, targets_then, text_limit, text_then, texts_then, turns_then, universe_in_then, universe_then}
pub use Rattle.metis_inputs.specs.Gathers.{AreTaken, Came, Gathers, IsRead, IsReadAt, Judges, Opened, after, named, or_stop}
pub use Rattle.metis_inputs.specs.Inputs.{Inputs, Meaning, Meanings, dup_said, plan_said}
pub use Rattle.metis_inputs.specs.NamedGoals.{AreGoals, IsFirstNoGoal, goal_of}
pub use Rattle.metis_inputs.specs.Script.{Fault, Read, Reply, Script}
pub use Rattle.metis_inputs.specs.Stops.{word_stop}
pub use Rattle.metis_inputs.specs.Turns.{is_blank, is_no_turn, turn_of, turn_tokens, turns_in, turns_of}
pub use Rattle.metis_inputs.specs.Views.{asked_said, goals_and, goals_and_said, goals_and_then, goals_plan_and, goals_plan_and_said, goals_said, plan_and, plan_and_said, universe_and, universe_and_said, universe_said}
