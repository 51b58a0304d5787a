-- What contracts see of the inputs of commands.
--     universe_and, goals_and, plan_and, goals_plan_and kind      a universe, goals in it, a plan over it, or both, and a text of this kind
--     goals_and_then kind place form next      reads the goals of the form, whose words begin at this place, and such a text
--     universe_said, asked_said      what a universe comes to, and one with goals, if nothing stands behind them
--     universe_and_said, goals_and_said, plan_and_said, goals_plan_and_said      the same of a universe, goals, a plan or both, and a text
use Rattle.std.specs.Prelude.{ℕ, List, [], ◌∷◌}
use Rattle.metis_ids.specs.declared.goals.Goal.{Goal}
use Rattle.metis_text.specs.Reads as plan
use Rattle.metis_universe.specs.Terms.{Universe}
use Rattle.metis_words.specs.Terms.{Form, OfGoals, OfUniverse, PlanText, Reading, TextKind, word_at}
use Rattle.metis_inputs.specs.Commands.{goals_then, text_then}
use Rattle.metis_inputs.specs.Inputs.{Inputs}
use Rattle.metis_inputs.specs.Script.{Script}
use Rattle.metis_inputs.specs.declared.asked.Asked.{Asked}
use Rattle.metis_inputs.specs.declared.asked.GoalsAnd.{GoalsAnd}
use Rattle.metis_inputs.specs.declared.asked.GoalsPlanAnd.{GoalsPlanAnd}
use Rattle.metis_inputs.specs.declared.asked.PlanAnd.{PlanAnd}
use Rattle.metis_inputs.specs.declared.asked.UniverseAnd.{UniverseAnd}
use Rattle.metis_inputs.specs.declared.texts.Text.{Ghosts}

abbrev pub universe_and : TextKind → Reading
universe_and kind = OfUniverse (kind ∷ [])

abbrev pub goals_and : TextKind → Reading
goals_and kind = OfGoals (kind ∷ [])

abbrev pub plan_and : TextKind → Reading
plan_and kind = OfUniverse (PlanText ∷ kind ∷ [])

abbrev pub goals_plan_and : TextKind → Reading
goals_plan_and kind = OfGoals (PlanText ∷ kind ∷ [])

-- the text is that of the second file word
abbrev pub goals_and_then : (kind : TextKind) → ℕ → Form → (Inputs (goals_and kind) → Script) → Script
goals_and_then kind place form next =
    goals_then place (word_at form.files 0) form.targets (λ asked. text_then kind 3 asked.0 (word_at form.files 1) (λ said. next (asked, (said, tt))))

abbrev pub universe_said : Universe → Inputs (OfUniverse [])
universe_said u = (u, tt)

-- a universe and goals, with no text behind them
abbrev pub goals_said : Asked → Universe × List Goal
goals_said asked = (asked.universe, asked.goals.items)

abbrev pub asked_said : Asked → Inputs (OfGoals [])
asked_said asked = (goals_said asked, tt)

module _ {T : Type 0} {g : Ghosts T} where
  abbrev pub universe_and_said : UniverseAnd T g → Inputs (universe_and g.kind)
  universe_and_said read = (read.universe, (g.said read.text, tt))

  abbrev pub goals_and_said : GoalsAnd T g → Inputs (goals_and g.kind)
  goals_and_said read = (goals_said read.asked, (g.said read.text, tt))

  abbrev pub plan_and_said : PlanAnd T g → Inputs (plan_and g.kind)
  plan_and_said read = (read.planned.universe, (plan.parts_of read.planned.text, (g.said read.text, tt)))

  abbrev pub goals_plan_and_said : GoalsPlanAnd T g → Inputs (goals_plan_and g.kind)
  goals_plan_and_said read = (goals_said read.planned.asked, (plan.parts_of read.planned.text, (g.said read.text, tt)))
