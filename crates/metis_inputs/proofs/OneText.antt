-- One text behind a universe, goals or a plan.
use Rattle.std.proofs.Common.{ℕ, List, Result, Ok, Err, refl}
use Rattle.std.specs.declared.option.Option.{Option}
use Rattle.metis_ids.specs.declared.goals.Goal.{Goal}
use Rattle.metis_outside.specs.Terms.{Openings}
use Rattle.metis_text.specs.Terms.{Parts}
use Rattle.metis_universe.specs.Terms.{Universe}
use Rattle.metis_words.specs.Terms.{Form, PlanText, word_at}
use Rattle.metis_inputs.specs.Terms.{Gathers, Inputs, Meaning, goals_and, goals_and_said, goals_and_then, goals_plan_and, goals_plan_and_said, goals_said, goals_then, inputs_then, plan_and, plan_and_said, text_then, universe_and, universe_and_said, universe_then}
use Rattle.metis_inputs.specs.declared.asked.Asked.{Asked}
use Rattle.metis_inputs.specs.declared.asked.GoalsAnd.{GoalsAnd}
use Rattle.metis_inputs.specs.declared.asked.GoalsPlanAnd.{GoalsPlanAnd}
use Rattle.metis_inputs.specs.declared.asked.PlanAnd.{PlanAnd}
use Rattle.metis_inputs.specs.declared.asked.UniverseAnd.{UniverseAnd}
use Rattle.metis_inputs.specs.declared.stop.Stop.{Stop}
use Rattle.metis_inputs.specs.declared.texts.Text.{Ghosts}
use Rattle.metis_inputs.proofs.Composed.{gathers_no_text, gathers_stopped, gathers_text}

module _ {S T : Type 0} (g : Ghosts T) (files : S → Option (List ℕ → List ℕ)) (faults : S → ℕ) (opens : S → Openings) (form : Form) (shelf mid shelf' : S) where
  abbrev Text : ℕ → Universe → ℕ → Result T Stop → Type 0
  Text place u k read = Gathers files faults opens g.said (text_then g.kind place u (word_at form.files k)) mid shelf' read

  abbrev Universes : Universe → Type 0
  Universes u = Gathers files faults opens (λ u. u) (universe_then 2 (word_at form.files 0)) shelf mid (Ok u)

  abbrev with_universe : Universe → Meaning g.kind → Inputs (universe_and g.kind)
  with_universe u m = (u, (m, tt))

  pub universe_text : (w : UniverseAnd T g) → Universes w.universe → Text 3 w.universe 1 (Ok w.text)
      → Gathers files faults opens universe_and_said (inputs_then (universe_and g.kind) form) shelf shelf' (Ok w)
  universe_text w first text =
      gathers_text files faults opens (λ u. u) g.said universe_and_said (universe_then 2 (word_at form.files 0)) (λ u. text_then g.kind 3 u (word_at form.files 1)) with_universe
      shelf mid shelf' w.universe w.text w refl first text

  pub universe_no_text : (u : Universe) (halt : Stop) → Universes u → Text 3 u 1 (Err halt)
      → Gathers files faults opens (universe_and_said {g = g}) (inputs_then (universe_and g.kind) form) shelf shelf' (Err halt)
  universe_no_text u halt first text =
      gathers_no_text files faults opens (λ u. u) g.said universe_and_said (universe_then 2 (word_at form.files 0)) (λ u. text_then g.kind 3 u (word_at form.files 1)) with_universe
      shelf mid shelf' u halt first text

  -- behind the goals of the targets, whose words begin at this place

  abbrev Goals : ℕ → Asked → Type 0
  Goals place asked = Gathers files faults opens goals_said (goals_then place (word_at form.files 0) form.targets) shelf mid (Ok asked)

  abbrev with_goals : Universe × List Goal → Meaning g.kind → Inputs (goals_and g.kind)
  with_goals asked m = (asked, (m, tt))

  pub goals_text : (place : ℕ) (w : GoalsAnd T g) → Goals place w.asked → Text 3 w.asked.universe 1 (Ok w.text)
      → Gathers files faults opens goals_and_said (goals_and_then g.kind place form) shelf shelf' (Ok w)
  goals_text place w first text =
      gathers_text files faults opens goals_said g.said goals_and_said (goals_then place (word_at form.files 0) form.targets)
      (λ (x : Universe × List Goal). text_then g.kind 3 x.0 (word_at form.files 1)) with_goals shelf mid shelf' w.asked w.text w refl first text

  pub goals_no_text : (place : ℕ) (asked : Asked) (halt : Stop) → Goals place asked → Text 3 asked.universe 1 (Err halt)
      → Gathers files faults opens (goals_and_said {g = g}) (goals_and_then g.kind place form) shelf shelf' (Err halt)
  goals_no_text place asked halt first text =
      gathers_no_text files faults opens goals_said g.said goals_and_said (goals_then place (word_at form.files 0) form.targets)
      (λ (x : Universe × List Goal). text_then g.kind 3 x.0 (word_at form.files 1)) with_goals shelf mid shelf' asked halt first text

  -- behind goals and a plan

  abbrev with_goals_and_plan : Inputs (goals_and PlanText) → Meaning g.kind → Inputs (goals_plan_and g.kind)
  with_goals_and_plan x m = (x.0, (x.1.0, (m, tt)))

  pub goals_plan_text : (w : GoalsPlanAnd T g) → Gathers files faults opens goals_and_said (goals_and_then PlanText 5 form) shelf mid (Ok w.planned)
      → Text 4 w.planned.asked.universe 2 (Ok w.text)
      → Gathers files faults opens goals_plan_and_said (inputs_then (goals_plan_and g.kind) form) shelf shelf' (Ok w)
  goals_plan_text w first text =
      gathers_text files faults opens goals_and_said g.said goals_plan_and_said (goals_and_then PlanText 5 form)
      (λ (x : Inputs (goals_and PlanText)). text_then g.kind 4 x.0.0 (word_at form.files 2)) with_goals_and_plan shelf mid shelf' w.planned w.text w refl first text

  pub goals_plan_no_text : {Y : Type 0} (view : Y → Inputs (goals_and PlanText)) (y : Y) (halt : Stop)
      → Gathers files faults opens view (goals_and_then PlanText 5 form) shelf mid (Ok y) → Text 4 (view y).0.0 2 (Err halt)
      → Gathers files faults opens (goals_plan_and_said {g = g}) (inputs_then (goals_plan_and g.kind) form) shelf shelf' (Err halt)
  goals_plan_no_text view y halt first text =
      gathers_no_text files faults opens view g.said goals_plan_and_said (goals_and_then PlanText 5 form)
      (λ (x : Inputs (goals_and PlanText)). text_then g.kind 4 x.0.0 (word_at form.files 2)) with_goals_and_plan shelf mid shelf' y halt first text

  -- behind a plan

  abbrev with_plan : Universe × (Parts × Unit {0}) → Meaning g.kind → Inputs (plan_and g.kind)
  with_plan x m = (x.0, (x.1.0, (m, tt)))

  pub plan_text : (w : PlanAnd T g) → Gathers files faults opens universe_and_said (inputs_then (universe_and PlanText) form) shelf mid (Ok w.planned)
      → Text 4 w.planned.universe 2 (Ok w.text)
      → Gathers files faults opens plan_and_said (inputs_then (plan_and g.kind) form) shelf shelf' (Ok w)
  plan_text w first text =
      gathers_text files faults opens universe_and_said g.said plan_and_said (inputs_then (universe_and PlanText) form)
      (λ (x : Universe × (Parts × Unit {0})). text_then g.kind 4 x.0 (word_at form.files 2)) with_plan shelf mid shelf' w.planned w.text w refl first text

  pub plan_no_text : {Y : Type 0} (view : Y → Inputs (universe_and PlanText)) (y : Y) (halt : Stop)
      → Gathers files faults opens view (inputs_then (universe_and PlanText) form) shelf mid (Ok y) → Text 4 (view y).0 2 (Err halt)
      → Gathers files faults opens (plan_and_said {g = g}) (inputs_then (plan_and g.kind) form) shelf shelf' (Err halt)
  plan_no_text view y halt first text =
      gathers_no_text files faults opens view g.said plan_and_said (inputs_then (universe_and PlanText) form)
      (λ (x : Universe × (Parts × Unit {0})). text_then g.kind 4 x.0 (word_at form.files 2)) with_plan shelf mid shelf' y halt first text

-- a run that has no plan has no text behind it
pub no_plan : {S T Y : Type 0} (g : Ghosts T) (files : S → Option (List ℕ → List ℕ)) (faults : S → ℕ) (opens : S → Openings) (form : Form) (shelf shelf' : S)
    (view : Y → Inputs (universe_and PlanText)) (halt : Stop) → Gathers files faults opens view (inputs_then (universe_and PlanText) form) shelf shelf' (Err halt)
    → Gathers files faults opens (plan_and_said {g = g}) (inputs_then (plan_and g.kind) form) shelf shelf' (Err halt)
no_plan g files faults opens form shelf shelf' view halt first =
    gathers_stopped files faults opens view plan_and_said (inputs_then (universe_and PlanText) form)
    (λ (x : Universe × (Parts × Unit {0})) next. text_then g.kind 4 x.0 (word_at form.files 2) (λ m. next (x.0, (x.1.0, (m, tt))))) shelf shelf' halt first

-- the same of goals and a plan
pub no_goals_and_plan : {S T Y : Type 0} (g : Ghosts T) (files : S → Option (List ℕ → List ℕ)) (faults : S → ℕ) (opens : S → Openings) (form : Form) (shelf shelf' : S)
    (view : Y → Inputs (goals_and PlanText)) (halt : Stop) → Gathers files faults opens view (goals_and_then PlanText 5 form) shelf shelf' (Err halt)
    → Gathers files faults opens (goals_plan_and_said {g = g}) (inputs_then (goals_plan_and g.kind) form) shelf shelf' (Err halt)
no_goals_and_plan g files faults opens form shelf shelf' view halt first =
    gathers_stopped files faults opens view goals_plan_and_said (goals_and_then PlanText 5 form)
    (λ (x : Inputs (goals_and PlanText)) next. text_then g.kind 4 x.0.0 (word_at form.files 2) (λ m. next (x.0, (x.1.0, (m, tt))))) shelf shelf' halt first
