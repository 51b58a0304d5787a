use Rattle.std.proofs.Common.{◌∙◌, ap, subst, sym}
use Rattle.metis_commands.specs.Terms.{Audited, Awaited}
use Rattle.metis_ids.specs.Terms.{Plan}
use Rattle.metis_inputs.proofs.Said.{plan_is_said}
use Rattle.metis_inputs.specs.Terms.{asked_said, goals_and_said, goals_plan_and_said, plan_and_said, universe_and_said, universe_said}
use Rattle.metis_output.specs.Terms.{Puts}
use Rattle.metis_text.specs.Terms.{lists_of}
use Rattle.metis_top.proofs.Gathered.{performs_over, ran_at_once}
use Rattle.metis_words.specs.Terms.{Form}
use Rattle.metis_words.specs.declared.words.Verb.TheVariants as verb
use Rattle.metis_top.proofs.commands.perform.Goals as goal

pub returns-in-Audit : goal.returns-in-Audit
returns-in-Audit g c =
    performs_over g.K.Sink verb.Audit c.args.command.now goals_and_said _ _ (sym (ap (λ (form : Form). form.verb) c.command.view_is) ∙ c.in-Audit.is) c.goals_and-in-Audit.ensures c.over-in-Audit.ensures
    (λ p q q' status met.
    subst (λ (plan : Plan). Puts g.K.Sink (Audited p.now.asked.universe p.now.asked.goals.items plan (lists_of p.now.text)) q.now q'.now status) (sym (plan_is_said p.now.text)) met.1)

pub returns-in-Waits : goal.returns-in-Waits
returns-in-Waits g c =
    performs_over g.K.Sink verb.Waits c.args.command.now universe_and_said _ _ (sym (ap (λ (form : Form). form.verb) c.command.view_is) ∙ c.in-Waits.is) c.universe_and-in-Waits.ensures c.over-in-Waits.ensures
    (λ p q q' status met. subst (λ (plan : Plan). Puts g.K.Sink (Awaited p.now.universe plan) q.now q'.now status) (sym (plan_is_said p.now.text)) met.1)

pub returns-in-Waves : goal.returns-in-Waves
returns-in-Waves g c =
    performs_over g.K.Sink verb.Waves c.args.command.now universe_and_said _ _ (sym (ap (λ (form : Form). form.verb) c.command.view_is) ∙ c.in-Waves.is) c.universe_and-in-Waves.ensures c.over-in-Waves.ensures (λ p q q' status met. met.1)

pub returns-in-Load : goal.returns-in-Load
returns-in-Load g c =
    let size = ap (λ (form : Form). form.size) c.command.view_is in
    ran_at_once _ _ _ g.K.Sink c.args.command.now _ _ _ _ (sym (ap (λ (form : Form). form.verb) c.command.view_is) ∙ c.in-Load.is) (rw size at c.put.ensures)

pub returns-in-Plan : goal.returns-in-Plan
returns-in-Plan g c =
    performs_over g.K.Sink verb.Plan c.args.command.now asked_said _ _ (sym (ap (λ (form : Form). form.verb) c.command.view_is) ∙ c.in-Plan.is) c.goals_of.ensures c.over.ensures (λ p q q' status met. met.1)

pub returns-in-Why : goal.returns-in-Why
returns-in-Why g c =
    performs_over g.K.Sink verb.Why c.args.command.now asked_said _ _ (sym (ap (λ (form : Form). form.verb) c.command.view_is) ∙ c.in-Why.is) c.goals_of-in-Why.ensures c.over-in-Why.ensures (λ p q q' status met. met.1)

pub returns-in-Replay : goal.returns-in-Replay
returns-in-Replay g c =
    performs_over g.K.Sink verb.Replay c.args.command.now goals_and_said _ _ (sym (ap (λ (form : Form). form.verb) c.command.view_is) ∙ c.in-Replay.is) c.goals_and.ensures c.over-in-Replay.ensures (λ p q q' status met. met.1)

pub returns-in-Refute : goal.returns-in-Refute
returns-in-Refute g c =
    performs_over g.K.Sink verb.Refute c.args.command.now goals_and_said _ _ (sym (ap (λ (form : Form). form.verb) c.command.view_is) ∙ c.in-Refute.is) c.goals_and-in-Refute.ensures c.over-in-Refute.ensures (λ p q q' status met. met.1)

pub returns-in-Confirm : goal.returns-in-Confirm
returns-in-Confirm g c =
    performs_over g.K.Sink verb.Confirm c.args.command.now goals_and_said _ _ (sym (ap (λ (form : Form). form.verb) c.command.view_is) ∙ c.in-Confirm.is) c.goals_and-in-Confirm.ensures c.over-in-Confirm.ensures (λ p q q' status met. met.1)

pub returns-in-Rollout : goal.returns-in-Rollout
returns-in-Rollout g c =
    performs_over g.K.Sink verb.Rollout c.args.command.now goals_and_said _ _ (sym (ap (λ (form : Form). form.verb) c.command.view_is) ∙ c.in-Rollout.is) c.goals_and-in-Rollout.ensures c.over-in-Rollout.ensures (λ p q q' status met. met.1)

pub returns-in-Reconfigure : goal.returns-in-Reconfigure
returns-in-Reconfigure g c =
    performs_over g.K.Sink verb.Reconfigure c.args.command.now goals_plan_and_said _ _ (sym (ap (λ (form : Form). form.verb) c.command.view_is) ∙ c.in-Reconfigure.is) c.goals_plan_and.ensures c.over-in-Reconfigure.ensures (λ p q q' status met. met.1)

pub returns-in-Print : goal.returns-in-Print
returns-in-Print g c =
    performs_over g.K.Sink verb.Print c.args.command.now universe_said _ _ (sym (ap (λ (form : Form). form.verb) c.command.view_is) ∙ c.in-Print.is) c.universe_of.ensures c.over-in-Print.ensures (λ p q q' status met. met.1)

pub returns-in-Sim : goal.returns-in-Sim
returns-in-Sim g c =
    performs_over g.K.Sink verb.Sim c.args.command.now universe_and_said _ _ (sym (ap (λ (form : Form). form.verb) c.command.view_is) ∙ c.in-Sim.is) c.universe_and.ensures c.over-in-Sim.ensures (λ p q q' status met. met.1)

pub returns-in-Place : goal.returns-in-Place
returns-in-Place g c =
    performs_over g.K.Sink verb.Place c.args.command.now plan_and_said _ _ (sym (ap (λ (form : Form). form.verb) c.command.view_is) ∙ c.in-Place.is) c.plan_and.ensures c.over-in-Place.ensures (λ p q q' status met. met.1)

pub returns-in-Crew : goal.returns-in-Crew
returns-in-Crew g c =
    performs_over g.K.Sink verb.Crew c.args.command.now plan_and_said _ _ (sym (ap (λ (form : Form). form.verb) c.command.view_is) ∙ c.in-Crew.is) c.plan_and-in-Crew.ensures c.over-in-Crew.ensures (λ p q q' status met. met.1)

pub returns-in-Control : goal.returns-in-Control
returns-in-Control g c =
    performs_over g.K.Sink verb.Control c.args.command.now plan_and_said _ _ (sym (ap (λ (form : Form). form.verb) c.command.view_is) ∙ c.in-Control.is) c.plan_and-in-Control.ensures c.over-in-Control.ensures (λ p q q' status met. met.1)
