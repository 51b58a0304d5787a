-- What a script comes to is one: a line that tells a fault, or an answer.
use Rattle.std.proofs.Common.{◌≡◌, ℕ, List, sym, ◌∙◌, subst}
use Rattle.metis_outside.specs.Terms.{Appends, Written}
use Rattle.metis_output.specs.Terms.{IsJust}
use Rattle.metis_output.specs.declared.status.Status.{Status}
use Rattle.metis_inputs.specs.Terms.{Fault, Inputs, Read, Reply, Script, plan_said, script_of}
use Rattle.metis_top.specs.Terms.{IsAnswer, Says, Tells, fault_line, fault_status, over, read_fault_line}
use Rattle.metis_output.specs.declared.status.Status.TheVariants.{ReadFault}
use Rattle.metis_uniqueness.proofs.Explained.{why_one}
use Rattle.metis_uniqueness.proofs.Plain.{confirm_one, load_one, print_one, refute_one, replay_one, sim_one}
use Rattle.metis_uniqueness.proofs.Planned.{audit_one, plan_one, rollout_one}
use Rattle.metis_uniqueness.proofs.Reconfigured.{reconfigure_one}
use Rattle.metis_uniqueness.proofs.Runs.{control_one, crew_one, place_one, waits_one, waves_one}
use Rattle.metis_uniqueness.specs.Terms.{HasAtMostOneAnswer}
use Rattle.metis_words.specs.Terms.{reading}
use Rattle.metis_words.specs.declared.words.Verb.{Verb}
use Rattle.metis_words.specs.declared.words.Verb.TheVariants.{Plan, Replay, Refute, Audit, Sim, Crew, Waves, Waits, Control, Rollout, Reconfigure, Place, Print, Load, Why, Confirm}

line_one : (line : List ℕ) (status : Status) → HasAtMostOneAnswer (IsJust line status)
line_one line status lines others one other a b = (a.0 ∙ sym b.0, a.1 ∙ sym b.1)

answer_one : (verb : Verb) (inputs : Inputs (reading verb)) (size : ℕ) (numbers : List ℕ) → HasAtMostOneAnswer (IsAnswer verb inputs size numbers)
answer_one Plan inputs size numbers = plan_one inputs.0.0 inputs.0.1
answer_one Replay inputs size numbers = replay_one inputs.0.0 inputs.0.1 inputs.1.0.rows.actions
answer_one Refute inputs size numbers = refute_one inputs.0.0 inputs.0.1 inputs.1.0.pairs
answer_one Audit inputs size numbers = audit_one inputs.0.0 inputs.0.1 (plan_said inputs.1.0) inputs.1.0.rows.after
answer_one Sim inputs size numbers = sim_one inputs.0 inputs.1.0
answer_one Crew inputs size numbers = crew_one inputs.0 inputs.1.0.rows.actions inputs.1.1.0
answer_one Waves inputs size numbers = waves_one inputs.0 inputs.1.0.rows.actions numbers
answer_one Waits inputs size numbers = waits_one inputs.0 (plan_said inputs.1.0)
answer_one Control inputs size numbers = control_one inputs.0 inputs.1.0.rows.actions inputs.1.1.0
answer_one Rollout inputs size numbers = rollout_one inputs.0.0 inputs.0.1 inputs.1.0.rows.actions
answer_one Reconfigure inputs size numbers = reconfigure_one inputs.0.0 inputs.0.1 inputs.1.0.rows.actions inputs.1.1.0
answer_one Place inputs size numbers = place_one inputs.0 inputs.1.0.rows.actions inputs.1.1.0
answer_one Print inputs size numbers = print_one inputs.0
answer_one Load inputs size numbers = load_one size
answer_one Why inputs size numbers = why_one inputs.0.0 inputs.0.1
answer_one Confirm inputs size numbers = confirm_one inputs.0.0 inputs.0.1 inputs.1.0.lines

script_one : (script : Script) → HasAtMostOneAnswer (Says script)
script_one (Read place name limit next) = line_one (read_fault_line place) ReadFault
script_one (Fault why) = line_one (fault_line why) (fault_status why)
script_one (Reply verb inputs size numbers) = answer_one verb inputs size numbers

pub over_one : (file : List ℕ → List ℕ) (words : List (List ℕ)) → HasAtMostOneAnswer (Says (over file (script_of words)))
over_one file words = script_one (over file (script_of words))

-- what two runs over the same files put is the same
pub tells_same : (file : List ℕ → List ℕ) (words : List (List ℕ)) (old new before after : Written) (status other : Status)
    → Tells file (script_of words) old new status → Tells file (script_of words) before after other
    → (lines : List (List ℕ)) × Appends old new lines × Appends before after lines × (status ≡ other)
tells_same file words old new before after status other one two =
    let same = over_one file words one.lines two.lines status other one.says two.says in
    (one.lines, one.put, subst (Appends before after) (sym same.0) two.put, same.1)
