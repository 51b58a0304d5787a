-- A run that answers, or that tells a fault of words or files, does not end as if a write had failed.
use Rattle.std.proofs.Common.{◌≡◌, ◌⊎◌, ◌∙◌, ℕ, List, inl, inr, sym}
use Rattle.metis_audit.specs.declared.answers.Answer.{Answer}
use Rattle.metis_audit.specs.declared.answers.Answer.TheVariants.{Justified, NotAttained, NoCycle, Count, Path, Loose, After}
use Rattle.metis_commands.specs.Terms.{audit_status, confirmation_status, judgement_status, verdict_status}
use Rattle.metis_ids.specs.declared.actions.Action.{Action}
use Rattle.metis_inputs.specs.Terms.{Fault, Inputs, Read, Reply, Script}
use Rattle.metis_inputs.specs.declared.stop.InputFault.{InputFault}
use Rattle.metis_inputs.specs.declared.stop.InputFault.TheVariants as input
use Rattle.metis_outside.specs.Terms.{Rose, Written}
use Rattle.metis_output.specs.Terms.{Shown}
use Rattle.metis_output.specs.declared.status.Status.{Status}
use Rattle.metis_output.specs.declared.status.Status.TheVariants.{NoMemory, ReadFault, WriteFault}
use Rattle.metis_refusal.specs.declared.verdict.Verdict2.{Verdict2}
use Rattle.metis_refusal.specs.declared.verdict.Verdict2.TheVariants.{Closed, NotFree, Open, LacksNone}
use Rattle.metis_replay.specs.declared.verdict.Verdict.{Verdict}
use Rattle.metis_replay.specs.declared.verdict.Verdict.TheVariants.{Good, Bad, Missing}
use Rattle.metis_steady.specs.Terms.{HasBadAction, HasLooseAction}
use Rattle.metis_top.specs.Terms.{IsAnswer, IsAnswered, Says, fault_status}
use Rattle.metis_universe.specs.Terms.{Universe}
use Rattle.metis_why.specs.declared.confirming.Confirmation.{Confirmation}
use Rattle.metis_why.specs.declared.confirming.Confirmation.TheVariants as confirmation
use Rattle.metis_words.specs.Terms.{reading}
use Rattle.metis_words.specs.declared.words.Verb.{Verb}
use Rattle.metis_words.specs.declared.words.Verb.TheVariants as verb

of_verdict : (v : Verdict) (status : Status) → status ≡ verdict_status v → IsAnswered status
of_verdict Good status is = inl is
of_verdict (Bad k f) status is = inr is
of_verdict (Missing g have want) status is = inr is

of_judgement : (v : Verdict2) (status : Status) → status ≡ judgement_status v → IsAnswered status
of_judgement (Closed g) status is = inl is
of_judgement (NotFree p) status is = inr is
of_judgement (Open p q) status is = inr is
of_judgement LacksNone status is = inr is

of_audit : (a : Answer) (status : Status) → status ≡ audit_status a → IsAnswered status
of_audit Justified status is = inl is
of_audit (NotAttained p) status is = inr is
of_audit (NoCycle k) status is = inr is
of_audit (Count have want) status is = inr is
of_audit (Path l) status is = inr is
of_audit (Loose k) status is = inr is
of_audit (After k) status is = inr is

of_confirmation : (c : Confirmation) (status : Status) → status ≡ confirmation_status c → IsAnswered status
of_confirmation (confirmation.Confirmed g) status is = inl is
of_confirmation (confirmation.Unfounded k) status is = inr is
of_confirmation confirmation.LacksNone status is = inr is

-- what is told of actions that are no steadfast run, or else something that answers
of_run : (u : Universe) (actions : List Action) (lines : List (List ℕ)) (status : Status) (P : Type 0) → (P → IsAnswered status)
    → HasBadAction u actions lines status ⊎ (HasLooseAction u actions lines status ⊎ P) → IsAnswered status
of_run u actions lines status P step (inl bad) = inr bad.is
of_run u actions lines status P step (inr (inl loose)) = inr loose.is
of_run u actions lines status P step (inr (inr p)) = step p

pub answers_are_verdicts : (v : Verb) (inputs : Inputs (reading v)) (size : ℕ) (numbers : List ℕ) (lines : List (List ℕ)) (status : Status) → IsAnswer v inputs size numbers lines status → IsAnswered status
answers_are_verdicts verb.Plan inputs size numbers lines status (inl plans) = inl plans.0
answers_are_verdicts verb.Plan inputs size numbers lines status (inr refuses) = inr refuses.0
answers_are_verdicts verb.Replay inputs size numbers lines status a = of_verdict a.verdict status a.is
answers_are_verdicts verb.Refute inputs size numbers lines status a = of_judgement a.verdict status a.is
answers_are_verdicts verb.Audit inputs size numbers lines status (inl a) = of_audit a.for_pairs.answer status a.for_pairs.is
answers_are_verdicts verb.Audit inputs size numbers lines status (inr a) = inr a.is
answers_are_verdicts verb.Sim inputs size numbers lines status a = inl a.is
answers_are_verdicts verb.Crew inputs size numbers lines status a = of_run inputs.0 inputs.1.0.rows.actions lines status _ (λ b. inl b.is) a
answers_are_verdicts verb.Waves inputs size numbers lines status a = of_run inputs.0 inputs.1.0.rows.actions lines status _ (λ b. inl b.is) a
answers_are_verdicts verb.Waits inputs size numbers lines status a = of_run inputs.0 inputs.1.0.rows.actions lines status _ (λ b. inl b.is) a
answers_are_verdicts verb.Control inputs size numbers lines status a = of_run inputs.0 inputs.1.0.rows.actions lines status _ (λ b. inl b.is) a
answers_are_verdicts verb.Rollout inputs size numbers lines status a =
    of_run inputs.0.0 inputs.1.0.rows.actions lines status _ (λ b. elim b.answer [ inl r ↦ inl r.0 | inr r ↦ inr r.0 ]) a
answers_are_verdicts verb.Reconfigure inputs size numbers lines status a =
    of_run inputs.0.0 inputs.1.0.rows.actions lines status _ (λ b. elim b.answer [ inl r ↦ inl r.0 | inr (inl r) ↦ inr r.0 | inr (inr r) ↦ inr r.0 ]) a
answers_are_verdicts verb.Place inputs size numbers lines status a =
    of_run inputs.0 inputs.1.0.rows.actions lines status _ (λ b. elim b [ inl r ↦ inr r.is | inr r ↦ inl r.is ]) a
answers_are_verdicts verb.Print inputs size numbers lines status a = inl a.1
answers_are_verdicts verb.Load inputs size numbers lines status a = inl a.is
answers_are_verdicts verb.Why inputs size numbers lines status (inl a) = inl a.0
answers_are_verdicts verb.Why inputs size numbers lines status (inr a) = inr a.0
answers_are_verdicts verb.Confirm inputs size numbers lines status a = of_confirmation _ status a.is

answered_is_no_fault : (status : Status) → IsAnswered status → status ≡ WriteFault → ⊥
answered_is_no_fault status (inl done) is = cc
answered_is_no_fault status (inr refused) is = cc

no_input_fault : (why : InputFault) → fault_status why ≡ WriteFault → ⊥
no_input_fault (input.Word place) is = cc
no_input_fault (input.TooLong place) is = cc
no_input_fault (input.Universe fault) is = cc
no_input_fault (input.PlanText fault) is = cc
no_input_fault (input.RefusalText fault) is = cc
no_input_fault (input.WhyText fault) is = cc
no_input_fault (input.HostsText fault) is = cc
no_input_fault (input.WishesText fault) is = cc
no_input_fault (input.Turns place) is = cc

no_read_fault : (status : Status) → status ≡ ReadFault → status ≡ WriteFault → ⊥
no_read_fault status read is = cc

said_is_no_fault : (script : Script) (lines : List (List ℕ)) (status : Status) → Says script lines status → status ≡ WriteFault → ⊥
said_is_no_fault (Read place name limit next) lines status says is = no_read_fault status says.1 is
said_is_no_fault (Fault why) lines status says is = no_input_fault why (sym says.1 ∙ is)
said_is_no_fault (Reply v inputs size numbers) lines status says is = answered_is_no_fault status (answers_are_verdicts v inputs size numbers lines status says) is

-- so where a run ends as if a write had failed, one did
pub write_fault_rose : (script : Script) (old new : Written) (before now : ℕ) (status : Status) → Shown (Says script) old new before now status → status ≡ WriteFault → Rose before now
write_fault_rose script old new before now status (inl whole) is = absurd (said_is_no_fault script whole.lines status whole.says is)
write_fault_rose script old new before now status (inr (inl (fault, front, rose))) is = rose
write_fault_rose script old new before now status (inr (inr (gave_up, still, front))) is = absurd (no_memory gave_up is) where
  no_memory : status ≡ NoMemory → status ≡ WriteFault → ⊥
  no_memory gave_up is = cc
