-- What an answer gives.
--     status_for good      the status of an answer that is good or not
--     Says P rest a      P holds of the lines and the status of the answer
--     Gives rest answer lines status      these are the lines of the answer, and its status; where there is no answer there are none
use Rattle.std.specs.Prelude.{◌≡◌, ℕ, List, Bool, true, false, Result, Ok, Err}
use Rattle.metis_output.specs.declared.answer.Answer.{Answer}
use Rattle.metis_output.specs.declared.status.Status.{Status}
use Rattle.metis_output.specs.declared.status.Status.TheVariants.{Done, No}

abbrev pub status_for : Bool → Status
status_for true = Done
status_for false = No

abbrev pub Says : {L : Type 0} → (List (List ℕ) → Status → Type 0) → (L → List (List ℕ)) → Answer L → Type 0
Says P rest a = P (rest a.lines) (status_for a.good)

abbrev pub Gives : {L E : Type 0} → (L → List (List ℕ)) → Result (Answer L) E → List (List ℕ) → Status → Type 0
Gives rest (Ok a) lines status = (lines ≡ rest a.lines) × (status ≡ status_for a.good)
Gives rest (Err e) lines status = ⊥
