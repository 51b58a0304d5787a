-- What is promised of an answer is shown where it is put.
use Rattle.std.proofs.Common.{ℕ, List, Result, Ok, Err, sym, subst}
use Rattle.std.specs.Prelude.{IfOk}
use Rattle.metis_outside.specs.Terms.{Written}
use Rattle.metis_outside.specs.declared.sink.Sink.{Ghosts}
use Rattle.metis_output.specs.Terms.{Gives, Puts, Says, Shown, status_for}
use Rattle.metis_output.specs.declared.status.Status.{Status}
use Rattle.metis_output.proofs.Shown.{shown_weaker}
use Rattle.metis_output.specs.declared.answer.Answer.{Answer}

pub given : {L E : Type 0} (P : List (List ℕ) → Status → Type 0) (rest : L → List (List ℕ)) (answer : Result (Answer L) E) (old new : Written) (before now : ℕ) (status : Status)
    → IfOk answer (Says P rest) → Shown (Gives {E = E} rest answer) old new before now status → Shown P old new before now status
given {E = E} P rest (Ok a) old new before now status says shown =
    shown_weaker (Gives {E = E} rest (Ok a)) P old new before now status (λ lines told gives. subst (P lines) (sym gives.1) (subst (λ ls. P ls (status_for a.good)) (sym gives.0) says)) shown
given {E = E} P rest (Err e) old new before now status says shown = shown_weaker (Gives {E = E} rest (Err e)) P old new before now status (λ lines told none. absurd none) shown

-- what is said of an answer says more of it
pub says_more : {L E : Type 0} (P Q : List (List ℕ) → Status → Type 0) (rest : L → List (List ℕ)) (answer : Result (Answer L) E) → ((lines : List (List ℕ)) (status : Status) → P lines status → Q lines status)
    → IfOk answer (Says P rest) → IfOk answer (Says Q rest)
says_more P Q rest (Ok a) more says = more (rest a.lines) (status_for a.good) says
says_more P Q rest (Err e) more says = tt

-- and so it is what was put
pub puts : {K L E : Type 0} (g : Ghosts K) (P : List (List ℕ) → Status → Type 0) (rest : L → List (List ℕ)) (answer : Result (Answer L) E) (sink sink' : K) (status : Status)
    → IfOk answer (Says P rest) → Puts g (Gives {E = E} rest answer) sink sink' status → Puts g P sink sink' status
puts g P rest answer sink sink' status says put =
    record { answer = given P rest answer (g.written sink) (g.written sink') (g.faults sink) (g.faults sink') status says put.answer; lines = put.lines; calm = put.calm }
