-- What lines leave of a session.
use Rattle.std.proofs.Common.{◌≡◌, ℕ, true, false, List, [], ◌∷◌, map, codes, None, refl, sym, ap, ◌∙◌, subst}
use Rattle.std.specs.Prelude.{◌≢◌}
use Rattle.std.specs.List.{AllByRecursion}
use Rattle.std.proofs.lemmas.Bool.{cond-false, cond-true, false≢true}
use Rattle.std.proofs.lemmas.Slice.Eq.{bytes_eq-Decides}
use Rattle.metis_ids.specs.declared.actions.Action.{Action}
use Rattle.metis_universe.proofs.Kept.{IsConfig-after, IsConfig-empty}
use Rattle.metis_universe.specs.Terms.{Config, Correct, IsConfig, IsOf, IsUniverse, Universe, after}
use Rattle.metis_universe.proofs.Places.{Correct-empty}
use Rattle.metis_config.proofs.Starts.{IsOver-empty}
use Rattle.metis_config.specs.Terms.{IsOver}
use Rattle.metis_actions.proofs.Causes.{over_after, step-no_fault}
use Rattle.metis_actions.specs.Terms.{fault_of}
use Rattle.metis_actions.specs.declared.faults.AFault.{AFault}
use Rattle.metis_actions.specs.declared.faults.AFault.TheVariants as faults
use Rattle.metis_sim.proofs.Answered.{answer_to, each_answer}
use Rattle.metis_sim.specs.Terms.{Answer, IsReplyOf, Session, after_line, after_lines, answer, answer_to_line, begin, changes, done_by, replies, reply, undone_by}
use Rattle.metis_sim.specs.declared.reply.Reply.{Reply}
use Rattle.metis_sim.specs.declared.reply.Reply.TheVariants.{Bye, Did, Ended, Refused, Undone}

-- a reply that changes nothing is none that does
apart : (r q : Reply) → changes r ≡ false → changes q ≡ true → r ≡ q → ⊥
apart r q calm busy same = false≢true (sym calm ∙ ap changes same ∙ busy)

-- ---- nothing else changes

module _ (s : Session) where
  abbrev StaysCalm : Answer → Type 0
  StaysCalm w = changes w.0 ≡ false → w.1 ≡ s

  pub unchanged : (line : List ℕ) → changes (reply s line) ≡ false → after_line s line ≡ s
  unchanged = each_answer s StaysCalm (λ r still calm. refl) (λ live a of none busy. absurd (false≢true (sym busy))) (λ c earlier is busy. absurd (false≢true (sym busy))) (λ busy. absurd (false≢true (sym busy))) (λ ended calm. refl)

  abbrev IsNumbered : Answer → Type 0
  IsNumbered w = w.0 ≢ Ended → IsReplyOf s.universe w.0

  -- the numbers of a reply are the universe's
  pub numbered : IsUniverse s.universe → IsOver s.universe s.config → (line : List ℕ) → reply s line ≢ Ended → IsReplyOf s.universe (reply s line)
  numbered k over = each_answer s IsNumbered (λ r still other. still.numbers k over) (λ live a of none other. tt) (λ c earlier is other. tt) (λ other. tt) (λ ended other. absurd (other refl))

  -- an action is never refused for want of memory
  pub never_for_memory : IsUniverse s.universe → IsOver s.universe s.config → (line : List ℕ) (f : AFault) → reply s line ≡ Refused f → f ≢ faults.NoMemory
  never_for_memory k over line f is memory = subst (IsReplyOf s.universe) (is ∙ ap Refused memory) (numbered k over line (λ ended. other (sym is ∙ ended))) where
    other : Refused f ≡ Ended → ⊥
    other e = cc

  -- ---- a session that has not ended

  abbrev IsNotEnded : Answer → Type 0
  IsNotEnded w = w.0 ≢ Ended

  -- it does not reply that it has
  pub reply_not_ended : s.ended ≡ false → (line : List ℕ) → reply s line ≢ Ended
  reply_not_ended live = each_answer s IsNotEnded (λ r still. still.live) (λ _ a of none e. cc) (λ c earlier is e. cc) (λ e. cc) (λ ended. absurd (false≢true (sym live ∙ ended)))

  abbrev GoesOn : Answer → Type 0
  GoesOn w = w.0 ≢ Bye → w.1.ended ≡ false

  -- it ends by `quit` alone
  pub goes_on : s.ended ≡ false → (line : List ℕ) → reply s line ≢ Bye → (after_line s line).ended ≡ false
  goes_on live = each_answer s GoesOn (λ r still other. live) (λ _ a of none other. live) (λ c earlier is other. live) (λ other. absurd (other refl)) (λ ended other. live)

  pub quit_ends : s.ended ≡ false → (line : List ℕ) → (after_line s line).ended ≡ true → line ≡ codes "quit"
  quit_ends live line =
      answer_to s (λ w. w.1.ended ≡ true → line ≡ codes "quit") line (λ r still. none) (λ _ a of fine. none) (λ c earlier is. none)
      (λ quit _. (bytes_eq-Decides line (codes "quit")).0 quit) (λ _. none) where
        none : s.ended ≡ true → line ≡ codes "quit"
        none ended = absurd (false≢true (sym live ∙ ended))

  -- ---- undo

  abbrev IsTakenBack : Answer → Type 0
  IsTakenBack w = w.0 ≡ Did → answer w.1 (codes "undo") ≡ (Undone, s)

  pub taken_back : (line : List ℕ) → reply s line ≡ Did → answer (after_line s line) (codes "undo") ≡ (Undone, s)
  taken_back = each_answer s IsTakenBack
      (λ r still is. absurd (apart r Did still.calm refl is))
      (λ live a of none is. let w = done_by s a None in cond-false s.ended (Ended, w.1) (undone_by w.1 w.1.earlier) live)
      (λ c earlier is other. absurd (undone≢did other))
      (λ other. absurd (bye≢did other))
      (λ ended other. absurd (ended≢did other)) where
        undone≢did : Undone ≡ Did → ⊥
        undone≢did e = cc

        bye≢did : Bye ≡ Did → ⊥
        bye≢did e = cc

        ended≢did : Ended ≡ Did → ⊥
        ended≢did e = cc

  -- ---- quit

  abbrev IsOver_by : Answer → Type 0
  IsOver_by w = w.0 ≡ Bye → w.1.ended ≡ true

  pub over_by_bye : (line : List ℕ) → reply s line ≡ Bye → (after_line s line).ended ≡ true
  over_by_bye = each_answer s IsOver_by
      (λ r still is. absurd (apart r Bye still.calm refl is))
      (λ live a of none is. absurd (did≢bye is))
      (λ c earlier is other. absurd (undone≢bye other))
      (λ is. refl)
      (λ ended is. ended) where
        undone≢bye : Undone ≡ Bye → ⊥
        undone≢bye e = cc

        did≢bye : Did ≡ Bye → ⊥
        did≢bye e = cc

  pub answer_after_quit : s.ended ≡ true → (line : List ℕ) → answer s line ≡ (Ended, s)
  answer_after_quit over line = cond-true s.ended (Ended, s) (answer_to_line s line) over

pub session_after_quit : (s : Session) → s.ended ≡ true → (lines : List (List ℕ)) → after_lines s lines ≡ s
session_after_quit s over [] = refl
session_after_quit s over (line ∷ lines) = ap (λ (w : Answer). after_lines w.1 lines) (answer_after_quit s over line) ∙ session_after_quit s over lines

pub replies_after_quit : (s : Session) → s.ended ≡ true → (lines : List (List ℕ)) → replies s lines ≡ map (λ _. Ended) lines
replies_after_quit s over [] = refl
replies_after_quit s over (line ∷ lines) = ap (λ (w : Answer). w.0 ∷ replies w.1 lines) (answer_after_quit s over line) ∙ ap (λ l. Ended ∷ l) (replies_after_quit s over lines)

-- ---- what is kept

pub record IsKept (u : Universe) (c : Config) : Type 0 where
  pub config : IsConfig c
  pub correct : Correct u c
  pub over : IsOver u c

abbrev AreKept : Universe → Session → Type 0
AreKept u s = AllByRecursion (IsKept u) (s.config ∷ s.earlier)

record IsGood (u : Universe) (s : Session) : Type 0 where
  same : s.universe ≡ u
  kept : AreKept u s

kept_after : (u : Universe) (k : IsUniverse u) (s : Session) → s.universe ≡ u → IsKept u s.config → (a : Action) → IsOf s.universe a → fault_of s.universe s.config a ≡ None → IsKept u (after s.universe s.config a)
kept_after u k s same c a of none =
    let of' : IsOf u a = subst (λ v. IsOf v a) same of in
    let none' : fault_of u s.config a ≡ None = subst (λ v. fault_of v s.config a ≡ None) same none in
    let step = step-no_fault u s.config k c.config c.correct a of' none' in
    subst (λ v. IsKept u (after v s.config a)) (sym same) (record {
      config = IsConfig-after u s.config a c.config step.0;
      correct = step.1;
      over = over_after u s.config k c.over a of';
    })

good_line : (u : Universe) → IsUniverse u → (s : Session) → IsGood u s → (line : List ℕ) → IsGood u (after_line s line)
good_line u k s good = each_answer s (λ w. IsGood u w.1)
    (λ r still. good)
    (λ live a of none. record { same = good.same; kept = (kept_after u k s good.same good.kept.0 a of none, good.kept) })
    (λ c earlier is. record { same = good.same; kept = subst (AllByRecursion (IsKept u)) is good.kept.1 })
    (record { same = good.same; kept = good.kept })
    (λ ended. good)

good_lines : (u : Universe) → IsUniverse u → (lines : List (List ℕ)) (s : Session) → IsGood u s → IsGood u (after_lines s lines)
good_lines u k [] s good = good
good_lines u k (line ∷ lines) s good = good_lines u k lines (after_line s line) (good_line u k s good line)

all_correct : (u : Universe) (cs : List Config) → AllByRecursion (IsKept u) cs → AllByRecursion (Correct u) cs
all_correct u [] all = tt
all_correct u (c ∷ cs) all = (all.0.correct, all_correct u cs all.1)

pub kept_correct : (u : Universe) (lines : List (List ℕ)) → IsUniverse u → let s = after_lines (begin u) lines in AllByRecursion (Correct u) (s.config ∷ s.earlier)
kept_correct u lines k =
    let s = after_lines (begin u) lines in
    let good = good_lines u k lines (begin u) (record { same = refl; kept = (record { config = IsConfig-empty; correct = Correct-empty u; over = IsOver-empty u }, tt) }) in
    all_correct u (s.config ∷ s.earlier) good.kept
