-- Sessions that are the same but for what they keep reply the same, as long as they are not told to undo.
use Rattle.std.proofs.Common.{◌≡◌, ℕ, zero, suc, ◌+◌, ◌≤◌, ltb, Bool, true, false, cond, List, [], ◌∷◌, ◌++◌, map, drop, codes, Option, Some, None, Result, Ok, Err, refl, sym, ap, ◌∙◌, arith}
use Rattle.std.specs.Prelude.{◌≢◌}
use Rattle.std.specs.List.{list_any}
use Rattle.std.specs.Str.{bytes_eq}
use Rattle.std.proofs.lemmas.Bool.{cond-false, ltb-false, or_parts}
use Rattle.metis_ids.specs.declared.actions.Action.{Action}
use Rattle.metis_tokens.specs.Terms.{tokens}
use Rattle.metis_actions.specs.declared.faults.AFault.{AFault}
use Rattle.metis_actions.specs.Terms.{fault_of}
use Rattle.metis_universe.specs.Terms.{Universe}
use Rattle.metis_sim.proofs.Courses.{reply_not_ended}
use Rattle.metis_sim.specs.Terms.{Answer, KeepsEnough, Session, acted, action_in, after_line, answer, answer_to_line, answer_to_words, done_by, forgotten, replies_to, reply, reply_lines, undone, unkept}
use Rattle.metis_sim.specs.Asked.{is_undo}
use Rattle.metis_sim.specs.declared.misread.Misread.{Misread}
use Rattle.metis_sim.specs.declared.reply.Reply.{Reply}
use Rattle.metis_sim.specs.declared.reply.Reply.TheVariants.{Ended}

unkept_if : (b : Bool) (x y v w : Answer) → unkept x ≡ unkept v → unkept y ≡ unkept w → unkept (cond b x y) ≡ unkept (cond b v w)
unkept_if true x y v w first second = first
unkept_if false x y v w first second = second

module _ (s : Session) where
  abbrev bare : Session
  bare = forgotten s

  done_apart : (a : Action) (fault : Option AFault) → unkept (done_by s a fault) ≡ unkept (done_by bare a fault)
  done_apart a None = refl
  done_apart a (Some f) = refl

  acted_apart : (read : Result Action Misread) → unkept (acted s read) ≡ unkept (acted bare read)
  acted_apart (Ok a) = done_apart a (fault_of s.universe s.config a)
  acted_apart (Err wrong) = refl

  words_apart : (words : List (List ℕ)) → unkept (answer_to_words s words) ≡ unkept (answer_to_words bare words)
  words_apart [] = refl
  words_apart (verb ∷ words) = unkept_if (bytes_eq verb (codes "check")) _ _ _ _ refl (acted_apart (action_in s.universe s.config verb words))

  -- a line but `undo`
  line_apart : (line : List ℕ) → is_undo line ≡ false → unkept (answer_to_line s line) ≡ unkept (answer_to_line bare line)
  line_apart line other =
      ap unkept (cond-false (is_undo line) (undone s) _ other)
      ∙ unkept_if (bytes_eq line (codes "quit")) _ _ _ _ refl (unkept_if (bytes_eq line (codes "show")) _ _ _ _ refl (words_apart (tokens line)))
      ∙ sym (ap unkept (cond-false (is_undo line) (undone bare) _ other))

  answer_apart : (line : List ℕ) → is_undo line ≡ false → unkept (answer s line) ≡ unkept (answer bare line)
  answer_apart line other = unkept_if s.ended (Ended, s) (answer_to_line s line) (Ended, bare) (answer_to_line bare line) refl (line_apart line other)

same_apart : (s t : Session) (line : List ℕ) → forgotten s ≡ forgotten t → is_undo line ≡ false → unkept (answer s line) ≡ unkept (answer t line)
same_apart s t line same other = answer_apart s line other ∙ ap (λ q. unkept (answer q line)) same ∙ sym (answer_apart t line other)

-- no line is `undo`: neither the first one, nor one behind it
none_behind : (line : List ℕ) (lines : List (List ℕ)) → list_any is_undo (line ∷ lines) ≡ false → (is_undo line ≡ false) × (list_any is_undo lines ≡ false)
none_behind line lines none = or_parts (is_undo line) (list_any is_undo lines) none

replies_apart : (u : Universe) (lines : List (List ℕ)) (s t : Session) → forgotten s ≡ forgotten t → list_any is_undo lines ≡ false → replies_to u s lines ≡ replies_to u t lines
replies_apart u [] s t same none = refl
replies_apart u (line ∷ lines) s t same none =
    let parts = none_behind line lines none in
    let e = same_apart s t line same parts.0 in
    let first = ap (λ (w : Answer). reply_lines u w.1.config w.0) e in
    let others = replies_apart u lines (after_line s line) (after_line t line) (ap (λ (w : Answer). w.1) e) parts.1 in
    (λ i. first i ++ others i)

-- the session s answers a line by r, which leaves t
module _ (line : List ℕ) (s t : Session) (r : Reply) where
  enough_reply : (keeps : Bool) → KeepsEnough keeps (r, t) (answer s line) → r ≡ reply s line
  enough_reply true e = ap (λ (w : Answer). w.0) e
  enough_reply false e = ap (λ (w : Answer). w.0) e

  pub never_ended : (keeps : Bool) → KeepsEnough keeps (r, t) (answer s line) → s.ended ≡ false → r ≢ Ended
  never_ended keeps e live ended = reply_not_ended s live line (sym (enough_reply keeps e) ∙ ended)

  -- these are the lines of the reply, and then come those of the others
  pub replies_from : (u : Universe) (keeps : Bool) → KeepsEnough keeps (r, t) (answer s line) → (told lines : List (List ℕ)) → told ≡ reply_lines u t.config r
      → (keeps ≡ false → list_any is_undo lines ≡ false) → replies_to u s (line ∷ lines) ≡ told ++ replies_to u t lines
  replies_from u true e told lines is none = ap (λ (w : Answer). reply_lines u w.1.config w.0 ++ replies_to u w.1 lines) (sym e) ∙ ap (λ l. l ++ replies_to u t lines) (sym is)
  replies_from u false e told lines is none =
      let first = ap (λ (w : Answer). reply_lines u w.1.config w.0) (sym e) ∙ sym is in
      let others = replies_apart u lines (after_line s line) t (ap (λ (w : Answer). w.1) (sym e)) (none refl) in
      (λ i. first i ++ others i)

-- ---- lines that are lent, of which v gives the bytes

module _ {A : Type 0} (v : A → List ℕ) where
  none_drop : (k : ℕ) (ws : List A) → list_any is_undo (map v ws) ≡ false → list_any is_undo (map v (drop k ws)) ≡ false
  none_drop zero ws none = none
  none_drop (suc k) [] none = refl
  none_drop (suc k) (w ∷ ws) none = none_drop k ws (none_behind (v w) (map v ws) none).1

  none_past : (past at : ℕ) (ws : List A) → past ≤ at → list_any is_undo (map v (drop past ws)) ≡ false → list_any is_undo (map v (drop at ws)) ≡ false
  none_past zero at ws low none = none_drop at ws none
  none_past (suc past) zero ws low none = absurd (omega arith)
  none_past (suc past) (suc at) [] low none = refl
  none_past (suc past) (suc at) (w ∷ ws) low none = none_past past at ws (omega arith) none

  -- where the next line is w, and no line is `undo` from an earlier place on
  pub none_from : (past at : ℕ) (ws : List A) (w : A) → ltb at past ≡ false → list_any is_undo (map v (drop past ws)) ≡ false → map v (drop at ws) ≡ v w ∷ map v (drop (at + 1) ws)
      → (is_undo (v w) ≡ false) × (list_any is_undo (map v (drop (at + 1) ws)) ≡ false)
  none_from past at ws w behind none next =
      none_behind (v w) (map v (drop (at + 1) ws)) (sym (ap (list_any is_undo) next) ∙ none_past past at ws (ltb-false at past behind) none)
