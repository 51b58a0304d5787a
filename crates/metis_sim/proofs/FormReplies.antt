-- Which reply a line gets by its form.
use Rattle.std.proofs.Common.{◌≡◌, ℕ, ◌&&◌, ◌↔◌, ◌⊎◌, inl, inr, Bool, true, false, cond, List, [], ◌∷◌, codes, length, Option, Some, None, Result, Ok, Err, refl, sym, ap, ◌∙◌, subst, nat_le, bytes_eq}
use Rattle.std.specs.List.{list_all}
use Rattle.std.proofs.lemmas.Bool.{false≢true}
use Rattle.std.proofs.lemmas.Slice.Eq.{bytes_eq-Decides}
use Rattle.metis_ids.specs.declared.actions.Action.{Action}
use Rattle.metis_ids.specs.declared.goals.Goal.{Goal}
use Rattle.metis_actions.specs.Terms.{fault_of}
use Rattle.metis_actions.specs.declared.faults.AFault.{AFault}
use Rattle.metis_replay.specs.Terms.{shortage}
use Rattle.metis_tokens.specs.Terms.{tokens}
use Rattle.metis_universe.specs.Terms.{Config}
use Rattle.metis_sim.proofs.FormFacts.{HasNone, IsNamed, IsNoVerb, Judged, action_judged, no_order, only_check, order_same}
use Rattle.metis_sim.specs.Terms.{HasForm, IsOfUnknown, IsOrder, NamesNothing, Order, Session, acted, action_in, answer_to_line, answer_to_words, binds, check_reply, checks, deletes, done_by, goals_of, is_order, is_pair_word, is_quit, is_show, makes, most_targets, moves, order_words, reply, reply_on, said_by, session_of, unbinds, undone, undone_by}
use Rattle.metis_sim.specs.Forms.{is_undo}
use Rattle.metis_sim.specs.declared.misread.Misread.{Misread}
use Rattle.metis_sim.specs.declared.misread.Misread.TheVariants.{Absent, Form, Name}
use Rattle.metis_sim.specs.declared.reply.Reply.{Reply}
use Rattle.metis_sim.specs.declared.reply.Reply.TheVariants.{BadLine, Bye, Ended, Show, Unknown}

-- ---- replies that are neither

record IsOther (r : Reply) : Type 0 where
  not_bad : r ≡ BadLine → ⊥
  not_unknown : r ≡ Unknown → ⊥

said_other : (o : Option (Goal × ℕ × ℕ)) → IsOther (said_by o)
said_other None = record { not_bad = λ e. cc; not_unknown = λ e. cc }
said_other (Some s) = record { not_bad = λ e. cc; not_unknown = λ e. cc }

undone_other : (s : Session) (earlier : List Config) → IsOther (undone_by s earlier).0
undone_other s [] = record { not_bad = λ e. cc; not_unknown = λ e. cc }
undone_other s (c ∷ earlier) = record { not_bad = λ e. cc; not_unknown = λ e. cc }

done_other : (s : Session) (a : Action) (f : Option AFault) → IsOther (done_by s a f).0
done_other s a None = record { not_bad = λ e. cc; not_unknown = λ e. cc }
done_other s a (Some f) = record { not_bad = λ e. cc; not_unknown = λ e. cc }

-- ---- the tokens of a line

module _ (s : Session) where
  -- what the tokens of a line have to do with the reply
  record IsSaid (ts : List (List ℕ)) (r : Reply) : Type 0 where
    bad : r ≡ BadLine → HasNone ts
    good : (r ≡ BadLine) ⊎ ((o : Order) × (ts ≡ order_words o) × IsOrder o)
    unknown : r ≡ Unknown → IsOfUnknown s.universe s.config ts
    told : IsOfUnknown s.universe s.config ts → r ≡ Unknown

  of_none : (ts : List (List ℕ)) → HasNone ts → IsSaid ts BadLine
  of_none ts never = record { bad = λ _. never; good = inl refl; unknown = λ e. cc; told = λ h. absurd (never h.order h.words h.formed) }

  of_unknown : (ts : List (List ℕ)) → IsOfUnknown s.universe s.config ts → IsSaid ts Unknown
  of_unknown ts h = record { bad = λ e. cc; good = inr (h.order, h.words, h.formed); unknown = λ _. h; told = λ _. refl }

  of_named : (ts : List (List ℕ)) (r : Reply) → IsOther r → IsNamed s.universe s.config ts → IsSaid ts r
  of_named ts r other h = record {
    bad = λ e. absurd (other.not_bad e);
    good = inr (h.order, h.words, h.formed);
    unknown = λ e. absurd (other.not_unknown e);
    told = λ k. absurd (h.names (subst (NamesNothing s.universe s.config) (order_same k.order h.order (sym k.words ∙ h.words)) k.names));
  }

  acted_said : (ts : List (List ℕ)) (r : Result Action Misread) → Judged s.universe s.config ts r → IsSaid ts (acted s r).0
  acted_said ts (Err Form) h = of_none ts h
  acted_said ts (Err Name) h = of_unknown ts h
  acted_said ts (Err (Absent z)) h = of_named ts _ (record { not_bad = λ e. cc; not_unknown = λ e. cc }) h
  acted_said ts (Ok a) h = of_named ts _ (done_other s a (fault_of s.universe s.config a)) h

  -- ---- a check

  abbrev check_words : List (List ℕ) → List (List ℕ)
  check_words words = codes "check" ∷ words

  goals_said : (words : List (List ℕ)) → IsOrder (checks words) → IsSaid (check_words words) (reply_on s.universe s.config (goals_of s.universe words))
  goals_said words is = by (goals_of s.universe words) refl where
    by : (o : Option (List Goal)) → goals_of s.universe words ≡ o → IsSaid (check_words words) (reply_on s.universe s.config o)
    by None none = of_unknown (check_words words) (record { order = checks words; words = refl; formed = is; names = none })
    by (Some goals) some = of_named (check_words words) _ (said_other (shortage s.universe s.config goals)) (record { order = checks words; words = refl; formed = is; names = λ none. let e : Some goals ≡ None = sym some ∙ none in cc })

  check_said : (words : List (List ℕ)) → IsSaid (check_words words) (check_reply s.universe s.config words)
  check_said words = by (nat_le (length words) most_targets) refl (list_all is_pair_word words) refl where
    none : (IsOrder (checks words) → ⊥) → HasNone (check_words words)
    none never o e is = never (subst IsOrder (only_check words o e) is)

    by : (a : Bool) → nat_le (length words) most_targets ≡ a → (b : Bool) → list_all is_pair_word words ≡ b
        → IsSaid (check_words words) (cond (a && b) (reply_on s.universe s.config (goals_of s.universe words)) BadLine)
    by false few b pairs = of_none (check_words words) (none (λ is. false≢true (sym few ∙ is.0)))
    by true few false pairs = of_none (check_words words) (none (λ is. false≢true (sym pairs ∙ is.1)))
    by true few true pairs = goals_said words (few, pairs)

  words_said : (ts : List (List ℕ)) → IsSaid ts (answer_to_words s ts).0
  words_said [] = of_none [] never where
    never : (o : Order) → [] ≡ order_words o → IsOrder o → ⊥
    never (makes z kind) e is = cc
    never (deletes z) e is = cc
    never (binds r z y) e is = cc
    never (unbinds r z y) e is = cc
    never (moves z from to) e is = cc
    never (checks targets) e is = cc
  words_said (verb ∷ words) = by (bytes_eq verb (codes "check")) refl where
    by : (b : Bool) → bytes_eq verb (codes "check") ≡ b → IsSaid (verb ∷ words) (cond b (check_reply s.universe s.config words, s) (acted s (action_in s.universe s.config verb words))).0
    by true same = subst (λ v. IsSaid (v ∷ words) (check_reply s.universe s.config words)) (sym ((bytes_eq-Decides verb (codes "check")).0 same)) (check_said words)
    by false other = acted_said (verb ∷ words) (action_in s.universe s.config verb words) (action_judged s.universe s.config verb words other)

  -- ---- a whole line

  record IsLineSaid (line : List ℕ) (r : Reply) : Type 0 where
    bad : r ≡ BadLine → HasForm line → ⊥
    good : (r ≡ BadLine) ⊎ HasForm line
    unknown : r ≡ Unknown → IsOfUnknown s.universe s.config (tokens line)
    told : IsOfUnknown s.universe s.config (tokens line) → r ≡ Unknown

  -- a line of one word that is no verb
  of_word : (line word : List ℕ) → line ≡ word → tokens word ≡ word ∷ [] → IsNoVerb word → HasForm line → (r : Reply) → IsOther r → IsLineSaid line r
  of_word line word same one never form r other = record {
    bad = λ e. absurd (other.not_bad e);
    good = inr form;
    unknown = λ e. absurd (other.not_unknown e);
    told = λ k. absurd (no_order word never [] k.order (sym one ∙ ap tokens (sym same) ∙ k.words));
  }

  record IsNoWord (line : List ℕ) : Type 0 where
    no_undo : bytes_eq line (codes "undo") ≡ false
    no_quit : bytes_eq line (codes "quit") ≡ false
    no_show : bytes_eq line (codes "show") ≡ false

  of_words : (line : List ℕ) → IsNoWord line → IsLineSaid line (answer_to_words s (tokens line)).0
  of_words line never = record { bad = bad; good = good h.good; unknown = h.unknown; told = h.told } where
    h : IsSaid (tokens line) (answer_to_words s (tokens line)).0
    h = words_said (tokens line)

    clash : (word : List ℕ) → bytes_eq line word ≡ false → line ≡ word → ⊥
    clash word other same = false≢true (sym other ∙ (bytes_eq-Decides line word).1 same)

    bad : (answer_to_words s (tokens line)).0 ≡ BadLine → HasForm line → ⊥
    bad e (is_undo same) = clash (codes "undo") never.no_undo same
    bad e (is_quit same) = clash (codes "quit") never.no_quit same
    bad e (is_show same) = clash (codes "show") never.no_show same
    bad e (is_order o words is) = h.bad e o words is

    good : ((answer_to_words s (tokens line)).0 ≡ BadLine) ⊎ ((o : Order) × (tokens line ≡ order_words o) × IsOrder o) → ((answer_to_words s (tokens line)).0 ≡ BadLine) ⊎ HasForm line
    good (inl e) = inl e
    good (inr f) = inr (is_order f.0 f.1 f.2)

  line_said : (line : List ℕ) → IsLineSaid line (answer_to_line s line).0
  line_said line = by (bytes_eq line (codes "undo")) refl (bytes_eq line (codes "quit")) refl (bytes_eq line (codes "show")) refl where
    verbless : (word : List ℕ) → bytes_eq line word ≡ true → line ≡ word
    verbless word same = (bytes_eq-Decides line word).0 same

    by : (a : Bool) → bytes_eq line (codes "undo") ≡ a → (b : Bool) → bytes_eq line (codes "quit") ≡ b → (d : Bool) → bytes_eq line (codes "show") ≡ d
        → IsLineSaid line (cond a (undone s) (cond b (Bye, session_of s.universe s.config s.earlier true) (cond d (Show, s) (answer_to_words s (tokens line))))).0
    by true same b quit d show = of_word line (codes "undo") (verbless (codes "undo") same) refl (record { no_new = refl; no_delete = refl; no_bind = refl; no_unbind = refl; no_move = refl; no_check = refl })
        (is_undo (verbless (codes "undo") same)) _ (undone_other s s.earlier)
    by false undo true same d show = of_word line (codes "quit") (verbless (codes "quit") same) refl (record { no_new = refl; no_delete = refl; no_bind = refl; no_unbind = refl; no_move = refl; no_check = refl })
        (is_quit (verbless (codes "quit") same)) Bye (record { not_bad = λ e. cc; not_unknown = λ e. cc })
    by false undo false quit true same = of_word line (codes "show") (verbless (codes "show") same) refl (record { no_new = refl; no_delete = refl; no_bind = refl; no_unbind = refl; no_move = refl; no_check = refl })
        (is_show (verbless (codes "show") same)) Show (record { not_bad = λ e. cc; not_unknown = λ e. cc })
    by false undo false quit false show = of_words line (record { no_undo = undo; no_quit = quit; no_show = show })

  live_said : s.ended ≡ false → (line : List ℕ) → IsLineSaid line (reply s line)
  live_said live line = subst (λ b. IsLineSaid line (cond b (Ended, s) (answer_to_line s line)).0) (sym live) (line_said line)

pub bad_exactly : (s : Session) (line : List ℕ) → s.ended ≡ false → reply s line ≡ BadLine ↔ (HasForm line → ⊥)
bad_exactly s line live = (h.bad, λ none. by none h.good) where
  h : IsLineSaid s line (reply s line)
  h = live_said s live line

  by : (HasForm line → ⊥) → (reply s line ≡ BadLine) ⊎ HasForm line → reply s line ≡ BadLine
  by none (inl e) = e
  by none (inr form) = absurd (none form)

pub unknown_exactly : (s : Session) (line : List ℕ) → s.ended ≡ false → reply s line ≡ Unknown ↔ IsOfUnknown s.universe s.config (tokens line)
unknown_exactly s line live = let h = live_said s live line in (h.unknown, h.told)
