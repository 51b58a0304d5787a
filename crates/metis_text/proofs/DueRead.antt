-- The fault of a text of which one line after another is due stands behind lines that begin one.
--     IsLeft bytes lines l      these lines were read, and this is left
--     Stopped bytes f      the bytes end too early, or the line that is due has a flaw
use Rattle.std.proofs.Common.{◌≡◌, ◌≢◌, ◌⊎◌, ℕ, ◌+◌, not, true, List, [], ◌∷◌, ◌++◌, length, Result, Ok, Err, sym, ap, ◌∙◌, append_assoc, append-nil, inl, inr}
use Rattle.std.specs.Prelude.{codes}
use Rattle.std.specs.Bool.{◌==◌}
use Rattle.std.proofs.lemmas.List.{length_push}
use Rattle.std.proofs.lemmas.List.Elements.{All-weaker}
use Rattle.std.proofs.lemmas.List.Folds.{concat-append}
use Rattle.std.proofs.lemmas.List.Sums.{AllPass-from_list_all}
use Rattle.metis_outside.proofs.Feeds.{no_feed, no_other}
use Rattle.metis_outside.specs.Terms.{bytes_of}
use Rattle.metis_tokens.proofs.LinesTaken.{read_next_number}
use Rattle.metis_tokens.proofs.Readers.{read_fails}
use Rattle.metis_tokens.specs.Terms.{Cursor, fault_at, read_next}
use Rattle.metis_tokens.specs.declared.fault.TFault.{TFault}
use Rattle.metis_tokens.specs.declared.flaw.Flaw.{Flaw}
use Rattle.metis_text.specs.Terms.{HasEnded, IsOfDue, NoFeed}

none_fed : (bytes : List ℕ) → no_feed bytes ≡ true → NoFeed bytes
none_fed bytes h = All-weaker (λ b. not (b == 10) ≡ true) (λ b. b ≢ 10) no_other bytes (AllPass-from_list_all (λ b. not (b == 10)) bytes h)

-- ---- lines, and what is left

pub record IsLeft (bytes : List ℕ) (lines : List (List ℕ)) (l : Cursor) : Type 0 where
  pub text : bytes ≡ bytes_of lines ++ l.rest
  pub number : l.number ≡ length lines

-- the same, one line further
pub one_more : {A : Type 0} (read : List ℕ → Result A Flaw) (bytes : List ℕ) (lines : List (List ℕ)) (l : Cursor) (p : A × Cursor) (line : List ℕ) → IsLeft bytes lines l → read_next read l ≡ Ok p → l.rest ≡ line ++ (10 ∷ p.1.rest) → IsLeft bytes (lines ++ (line ++ codes "\n") ∷ []) p.1
one_more read bytes lines l p line left h is =
    let feed = line ++ codes "\n" in
    let whole : bytes_of (lines ++ feed ∷ []) ≡ bytes_of lines ++ feed = concat-append lines (feed ∷ []) ∙ ap (λ r. bytes_of lines ++ r) (append-nil feed) in
    let rest : l.rest ≡ feed ++ p.1.rest = is ∙ sym (append_assoc line (codes "\n") p.1.rest) in
    let number = read_next_number read l p h in
    let count = left.number in
    record {
      text = left.text ∙ ap (λ r. bytes_of lines ++ r) rest ∙ sym (append_assoc (bytes_of lines) feed p.1.rest) ∙ ap (λ b. b ++ p.1.rest) (sym whole);
      number = number ∙ ap (λ n. n + 1) count ∙ sym (length_push lines feed);
    }

module _ {D : Type 0} (begun : List (List ℕ) → D → Type 0) (flawed : D → List ℕ → Flaw → Type 0) (bytes : List ℕ) (f : TFault) where
  abbrev pub Stopped : Type 0
  Stopped = HasEnded begun bytes f ⊎ IsOfDue begun flawed bytes f

  -- the line that is due cannot be read
  pub stops : {A : Type 0} (read : List ℕ → Result A Flaw) (due : D) (lines : List (List ℕ)) (l : Cursor) → begun lines due → IsLeft bytes lines l
      → ((line : List ℕ) (flaw : Flaw) → read line ≡ Err flaw → flawed due line flaw) → read_next read l ≡ Err f → Stopped
  stops {A} read due lines l are left wrong h = elim (read_fails read l f h) [
    | inl (none, short) ↦ inl (record { lines = lines; due = due; piece = l.rest; are = are; text = left.text; no_feed = none_fed l.rest none; fault = short })
    | inr broken ↦ inr (record {
      lines = lines;
      due = due;
      line = broken.line;
      behind = broken.behind;
      flaw = broken.flaw;
      are = are;
      text = left.text ∙ ap (λ r. bytes_of lines ++ r) broken.text;
      no_feed = none_fed broken.line broken.none;
      wrong = wrong broken.line broken.flaw broken.wrong;
      fault = broken.fault ∙ ap (λ n. fault_at (n + 1) broken.flaw) left.number;
    })
  ]
