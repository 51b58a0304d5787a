-- The lines of the dups are read one after another, as the dups that are written there.
--     AreDups u k dups      what holds of these dups, of which the first has number k
--     DupsRead u left dups l p      so many more dups were read from l, and p is what there is then
use Rattle.std.proofs.Common.{◌≡◌, ℕ, zero, suc, ◌+◌, List, [], ◌∷◌, ◌++◌, length, map, Ok, refl, sym, ap, ◌∙◌, append_assoc, append-nil, subst}
use Rattle.std.specs.Prelude.{⊤}
use Rattle.std.proofs.lemmas.List.{length_push}
use Rattle.metis_ids.specs.Terms.{Dup}
use Rattle.metis_universe.specs.Terms.{IsNamed, IsUniverse, Universe}
use Rattle.metis_text.specs.Terms.{DupRow, dup_in, dup_line, dup_row, dups_from}
use Rattle.metis_tokens.specs.Terms.{Cursor, and_then, line, lines_of, read_next}
use Rattle.metis_text.proofs.DupLine.{IsDupRow, dup_is, dup_printed, dup_read, dup_row_tokens}
use Rattle.metis_tokens.proofs.LinesTaken.{read_next_is, read_next_read, line_and_rest}
use Rattle.metis_tokens.proofs.Outcomes.{and_then_is}
use Rattle.metis_text.proofs.TextBytes.{numbered_bytes}

abbrev pub AreDups : Universe → ℕ → List DupRow → Type 0
AreDups u k [] = ⊤
AreDups u k (d ∷ dups) = IsDupRow u k d × AreDups u (k + 1) dups

-- the line of dup number k, as it is read
abbrev pub dup_row_line : Universe → ℕ → DupRow → List ℕ
dup_row_line u k row = line (dup_row_tokens u k row)

pub record DupsRead (u : Universe) (left : ℕ) (dups : List DupRow) (l : Cursor) (p : List DupRow × Cursor) : Type 0 where
  pub added : List DupRow
  pub is : p.0 ≡ dups ++ added
  pub many : length added ≡ left
  pub are : AreDups u (length dups + 1) added
  pub text : l.rest ≡ numbered_bytes (dup_row_line u) (length dups + 1) added ++ p.1.rest

module _ (u : Universe) where
  pub dups_are : (left : ℕ) (dups : List DupRow) (l : Cursor) (p : List DupRow × Cursor) → dups_from u left dups l ≡ Ok p → DupsRead u left dups l p
  dups_are zero dups l p h =
      let e : (dups, l) ≡ p = cc in
      record { added = []; is = sym (ap (λ q. q.0) e) ∙ sym (append-nil dups); many = refl; are = tt; text = ap (λ q. q.1.rest) e }
  dups_are (suc left) dups l p h =
      let k = length dups + 1 in
      let next = and_then_is (read_next (dup_in u k) l) (λ p. dups_from u left (dups ++ p.0 ∷ []) p.1) p h in
      let row = next.0.0 in
      let left_then = next.0.1 in
      let one = read_next_is (dup_in u k) l next.0 next.1 in
      let row_line = dup_is u k one.0 row one.1 in
      let more = dups_are left (dups ++ row ∷ []) left_then p next.2 in
      let size = length_push dups row in
      let others = numbered_bytes (dup_row_line u) (k + 1) more.added in
      let behind : left_then.rest ≡ others ++ p.1.rest = more.text ∙ ap (λ n. numbered_bytes (dup_row_line u) (n + 1) more.added ++ p.1.rest) size in
      record {
        added = row ∷ more.added;
        is = more.is ∙ append_assoc dups (row ∷ []) more.added;
        many = ap suc more.many;
        are = (row_line.1, subst (λ n. AreDups u (n + 1) more.added) size more.are);
        text = one.2 ∙ (λ i. row_line.0 i ++ (10 ∷ behind i)) ∙ line_and_rest (dup_row_tokens u k row) others p.1.rest;
      }

  pub dups_read : IsUniverse u → IsNamed u → (added dups : List DupRow) (rest : List ℕ) (n : ℕ) → AreDups u (length dups + 1) added
      → (m : ℕ) × (dups_from u (length added) dups (lines_of (numbered_bytes (dup_row_line u) (length dups + 1) added ++ rest) n) ≡ Ok (dups ++ added, lines_of rest m))
  dups_read is names [] dups rest n are = (n, sym (λ i. Ok (append-nil dups i, lines_of rest n)))
  dups_read is names (d ∷ added) dups rest n are =
      let k = length dups + 1 in
      let others = numbered_bytes (dup_row_line u) (k + 1) added in
      let size = length_push dups d in
      let behind = λ (p : DupRow × Cursor). dups_from u (length added) (dups ++ p.0 ∷ []) p.1 in
      let more = dups_read is names added (dups ++ d ∷ []) rest (n + 1) (subst (λ j. AreDups u (j + 1) added) (sym size) are.1) in (
        more.0,
        ap (λ bytes. and_then (read_next (dup_in u k) (lines_of bytes n)) behind) (append_assoc (dup_row_line u k d) others rest)
            ∙ ap (λ r. and_then r behind) (read_next_read (dup_in u k) (dup_row_tokens u k d) (others ++ rest) n d (dup_printed u k is names d are.0) (dup_read u k is names d are.0))
            ∙ ap (λ j. dups_from u (length added) (dups ++ d ∷ []) (lines_of (numbered_bytes (dup_row_line u) (j + 1) added ++ rest) (n + 1))) (sym size)
            ∙ more.1
            ∙ (λ i. Ok (append_assoc dups (d ∷ []) added i, lines_of rest more.0)),
      )

  -- the lines of the dups are those of what is read of them
  pub dup_lines_as_read : (k : ℕ) (dups : List Dup) → numbered_bytes (dup_row_line u) k (map dup_row dups) ≡ numbered_bytes (dup_line u) k dups
  dup_lines_as_read k [] = refl
  dup_lines_as_read k (d ∷ dups) = ap (λ l. dup_line u k d ++ l) (dup_lines_as_read (k + 1) dups)
