-- The lines of the actions are read one after another, as the actions with their lists that are written there.
--     AreRows u earlier actions after      what holds of these actions with their lists, where those before them are known
--     RowsRead u left rows l p      so many more rows were read from l, and p is what there is then
use Rattle.std.proofs.Common.{◌≡◌, ℕ, zero, suc, ◌+◌, List, [], ◌∷◌, ◌++◌, length, Ok, refl, sym, ap, ◌∙◌, append_assoc, append-nil}
use Rattle.std.specs.Prelude.{⊤}
use Rattle.std.specs.List.{zip}
use Rattle.std.proofs.lemmas.List.{length_push}
use Rattle.metis_ids.specs.declared.actions.Action.{Action}
use Rattle.metis_universe.specs.Terms.{IsNamed, Universe}
use Rattle.metis_text.specs.Terms.{Row, Rows, action_line, row_in, rows_from, rows_of, with_row}
use Rattle.metis_tokens.specs.Terms.{Cursor, and_then, lines_of, read_next}
use Rattle.metis_tokens.proofs.LinesTaken.{line_and_rest, read_next_is, read_next_read}
use Rattle.metis_tokens.proofs.Outcomes.{and_then_is}
use Rattle.metis_text.proofs.RowLine.{IsRow, row_is, row_printed, row_read, row_tokens}
use Rattle.metis_text.proofs.TextBytes.{numbered_bytes}

abbrev pub AreRows : Universe → List Action → List Action → List (List ℕ) → Type 0
AreRows u earlier [] [] = ⊤
AreRows u earlier [] (ks ∷ after) = ⊥
AreRows u earlier (a ∷ actions) [] = ⊥
AreRows u earlier (a ∷ actions) (ks ∷ after) = IsRow u earlier (a, ks) × AreRows u (earlier ++ a ∷ []) actions after

pub record RowsRead (u : Universe) (left : ℕ) (rows : Rows) (l : Cursor) (p : Rows × Cursor) : Type 0 where
  pub actions : List Action
  pub after : List (List ℕ)
  pub is : p.0 ≡ rows_of (rows.actions ++ actions) (rows.after ++ after)
  pub many : length actions ≡ left
  pub are : AreRows u rows.actions actions after
  pub text : l.rest ≡ numbered_bytes (action_line u) (length rows.actions + 1) (zip actions after) ++ p.1.rest

module _ (u : Universe) where
  pub rows_are : (left : ℕ) (rows : Rows) (l : Cursor) (p : Rows × Cursor) → rows_from u left rows l ≡ Ok p → RowsRead u left rows l p
  rows_are zero rows l p h =
      let e : (rows, l) ≡ p = cc in record {
        actions = [];
        after = [];
        is = sym (ap (λ q. q.0) e) ∙ sym (λ i. rows_of (append-nil rows.actions i) (append-nil rows.after i));
        many = refl;
        are = tt;
        text = ap (λ q. q.1.rest) e;
      }
  rows_are (suc left) rows l p h =
      let next = and_then_is (read_next (row_in u rows.actions) l) (λ p. rows_from u left (with_row rows p.0) p.1) p h in
      let row = next.0.0 in
      let left_then = next.0.1 in
      let one = read_next_is (row_in u rows.actions) l next.0 next.1 in
      let row_line = row_is u rows.actions one.0 row one.1 in
      let more = rows_are left (with_row rows row) left_then p next.2 in
      let k = length rows.actions + 1 in
      let z = zip more.actions more.after in
      let others = numbered_bytes (action_line u) (k + 1) z in
      let behind : left_then.rest ≡ others ++ p.1.rest = more.text ∙ ap (λ n. numbered_bytes (action_line u) (n + 1) z ++ p.1.rest) (length_push rows.actions row.0) in
      record {
        actions = row.0 ∷ more.actions;
        after = row.1 ∷ more.after;
        is = more.is ∙ (λ i. rows_of (append_assoc rows.actions (row.0 ∷ []) more.actions i) (append_assoc rows.after (row.1 ∷ []) more.after i));
        many = ap suc more.many;
        are = (row_line.1, more.are);
        text = one.2 ∙ (λ i. row_line.0 i ++ (10 ∷ behind i)) ∙ line_and_rest (row_tokens u k row) others p.1.rest;
      }

  pub rows_read : IsNamed u → (actions : List Action) (after : List (List ℕ)) (earlier : List Action) (lists : List (List ℕ)) (rest : List ℕ) (n : ℕ) → AreRows u earlier actions after
      → (m : ℕ) × (rows_from u (length actions) (rows_of earlier lists) (lines_of (numbered_bytes (action_line u) (length earlier + 1) (zip actions after) ++ rest) n) ≡ Ok (rows_of (earlier ++ actions) (lists ++ after), lines_of rest m))
  rows_read names [] [] earlier lists rest n are = (n, sym (λ i. Ok (rows_of (append-nil earlier i) (append-nil lists i), lines_of rest n)))
  rows_read names [] (ks ∷ after) earlier lists rest n are = absurd are
  rows_read names (a ∷ actions) [] earlier lists rest n are = absurd are
  rows_read names (a ∷ actions) (ks ∷ after) earlier lists rest n are =
      let k = length earlier + 1 in
      let others = numbered_bytes (action_line u) (k + 1) (zip actions after) in
      let behind = λ (p : Row × Cursor). rows_from u (length actions) (with_row (rows_of earlier lists) p.0) p.1 in
      let more = rows_read names actions after (earlier ++ a ∷ []) (lists ++ ks ∷ []) rest (n + 1) are.1 in (
        more.0,
        ap (λ bytes. and_then (read_next (row_in u earlier) (lines_of bytes n)) behind) (append_assoc (action_line u k (a, ks)) others rest)
            ∙ ap (λ r. and_then r behind) (read_next_read (row_in u earlier) (row_tokens u k (a, ks)) (others ++ rest) n (a, ks) (row_printed u earlier names (a, ks) are.0) (row_read u earlier names (a, ks) are.0))
            ∙ ap (λ j. rows_from u (length actions) (rows_of (earlier ++ a ∷ []) (lists ++ ks ∷ [])) (lines_of (numbered_bytes (action_line u) (j + 1) (zip actions after) ++ rest) (n + 1))) (sym (length_push earlier a))
            ∙ more.1
            ∙ (λ i. Ok (rows_of (append_assoc earlier (a ∷ []) actions i) (append_assoc lists (ks ∷ []) after i), lines_of rest more.0)),
      )
