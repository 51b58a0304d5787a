-- The lines of the text of a plan, where the number of instances may be wrong and more may stand behind them.
--     BodyAre u counts l q end      q was read behind the second line, and this is left
--     LinesAre u l w      these parts were read, and these lines are left
use Rattle.std.proofs.Common.{◌≡◌, ℕ, zero, suc, ◌+◌, List, [], ◌∷◌, ◌++◌, length, Ok, refl, sym, ap, ◌∙◌, subst, append_assoc, arith}
use Rattle.std.specs.Prelude.{codes}
use Rattle.std.specs.List.{zip}
use Rattle.metis_universe.specs.Terms.{IsNamed, IsUniverse, Universe}
use Rattle.metis_text.specs.Terms.{DupRow, Numbers, Parts, Rows, action_line, counts_in, counts_line, dup_in, dups_from, parts, row_in, rows_from, rows_of, with_row}
use Rattle.metis_tokens.specs.Terms.{Cursor, and_then, end_line, exactly, line, lines_of, read_next, words}
use Rattle.metis_text.proofs.DupsRead.{AreDups, dup_row_line, dups_are, dups_read}
use Rattle.metis_text.proofs.PlanWhole.{counts_then, dups_then, last_from, lines_from, rows_then}
use Rattle.metis_tokens.proofs.LinesTaken.{read_next_is, read_next_read, read_next_number}
use Rattle.metis_tokens.proofs.Outcomes.{and_then_is}
use Rattle.metis_text.proofs.PlanParts.{AreCounts, counts_are, counts_printed, counts_read, counts_tokens}
use Rattle.metis_tokens.proofs.KnownLines.{exactly_is}
use Rattle.metis_text.proofs.PlanRead.{body_bytes, numbers_of_parts, parts_bytes}
use Rattle.metis_text.proofs.RowsRead.{AreRows, rows_are, rows_read}
use Rattle.metis_text.proofs.TextBytes.{numbered_bytes}

last_is : (p : Parts) (l : Cursor) (w : Parts × Cursor) → last_from p l ≡ Ok w → (p ≡ w.0) × (l.rest ≡ end_line ++ w.1.rest) × (w.1.number ≡ l.number + 1)
last_is p l w h =
    let last = and_then_is (read_next (exactly (codes "end")) l) (λ e. Ok (p, e.1)) w h in
    let same : (p, last.0.1) ≡ w = cc in
    let one = read_next_is (exactly (codes "end")) l last.0 last.1 in
    let bytes = exactly_is (codes "end") one.0 last.0.0 one.1 in
    let number = read_next_number (exactly (codes "end")) l last.0 last.1 in
    (ap (λ w. w.0) same, one.2 ∙ (λ i. bytes i ++ (10 ∷ (same i).1.rest)), sym (ap (λ w. w.1.number) same) ∙ number)

pub record BodyAre (u : Universe) (counts : Numbers) (l end : Cursor) (q : Parts) : Type 0 where
  pub text : l.rest ≡ body_bytes u q ++ end.rest
  pub same : counts ≡ numbers_of_parts q
  pub rows : AreRows u [] q.rows.actions q.rows.after
  pub dups : AreDups u 1 q.dups
  pub number : end.number ≡ l.number + (length q.rows.actions + length q.dups + 1)

pub record LinesAre (u : Universe) (l : Cursor) (w : Parts × Cursor) : Type 0 where
  pub text : l.rest ≡ parts_bytes u w.0 ++ w.1.rest
  pub counts : AreCounts (numbers_of_parts w.0)
  pub rows : AreRows u [] w.0.rows.actions w.0.rows.after
  pub dups : AreDups u 1 w.0.dups
  pub number : w.1.number ≡ l.number + (length w.0.rows.actions + length w.0.dups + 3)

module _ (u : Universe) where
  rows_number : (left : ℕ) (rows : Rows) (l : Cursor) (p : Rows × Cursor) → rows_from u left rows l ≡ Ok p → p.1.number ≡ l.number + left
  rows_number zero rows l p h = let e : (rows, l) ≡ p = cc in let n : l.number ≡ p.1.number = ap (λ q. q.1.number) e in omega arith
  rows_number (suc left) rows l p h =
      let next = and_then_is (read_next (row_in u rows.actions) l) (λ p. rows_from u left (with_row rows p.0) p.1) p h in
      omega (arith, read_next_number (row_in u rows.actions) l next.0 next.1, rows_number left (with_row rows next.0.0) next.0.1 p next.2)

  dups_number : (left : ℕ) (dups : List DupRow) (l : Cursor) (p : List DupRow × Cursor) → dups_from u left dups l ≡ Ok p → p.1.number ≡ l.number + left
  dups_number zero dups l p h = let e : (dups, l) ≡ p = cc in let n : l.number ≡ p.1.number = ap (λ q. q.1.number) e in omega arith
  dups_number (suc left) dups l p h =
      let next = and_then_is (read_next (dup_in u (length dups + 1)) l) (λ p. dups_from u left (dups ++ p.0 ∷ []) p.1) p h in
      omega (arith, read_next_number (dup_in u (length dups + 1)) l next.0 next.1, dups_number left (dups ++ next.0.0 ∷ []) next.0.1 p next.2)

  -- ---- what was read

  in_a_row : (xs ys zs rest : List ℕ) → xs ++ (ys ++ (zs ++ rest)) ≡ (xs ++ (ys ++ zs)) ++ rest
  in_a_row xs ys zs rest = ap (λ r. xs ++ r) (sym (append_assoc ys zs rest)) ∙ sym (append_assoc xs (ys ++ zs) rest)

  body_are : (counts : Numbers) (l : Cursor) (w : Parts × Cursor) → rows_then u counts l ≡ Ok w → BodyAre u counts l w.1 w.0
  body_are counts l w h =
      let rows = and_then_is (rows_from u counts.1.0 (rows_of [] []) l) (λ rows. dups_then u counts rows.0 rows.1) w h in
      let dups = and_then_is (dups_from u counts.1.1 [] rows.0.1) (λ dups. last_from (parts counts.0 rows.0.0 dups.0) dups.1) w rows.2 in
      let last = last_is (parts counts.0 rows.0.0 dups.0.0) dups.0.1 w dups.2 in
      let r = rows_are u counts.1.0 (rows_of [] []) l rows.0 rows.1 in
      let d = dups_are u counts.1.1 [] rows.0.1 dups.0 dups.1 in
      let same : parts counts.0 (rows_of r.actions r.after) d.added ≡ w.0 = sym (λ i. parts counts.0 (r.is i) (d.is i)) ∙ last.0 in
      let actions = numbered_bytes (action_line u) 1 (zip r.actions r.after) in
      let doubled = numbered_bytes (dup_row_line u) 1 d.added in
      let before = rows_number counts.1.0 (rows_of [] []) l rows.0 rows.1 in
      let behind = dups_number counts.1.1 [] rows.0.1 dups.0 dups.1 in
      subst (BodyAre u counts l w.1) same (record {
        text = r.text ∙ ap (λ s. actions ++ s) (d.text ∙ ap (λ s. doubled ++ s) last.1) ∙ in_a_row actions doubled end_line w.1.rest;
        same = sym (λ i. (counts.0, (r.many i, d.many i)));
        rows = r.are;
        dups = d.are;
        number = omega (arith, last.2, before, behind, r.many, d.many);
      })

  record CountedAre (l : Cursor) (w : Parts × Cursor) : Type 0 where
    text : l.rest ≡ (counts_line w.0.instances (length w.0.rows.actions) (length w.0.dups) ++ body_bytes u w.0) ++ w.1.rest
    counts : AreCounts (numbers_of_parts w.0)
    rows : AreRows u [] w.0.rows.actions w.0.rows.after
    dups : AreDups u 1 w.0.dups
    number : w.1.number ≡ l.number + (length w.0.rows.actions + length w.0.dups + 2)

  counted_are : (l : Cursor) (w : Parts × Cursor) → counts_then u l ≡ Ok w → CountedAre l w
  counted_are l w h =
      let counts = and_then_is (read_next counts_in l) (λ counts. rows_then u counts.0 counts.1) w h in
      let second = read_next_is counts_in l counts.0 counts.1 in
      let says = counts_are second.0 counts.0.0 second.1 in
      let body = body_are counts.0.0 counts.0.1 w counts.2 in
      let number = read_next_number counts_in l counts.0 counts.1 in record {
        text =
            second.2 ∙ ap (λ bytes. bytes ++ (10 ∷ counts.0.1.rest)) says.0 ∙ sym (append_assoc (words (counts_tokens counts.0.0)) (10 ∷ []) counts.0.1.rest)
            ∙ (λ i. line (counts_tokens (body.same i)) ++ body.text i)
            ∙ sym (append_assoc (line (counts_tokens (numbers_of_parts w.0))) (body_bytes u w.0) w.1.rest);
        counts = subst AreCounts body.same says.1;
        rows = body.rows;
        dups = body.dups;
        number = omega (arith, body.number, number);
      }

  pub lines_are : (l : Cursor) (w : Parts × Cursor) → lines_from u l ≡ Ok w → LinesAre u l w
  lines_are l w h =
      let header = and_then_is (read_next (exactly (codes "metis plan 1")) l) (λ header. counts_then u header.1) w h in
      let first = read_next_is (exactly (codes "metis plan 1")) l header.0 header.1 in
      let says = exactly_is (codes "metis plan 1") first.0 header.0.0 first.1 in
      let rest = counted_are header.0.1 w header.2 in
      let number = read_next_number (exactly (codes "metis plan 1")) l header.0 header.1 in record {
        text = first.2 ∙ (λ i. says i ++ (10 ∷ rest.text i));
        counts = rest.counts;
        rows = rest.rows;
        dups = rest.dups;
        number = omega (arith, rest.number, number);
      }

  -- ---- what was written is read

  module _ (is : IsUniverse u) (names : IsNamed u) (q : Parts) (rows_so : AreRows u [] q.rows.actions q.rows.after) (dups_so : AreDups u 1 q.dups) (counts_so : AreCounts (numbers_of_parts q)) where
    last_read : (n : ℕ) → last_from q (lines_of end_line n) ≡ Ok (q, lines_of [] (n + 1))
    last_read n = ap (λ r. and_then r (λ e. Ok (q, e.1))) (read_next_read (exactly (codes "end")) (codes "end" ∷ []) [] n tt refl refl)

    body_read : (n : ℕ) → (m : ℕ) × (rows_then u (numbers_of_parts q) (lines_of (body_bytes u q) n) ≡ Ok (q, lines_of [] m))
    body_read n =
        let rows = rows_read u names q.rows.actions q.rows.after [] [] (numbered_bytes (dup_row_line u) 1 q.dups ++ end_line) n rows_so in
        let dups = dups_read u is names q.dups [] end_line rows.0 dups_so in (
          dups.0 + 1,
          ap (λ r. and_then r (λ rows. dups_then u (numbers_of_parts q) rows.0 rows.1)) rows.1
              ∙ ap (λ r. and_then r (λ dups. last_from (parts q.instances q.rows dups.0) dups.1)) dups.1
              ∙ last_read dups.0,
        )

    pub lines_read : (m : ℕ) × (lines_from u (lines_of (parts_bytes u q) 0) ≡ Ok (q, lines_of [] m))
    lines_read =
        let counts = numbers_of_parts q in
        let body = body_bytes u q in
        let rest = body_read 2 in (
          rest.0,
          ap (λ r. and_then r (λ header. counts_then u header.1)) (read_next_read (exactly (codes "metis plan 1")) (codes "metis" ∷ codes "plan" ∷ codes "1" ∷ []) (line (counts_tokens counts) ++ body) 0 tt refl refl)
              ∙ ap (λ r. and_then r (λ counts. rows_then u counts.0 counts.1)) (read_next_read counts_in (counts_tokens counts) body 1 counts (counts_printed counts counts_so) (counts_read counts counts_so))
              ∙ rest.1,
        )
