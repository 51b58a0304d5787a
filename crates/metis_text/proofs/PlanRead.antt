-- A whole text is read as what it says just where it is what is written for that.
--     body_bytes u q, parts_bytes u q      the text of what a plan says, without its first two lines;  and whole
--     AreParts u q      what holds of what is read, its text aside
--     BodyRead u counts l q, CountedRead u l q      q was read behind the second line, which says these counts;  and behind the first one
use Rattle.std.proofs.Common.{◌≡◌, ℕ, List, [], ◌∷◌, ◌++◌, length, Ok, refl, sym, ap, ◌∙◌, subst, append_assoc}
use Rattle.std.specs.Prelude.{codes}
use Rattle.std.specs.List.{count_by, zip}
use Rattle.metis_universe.specs.Terms.{IsNamed, IsUniverse, Universe}
use Rattle.metis_tokens.specs.Terms.{Cursor, and_then, end_line, ended, exactly, line, lines_of, read_next, words}
use Rattle.metis_ids.specs.Terms.{makes}
use Rattle.metis_text.specs.Terms.{Numbers, Parts, Rows, action_line, body_from, counted, counts_in, counts_line, dups_from, end_from, parts, plan_header, plan_in, rows_from, rows_of}
use Rattle.metis_text.proofs.DupsRead.{AreDups, dup_row_line, dups_are, dups_read}
use Rattle.metis_tokens.proofs.LinesTaken.{read_next_is, read_next_read}
use Rattle.metis_tokens.proofs.Outcomes.{and_then_is}
use Rattle.metis_text.proofs.PlanParts.{AreCounts, counted_is, counted_read, counts_are, counts_printed, counts_read, counts_tokens}
use Rattle.metis_tokens.proofs.KnownLines.{ended_is, exactly_is}
use Rattle.metis_text.proofs.RowsRead.{AreRows, rows_are, rows_read}
use Rattle.metis_text.proofs.TextBytes.{numbered_bytes}

abbrev pub numbers_of_parts : Parts → Numbers
numbers_of_parts q = (q.instances, (length q.rows.actions, length q.dups))

abbrev pub body_bytes : Universe → Parts → List ℕ
body_bytes u q = numbered_bytes (action_line u) 1 (zip q.rows.actions q.rows.after) ++ (numbered_bytes (dup_row_line u) 1 q.dups ++ end_line)

abbrev pub parts_bytes : Universe → Parts → List ℕ
parts_bytes u q = plan_header ++ (counts_line q.instances (length q.rows.actions) (length q.dups) ++ body_bytes u q)

pub record AreParts (u : Universe) (q : Parts) : Type 0 where
  pub rows : AreRows u [] q.rows.actions q.rows.after
  pub dups : AreDups u 1 q.dups
  pub counts : AreCounts (numbers_of_parts q)
  pub counted : count_by makes q.rows.actions ≡ q.instances

pub record BodyRead (u : Universe) (counts : Numbers) (l : Cursor) (q : Parts) : Type 0 where
  pub text : l.rest ≡ body_bytes u q
  pub same : counts ≡ numbers_of_parts q
  pub rows : AreRows u [] q.rows.actions q.rows.after
  pub dups : AreDups u 1 q.dups
  pub counted : count_by makes q.rows.actions ≡ q.instances

-- ---- what was read was written

end_is : (p q : Parts) (l : Cursor) → end_from p l ≡ Ok q → (p ≡ q) × (l.rest ≡ end_line) × (count_by makes p.rows.actions ≡ p.instances)
end_is p q l h =
    let last = and_then_is (read_next (exactly (codes "end")) l) (λ e. and_then (ended e.1) (λ _. counted p)) q h in
    let one = read_next_is (exactly (codes "end")) l last.0 last.1 in
    let nothing = and_then_is (ended last.0.1) (λ _. counted p) q last.2 in
    let bytes = exactly_is (codes "end") one.0 last.0.0 one.1 in
    let none = ended_is last.0.1 nothing.0 nothing.1 in
    let count = counted_is p q nothing.2 in
    (count.0, one.2 ∙ (λ i. bytes i ++ (10 ∷ none i)), count.1)

module _ (u : Universe) where
  body_is : (counts : Numbers) (l : Cursor) (q : Parts) → body_from u counts l ≡ Ok q → BodyRead u counts l q
  body_is counts l q h =
      let rows = and_then_is (rows_from u counts.1.0 (rows_of [] []) l) (λ rows. and_then (dups_from u counts.1.1 [] rows.1) (λ dups. end_from (parts counts.0 rows.0 dups.0) dups.1)) q h in
      let dups = and_then_is (dups_from u counts.1.1 [] rows.0.1) (λ dups. end_from (parts counts.0 rows.0.0 dups.0) dups.1) q rows.2 in
      let last = end_is (parts counts.0 rows.0.0 dups.0.0) q dups.0.1 dups.2 in
      let r = rows_are u counts.1.0 (rows_of [] []) l rows.0 rows.1 in
      let d = dups_are u counts.1.1 [] rows.0.1 dups.0 dups.1 in
      let same : parts counts.0 (rows_of r.actions r.after) d.added ≡ q = sym (λ i. parts counts.0 (r.is i) (d.is i)) ∙ last.0 in
      subst (BodyRead u counts l) same (record {
        text = r.text ∙ ap (λ s. numbered_bytes (action_line u) 1 (zip r.actions r.after) ++ s) (d.text ∙ ap (λ s. numbered_bytes (dup_row_line u) 1 d.added ++ s) last.1);
        same = sym (λ i. (counts.0, (r.many i, d.many i)));
        rows = r.are;
        dups = d.are;
        counted = sym (ap (λ (r : Rows). count_by makes r.actions) r.is) ∙ last.2;
      })

  pub record CountedRead (l : Cursor) (q : Parts) : Type 0 where
    pub text : l.rest ≡ counts_line q.instances (length q.rows.actions) (length q.dups) ++ body_bytes u q
    pub are : AreParts u q

  counted_read_is : (l : Cursor) (q : Parts) → and_then (read_next counts_in l) (λ counts. body_from u counts.0 counts.1) ≡ Ok q → CountedRead l q
  counted_read_is l q h =
      let counts = and_then_is (read_next counts_in l) (λ counts. body_from u counts.0 counts.1) q h in
      let second = read_next_is counts_in l counts.0 counts.1 in
      let says = counts_are second.0 counts.0.0 second.1 in
      let body = body_is counts.0.0 counts.0.1 q counts.2 in record {
        text =
            second.2 ∙ ap (λ bytes. bytes ++ (10 ∷ counts.0.1.rest)) says.0 ∙ sym (append_assoc (words (counts_tokens counts.0.0)) (10 ∷ []) counts.0.1.rest)
            ∙ (λ i. line (counts_tokens (body.same i)) ++ body.text i);
        are = record { rows = body.rows; dups = body.dups; counts = subst AreCounts body.same says.1; counted = body.counted };
      }

  pub plan_is : (bytes : List ℕ) (q : Parts) → plan_in u bytes ≡ Ok q → (bytes ≡ parts_bytes u q) × AreParts u q
  plan_is bytes q h =
      let header = and_then_is (read_next (exactly (codes "metis plan 1")) (lines_of bytes 0)) (λ header. and_then (read_next counts_in header.1) (λ counts. body_from u counts.0 counts.1)) q h in
      let first = read_next_is (exactly (codes "metis plan 1")) (lines_of bytes 0) header.0 header.1 in
      let says = exactly_is (codes "metis plan 1") first.0 header.0.0 first.1 in
      let rest = counted_read_is header.0.1 q header.2 in
      (first.2 ∙ (λ i. says i ++ (10 ∷ rest.text i)), rest.are)

  -- ---- what was written is read

  module _ (is : IsUniverse u) (names : IsNamed u) (q : Parts) (are : AreParts u q) where
    end_read : (n : ℕ) → end_from q (lines_of end_line n) ≡ Ok q
    end_read n =
        ap (λ r. and_then r (λ e. and_then (ended e.1) (λ _. counted q))) (read_next_read (exactly (codes "end")) (codes "end" ∷ []) [] n tt refl refl)
        ∙ counted_read q are.counted

    body_read : (n : ℕ) → body_from u (numbers_of_parts q) (lines_of (body_bytes u q) n) ≡ Ok q
    body_read n =
        let rows = rows_read u names q.rows.actions q.rows.after [] [] (numbered_bytes (dup_row_line u) 1 q.dups ++ end_line) n are.rows in
        let dups = dups_read u is names q.dups [] end_line rows.0 are.dups in
        ap (λ r. and_then r (λ rows. and_then (dups_from u (length q.dups) [] rows.1) (λ dups. end_from (parts q.instances rows.0 dups.0) dups.1))) rows.1
        ∙ ap (λ r. and_then r (λ dups. end_from (parts q.instances q.rows dups.0) dups.1)) dups.1
        ∙ end_read dups.0

    pub plan_read : plan_in u (parts_bytes u q) ≡ Ok q
    plan_read =
        let counts = numbers_of_parts q in
        let body = body_bytes u q in
        ap (λ r. and_then r (λ header. and_then (read_next counts_in header.1) (λ counts. body_from u counts.0 counts.1)))
        (read_next_read (exactly (codes "metis plan 1")) (codes "metis" ∷ codes "plan" ∷ codes "1" ∷ []) (line (counts_tokens counts) ++ body) 0 tt refl refl)
        ∙ ap (λ r. and_then r (λ counts. body_from u counts.0 counts.1)) (read_next_read counts_in (counts_tokens counts) body 1 counts (counts_printed counts are.counts) (counts_read counts are.counts))
        ∙ body_read 2
