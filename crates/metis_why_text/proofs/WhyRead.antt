-- A whole text is read as an explanation just where it is the text of this explanation.
use Rattle.std.proofs.Common.{◌≡◌, ℕ, ◌+◌, ◌<◌, ◌^◌, List, [], ◌∷◌, ◌++◌, length, Result, Ok, Err, refl, sym, ap, ◌∙◌, subst}
use Rattle.std.specs.Prelude.{IfOk, codes}
use Rattle.std.specs.List.{All, AllByRecursion, flat_map}
use Rattle.std.proofs.lemmas.List.Elements.{All-from_recursion, recursion_from_All}
use Rattle.metis_ids.specs.declared.goals.Goal.{Goal}
use Rattle.metis_tokens.proofs.LinesTaken.{read_next_is, read_next_read}
use Rattle.metis_tokens.proofs.Outcomes.{and_then_is}
use Rattle.metis_tokens.proofs.KnownLines.{ended_is, exactly_is}
use Rattle.metis_tokens.specs.Terms.{Cursor, and_then, end_line, ended, exactly, line, lines_of, read_next}
use Rattle.metis_tokens.specs.declared.fault.TFault.{TFault}
use Rattle.metis_universe.specs.Terms.{IsTable, IsWordable, Universe}
use Rattle.metis_why.specs.Terms.{IsTellable}
use Rattle.metis_why.specs.declared.reason.Explanation.{Explanation}
use Rattle.metis_why.specs.declared.reason.Line.{Line}
use Rattle.metis_why_text.proofs.CountTokens.{count_is, count_printed, count_read, count_tokens}
use Rattle.metis_why_text.proofs.GoalTokens.{lacks_is, lacks_read}
use Rattle.metis_why_text.proofs.LinesRead.{lines_are, lines_read}
use Rattle.metis_why_text.proofs.Printed.{lacks_printed}
use Rattle.metis_why_text.proofs.WhyBytes.{body_bytes, counted_bytes, rest_bytes, why_bytes_by_parts}
use Rattle.metis_why_text.specs.Terms.{IsWhyText, ReadsWhy, WhyParts, count_in, lacks_in, lacks_tokens, line_text, lines_from, parts_of, why_bytes, why_counted_from, why_end_from, why_in, why_parts}
use Rattle.metis_text.proofs.RefusalRead.{line_behind}

-- ---- what was read was written

end_is : (w q : WhyParts) (l : Cursor) → why_end_from w l ≡ Ok q → (w ≡ q) × (l.rest ≡ end_line)
end_is w q l h =
    let last = and_then_is (read_next (exactly (codes "end")) l) (λ e. and_then (ended e.1) (λ _. Ok w)) q h in
    let one = read_next_is (exactly (codes "end")) l last.0 last.1 in
    let nothing = and_then_is (ended last.0.1) (λ _. Ok w) q last.2 in
    let bytes = exactly_is (codes "end") one.0 last.0.0 one.1 in
    let none = ended_is last.0.1 nothing.0 nothing.1 in
    (cc, one.2 ∙ (λ i. bytes i ++ (10 ∷ none i)))

module _ (u : Universe) where
  -- what was read behind the goal
  record CountedRead (lacks : Goal) (l : Cursor) (q : WhyParts) : Type 0 where
    lacking : lacks ≡ q.lacks
    are : AllByRecursion (IsTellable u) q.lines
    few : length q.lines < 2 ^ 32
    text : l.rest ≡ counted_bytes u q.lines

  counted_is : (lacks : Goal) (l : Cursor) (q : WhyParts) → why_counted_from u lacks l ≡ Ok q → CountedRead lacks l q
  counted_is lacks l q h =
      let count = and_then_is (read_next count_in l) (λ count. and_then (lines_from u count.0 [] count.1) (λ lines. why_end_from (why_parts lacks lines.0) lines.1)) q h in
      let first = read_next_is count_in l count.0 count.1 in
      let says = count_is first.0 count.0.0 first.1 in
      let lines = and_then_is (lines_from u count.0.0 [] count.0.1) (λ lines. why_end_from (why_parts lacks lines.0) lines.1) q count.2 in
      let last = end_is (why_parts lacks lines.0.0) q lines.0.1 lines.2 in
      let p = lines_are u count.0.0 [] count.0.1 lines.0 lines.1 in
      let same : why_parts lacks p.added ≡ q = sym (ap (why_parts lacks) p.is) ∙ last.0 in
      let text = line_behind l (count_tokens count.0.0) first.0 count.0.1.rest (rest_bytes u p.added) first.2 says.0 (p.text ∙ ap (λ s. flat_map (line_text u) p.added ++ s) last.1) in
      subst (CountedRead lacks l) same (record {
        lacking = refl;
        are = p.are;
        few = subst (λ n. n < 2 ^ 32) (sym p.many) says.1;
        text = text ∙ ap (λ n. line (count_tokens n) ++ rest_bytes u p.added) (sym p.many);
      })

  pub why_is : (bytes : List ℕ) (q : WhyParts) → why_in u bytes ≡ Ok q → (bytes ≡ why_bytes u q.lacks q.lines) × IsWhyText u q.lacks q.lines
  why_is bytes q h =
      let header = and_then_is (read_next (exactly (codes "metis why 1")) (lines_of bytes 0)) (λ header. and_then (read_next (lacks_in u) header.1) (λ lacks. why_counted_from u lacks.0 lacks.1)) q h in
      let first = read_next_is (exactly (codes "metis why 1")) (lines_of bytes 0) header.0 header.1 in
      let says = exactly_is (codes "metis why 1") first.0 header.0.0 first.1 in
      let lacks = and_then_is (read_next (lacks_in u) header.0.1) (λ lacks. why_counted_from u lacks.0 lacks.1) q header.2 in
      let second = read_next_is (lacks_in u) header.0.1 lacks.0 lacks.1 in
      let goal = lacks_is u second.0 lacks.0.0 second.1 in
      let counted = counted_is lacks.0.0 lacks.0.1 q lacks.2 in
      let body : header.0.1.rest ≡ body_bytes u q.lacks q.lines = line_behind header.0.1 (lacks_tokens u lacks.0.0) second.0 lacks.0.1.rest (counted_bytes u q.lines) second.2 goal.0 counted.text ∙ ap (λ g. body_bytes u g q.lines) counted.lacking in (
        first.2 ∙ (λ i. says i ++ (10 ∷ body i)) ∙ sym (why_bytes_by_parts u q.lacks q.lines),
        record { lacking = subst (IsWordable u) counted.lacking goal.1; tellable = All-from_recursion (IsTellable u) q.lines counted.are; few = counted.few },
      )

  -- ---- what was written is read

  module _ (table : IsTable u) (lacks : Goal) (lines : List Line) (is : IsWhyText u lacks lines) where
    abbrev said : WhyParts
    said = why_parts lacks lines

    end_read : (n : ℕ) → why_end_from said (lines_of end_line n) ≡ Ok said
    end_read n = ap (λ r. and_then r (λ e. and_then (ended e.1) (λ _. Ok said))) (read_next_read (exactly (codes "end")) (codes "end" ∷ []) [] n tt refl refl)

    counted_read : (n : ℕ) → why_counted_from u lacks (lines_of (counted_bytes u lines) n) ≡ Ok said
    counted_read n =
        let count = length lines in
        let each = lines_read u table.universe table.named lines [] end_line (n + 1) (recursion_from_All (IsTellable u) lines is.tellable) in
        ap (λ r. and_then r (λ count. and_then (lines_from u count.0 [] count.1) (λ lines. why_end_from (why_parts lacks lines.0) lines.1)))
        (read_next_read count_in (count_tokens count) (rest_bytes u lines) n count (count_printed count is.few) (count_read count is.few))
        ∙ ap (λ r. and_then r (λ lines. why_end_from (why_parts lacks lines.0) lines.1)) each.1
        ∙ end_read each.0

    pub why_read : why_in u (why_bytes u lacks lines) ≡ Ok said
    why_read =
        ap (λ bytes. why_in u bytes) (why_bytes_by_parts u lacks lines)
        ∙ ap (λ r. and_then r (λ header. and_then (read_next (lacks_in u) header.1) (λ lacks. why_counted_from u lacks.0 lacks.1)))
        (read_next_read (exactly (codes "metis why 1")) (codes "metis" ∷ codes "why" ∷ codes "1" ∷ []) (body_bytes u lacks lines) 0 tt refl refl)
        ∙ ap (λ r. and_then r (λ lacks. why_counted_from u lacks.0 lacks.1))
        (read_next_read (lacks_in u) (lacks_tokens u lacks) (counted_bytes u lines) 1 lacks (lacks_printed u table.universe table.named lacks is.lacking) (lacks_read u table.universe table.named lacks is.lacking))
        ∙ counted_read 2

-- ---- what a reader gives

pub read_lacks : (u : Universe) (bytes : List ℕ) (r : Result Explanation TFault) → ReadsWhy r (why_in u bytes) → IfOk r (λ why. IsWordable u why.lacks)
read_lacks u bytes (Ok why) read = (why_is u bytes (parts_of why) read).1.lacking
read_lacks u bytes (Err fault) read = tt

pub read_tellable : (u : Universe) (bytes : List ℕ) (r : Result Explanation TFault) → ReadsWhy r (why_in u bytes) → IfOk r (λ why. All (IsTellable u) why.lines.items)
read_tellable u bytes (Ok why) read = (why_is u bytes (parts_of why) read).1.tellable
read_tellable u bytes (Err fault) read = tt

pub read_bytes : (u : Universe) (bytes : List ℕ) (r : Result Explanation TFault) → ReadsWhy r (why_in u bytes) → IfOk r (λ why. bytes ≡ why_bytes u why.lacks why.lines.items)
read_bytes u bytes (Ok why) read = (why_is u bytes (parts_of why) read).0
read_bytes u bytes (Err fault) read = tt
