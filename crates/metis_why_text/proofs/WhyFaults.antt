-- The text of an explanation is its lines, and then that nothing stands behind them. A fault of it is told just where it is one.
use Rattle.std.proofs.Common.{◌≡◌, ◌≢◌, ◌⊎◌, ℕ, zero, suc, ◌+◌, ◌≤◌, Bool, true, false, List, [], ◌∷◌, ◌++◌, length, map, Result, Ok, Err, refl, sym, ap, ◌∙◌, append-nil, arith, inl, inr}
use Rattle.std.specs.Prelude.{codes}
use Rattle.std.specs.Bool.{if◌then◌else◌, ◌==◌}
use Rattle.std.proofs.lemmas.Bool.Decides.{nat_tests}
use Rattle.std.proofs.lemmas.List.{length-append, length-map}
use Rattle.metis_ids.specs.declared.goals.Goal.{Goal}
use Rattle.metis_ids.proofs.Tests.{nonzero}
use Rattle.metis_outside.specs.Terms.{bytes_of}
use Rattle.metis_tokens.proofs.Outcomes.{and_then_behind, and_then_is}
use Rattle.metis_tokens.proofs.Readers.{IsReader, Took, Wrong, and_then_wrong, done_reads, read_next_reads, then_reads}
use Rattle.metis_tokens.proofs.Texts.{IsText, early_is_short, text_by, whole_more}
use Rattle.metis_tokens.proofs.LinesTaken.{read_next_number}
use Rattle.metis_tokens.specs.Terms.{Cursor, and_then, end_line, ended, exactly, fault_at, lines_of, read_next}
use Rattle.metis_tokens.specs.declared.fault.TFault.{TFault}
use Rattle.metis_tokens.specs.declared.fault.TFault.TheVariants as faults
use Rattle.metis_universe.specs.Terms.{IsTable, Universe}
use Rattle.metis_why.specs.declared.reason.Line.{Line}
use Rattle.metis_why_text.proofs.LinesRead.{lines_are}
use Rattle.metis_why_text.proofs.WhyRead.{why_is, why_read}
use Rattle.metis_why_text.specs.Terms.{IsWhyFault, IsWhyText, WhyParts, count_in, lacks_in, line_in, line_text, lines_from, why_bytes, why_counted_from, why_end_from, why_from, why_in, why_lines, why_parts}

-- ---- its lines, and then their end

abbrev pub last_from : WhyParts → Cursor → Result (WhyParts × Cursor) TFault
last_from w l = and_then (read_next (exactly (codes "end")) l) (λ e. Ok (w, e.1))

-- nothing stands behind the last line
abbrev pub closed : WhyParts × Cursor → Result WhyParts TFault
closed w = and_then (ended w.1) (λ _. Ok w.0)

closed_early : (w : WhyParts) (l : Cursor) → 1 ≤ length l.rest → closed (w, l) ≡ Err (faults.Line (l.number + 1))
closed_early w l some = ap (λ b. and_then {A = Unit {0}} (if b then Ok tt else Err (faults.Line (l.number + 1))) (λ _. Ok w)) (nonzero (length l.rest) some)

closed_by : (w : WhyParts × Cursor) (nothing : Bool) → and_then {A = Unit {0}} (if nothing then Ok tt else Err (faults.Line (w.1.number + 1))) (λ _. Ok w.0) ≢ Err faults.Short
closed_by w true = λ h. cc
closed_by w false = λ h. cc

closed_long : (w : WhyParts × Cursor) → closed w ≢ Err faults.Short
closed_long w = closed_by w (length w.1.rest == 0)

end_whole : (w : WhyParts) (l : Cursor) → why_end_from w l ≡ and_then (last_from w l) closed
end_whole w l = and_then_behind (read_next (exactly (codes "end")) l) (λ e. Ok (w, e.1)) closed (λ e. and_then (ended e.1) (λ _. Ok w)) (λ e. refl)

last_reads : (w : WhyParts) → IsReader (last_from w)
last_reads w = then_reads (read_next (exactly (codes "end"))) (λ _ l. Ok (w, l)) (read_next_reads (exactly (codes "end"))) (λ _. done_reads w)

module _ (u : Universe) where
  abbrev pub lines_then : Goal → ℕ → Cursor → Result (WhyParts × Cursor) TFault
  lines_then lacks count l = and_then (lines_from u count [] l) (λ lines. last_from (why_parts lacks lines.0) lines.1)

  abbrev pub counted_then : Goal → Cursor → Result (WhyParts × Cursor) TFault
  counted_then lacks l = and_then (read_next count_in l) (λ count. lines_then lacks count.0 count.1)

  abbrev pub lacks_then : Cursor → Result (WhyParts × Cursor) TFault
  lacks_then l = and_then (read_next (lacks_in u) l) (λ lacks. counted_then lacks.0 lacks.1)

  abbrev pub all_from : Cursor → Result (WhyParts × Cursor) TFault
  all_from l = and_then (read_next (exactly (codes "metis why 1")) l) (λ header. lacks_then header.1)

  lines_whole : (lacks : Goal) (count : ℕ) (l : Cursor) → and_then (lines_from u count [] l) (λ lines. why_end_from (why_parts lacks lines.0) lines.1) ≡ and_then (lines_then lacks count l) closed
  lines_whole lacks count l =
      and_then_behind (lines_from u count [] l) (λ lines. last_from (why_parts lacks lines.0) lines.1) closed (λ lines. why_end_from (why_parts lacks lines.0) lines.1)
      (λ lines. end_whole (why_parts lacks lines.0) lines.1)

  counted_whole : (lacks : Goal) (l : Cursor) → why_counted_from u lacks l ≡ and_then (counted_then lacks l) closed
  counted_whole lacks l =
      and_then_behind (read_next count_in l) (λ count. lines_then lacks count.0 count.1) closed
      (λ count. and_then (lines_from u count.0 [] count.1) (λ lines. why_end_from (why_parts lacks lines.0) lines.1))
      (λ count. lines_whole lacks count.0 count.1)

  lacks_whole : (l : Cursor) → and_then (read_next (lacks_in u) l) (λ lacks. why_counted_from u lacks.0 lacks.1) ≡ and_then (lacks_then l) closed
  lacks_whole l = and_then_behind (read_next (lacks_in u) l) (λ lacks. counted_then lacks.0 lacks.1) closed (λ lacks. why_counted_from u lacks.0 lacks.1) (λ lacks. counted_whole lacks.0 lacks.1)

  whole : (l : Cursor) → why_from u l ≡ and_then (all_from l) closed
  whole l =
      and_then_behind (read_next (exactly (codes "metis why 1")) l) (λ header. lacks_then header.1) closed
      (λ header. and_then (read_next (lacks_in u) header.1) (λ lacks. why_counted_from u lacks.0 lacks.1))
      (λ header. lacks_whole header.1)

  lines_reads : (left : ℕ) (lines : List Line) → IsReader (lines_from u left lines)
  lines_reads zero lines = done_reads lines
  lines_reads (suc left) lines =
      then_reads (read_next (line_in u)) (λ l. lines_from u left (lines ++ l ∷ [])) (read_next_reads (line_in u)) (λ l. lines_reads left (lines ++ l ∷ []))

  lines_then_reads : (lacks : Goal) (count : ℕ) → IsReader (lines_then lacks count)
  lines_then_reads lacks count = then_reads (lines_from u count []) (λ lines. last_from (why_parts lacks lines)) (lines_reads count []) (λ lines. last_reads (why_parts lacks lines))

  counted_then_reads : (lacks : Goal) → IsReader (counted_then lacks)
  counted_then_reads lacks = then_reads (read_next count_in) (lines_then lacks) (read_next_reads count_in) (lines_then_reads lacks)

  lacks_then_reads : IsReader lacks_then
  lacks_then_reads = then_reads (read_next (lacks_in u)) counted_then (read_next_reads (lacks_in u)) counted_then_reads

  all_reads : IsReader all_from
  all_reads = then_reads (read_next (exactly (codes "metis why 1"))) (λ _. lacks_then) (read_next_reads (exactly (codes "metis why 1"))) (λ _. lacks_then_reads)

  pub why_text : IsText all_from closed (why_from u)
  why_text = record { reads = all_reads; whole = whole; early = closed_early; long = closed_long }

  -- ---- how many lines there are

  lines_number : (left : ℕ) (lines : List Line) (l : Cursor) (p : List Line × Cursor) → lines_from u left lines l ≡ Ok p → p.1.number ≡ l.number + left
  lines_number zero lines l p h = let e : (lines, l) ≡ p = cc in let n : l.number ≡ p.1.number = ap (λ q. q.1.number) e in omega arith
  lines_number (suc left) lines l p h =
      let next = and_then_is (read_next (line_in u) l) (λ p. lines_from u left (lines ++ p.0 ∷ []) p.1) p h in
      omega (arith, read_next_number (line_in u) l next.0 next.1, lines_number left (lines ++ next.0.0 ∷ []) next.0.1 p next.2)

  lines_then_number : (lacks : Goal) (count : ℕ) (l : Cursor) (w : WhyParts × Cursor) → lines_then lacks count l ≡ Ok w → w.1.number ≡ l.number + (length w.0.lines + 1)
  lines_then_number lacks count l w h =
      let lines = and_then_is (lines_from u count [] l) (λ lines. last_from (why_parts lacks lines.0) lines.1) w h in
      let last = and_then_is (read_next (exactly (codes "end")) lines.0.1) (λ e. Ok (why_parts lacks lines.0.0, e.1)) w lines.2 in
      let same : (why_parts lacks lines.0.0, last.0.1) ≡ w = cc in
      let p = lines_are u count [] l lines.0 lines.1 in
      let many : length w.0.lines ≡ count = sym (ap (λ w. length w.0.lines) same) ∙ ap length p.is ∙ p.many in
      let number : last.0.1.number ≡ w.1.number = ap (λ w. w.1.number) same in
      omega (arith, many, number, lines_number count [] l lines.0 lines.1, read_next_number (exactly (codes "end")) lines.0.1 last.0 last.1)

  all_number : (l : Cursor) (w : WhyParts × Cursor) → all_from l ≡ Ok w → w.1.number ≡ l.number + (length w.0.lines + 4)
  all_number l w h =
      let header = and_then_is (read_next (exactly (codes "metis why 1")) l) (λ header. lacks_then header.1) w h in
      let lacks = and_then_is (read_next (lacks_in u) header.0.1) (λ lacks. counted_then lacks.0 lacks.1) w header.2 in
      let count = and_then_is (read_next count_in lacks.0.1) (λ count. lines_then lacks.0.0 count.0 count.1) w lacks.2 in
      let one = read_next_number (exactly (codes "metis why 1")) l header.0 header.1 in
      let two = read_next_number (lacks_in u) header.0.1 lacks.0 lacks.1 in
      let three = read_next_number count_in lacks.0.1 count.0 count.1 in
      let rest = lines_then_number lacks.0.0 count.0.0 count.0.1 w count.2 in
      omega (arith, one, two, three, rest)

  many_lines : (lacks : Goal) (lines : List Line) → length (why_lines u lacks lines) ≡ length lines + 4
  many_lines lacks lines = omega (arith, length-append (map (line_text u) lines) (end_line ∷ []), length-map lines (line_text u))

  -- ---- each fault that is told is one

  unclosed_by : (w : WhyParts × Cursor) (f : TFault) (nothing : Bool) → (length w.1.rest == 0) ≡ nothing → and_then {A = Unit {0}} (if nothing then Ok tt else Err (faults.Line (w.1.number + 1))) (λ _. Ok w.0) ≡ Err f
      → (1 ≤ length w.1.rest) × (f ≡ faults.Line (w.1.number + 1))
  unclosed_by w f true none h = cc
  unclosed_by w f false none h = (not_zero (length w.1.rest) none, cc) where
    not_zero : (n : ℕ) → (n == 0) ≡ false → 1 ≤ n
    not_zero n h = grind (arith, nat_tests)

  -- the lines alone are a text that is read
  of_end : (bytes : List ℕ) (w : WhyParts × Cursor) (f : TFault) → all_from (lines_of bytes 0) ≡ Ok w → Took all_from (lines_of bytes 0) w → (1 ≤ length w.1.rest) × (f ≡ faults.Line (w.1.number + 1)) → IsWhyFault u bytes f
  of_end bytes w f is took past =
      let alone : why_in u (bytes_of took.front ++ []) ≡ Ok w.0 = text_by all_from closed (why_from u) why_text (lines_of (bytes_of took.front ++ []) 0) (Ok (w.0, lines_of [] w.1.number)) (took.each []) in
      let text = why_is u (bytes_of took.front ++ []) w.0 alone in
      let number : w.1.number ≡ length (why_lines u w.0.lacks w.0.lines) = omega (arith, all_number (lines_of bytes 0) w is, many_lines w.0.lacks w.0.lines) in
      IsWhyFault.past_end (record {
        lacks = w.0.lacks;
        lines = w.0.lines;
        more = w.1.rest;
        text = took.text ∙ ap (λ b. b ++ w.1.rest) (sym (append-nil (bytes_of took.front)) ∙ text.0);
        formed = text.1;
        some = past.0;
        told = past.1 ∙ ap (λ n. faults.Line (n + 1)) number;
      })

  of_wrong : (bytes : List ℕ) (f : TFault) → (f ≡ faults.Short) ⊎ Wrong all_from (lines_of bytes 0) f → IsWhyFault u bytes f
  of_wrong bytes f (inl short) = IsWhyFault.too_short short
  of_wrong bytes f (inr w) =
      let place : 0 + length w.front ≡ length w.front = omega arith in
      IsWhyFault.of_line (record {
        front = w.front;
        behind = w.behind;
        text = w.text;
        lines = w.lines;
        flaw = w.flaw;
        fault = w.fault ∙ ap (λ n. fault_at n w.flaw) place;
        each = λ other. text_by all_from closed (why_from u) why_text (lines_of (bytes_of w.front ++ other) 0) (Err f) (w.each other);
        first = λ before rest at some. early_is_short all_from closed (why_from u) why_text bytes before rest f w at some;
      })

  of_lines : (bytes : List ℕ) (f : TFault) → (all_from (lines_of bytes 0) ≡ Err f) ⊎ ((w : WhyParts × Cursor) × (all_from (lines_of bytes 0) ≡ Ok w) × (closed w ≡ Err f)) → IsWhyFault u bytes f
  of_lines bytes f (inl h) = of_wrong bytes f (all_reads.wrong (lines_of bytes 0) f h)
  of_lines bytes f (inr (w, is, h)) = of_end bytes w f is (all_reads.took (lines_of bytes 0) w is) (unclosed_by w f (length w.1.rest == 0) refl h)

  pub told_is_fault : (bytes : List ℕ) (f : TFault) → why_in u bytes ≡ Err f → IsWhyFault u bytes f
  told_is_fault bytes f h = of_lines bytes f (and_then_wrong (all_from (lines_of bytes 0)) closed f (sym (whole (lines_of bytes 0)) ∙ h))

  -- ---- bytes behind the end are told

  pub past_end_told : IsTable u → (lacks : Goal) (lines : List Line) (more : List ℕ) → IsWhyText u lacks lines → 1 ≤ length more
      → why_in u (why_bytes u lacks lines ++ more) ≡ Err (faults.Line (length (why_lines u lacks lines) + 1))
  past_end_told table lacks lines more is some =
      let bytes = why_bytes u lacks lines in
      let said = why_parts lacks lines in
      let read = and_then_is (all_from (lines_of bytes 0)) closed said (sym (whole (lines_of bytes 0)) ∙ why_read u table lacks lines is) in
      let close = and_then_is (ended read.0.1) (λ _. Ok read.0.0) said read.2 in
      let same : read.0.0 ≡ said = cc in
      let many : length read.0.0.lines ≡ length lines = ap (λ w. length w.lines) same in
      let number : read.0.1.number ≡ length (why_lines u lacks lines) = omega (arith, all_number (lines_of bytes 0) read.0 read.1, many_lines lacks lines, many) in
      whole_more all_from closed (why_from u) why_text (lines_of bytes 0) read.0 more read.1 some ∙ ap (λ n. Err (faults.Line (n + 1))) number
