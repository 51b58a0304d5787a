-- The text of a refusal is its lines, and then that nothing stands behind them. A fault of it is told just where it is one.
use Rattle.std.proofs.Common.{◌≡◌, ◌≢◌, ◌⊎◌, ℕ, zero, suc, ◌+◌, ◌≤◌, Bool, true, false, List, [], ◌∷◌, ◌++◌, length, map, Result, Ok, Err, refl, sym, ap, ◌∙◌, append-nil, arith, inl, inr}
use Rattle.std.specs.Prelude.{codes}
use Rattle.std.specs.Bool.{if◌then◌else◌, ◌==◌}
use Rattle.std.proofs.lemmas.Bool.Decides.{nat_tests}
use Rattle.std.proofs.lemmas.List.{length-append, length-map}
use Rattle.metis_ids.specs.declared.goals.Goal.{Goal}
use Rattle.metis_ids.proofs.Tests.{nonzero}
use Rattle.metis_outside.specs.Terms.{bytes_of}
use Rattle.metis_universe.specs.Terms.{IsTable, Universe}
use Rattle.metis_text.specs.Terms.{IsRefusal, IsRefusalFault, RefusalParts, lacks_in, next_pair_in, pair_line, pairs_from, refusal_bytes, refusal_end_from, refusal_from, refusal_in, refusal_lines, refusal_parts, refusal_set_from, size_in}
use Rattle.metis_tokens.specs.Terms.{Cursor, and_then, end_line, ended, exactly, fault_at, lines_of, read_next}
use Rattle.metis_tokens.specs.declared.fault.TFault.{TFault}
use Rattle.metis_tokens.specs.declared.fault.TFault.TheVariants.{Line, Short}
use Rattle.metis_tokens.proofs.Outcomes.{and_then_behind, and_then_is}
use Rattle.metis_text.proofs.PairsRead.{pairs_are}
use Rattle.metis_tokens.proofs.Readers.{IsReader, Took, Wrong, and_then_wrong, done_reads, read_next_reads, then_reads}
use Rattle.metis_text.proofs.RefusalRead.{refusal_is, refusal_read}
use Rattle.metis_tokens.proofs.Texts.{IsText, early_is_short, text_by, whole_more}
use Rattle.metis_tokens.proofs.LinesTaken.{read_next_number}

-- ---- its lines, and then their end

abbrev pub last_from : RefusalParts → Cursor → Result (RefusalParts × Cursor) TFault
last_from r l = and_then (read_next (exactly (codes "end")) l) (λ e. Ok (r, e.1))

-- nothing stands behind the last line
abbrev pub closed : RefusalParts × Cursor → Result RefusalParts TFault
closed w = and_then (ended w.1) (λ _. Ok w.0)

closed_early : (r : RefusalParts) (l : Cursor) → 1 ≤ length l.rest → closed (r, l) ≡ Err (Line (l.number + 1))
closed_early r l some = ap (λ b. and_then {A = Unit {0}} (if b then Ok tt else Err (Line (l.number + 1))) (λ _. Ok r)) (nonzero (length l.rest) some)

closed_by : (w : RefusalParts × Cursor) (nothing : Bool) → and_then {A = Unit {0}} (if nothing then Ok tt else Err (Line (w.1.number + 1))) (λ _. Ok w.0) ≢ Err Short
closed_by w true = λ h. cc
closed_by w false = λ h. cc

closed_long : (w : RefusalParts × Cursor) → closed w ≢ Err Short
closed_long w = closed_by w (length w.1.rest == 0)

end_whole : (r : RefusalParts) (l : Cursor) → refusal_end_from r l ≡ and_then (last_from r l) closed
end_whole r l = and_then_behind (read_next (exactly (codes "end")) l) (λ e. Ok (r, e.1)) closed (λ e. and_then (ended e.1) (λ _. Ok r)) (λ e. refl)

last_reads : (r : RefusalParts) → IsReader (last_from r)
last_reads r = then_reads (read_next (exactly (codes "end"))) (λ _ l. Ok (r, l)) (read_next_reads (exactly (codes "end"))) (λ _. done_reads r)

module _ (u : Universe) where
  abbrev pub pairs_then : Goal → ℕ → Cursor → Result (RefusalParts × Cursor) TFault
  pairs_then lacks size l = and_then (pairs_from u size [] l) (λ pairs. last_from (refusal_parts lacks pairs.0) pairs.1)

  abbrev pub set_then : Goal → Cursor → Result (RefusalParts × Cursor) TFault
  set_then lacks l = and_then (read_next size_in l) (λ size. pairs_then lacks size.0 size.1)

  abbrev pub lacks_then : Cursor → Result (RefusalParts × Cursor) TFault
  lacks_then l = and_then (read_next (lacks_in u) l) (λ lacks. set_then lacks.0 lacks.1)

  abbrev pub lines_from : Cursor → Result (RefusalParts × Cursor) TFault
  lines_from l = and_then (read_next (exactly (codes "metis refusal 1")) l) (λ header. lacks_then header.1)

  pairs_whole : (lacks : Goal) (size : ℕ) (l : Cursor) → and_then (pairs_from u size [] l) (λ pairs. refusal_end_from (refusal_parts lacks pairs.0) pairs.1) ≡ and_then (pairs_then lacks size l) closed
  pairs_whole lacks size l =
      and_then_behind (pairs_from u size [] l) (λ pairs. last_from (refusal_parts lacks pairs.0) pairs.1) closed (λ pairs. refusal_end_from (refusal_parts lacks pairs.0) pairs.1)
      (λ pairs. end_whole (refusal_parts lacks pairs.0) pairs.1)

  set_whole : (lacks : Goal) (l : Cursor) → refusal_set_from u lacks l ≡ and_then (set_then lacks l) closed
  set_whole lacks l =
      and_then_behind (read_next size_in l) (λ size. pairs_then lacks size.0 size.1) closed
      (λ size. and_then (pairs_from u size.0 [] size.1) (λ pairs. refusal_end_from (refusal_parts lacks pairs.0) pairs.1))
      (λ size. pairs_whole lacks size.0 size.1)

  lacks_whole : (l : Cursor) → and_then (read_next (lacks_in u) l) (λ lacks. refusal_set_from u lacks.0 lacks.1) ≡ and_then (lacks_then l) closed
  lacks_whole l = and_then_behind (read_next (lacks_in u) l) (λ lacks. set_then lacks.0 lacks.1) closed (λ lacks. refusal_set_from u lacks.0 lacks.1) (λ lacks. set_whole lacks.0 lacks.1)

  whole : (l : Cursor) → refusal_from u l ≡ and_then (lines_from l) closed
  whole l =
      and_then_behind (read_next (exactly (codes "metis refusal 1")) l) (λ header. lacks_then header.1) closed
      (λ header. and_then (read_next (lacks_in u) header.1) (λ lacks. refusal_set_from u lacks.0 lacks.1))
      (λ header. lacks_whole header.1)

  pairs_reads : (left : ℕ) (pairs : List ℕ) → IsReader (pairs_from u left pairs)
  pairs_reads zero pairs = done_reads pairs
  pairs_reads (suc left) pairs =
      then_reads (read_next (next_pair_in u pairs)) (λ p. pairs_from u left (pairs ++ p ∷ [])) (read_next_reads (next_pair_in u pairs)) (λ p. pairs_reads left (pairs ++ p ∷ []))

  pairs_then_reads : (lacks : Goal) (size : ℕ) → IsReader (pairs_then lacks size)
  pairs_then_reads lacks size = then_reads (pairs_from u size []) (λ pairs. last_from (refusal_parts lacks pairs)) (pairs_reads size []) (λ pairs. last_reads (refusal_parts lacks pairs))

  set_then_reads : (lacks : Goal) → IsReader (set_then lacks)
  set_then_reads lacks = then_reads (read_next size_in) (pairs_then lacks) (read_next_reads size_in) (pairs_then_reads lacks)

  lacks_then_reads : IsReader lacks_then
  lacks_then_reads = then_reads (read_next (lacks_in u)) set_then (read_next_reads (lacks_in u)) set_then_reads

  lines_reads : IsReader lines_from
  lines_reads = then_reads (read_next (exactly (codes "metis refusal 1"))) (λ _. lacks_then) (read_next_reads (exactly (codes "metis refusal 1"))) (λ _. lacks_then_reads)

  pub refusal_text : IsText lines_from closed (refusal_from u)
  refusal_text = record { reads = lines_reads; whole = whole; early = closed_early; long = closed_long }

  -- ---- how many lines there are

  pairs_number : (left : ℕ) (pairs : List ℕ) (l : Cursor) (p : List ℕ × Cursor) → pairs_from u left pairs l ≡ Ok p → p.1.number ≡ l.number + left
  pairs_number zero pairs l p h = let e : (pairs, l) ≡ p = cc in let n : l.number ≡ p.1.number = ap (λ q. q.1.number) e in omega arith
  pairs_number (suc left) pairs l p h =
      let next = and_then_is (read_next (next_pair_in u pairs) l) (λ p. pairs_from u left (pairs ++ p.0 ∷ []) p.1) p h in
      omega (arith, read_next_number (next_pair_in u pairs) l next.0 next.1, pairs_number left (pairs ++ next.0.0 ∷ []) next.0.1 p next.2)

  pairs_then_number : (lacks : Goal) (size : ℕ) (l : Cursor) (w : RefusalParts × Cursor) → pairs_then lacks size l ≡ Ok w → w.1.number ≡ l.number + (length w.0.pairs + 1)
  pairs_then_number lacks size l w h =
      let pairs = and_then_is (pairs_from u size [] l) (λ pairs. last_from (refusal_parts lacks pairs.0) pairs.1) w h in
      let last = and_then_is (read_next (exactly (codes "end")) pairs.0.1) (λ e. Ok (refusal_parts lacks pairs.0.0, e.1)) w pairs.2 in
      let same : (refusal_parts lacks pairs.0.0, last.0.1) ≡ w = cc in
      let p = pairs_are u size [] l pairs.0 pairs.1 in
      let many : length w.0.pairs ≡ size = sym (ap (λ w. length w.0.pairs) same) ∙ ap length p.is ∙ p.many in
      let number : last.0.1.number ≡ w.1.number = ap (λ w. w.1.number) same in
      omega (arith, many, number, pairs_number size [] l pairs.0 pairs.1, read_next_number (exactly (codes "end")) pairs.0.1 last.0 last.1)

  lines_number : (l : Cursor) (w : RefusalParts × Cursor) → lines_from l ≡ Ok w → w.1.number ≡ l.number + (length w.0.pairs + 4)
  lines_number l w h =
      let header = and_then_is (read_next (exactly (codes "metis refusal 1")) l) (λ header. lacks_then header.1) w h in
      let lacks = and_then_is (read_next (lacks_in u) header.0.1) (λ lacks. set_then lacks.0 lacks.1) w header.2 in
      let size = and_then_is (read_next size_in lacks.0.1) (λ size. pairs_then lacks.0.0 size.0 size.1) w lacks.2 in
      let one = read_next_number (exactly (codes "metis refusal 1")) l header.0 header.1 in
      let two = read_next_number (lacks_in u) header.0.1 lacks.0 lacks.1 in
      let three = read_next_number size_in lacks.0.1 size.0 size.1 in
      let rest = pairs_then_number lacks.0.0 size.0.0 size.0.1 w size.2 in
      omega (arith, one, two, three, rest)

  many_lines : (set : List ℕ) (lacks : Goal) → length (refusal_lines u set lacks) ≡ length set + 4
  many_lines set lacks = omega (arith, length-append (map (pair_line u) set) (end_line ∷ []), length-map set (pair_line u))

  -- ---- each fault that is told is one

  unclosed_by : (w : RefusalParts × Cursor) (f : TFault) (nothing : Bool) → (length w.1.rest == 0) ≡ nothing → and_then {A = Unit {0}} (if nothing then Ok tt else Err (Line (w.1.number + 1))) (λ _. Ok w.0) ≡ Err f
      → (1 ≤ length w.1.rest) × (f ≡ Line (w.1.number + 1))
  unclosed_by w f true none h = cc
  unclosed_by w f false none h = (not_zero (length w.1.rest) none, cc) where
    not_zero : (n : ℕ) → (n == 0) ≡ false → 1 ≤ n
    not_zero n h = grind (arith, nat_tests)

  -- the lines alone are a text that is read
  of_end : (bytes : List ℕ) (w : RefusalParts × Cursor) (f : TFault) → lines_from (lines_of bytes 0) ≡ Ok w → Took lines_from (lines_of bytes 0) w → (1 ≤ length w.1.rest) × (f ≡ Line (w.1.number + 1)) → IsRefusalFault u bytes f
  of_end bytes w f is took past =
      let alone : refusal_in u (bytes_of took.front ++ []) ≡ Ok w.0 = text_by lines_from closed (refusal_from u) refusal_text (lines_of (bytes_of took.front ++ []) 0) (Ok (w.0, lines_of [] w.1.number)) (took.each []) in
      let text = refusal_is u (bytes_of took.front ++ []) w.0 alone in
      let number : w.1.number ≡ length (refusal_lines u w.0.pairs w.0.lacks) = omega (arith, lines_number (lines_of bytes 0) w is, many_lines w.0.pairs w.0.lacks) in
      IsRefusalFault.past_end (record {
        set = w.0.pairs;
        lacks = w.0.lacks;
        more = w.1.rest;
        text = took.text ∙ ap (λ b. b ++ w.1.rest) (sym (append-nil (bytes_of took.front)) ∙ text.0);
        formed = text.1;
        some = past.0;
        fault = past.1 ∙ ap (λ n. Line (n + 1)) number;
      })

  of_wrong : (bytes : List ℕ) (f : TFault) → (f ≡ Short) ⊎ Wrong lines_from (lines_of bytes 0) f → IsRefusalFault u bytes f
  of_wrong bytes f (inl short) = IsRefusalFault.too_short short
  of_wrong bytes f (inr w) =
      let place : 0 + length w.front ≡ length w.front = omega arith in
      IsRefusalFault.of_line (record {
        front = w.front;
        behind = w.behind;
        text = w.text;
        lines = w.lines;
        flaw = w.flaw;
        fault = w.fault ∙ ap (λ n. fault_at n w.flaw) place;
        each = λ other. text_by lines_from closed (refusal_from u) refusal_text (lines_of (bytes_of w.front ++ other) 0) (Err f) (w.each other);
        first = λ before rest at some. early_is_short lines_from closed (refusal_from u) refusal_text bytes before rest f w at some;
      })

  of_lines : (bytes : List ℕ) (f : TFault) → (lines_from (lines_of bytes 0) ≡ Err f) ⊎ ((w : RefusalParts × Cursor) × (lines_from (lines_of bytes 0) ≡ Ok w) × (closed w ≡ Err f)) → IsRefusalFault u bytes f
  of_lines bytes f (inl h) = of_wrong bytes f (lines_reads.wrong (lines_of bytes 0) f h)
  of_lines bytes f (inr (w, is, h)) = of_end bytes w f is (lines_reads.took (lines_of bytes 0) w is) (unclosed_by w f (length w.1.rest == 0) refl h)

  pub told_is_fault : (bytes : List ℕ) (f : TFault) → refusal_in u bytes ≡ Err f → IsRefusalFault u bytes f
  told_is_fault bytes f h = of_lines bytes f (and_then_wrong (lines_from (lines_of bytes 0)) closed f (sym (whole (lines_of bytes 0)) ∙ h))

  -- ---- bytes behind the end are told

  pub past_end_told : IsTable u → (set : List ℕ) (lacks : Goal) (more : List ℕ) → IsRefusal u set lacks → 1 ≤ length more
      → refusal_in u (refusal_bytes u set lacks ++ more) ≡ Err (Line (length (refusal_lines u set lacks) + 1))
  past_end_told table set lacks more is some =
      let bytes = refusal_bytes u set lacks in
      let said = refusal_parts lacks set in
      let read = and_then_is (lines_from (lines_of bytes 0)) closed said (sym (whole (lines_of bytes 0)) ∙ refusal_read u table set lacks is) in
      let close = and_then_is (ended read.0.1) (λ _. Ok read.0.0) said read.2 in
      let same : read.0.0 ≡ said = cc in
      let many : length read.0.0.pairs ≡ length set = ap (λ r. length r.pairs) same in
      let number : read.0.1.number ≡ length (refusal_lines u set lacks) = omega (arith, lines_number (lines_of bytes 0) read.0 read.1, many_lines set lacks, many) in
      whole_more lines_from closed (refusal_from u) refusal_text (lines_of bytes 0) read.0 more read.1 some ∙ ap (λ n. Err (Line (n + 1))) number
