-- A fault of the text of a plan is told just where it is one.
--     PlanRead u l w      the lines were read as the plan with lists, whose number of instances may be wrong
use Rattle.std.proofs.Common.{◌≡◌, ◌≢◌, ◌⊎◌, ℕ, suc, ◌+◌, ◌≤◌, Bool, true, false, List, [], ◌∷◌, ◌++◌, length, map, Ok, Err, refl, sym, ap, ◌∙◌, subst, append-nil, arith, inl, inr}
use Rattle.std.specs.Bool.{if◌then◌else◌, ◌==◌}
use Rattle.std.specs.List.{count_by, zip}
use Rattle.std.proofs.lemmas.Bool.{eqb-true}
use Rattle.std.proofs.lemmas.Bool.Decides.{nat_tests}
use Rattle.std.proofs.lemmas.List.{length-append, length-map, nil_from_length}
use Rattle.std.proofs.lemmas.List.Sums.{count_by-le-length}
use Rattle.std.proofs.lemmas.Slice.Zip.{length-zip}
use Rattle.metis_ids.specs.Terms.{Dup, Plan, makes}
use Rattle.metis_outside.specs.Terms.{bytes_of}
use Rattle.metis_universe.specs.Terms.{IsTable, Universe}
use Rattle.metis_text.specs.Terms.{DupRow, IsFault, IsMiscounted, IsPastEnd, IsWellFormedButCount, Parts, action_line, action_lines, dup_line, dup_lines, dup_row, parts, plan_bytes, plan_end, plan_from, plan_in, plan_lines, recounted, said}
use Rattle.metis_tokens.specs.Terms.{Cursor, and_then, end_line, fault_at, lines_of, numbered}
use Rattle.metis_tokens.specs.declared.fault.TFault.{TFault}
use Rattle.metis_tokens.specs.declared.fault.TFault.TheVariants.{Line, Short}
use Rattle.metis_text.proofs.Accepted.{said_bytes}
use Rattle.metis_text.proofs.DupsRead.{AreDups}
use Rattle.metis_text.proofs.Formed.{formed, parts_of_formed}
use Rattle.metis_text.proofs.PlanWhole.{closed, lines_from, plan_text}
use Rattle.metis_tokens.proofs.Texts.{early_is_short, text_by, whole_more}
use Rattle.metis_text.proofs.PlanRead.{AreParts, numbers_of_parts, parts_bytes}
use Rattle.metis_text.proofs.PlanParts.{AreCounts}
use Rattle.metis_tokens.proofs.Readers.{Wrong, and_then_wrong}
use Rattle.metis_text.proofs.RowPlaces.{rows_long}
use Rattle.metis_text.proofs.RowsRead.{AreRows}
use Rattle.metis_text.proofs.WholeLines.{LinesAre, lines_are, lines_read}

-- ---- how many lines there are

many_numbered : {X : Type 0} (text : ℕ → X → List ℕ) (k : ℕ) (xs : List X) → length (numbered text k xs) ≡ length xs
many_numbered text k [] = refl
many_numbered text k (x ∷ xs) = ap suc (many_numbered text (k + 1) xs)

many_lines : (u : Universe) (p : Plan) (after : List (List ℕ)) → length after ≡ length p.actions → length (plan_lines u p after) ≡ length p.actions + length p.dups + 3
many_lines u p after long =
    let actions = many_numbered (action_line u) 1 (zip p.actions after) in
    let rows : length (zip p.actions after) ≡ length p.actions = omega (arith, length-zip p.actions after, long) in
    let dups = many_numbered (dup_line u) 1 p.dups in
    omega (arith, length-append (action_lines u p.actions after) (plan_end u p.dups), length-append (dup_lines u p.dups) (end_line ∷ []), actions, rows, dups)

-- ---- the plan that was read

abbrev pub dup_from : DupRow → Dup
dup_from d = record { pair = d.0; cycle = d.1 }

dups_back : (dups : List DupRow) → map dup_row (map dup_from dups) ≡ dups
dups_back [] = refl
dups_back (d ∷ dups) = ap (λ l. d ∷ l) (dups_back dups)

abbrev pub plan_of : Parts → Plan
plan_of q = record { actions = q.rows.actions; dups = map dup_from q.dups; instances = q.instances }

record PlanRead (u : Universe) (l : Cursor) (w : Parts × Cursor) : Type 0 where
  plan : Plan
  after : List (List ℕ)
  is : said plan after ≡ w.0
  text : l.rest ≡ plan_bytes u plan after ++ w.1.rest
  formed_so : IsWellFormedButCount u plan after
  number : w.1.number ≡ l.number + length (plan_lines u plan after)

module _ (u : Universe) where
  -- what was read, where its number of instances may be wrong
  pub formed_of : (q : Parts) → AreRows u [] q.rows.actions q.rows.after → AreDups u 1 q.dups → AreCounts (numbers_of_parts q) → IsWellFormedButCount u (plan_of q) q.rows.after
  formed_of q rows dups counts =
      let back = dups_back q.dups in
      let many = count_by-le-length makes q.rows.actions in
      let right : AreParts u (said (recounted (plan_of q)) q.rows.after) = record {
        rows = rows;
        dups = subst (AreDups u 1) (sym back) dups;
        counts = record { instances = omega (arith, many, counts.actions); actions = counts.actions; dups = omega (arith, counts.dups, ap length back) };
        counted = refl;
      } in
      record { recounted_so = formed u (recounted (plan_of q)) q.rows.after right; few_instances = counts.instances }

  plan_are : (l : Cursor) (w : Parts × Cursor) → LinesAre u l w → PlanRead u l w
  plan_are l w are =
      let q = w.0 in
      let after = q.rows.after in
      let is : said (plan_of q) after ≡ q = λ i. parts q.instances q.rows (dups_back q.dups i) in
      let long = rows_long u [] q.rows.actions after are.rows in
      let lines = many_lines u (plan_of q) after long in record {
        plan = plan_of q;
        after = after;
        is = is;
        text = are.text ∙ ap (λ b. b ++ w.1.rest) (sym (ap (parts_bytes u) is) ∙ said_bytes u (plan_of q) after);
        formed_so = formed_of q are.rows are.dups are.counts;
        number = omega (arith, are.number, lines, length-map q.dups dup_from);
      }

  -- ---- each fault that is told is one

  record Unclosed (w : Parts × Cursor) (f : TFault) : Type 0 where
    why : ((1 ≤ length w.1.rest) × (f ≡ Line (w.1.number + 1))) ⊎ ((w.1.rest ≡ []) × (count_by makes w.0.rows.actions ≢ w.0.instances) × (f ≡ Line 2))

  not_zero : (n : ℕ) → (n == 0) ≡ false → 1 ≤ n
  not_zero n h = grind (arith, nat_tests)

  apart : (m n : ℕ) → (m == n) ≡ false → m ≢ n
  apart m n h = grind (arith, nat_tests)

  unclosed_by : (w : Parts × Cursor) (f : TFault) (nothing same : Bool) → (length w.1.rest == 0) ≡ nothing → (count_by makes w.0.rows.actions == w.0.instances) ≡ same
      → and_then {A = Unit {0}} (if nothing then Ok tt else Err (Line (w.1.number + 1))) (λ _. if same then Ok w.0 else Err (Line 2)) ≡ Err f → Unclosed w f
  unclosed_by w f true true none count h = cc
  unclosed_by w f true false none count h =
      record { why = inr (nil_from_length w.1.rest (eqb-true (length w.1.rest) 0 none), apart (count_by makes w.0.rows.actions) w.0.instances count, cc) }
  unclosed_by w f false same none count h = record { why = inl (not_zero (length w.1.rest) none, cc) }

  unclosed : (w : Parts × Cursor) (f : TFault) → closed w ≡ Err f → Unclosed w f
  unclosed w f h = unclosed_by w f (length w.1.rest == 0) (count_by makes w.0.rows.actions == w.0.instances) refl refl h

  of_plan : (bytes : List ℕ) (w : Parts × Cursor) (f : TFault) → PlanRead u (lines_of bytes 0) w → ((1 ≤ length w.1.rest) × (f ≡ Line (w.1.number + 1))) ⊎ ((w.1.rest ≡ []) × (count_by makes w.0.rows.actions ≢ w.0.instances) × (f ≡ Line 2)) → IsPastEnd u bytes f ⊎ IsMiscounted u bytes f
  of_plan bytes w f read (inl more) =
      let number : w.1.number ≡ length (plan_lines u read.plan read.after) = omega (arith, read.number) in
      inl (record { plan = read.plan; after = read.after; more = w.1.rest; text = read.text; formed = read.formed_so; some = more.0; fault = more.1 ∙ ap (λ n. Line (n + 1)) number })
  of_plan bytes w f read (inr wrong) =
      let text : bytes ≡ plan_bytes u read.plan read.after = read.text ∙ ap (λ r. plan_bytes u read.plan read.after ++ r) wrong.0 ∙ append-nil (plan_bytes u read.plan read.after) in
      let other : read.plan.instances ≢ count_by makes read.plan.actions = λ h. wrong.1 (sym (ap (λ q. count_by makes q.rows.actions) read.is) ∙ sym h ∙ ap (λ q. q.instances) read.is) in
      inr (record { plan = read.plan; after = read.after; text = text; formed = read.formed_so; wrong = other; fault = wrong.2 })

  -- all lines were read, and then more stands there or the count is wrong
  pub closed_fails : (bytes : List ℕ) (w : Parts × Cursor) (f : TFault) → lines_from u (lines_of bytes 0) ≡ Ok w → closed w ≡ Err f → IsPastEnd u bytes f ⊎ IsMiscounted u bytes f
  closed_fails bytes w f is h = of_plan bytes w f (plan_are (lines_of bytes 0) w (lines_are u (lines_of bytes 0) w is)) (unclosed w f h).why

  of_wrong : (bytes : List ℕ) (f : TFault) → (f ≡ Short) ⊎ Wrong (lines_from u) (lines_of bytes 0) f → IsFault u bytes f
  of_wrong bytes f (inl short) = IsFault.too_short short
  of_wrong bytes f (inr w) =
      let place : 0 + length w.front ≡ length w.front = omega arith in
      IsFault.of_line (record {
        front = w.front;
        behind = w.behind;
        text = w.text;
        lines = w.lines;
        flaw = w.flaw;
        fault = w.fault ∙ ap (λ n. fault_at n w.flaw) place;
        each = λ other. text_by (lines_from u) closed (plan_from u) (plan_text u) (lines_of (bytes_of w.front ++ other) 0) (Err f) (w.each other);
        first = λ before rest at some. early_is_short (lines_from u) closed (plan_from u) (plan_text u) bytes before rest f w at some;
      })

  of_lines : (bytes : List ℕ) (f : TFault) → (lines_from u (lines_of bytes 0) ≡ Err f) ⊎ ((w : Parts × Cursor) × (lines_from u (lines_of bytes 0) ≡ Ok w) × (closed w ≡ Err f)) → IsFault u bytes f
  of_lines bytes f (inl h) = of_wrong bytes f ((plan_text u).reads.wrong (lines_of bytes 0) f h)
  of_lines bytes f (inr (w, is, h)) = elim (closed_fails bytes w f is h) [ inl more ↦ IsFault.past_end more | inr wrong ↦ IsFault.miscounted wrong ]

  pub told_is_fault : (bytes : List ℕ) (f : TFault) → plan_in u bytes ≡ Err f → IsFault u bytes f
  told_is_fault bytes f h = of_lines bytes f (and_then_wrong (lines_from u (lines_of bytes 0)) closed f (sym ((plan_text u).whole (lines_of bytes 0)) ∙ h))

  -- ---- each fault is told

  module _ (table : IsTable u) (p : Plan) (after : List (List ℕ)) (formed_so : IsWellFormedButCount u p after) where
    right : AreParts u (said (recounted p) after)
    right = parts_of_formed u (recounted p) after formed_so.recounted_so

    text_read : (m : ℕ) × (lines_from u (lines_of (plan_bytes u p after) 0) ≡ Ok (said p after, lines_of [] m))
    text_read =
        let counts : AreCounts (numbers_of_parts (said p after)) = record { instances = formed_so.few_instances; actions = right.counts.actions; dups = right.counts.dups } in
        let read = lines_read u table.universe table.named (said p after) right.rows right.dups counts in
        (read.0, ap (λ bytes. lines_from u (lines_of bytes 0)) (sym (said_bytes u p after)) ∙ read.1)

    pub past_end_told : (more : List ℕ) → 1 ≤ length more → plan_in u (plan_bytes u p after ++ more) ≡ Err (Line (length (plan_lines u p after) + 1))
    past_end_told more some =
        let read = text_read in
        let are = lines_are u (lines_of (plan_bytes u p after) 0) (said p after, lines_of [] read.0) read.1 in
        let lines = many_lines u p after formed_so.recounted_so.lists in
        let number : read.0 ≡ length (plan_lines u p after) = omega (arith, are.number, lines, length-map p.dups dup_row) in
        whole_more (lines_from u) closed (plan_from u) (plan_text u) (lines_of (plan_bytes u p after) 0) (said p after, lines_of [] read.0) more read.1 some ∙ ap (λ n. Err (Line (n + 1))) number

    differs : (m n : ℕ) → n ≢ m → (m == n) ≡ false
    differs m n h = grind (arith, nat_tests)

    pub miscounted_told : p.instances ≢ count_by makes p.actions → plan_in u (plan_bytes u p after) ≡ Err (Line 2)
    miscounted_told wrong =
        let read = text_read in
        text_by (lines_from u) closed (plan_from u) (plan_text u) (lines_of (plan_bytes u p after) 0) (Ok (said p after, lines_of [] read.0)) read.1
        ∙ ap (λ b. if b then Ok (said p after) else Err (Line 2)) (differs (count_by makes p.actions) p.instances wrong)
