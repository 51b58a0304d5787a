-- The fault of a text of an explanation stands behind lines that are the beginning of one.
use Rattle.std.proofs.Common.{◌≡◌, ℕ, zero, suc, ◌+◌, ◌<◌, ◌≤◌, ◌^◌, true, false, Bool, List, [], ◌∷◌, ◌++◌, length, Result, Ok, Err, refl, sym, ap, ◌∙◌, subst, arith, inl, inr}
use Rattle.std.specs.Prelude.{codes}
use Rattle.std.specs.Bool.{◌==◌, if◌then◌else◌}
use Rattle.std.specs.List.{All}
use Rattle.std.proofs.lemmas.Bool.Decides.{nat_tests}
use Rattle.std.proofs.lemmas.List.{length_push, map-append}
use Rattle.std.proofs.lemmas.List.Elements.{All-append, All-cons, All-nil}
use Rattle.metis_ids.specs.declared.goals.Goal.{Goal}
use Rattle.metis_text.proofs.DueRead.{IsLeft, one_more, stops}
use Rattle.metis_text.proofs.LineFlaws.{exactly_fails}
use Rattle.metis_ids.specs.Terms.{IfFault}
use Rattle.metis_tokens.proofs.KnownLines.{exactly_is}
use Rattle.metis_tokens.proofs.LinesTaken.{read_next_is}
use Rattle.metis_tokens.proofs.Outcomes.{and_then_is}
use Rattle.metis_tokens.proofs.Readers.{and_then_wrong}
use Rattle.metis_tokens.specs.Terms.{Cursor, and_then, end_line, ended, exactly, lines_of, read_next, words}
use Rattle.metis_tokens.specs.declared.fault.TFault.{TFault}
use Rattle.metis_tokens.specs.declared.fault.TFault.TheVariants as faults
use Rattle.metis_tokens.specs.declared.flaw.Flaw.{Flaw}
use Rattle.metis_universe.specs.Terms.{IsTable, IsWordable, Universe}
use Rattle.metis_why.specs.Terms.{IsTellable}
use Rattle.metis_why.specs.declared.reason.Explanation.{Explanation}
use Rattle.metis_why.specs.declared.reason.Line.{Line}
use Rattle.metis_why_text.proofs.CountTokens.{count_is, count_tokens}
use Rattle.metis_why_text.proofs.GoalTokens.{lacks_is}
use Rattle.metis_why_text.proofs.LineFlaws.{count_fails, goal_fails, item_fails}
use Rattle.metis_why_text.proofs.LineTokens.{line_is}
use Rattle.metis_why_text.specs.Terms.{AreTold, HasWhyFault, HasWhyFlaw, IsWhyBegun, ReadsWhy, WhyDue, begun_why, count_in, count_line, first_line, goal_line, lacks_in, lacks_line, lacks_tokens, last_line, line_in, line_text, line_tokens, lines_from, next_item, number_line, why_counted_from, why_end_from, why_header, why_in, why_parts, with_all, with_first, with_goal, with_items, with_none}
use Rattle.metis_why_text.specs.WhyFlaws.{of_line, past_end, too_short}
use Rattle.metis_tokens.specs.declared.fault.TFault.TheVariants.{NoMemory}

module _ (u : Universe) (bytes : List ℕ) (f : TFault) where
  stop : {A : Type 0} (read : List ℕ → Result A Flaw) (due : WhyDue) (lines : List (List ℕ)) (l : Cursor) → IsWhyBegun u lines due → IsLeft bytes lines l
      → ((line : List ℕ) (flaw : Flaw) → read line ≡ Err flaw → HasWhyFlaw u due line flaw) → read_next read l ≡ Err f → HasWhyFault u bytes f
  stop read due lines l begun left wrong h = elim (stops (IsWhyBegun u) (HasWhyFlaw u) bytes f read due lines l begun left wrong h) [ inl short ↦ too_short short | inr flawed ↦ of_line flawed ]

  module _ (table : IsTable u) (lacks : Goal) (its : IsWordable u lacks) where
    -- ---- the last line

    past_by : (items : List Line) (l : Cursor) (nothing : Bool) → IsLeft bytes (begun_why u lacks (length items) items ++ end_line ∷ []) l
        → AreTold u lacks (length items) items → (length l.rest == 0) ≡ nothing
        → and_then {A = Unit {0}} (if nothing then Ok tt else Err (faults.Line (l.number + 1))) (λ _. Ok (why_parts lacks items)) ≡ Err f → HasWhyFault u bytes f
    past_by items l true left are is h = cc
    past_by items l false left are is h =
        let fault : f ≡ faults.Line (l.number + 1) = cc in
        past_end (record {
          lacks = lacks;
          lines = items;
          more = l.rest;
          text = left.text;
          formed = record { lacking = its; tellable = are.tellable; few = are.few };
          some = some (length l.rest) is;
          told = fault ∙ ap (λ n. faults.Line (n + 1)) left.number;
        }) where
          some : (n : ℕ) → (n == 0) ≡ false → 1 ≤ n
          some n h = grind (arith, nat_tests)

    end_stops : (items : List Line) (l : Cursor) → AreTold u lacks (length items) items → IsLeft bytes (begun_why u lacks (length items) items) l → why_end_from (why_parts lacks items) l ≡ Err f → HasWhyFault u bytes f
    end_stops items l are left h =
        let begun = with_all lacks items are refl refl in
        let lines = begun_why u lacks (length items) items in
        elim (and_then_wrong (read_next (exactly (codes "end")) l) (λ e. and_then (ended e.1) (λ _. Ok (why_parts lacks items))) f h) [
          | inl wrong ↦ stop (exactly (codes "end")) last_line lines l begun left (exactly_fails (codes "end")) wrong
          | inr (e, right, later) ↦
              let one = read_next_is (exactly (codes "end")) l e right in
              let same = exactly_is (codes "end") one.0 e.0 one.1 in
              past_by items e.1 (length e.1.rest == 0) (one_more (exactly (codes "end")) bytes lines l e (codes "end") left right (one.2 ∙ ap (λ b. b ++ (10 ∷ e.1.rest)) same)) are refl later
        ]

    -- ---- the lines of the pairs with their reasons

    module _ (count : ℕ) (few : count < 2 ^ 32) where
      longer : (items : List Line) (l : Line) → begun_why u lacks count items ++ line_text u l ∷ [] ≡ begun_why u lacks count (items ++ l ∷ [])
      longer items l = ap (λ ls. why_header ∷ lacks_line u lacks ∷ count_line count ∷ ls) (sym (map-append (line_text u) items (l ∷ [])))

      -- these pairs were read, and behind them these lines are left
      record ItemsLeft (items : List Line) (l : Cursor) : Type 0 where
        are : All (IsTellable u) items
        left : IsLeft bytes (begun_why u lacks count items) l

      next_left : (items : List Line) (l : Cursor) (p : Line × Cursor) → ItemsLeft items l → read_next (line_in u) l ≡ Ok p → ItemsLeft (items ++ p.0 ∷ []) p.1
      next_left items l p before h =
          let one = read_next_is (line_in u) l p h in
          let says = line_is u one.0 p.0 one.1 in
          let lines = begun_why u lacks count items in
          record {
            are = All-append (IsTellable u) items (p.0 ∷ []) before.are (All-cons (IsTellable u) p.0 [] says.1 (All-nil (IsTellable u)));
            left = subst (λ ls. IsLeft bytes ls p.1) (longer items p.0) (one_more (line_in u) bytes lines l p (words (line_tokens u p.0)) before.left h (one.2 ∙ ap (λ b. b ++ (10 ∷ p.1.rest)) says.0));
          }

      told_with : (items : List Line) → All (IsTellable u) items → AreTold u lacks count items
      told_with items are = record { lacking = its; few = few; tellable = are }

      items_stop : (n : ℕ) (items : List Line) (l : Cursor) → ItemsLeft items l → length items + n ≡ count → lines_from u n items l ≡ Err f → HasWhyFault u bytes f
      items_stop zero items l before many h = cc
      items_stop (suc n) items l before many h = elim (and_then_wrong (read_next (line_in u) l) (λ p. lines_from u n (items ++ p.0 ∷ []) p.1) f h) [
        | inl wrong ↦
            let more : length items < count = omega arith in
            let begun = with_items lacks count items (told_with items before.are) more refl refl in
            stop (line_in u) next_item (begun_why u lacks count items) l begun before.left (item_fails u table.universe table.named) wrong
        | inr (p, right, later) ↦ items_stop n (items ++ p.0 ∷ []) p.1 (next_left items l p before right) (let long = length_push items p.0 in omega arith) later
      ]

      items_left : (n : ℕ) (items : List Line) (l : Cursor) (q : List Line × Cursor) → ItemsLeft items l → length items + n ≡ count → lines_from u n items l ≡ Ok q → ItemsLeft q.0 q.1 × (length q.0 ≡ count)
      items_left zero items l q before many h =
          let is : (items, l) ≡ q = cc in
          subst (λ (q : List Line × Cursor). ItemsLeft q.0 q.1 × (length q.0 ≡ count)) is (before, omega arith)
      items_left (suc n) items l q before many h =
          let next = and_then_is (read_next (line_in u) l) (λ p. lines_from u n (items ++ p.0 ∷ []) p.1) q h in
          let long = length_push items next.0.0 in
          items_left n (items ++ next.0.0 ∷ []) next.0.1 q (next_left items l next.0 before next.1) (omega arith) next.2

      all_stop : (l : Cursor) → IsLeft bytes (begun_why u lacks count []) l → and_then (lines_from u count [] l) (λ lines. why_end_from (why_parts lacks lines.0) lines.1) ≡ Err f → HasWhyFault u bytes f
      all_stop l left h =
          let start : ItemsLeft [] l = record { are = All-nil (IsTellable u); left = left } in
          let none : length {A = Line} [] + count ≡ count = omega arith in
          elim (and_then_wrong (lines_from u count [] l) (λ lines. why_end_from (why_parts lacks lines.0) lines.1) f h) [
            | inl wrong ↦ items_stop count [] l start none wrong
            | inr (q, right, later) ↦
                let all = items_left count [] l q start none right in
                let are : AreTold u lacks (length q.0) q.0 = subst (λ n. AreTold u lacks n q.0) (sym all.1) (told_with q.0 all.0.are) in
                end_stops q.0 q.1 are (subst (λ n. IsLeft bytes (begun_why u lacks n q.0) q.1) (sym all.1) all.0.left) later
          ]

    goal_stops : (l : Cursor) → IsLeft bytes (why_header ∷ lacks_line u lacks ∷ []) l → why_counted_from u lacks l ≡ Err f → HasWhyFault u bytes f
    goal_stops l left h =
        let lines = why_header ∷ lacks_line u lacks ∷ [] in
        elim (and_then_wrong (read_next count_in l) (λ count. and_then (lines_from u count.0 [] count.1) (λ lines. why_end_from (why_parts lacks lines.0) lines.1)) f h) [
          | inl wrong ↦ stop count_in number_line lines l (with_goal lacks its refl refl) left count_fails wrong
          | inr (count, right, later) ↦
              let one = read_next_is count_in l count right in
              let says = count_is one.0 count.0 one.1 in
              all_stop count.0 says.1 count.1 (one_more count_in bytes lines l count (words (count_tokens count.0)) left right (one.2 ∙ ap (λ b. b ++ (10 ∷ count.1.rest)) says.0)) later
        ]

  -- ---- the first two lines

  pub told_is_had : IsTable u → why_in u bytes ≡ Err f → HasWhyFault u bytes f
  told_is_had table h =
      let header = exactly (codes "metis why 1") in
      let l = lines_of bytes 0 in
      let start : IsLeft bytes [] l = record { text = refl; number = refl } in
      elim (and_then_wrong (read_next header l) (λ first. and_then (read_next (lacks_in u) first.1) (λ lacks. why_counted_from u lacks.0 lacks.1)) f h) [
        | inl wrong ↦ stop header first_line [] l (with_none refl refl) start (exactly_fails (codes "metis why 1")) wrong
        | inr (first, right, later) ↦
            let one = read_next_is header l first right in
            let same = exactly_is (codes "metis why 1") one.0 first.0 one.1 in
            let left = one_more header bytes [] l first (codes "metis why 1") start right (one.2 ∙ ap (λ b. b ++ (10 ∷ first.1.rest)) same) in
            elim (and_then_wrong (read_next (lacks_in u) first.1) (λ lacks. why_counted_from u lacks.0 lacks.1) f later) [
              | inl wrong ↦ stop (lacks_in u) goal_line (why_header ∷ []) first.1 (with_first refl refl) left (goal_fails u table.universe table.named) wrong
              | inr (lacks, right', later') ↦
                  let two = read_next_is (lacks_in u) first.1 lacks right' in
                  let says = lacks_is u two.0 lacks.0 two.1 in
                  goal_stops table lacks.0 says.1 lacks.1 (one_more (lacks_in u) bytes (why_header ∷ []) first.1 lacks (words (lacks_tokens u lacks.0)) left right' (two.2 ∙ ap (λ b. b ++ (10 ∷ lacks.1.rest)) says.0)) later'
            ]
      ]

pub had_by : (u : Universe) (bytes : List ℕ) (r : Result Explanation TFault) → IsTable u → ReadsWhy r (why_in u bytes) → IfFault NoMemory r (λ f. HasWhyFault u bytes f)
had_by u bytes (Ok r) table read = tt
had_by u bytes (Err f) table read = λ known. told_is_had u bytes f table (read known)
