-- The fault of a text of a refusal stands behind lines that are the beginning of one.
use Rattle.std.proofs.Common.{◌≡◌, ℕ, zero, suc, ◌+◌, ◌<◌, ◌≤◌, ◌^◌, true, false, Bool, List, [], ◌∷◌, ◌++◌, length, Result, Ok, Err, refl, sym, ap, ◌∙◌, subst, append_assoc, append-nil, arith, inl, inr}
use Rattle.std.specs.Prelude.{codes}
use Rattle.std.specs.Bool.{◌==◌, if◌then◌else◌}
use Rattle.std.proofs.lemmas.Bool.Decides.{nat_tests}
use Rattle.std.proofs.lemmas.List.{length_push, map-append}
use Rattle.metis_ids.specs.declared.goals.Goal.{Goal}
use Rattle.metis_tokens.proofs.KnownLines.{exactly_is}
use Rattle.metis_tokens.proofs.LinesTaken.{read_next_is}
use Rattle.metis_tokens.proofs.Outcomes.{and_then_is}
use Rattle.metis_tokens.proofs.Readers.{and_then_wrong}
use Rattle.metis_tokens.specs.Terms.{Cursor, and_then, end_line, ended, exactly, lines_of, read_next, words}
use Rattle.metis_tokens.specs.declared.fault.TFault.{TFault}
use Rattle.metis_tokens.specs.declared.fault.TFault.TheVariants.{Line, NoMemory}
use Rattle.metis_tokens.specs.declared.flaw.Flaw.{Flaw}
use Rattle.metis_universe.specs.Terms.{IsTable, IsWordable, Universe, pair_count}
use Rattle.metis_text.proofs.LineFlaws.{exactly_fails, lacks_fails, pair_fails, size_fails}
use Rattle.metis_text.proofs.PairsRead.{ArePairs}
use Rattle.metis_text.proofs.RefusalWords.{lacks_is, lacks_tokens, next_pair_is, size_is, size_tokens}
use Rattle.metis_text.proofs.RefusalSets.{pairs_ascend}
use Rattle.metis_text.proofs.DueRead.{IsLeft, one_more, stops}
use Rattle.metis_text.specs.Terms.{AreBegun, Due, HasFlaw, HasRefusalFault, IsBegun, ReadsRefusal, above, begun_lines, goal_line, lacks_in, lacks_line, next_pair, next_pair_in, pair_line, pairs_from, pairs_line, refusal_end_from, refusal_header, refusal_in, refusal_parts, refusal_set_from, size_in, size_line, with_goal, with_pairs}
use Rattle.metis_ids.specs.Terms.{IfFault}
use Rattle.metis_text.specs.RefusalFlaws.{first_line, last_line, of_line, past_end, too_short, with_all, with_first, with_none}
use Rattle.metis_text.specs.declared.refusal_text.Refusal.{Refusal}

module _ (u : Universe) (bytes : List ℕ) (f : TFault) where
  stop : {A : Type 0} (read : List ℕ → Result A Flaw) (due : Due) (lines : List (List ℕ)) (l : Cursor) → IsBegun u lines due → IsLeft bytes lines l
      → ((line : List ℕ) (flaw : Flaw) → read line ≡ Err flaw → HasFlaw u due line flaw) → read_next read l ≡ Err f → HasRefusalFault u bytes f
  stop read due lines l begun left wrong h = elim (stops (IsBegun u) (HasFlaw u) bytes f read due lines l begun left wrong h) [ inl short ↦ too_short short | inr flawed ↦ of_line flawed ]

  module _ (table : IsTable u) (lacks : Goal) (its : IsWordable u lacks) where
    -- ---- the last line

    past_by : (set : List ℕ) (l : Cursor) (nothing : Bool) → IsBegun u (begun_lines u lacks (length set) set) last_line → IsLeft bytes (begun_lines u lacks (length set) set ++ end_line ∷ []) l
        → AreBegun u lacks (length set) set → (length l.rest == 0) ≡ nothing
        → and_then {A = Unit {0}} (if nothing then Ok tt else Err (Line (l.number + 1))) (λ _. Ok (refusal_parts lacks set)) ≡ Err f → HasRefusalFault u bytes f
    past_by set l true begun left are is h = cc
    past_by set l false begun left are is h =
        let fault : f ≡ Line (l.number + 1) = cc in
        past_end (record {
          set = set;
          lacks = lacks;
          more = l.rest;
          text = left.text;
          formed = record { lacking = its; ascending = are.ascending; pairs = are.pairs };
          some = some (length l.rest) is;
          fault = fault ∙ ap (λ n. Line (n + 1)) left.number;
        }) where
          some : (n : ℕ) → (n == 0) ≡ false → 1 ≤ n
          some n h = grind (arith, nat_tests)

    end_stops : (set : List ℕ) (l : Cursor) → AreBegun u lacks (length set) set → IsLeft bytes (begun_lines u lacks (length set) set) l → refusal_end_from (refusal_parts lacks set) l ≡ Err f → HasRefusalFault u bytes f
    end_stops set l are left h =
        let begun = with_all lacks set are refl refl in
        let lines = begun_lines u lacks (length set) set in
        elim (and_then_wrong (read_next (exactly (codes "end")) l) (λ e. and_then (ended e.1) (λ _. Ok (refusal_parts lacks set))) f h) [
          | inl wrong ↦ stop (exactly (codes "end")) last_line lines l begun left (exactly_fails (codes "end")) wrong
          | inr (e, right, later) ↦
              let one = read_next_is (exactly (codes "end")) l e right in
              let same = exactly_is (codes "end") one.0 e.0 one.1 in
              past_by set e.1 (length e.1.rest == 0) begun (one_more (exactly (codes "end")) bytes lines l e (codes "end") left right (one.2 ∙ ap (λ b. b ++ (10 ∷ e.1.rest)) same)) are refl later
        ]

    -- ---- the lines of the pairs

    module _ (size : ℕ) (few : size < 2 ^ 32) where
      longer : (set : List ℕ) (p : ℕ) → begun_lines u lacks size set ++ pair_line u p ∷ [] ≡ begun_lines u lacks size (set ++ p ∷ [])
      longer set p = ap (λ ls. refusal_header ∷ lacks_line u lacks ∷ pairs_line size ∷ ls) (sym (map-append (pair_line u) set (p ∷ [])))

      -- these pairs were read, and behind them these lines are left
      record PairsLeft (set : List ℕ) (l : Cursor) : Type 0 where
        are : ArePairs u [] set
        left : IsLeft bytes (begun_lines u lacks size set) l

      next_left : (set : List ℕ) (l : Cursor) (p : ℕ × Cursor) → PairsLeft set l → read_next (next_pair_in u set) l ≡ Ok p → PairsLeft (set ++ p.0 ∷ []) p.1
      next_left set l p before h =
          let one = read_next_is (next_pair_in u set) l p h in
          let says = next_pair_is u set one.0 p.0 one.1 in
          record {
            are = also [] set p.0 before.are says.1 says.2;
            left = subst (λ ls. IsLeft bytes ls p.1) (longer set p.0) (one_more (next_pair_in u set) bytes (begun_lines u lacks size set) l p _ before.left h (one.2 ∙ ap (λ b. b ++ (10 ∷ p.1.rest)) says.0));
          } where
            also : (before set : List ℕ) (p : ℕ) → ArePairs u before set → p < pair_count u → above (before ++ set) p ≡ true → ArePairs u before (set ++ p ∷ [])
            also before [] p are low up = (low, ap (λ b. above b p) (sym (append-nil before)) ∙ up, tt)
            also before (q ∷ set) p are low up = (are.0, are.1, also (before ++ q ∷ []) set p are.2 low (ap (λ b. above b p) (append_assoc before (q ∷ []) set) ∙ up))

      begun_with : (set : List ℕ) → ArePairs u [] set → AreBegun u lacks size set
      begun_with set are = let up = pairs_ascend u set are in record { lacking = its; few = few; ascending = up.0; pairs = up.1 }

      pairs_stop : (n : ℕ) (set : List ℕ) (l : Cursor) → PairsLeft set l → length set + n ≡ size → pairs_from u n set l ≡ Err f → HasRefusalFault u bytes f
      pairs_stop zero set l before count h = cc
      pairs_stop (suc n) set l before count h = elim (and_then_wrong (read_next (next_pair_in u set) l) (λ p. pairs_from u n (set ++ p.0 ∷ []) p.1) f h) [
        | inl wrong ↦
            let more : length set < size = omega arith in
            let begun = with_pairs lacks size set (begun_with set before.are) more refl refl in
            stop (next_pair_in u set) (next_pair set) (begun_lines u lacks size set) l begun before.left (pair_fails u table.universe table.named set) wrong
        | inr (p, right, later) ↦ pairs_stop n (set ++ p.0 ∷ []) p.1 (next_left set l p before right) (let long = length_push set p.0 in omega arith) later
      ]

      pairs_left : (n : ℕ) (set : List ℕ) (l : Cursor) (q : List ℕ × Cursor) → PairsLeft set l → length set + n ≡ size → pairs_from u n set l ≡ Ok q → PairsLeft q.0 q.1 × (length q.0 ≡ size)
      pairs_left zero set l q before count h =
          let is : (set, l) ≡ q = cc in
          subst (λ (q : List ℕ × Cursor). PairsLeft q.0 q.1 × (length q.0 ≡ size)) is (before, omega arith)
      pairs_left (suc n) set l q before count h =
          let next = and_then_is (read_next (next_pair_in u set) l) (λ p. pairs_from u n (set ++ p.0 ∷ []) p.1) q h in
          let long = length_push set next.0.0 in
          pairs_left n (set ++ next.0.0 ∷ []) next.0.1 q (next_left set l next.0 before next.1) (omega arith) next.2

      set_stops : (l : Cursor) → IsLeft bytes (begun_lines u lacks size []) l → and_then (pairs_from u size [] l) (λ pairs. refusal_end_from (refusal_parts lacks pairs.0) pairs.1) ≡ Err f → HasRefusalFault u bytes f
      set_stops l left h =
          let start : PairsLeft [] l = record { are = tt; left = left } in
          let none : length {A = ℕ} [] + size ≡ size = omega arith in
          elim (and_then_wrong (pairs_from u size [] l) (λ pairs. refusal_end_from (refusal_parts lacks pairs.0) pairs.1) f h) [
            | inl wrong ↦ pairs_stop size [] l start none wrong
            | inr (q, right, later) ↦
                let all = pairs_left size [] l q start none right in
                let are : AreBegun u lacks (length q.0) q.0 = subst (λ n. AreBegun u lacks n q.0) (sym all.1) (begun_with q.0 all.0.are) in
                end_stops q.0 q.1 are (subst (λ n. IsLeft bytes (begun_lines u lacks n q.0) q.1) (sym all.1) all.0.left) later
          ]

    goal_stops : (l : Cursor) → IsLeft bytes (refusal_header ∷ lacks_line u lacks ∷ []) l → refusal_set_from u lacks l ≡ Err f → HasRefusalFault u bytes f
    goal_stops l left h =
        let lines = refusal_header ∷ lacks_line u lacks ∷ [] in
        elim (and_then_wrong (read_next size_in l) (λ size. and_then (pairs_from u size.0 [] size.1) (λ pairs. refusal_end_from (refusal_parts lacks pairs.0) pairs.1)) f h) [
          | inl wrong ↦ stop size_in size_line lines l (with_goal lacks its refl refl) left size_fails wrong
          | inr (size, right, later) ↦
              let one = read_next_is size_in l size right in
              let says = size_is one.0 size.0 one.1 in
              set_stops size.0 says.1 size.1 (one_more size_in bytes lines l size (words (size_tokens size.0)) left right (one.2 ∙ ap (λ b. b ++ (10 ∷ size.1.rest)) says.0)) later
        ]

  -- ---- the first two lines

  pub told_is_had : IsTable u → refusal_in u bytes ≡ Err f → HasRefusalFault u bytes f
  told_is_had table h =
      let header = exactly (codes "metis refusal 1") in
      let l = lines_of bytes 0 in
      let start : IsLeft bytes [] l = record { text = refl; number = refl } in
      elim (and_then_wrong (read_next header l) (λ first. and_then (read_next (lacks_in u) first.1) (λ lacks. refusal_set_from u lacks.0 lacks.1)) f h) [
        | inl wrong ↦ stop header first_line [] l (with_none refl refl) start (exactly_fails (codes "metis refusal 1")) wrong
        | inr (first, right, later) ↦
            let one = read_next_is header l first right in
            let same = exactly_is (codes "metis refusal 1") one.0 first.0 one.1 in
            let left = one_more header bytes [] l first (codes "metis refusal 1") start right (one.2 ∙ ap (λ b. b ++ (10 ∷ first.1.rest)) same) in
            elim (and_then_wrong (read_next (lacks_in u) first.1) (λ lacks. refusal_set_from u lacks.0 lacks.1) f later) [
              | inl wrong ↦ stop (lacks_in u) goal_line (refusal_header ∷ []) first.1 (with_first refl refl) left (lacks_fails u table.universe table.named) wrong
              | inr (lacks, right', later') ↦
                  let two = read_next_is (lacks_in u) first.1 lacks right' in
                  let says = lacks_is u two.0 lacks.0 two.1 in
                  goal_stops table lacks.0 says.1 lacks.1 (one_more (lacks_in u) bytes (refusal_header ∷ []) first.1 lacks (words (lacks_tokens u lacks.0)) left right' (two.2 ∙ ap (λ b. b ++ (10 ∷ lacks.1.rest)) says.0)) later'
            ]
      ]

pub had_by : (u : Universe) (bytes : List ℕ) (r : Result Refusal TFault) → IsTable u → ReadsRefusal r (refusal_in u bytes) → IfFault NoMemory r (λ f. HasRefusalFault u bytes f)
had_by u bytes (Ok r) table read = tt
had_by u bytes (Err f) table read = λ known. told_is_had u bytes f table (read known)
