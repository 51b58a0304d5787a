-- A fault of a text is no want of memory.
use Rattle.std.proofs.Common.{◌≡◌, ℕ, zero, suc, ◌+◌, true, false, List, [], ◌∷◌, ◌++◌, length, Ok, Err}
use Rattle.std.specs.Prelude.{codes}
use Rattle.std.specs.Bool.{◌==◌, if◌then◌else◌}
use Rattle.std.specs.List.{count_by}
use Rattle.metis_ids.specs.declared.goals.Goal.{Goal}
use Rattle.metis_universe.specs.Terms.{Universe}
use Rattle.metis_text.specs.Terms.{DupRow, Numbers, Parts, RefusalParts, Rows, body_from, counted, counts_in, dup_in, dups_from, end_from, lacks_in, next_pair_in, pairs_from, parts, plan_in, refusal_end_from, refusal_in, refusal_parts, refusal_set_from, row_in, rows_from, rows_of, size_in, with_row}
use Rattle.metis_tokens.specs.Terms.{Cursor, and_then, ended, exactly, lines_of, read_next}
use Rattle.metis_ids.specs.Terms.{makes}
use Rattle.metis_tokens.proofs.NamedFaults.{IsNamed, and_then_named, read_next_named, ended_named}
use Rattle.metis_tokens.specs.declared.fault.TFault.TheVariants.{Line, NoMemory}

module _ (u : Universe) where
  -- ---- plans

  rows_named : (left : ℕ) (rows : Rows) (l : Cursor) → IsNamed (rows_from u left rows l)
  rows_named zero rows l h = cc
  rows_named (suc left) rows l h =
      and_then_named (read_next (row_in u rows.actions) l) (λ p. rows_from u left (with_row rows p.0) p.1) (read_next_named (row_in u rows.actions) l) (λ p. rows_named left (with_row rows p.0) p.1) h

  dups_named : (left : ℕ) (dups : List DupRow) (l : Cursor) → IsNamed (dups_from u left dups l)
  dups_named zero dups l h = cc
  dups_named (suc left) dups l h =
      let k = length dups + 1 in
      and_then_named (read_next (dup_in u k) l) (λ p. dups_from u left (dups ++ p.0 ∷ []) p.1) (read_next_named (dup_in u k) l) (λ p. dups_named left (dups ++ p.0 ∷ []) p.1) h

  counted_named : (p : Parts) → IsNamed (counted p)
  counted_named p = elim (count_by makes p.rows.actions == p.instances) as (λ b. IsNamed {A = Parts} (if b then Ok p else Err (Line 2))) [ true ↦ λ h. cc | false ↦ λ h. cc ]

  end_named : (p : Parts) (l : Cursor) → IsNamed (end_from p l)
  end_named p l =
      and_then_named (read_next (exactly (codes "end")) l) (λ e. and_then (ended e.1) (λ _. counted p)) (read_next_named (exactly (codes "end")) l)
      (λ e. and_then_named (ended e.1) (λ _. counted p) (ended_named e.1) (λ _. counted_named p))

  body_named : (counts : Numbers) (l : Cursor) → IsNamed (body_from u counts l)
  body_named counts l =
      and_then_named (rows_from u counts.1.0 (rows_of [] []) l) (λ rows. and_then (dups_from u counts.1.1 [] rows.1) (λ dups. end_from (parts counts.0 rows.0 dups.0) dups.1)) (rows_named counts.1.0 (rows_of [] []) l)
      (λ rows. and_then_named (dups_from u counts.1.1 [] rows.1) (λ dups. end_from (parts counts.0 rows.0 dups.0) dups.1) (dups_named counts.1.1 [] rows.1) (λ dups. end_named (parts counts.0 rows.0 dups.0) dups.1))

  pub plan_in_named : (bytes : List ℕ) → plan_in u bytes ≡ Err NoMemory → ⊥
  plan_in_named bytes =
      and_then_named (read_next (exactly (codes "metis plan 1")) (lines_of bytes 0)) (λ header. and_then (read_next counts_in header.1) (λ counts. body_from u counts.0 counts.1))
      (read_next_named (exactly (codes "metis plan 1")) (lines_of bytes 0))
      (λ header. and_then_named (read_next counts_in header.1) (λ counts. body_from u counts.0 counts.1) (read_next_named counts_in header.1) (λ counts. body_named counts.0 counts.1))

  -- ---- refusals

  pairs_named : (left : ℕ) (pairs : List ℕ) (l : Cursor) → IsNamed (pairs_from u left pairs l)
  pairs_named zero pairs l h = cc
  pairs_named (suc left) pairs l h =
      and_then_named (read_next (next_pair_in u pairs) l) (λ p. pairs_from u left (pairs ++ p.0 ∷ []) p.1) (read_next_named (next_pair_in u pairs) l) (λ p. pairs_named left (pairs ++ p.0 ∷ []) p.1) h

  refusal_end_named : (r : RefusalParts) (l : Cursor) → IsNamed (refusal_end_from r l)
  refusal_end_named r l =
      and_then_named (read_next (exactly (codes "end")) l) (λ e. and_then (ended e.1) (λ _. Ok r)) (read_next_named (exactly (codes "end")) l)
      (λ e. and_then_named (ended e.1) (λ _. Ok r) (ended_named e.1) (λ _ h. cc))

  set_named : (lacks : Goal) (l : Cursor) → IsNamed (refusal_set_from u lacks l)
  set_named lacks l =
      and_then_named (read_next size_in l) (λ size. and_then (pairs_from u size.0 [] size.1) (λ pairs. refusal_end_from (refusal_parts lacks pairs.0) pairs.1)) (read_next_named size_in l)
      (λ size. and_then_named (pairs_from u size.0 [] size.1) (λ pairs. refusal_end_from (refusal_parts lacks pairs.0) pairs.1) (pairs_named size.0 [] size.1) (λ pairs. refusal_end_named (refusal_parts lacks pairs.0) pairs.1))

  pub refusal_in_named : (bytes : List ℕ) → refusal_in u bytes ≡ Err NoMemory → ⊥
  refusal_in_named bytes =
      and_then_named (read_next (exactly (codes "metis refusal 1")) (lines_of bytes 0)) (λ header. and_then (read_next (lacks_in u) header.1) (λ lacks. refusal_set_from u lacks.0 lacks.1))
      (read_next_named (exactly (codes "metis refusal 1")) (lines_of bytes 0))
      (λ header. and_then_named (read_next (lacks_in u) header.1) (λ lacks. refusal_set_from u lacks.0 lacks.1) (read_next_named (lacks_in u) header.1) (λ lacks. set_named lacks.0 lacks.1))
