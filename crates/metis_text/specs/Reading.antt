-- What the text of a plan says, line by line, or its first fault.
--     Parts, plan_in u bytes      what a plan's text says;  what these bytes say
use Rattle.std.specs.Prelude.{ℕ, zero, suc, ◌+◌, ◌&&◌, ◌==◌, List, [], ◌∷◌, ◌++◌, length, codes, Result, Ok, Err, if◌then◌else◌}
use Rattle.std.specs.List.{count_by}
use Rattle.std.specs.Str.{bytes_eq}
use Rattle.metis_ids.specs.declared.actions.Action.{Action}
use Rattle.metis_tokens.specs.declared.flaw.Flaw.{Flaw}
use Rattle.metis_tokens.specs.declared.flaw.Flaw.TheVariants.{Form}
use Rattle.metis_tokens.specs.declared.fault.TFault.{TFault}
use Rattle.metis_tokens.specs.declared.fault.TFault.TheVariants.{Line}
use Rattle.metis_text.specs.ActionLine.{Row, row_in}
use Rattle.metis_text.specs.DupLine.{DupRow, dup_in}
use Rattle.metis_tokens.specs.Terms.{Cursor, and_then, both, ended, exactly, lines_of, number_in, read_next, tokens}
use Rattle.metis_ids.specs.Terms.{makes}
use Rattle.metis_universe.specs.Terms.{Universe}

-- the numbers of instances, of actions and of dups
abbrev pub Numbers : Type 0
Numbers = ℕ × (ℕ × ℕ)

abbrev pub counts_of_tokens : List (List ℕ) → Result Numbers Flaw
counts_of_tokens (i ∷ instances ∷ a ∷ actions ∷ d ∷ dups ∷ []) =
    if bytes_eq i (codes "instances") && bytes_eq a (codes "actions") && bytes_eq d (codes "dups")
    then both (number_in instances) (both (number_in actions) (number_in dups)) else Err Form
counts_of_tokens _ = Err Form

abbrev pub counts_in : List ℕ → Result Numbers Flaw
counts_in line = counts_of_tokens (tokens line)

-- the actions that were read, with their lists
pub record Rows : Type 0 where
  pub actions : List Action
  pub after : List (List ℕ)

abbrev pub rows_of : List Action → List (List ℕ) → Rows
rows_of actions after = record { actions = actions; after = after }

abbrev pub with_row : Rows → Row → Rows
with_row rows row = rows_of (rows.actions ++ row.0 ∷ []) (rows.after ++ row.1 ∷ [])

-- so many more actions behind those that were read
abbrev pub rows_from : Universe → ℕ → Rows → Cursor → Result (Rows × Cursor) TFault
rows_from u zero rows l = Ok (rows, l)
rows_from u (suc left) rows l = and_then (read_next (row_in u rows.actions) l) (λ p. rows_from u left (with_row rows p.0) p.1)

-- so many more dups behind those that were read
abbrev pub dups_from : Universe → ℕ → List DupRow → Cursor → Result (List DupRow × Cursor) TFault
dups_from u zero dups l = Ok (dups, l)
dups_from u (suc left) dups l = and_then (read_next (dup_in u (length dups + 1)) l) (λ p. dups_from u left (dups ++ p.0 ∷ []) p.1)

pub record Parts : Type 0 where
  pub instances : ℕ
  pub rows : Rows
  pub dups : List DupRow

abbrev pub parts : ℕ → Rows → List DupRow → Parts
parts instances rows dups = record { instances = instances; rows = rows; dups = dups }

-- the instances are as many as the actions make
abbrev pub counted : Parts → Result Parts TFault
counted p = if count_by makes p.rows.actions == p.instances then Ok p else Err (Line 2)

-- the last line, and nothing behind it
abbrev pub end_from : Parts → Cursor → Result Parts TFault
end_from p l = and_then (read_next (exactly (codes "end")) l) (λ e. and_then (ended e.1) (λ _. counted p))

abbrev pub body_from : Universe → Numbers → Cursor → Result Parts TFault
body_from u counts l =
    and_then (rows_from u counts.1.0 (rows_of [] []) l) (λ rows.
    and_then (dups_from u counts.1.1 [] rows.1) (λ dups.
    end_from (parts counts.0 rows.0 dups.0) dups.1))

abbrev pub plan_from : Universe → Cursor → Result Parts TFault
plan_from u l =
    and_then (read_next (exactly (codes "metis plan 1")) l) (λ header.
    and_then (read_next counts_in header.1) (λ counts.
    body_from u counts.0 counts.1))

abbrev pub plan_in : Universe → List ℕ → Result Parts TFault
plan_in u bytes = plan_from u (lines_of bytes 0)
