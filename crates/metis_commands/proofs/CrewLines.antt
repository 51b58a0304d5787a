-- The lines of a crew.
use Rattle.std.proofs.Common.{◌≡◌, ℕ, suc, ◌+◌, Bool, true, false, List, [], ◌∷◌, ◌++◌, length, map, refl, ap, ◌∙◌, length-append, sym, subst}
use Rattle.std.proofs.lemmas.List.{length-map}
use Rattle.metis_crew.specs.Terms.{after_turns, counts_after, done_count, start, turn, turns}
use Rattle.metis_ids.specs.declared.actions.Action.{Action}
use Rattle.metis_commands.specs.Terms.{crew_lines, last_line, lines_left, progress_line, turn_line}
use Rattle.std.specs.Prelude.{codes}
use Rattle.metis_output.proofs.LineWords.{by_number, by_two}
use Rattle.metis_crew.specs.declared.turn.Turn.{Turn}
use Rattle.metis_crew.specs.declared.turn.Turn.TheVariants as turn
use Rattle.metis_outside.proofs.Feeds.{IsLine-from}
use Rattle.metis_outside.specs.Terms.{IsLine}

module _ (A : List Action) where
  length-turns : (counts : List (ℕ × ℕ)) (zs : List ℕ) → length (turns A counts zs) ≡ length zs
  length-turns counts [] = refl
  length-turns counts (z ∷ zs) = ap suc (length-turns (counts_after counts z (turn A counts z)) zs)

  -- a line for each turn, and the last one
  pub length-crew_lines : (zs : List ℕ) → length (crew_lines A zs) ≡ length zs + 1
  length-crew_lines zs =
      let answers = turns A (start A) zs in
      length-append (map turn_line answers) (last_line A zs ∷ []) ∙ ap (λ n. n + 1) (length-map answers turn_line ∙ length-turns (start A) zs)

  -- all lines are those that are left at the start
  pub all_left : (counts : List (ℕ × ℕ)) (zs : List ℕ)
      → lines_left A counts zs false ≡ map turn_line (turns A counts zs) ++ progress_line (done_count A (after_turns A counts zs)) (length A) ∷ []
  all_left counts [] = refl
  all_left counts (z ∷ zs) = ap (λ l. turn_line (turn A counts z) ∷ l) (all_left (counts_after counts z (turn A counts z)) zs)

  -- where no turn is left, the last line is
  pub last_left : (counts : List (ℕ × ℕ)) (zs : List ℕ) (ended : Bool) → length zs ≡ 0 → ended ≡ false
      → lines_left A counts zs ended ≡ progress_line (done_count A counts) (length A) ∷ lines_left A counts zs true
  last_left counts [] false none still = refl
  last_left counts [] true none still = cc
  last_left counts (z ∷ zs) ended none still = cc

IsLine-turn_line : (answer : Turn) → IsLine (turn_line answer)
IsLine-turn_line (turn.Did k) = by_number (codes "did ") k refl
IsLine-turn_line (turn.WaitsFor k m) = by_two (codes "waits ") k (codes " ") m refl refl
IsLine-turn_line turn.Done = IsLine-from (codes "done") refl
IsLine-turn_line turn.Nobody = IsLine-from (codes "nobody") refl

pub is_turn_line : (bytes : List ℕ) (answer : Turn) → bytes ≡ turn_line answer → IsLine bytes
is_turn_line bytes answer same = subst IsLine (sym same) (IsLine-turn_line answer)

pub is_progress_line : (bytes : List ℕ) (done all : ℕ) → bytes ≡ progress_line done all → IsLine bytes
is_progress_line bytes done all same = subst IsLine (sym same) (by_two (codes "progress ") done (codes " of ") all refl refl)
