-- The line of an explanation that was checked, and what it names.
use Rattle.std.proofs.Common.{◌+◌, refl, ◌≡◌, ℕ, ◌<◌, ◌^◌, not, List, length, Option, Some, None, subst, sym, arith}
use Rattle.std.specs.Prelude.{codes}
use Rattle.metis_output.proofs.LineWords.{by_number}
use Rattle.metis_outside.proofs.Feeds.{IsLine-from}
use Rattle.metis_outside.specs.Terms.{IsLine}
use Rattle.metis_universe.specs.Terms.{IsGoalOf, IsNamed, Universe}
use Rattle.metis_why.specs.declared.confirming.Confirmation.{Confirmation}
use Rattle.metis_why.specs.declared.confirming.Confirmation.TheVariants as confirmation
use Rattle.metis_commands.proofs.GoalLine.{IsLine-word_line}
use Rattle.metis_choice.proofs.GoalLists.{found_among}
use Rattle.metis_commands.specs.Terms.{IsSayable, confirmation_line}
use Rattle.std.specs.List.{All, list_all}
use Rattle.metis_ids.specs.declared.goals.Goal.{Goal}
use Rattle.metis_why.specs.Terms.{covered, first_bad, line_holds, listed, verdict, verdict_by, wanted_by}
use Rattle.metis_why.specs.declared.reason.Line.{Line}
use Rattle.metis_universe.proofs.Named.{position_within}

module _ (u : Universe) (named : IsNamed u) where
  pub IsLine-confirmation_line : (v : Confirmation) → IsLine (confirmation_line u v)
  IsLine-confirmation_line (confirmation.Confirmed g) = IsLine-word_line u named (codes "confirmed lacks") g refl
  IsLine-confirmation_line (confirmation.Unfounded k) = by_number (codes "unfounded line ") (k + 4) refl
  IsLine-confirmation_line confirmation.LacksNone = IsLine-from (codes "lacksnone") refl

pub sayable : (u : Universe) (lines : List Line) (goals : List Goal) (v : Confirmation) → length lines < 2 ^ 32 → All (IsGoalOf u) goals → v ≡ verdict u lines goals → IsSayable u v
sayable u lines goals v few within is = subst (IsSayable u) (sym is) (by (first_bad u lines) (covered u lines goals) refl refl) where
  by : (bad : Option ℕ) (goal : Option Goal) → first_bad u lines ≡ bad → covered u lines goals ≡ goal → IsSayable u (verdict_by bad goal)
  by (Some k) goal at _ = let low = position_within (λ l. not (line_holds u lines l)) lines k at in omega arith
  by None (Some g) _ at = found_among (IsGoalOf u) (λ g. list_all (listed lines) (wanted_by u g)) goals g within at
  by None None _ _ = tt
