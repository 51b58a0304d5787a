-- How the nearest set and its reasons are found.
--     AreApart list      no number stands twice in the list
--     IsFront u g order x      x is the greatest barred set of pairs of the order, and covers the goal
--     IsNearing u g order x n      what is known of x when the pairs from place n on are tried
--     IsChosen u x q o, AreChosen u x reasons      the reason, if there is one, is the chosen one of q in x;  each entry of the table is so
use Rattle.std.specs.Prelude.{◌≡◌, ◌≤◌, ◌<◌, ℕ, Bool, List, [], ◌∷◌, Option, None, MatchOption, IsTrue, IsFalse}
use Rattle.std.specs.List.{slice_index_or}
use Rattle.metis_ids.specs.declared.goals.Goal.{Goal}
use Rattle.metis_universe.specs.Terms.{Universe, has, pair_count}
use Rattle.metis_why.specs.Barred.{Covers, IsBarred}
use Rattle.metis_why.specs.Choice.{place_in, reason_in}
use Rattle.metis_why.specs.Flags.{IsGreatest, IsInside, IsWithin}
use Rattle.metis_why.specs.Leaving.{IsEnough}
use Rattle.metis_why.specs.declared.reason.Reason.{Reason}

abbrev pub AreApart : List ℕ → Type 0
AreApart [] = Unit {0}
AreApart (p ∷ list) = IsFalse (has list p) × AreApart list

pub record IsFront (u : Universe) (g : Goal) (order : List ℕ) (x : ℕ → Bool) : Type 0 where
  pub within : IsWithin u x
  pub greatest : IsGreatest u (has order) x
  pub covers : Covers u x g

-- keeps: a barred set that has from place n on only pairs of x has only pairs of x
pub record IsNearing (u : Universe) (g : Goal) (order : List ℕ) (x : ℕ → Bool) (n : ℕ) : Type 0 where
  pub enough : IsEnough u g x
  pub inside : IsInside x (has order)
  pub keeps : (y : ℕ → Bool) → IsBarred u y → ((p : ℕ) → n ≤ place_in order p → IsTrue (y p) → IsTrue (x p)) → IsInside y x
  pub near : (y : ℕ → Bool) → IsBarred u y → Covers u y g → (q : ℕ) → IsTrue (x q) → n ≤ place_in order q → ((p : ℕ) → place_in order q < place_in order p → IsTrue (y p) → IsTrue (x p)) → IsTrue (y q)

abbrev pub IsChosen : Universe → (ℕ → Bool) → ℕ → Option Reason → Type 0
IsChosen u x q o = MatchOption o (Unit {0}) (λ reason. reason ≡ reason_in u x q)

abbrev pub AreChosen : Universe → (ℕ → Bool) → List (Option Reason) → Type 0
AreChosen u x reasons = (p : ℕ) → p < pair_count u → IsChosen u x p (slice_index_or reasons p None)
