-- What holds of all dups that are read, dup by dup.
use Rattle.std.proofs.Common.{ℕ, ◌+◌, ◌<◌, ◌≤◌, ◌^◌, List, [], ◌∷◌, length, map, arith}
use Rattle.std.specs.List.{All, AllByRecursion}
use Rattle.std.proofs.lemmas.List.Elements.{All-from_recursion, recursion_from_All}
use Rattle.metis_ids.specs.Terms.{Dup}
use Rattle.metis_universe.specs.Terms.{Universe, pair_count}
use Rattle.metis_text.specs.Terms.{IsEventInRange, dup_row}
use Rattle.metis_text.proofs.DupLine.{IsDupRow}
use Rattle.metis_text.proofs.DupsRead.{AreDups}

module _ (u : Universe) where
  each_dup : (P : Dup → Type 0) → ((k : ℕ) (d : Dup) → IsDupRow u k (dup_row d) → P d) → (k : ℕ) (dups : List Dup) → AreDups u k (map dup_row dups) → AllByRecursion P dups
  each_dup P holds k [] are = tt
  each_dup P holds k (d ∷ dups) are = (holds k d are.0, each_dup P holds (k + 1) dups are.1)

  pub all_dups : (P : Dup → Type 0) → ((k : ℕ) (d : Dup) → IsDupRow u k (dup_row d) → P d) → (k : ℕ) (dups : List Dup) → AreDups u k (map dup_row dups) → All P dups
  all_dups P holds k dups are = All-from_recursion P dups (each_dup P holds k dups are)

  -- what a dup's line asks, its number aside
  abbrev IsDup : Dup → Type 0
  IsDup d = (d.pair < pair_count u) × (2 ≤ length d.cycle) × AllByRecursion IsEventInRange d.cycle

  dups_from_each : (k : ℕ) (dups : List Dup) → k + length dups ≤ 2 ^ 32 → AllByRecursion IsDup dups → AreDups u k (map dup_row dups)
  dups_from_each k [] few each = tt
  dups_from_each k (d ∷ dups) few each = (record { pair = each.0.0; long = each.0.1; events = each.0.2; number = omega arith }, dups_from_each (k + 1) dups (omega arith) each.1)

  pub dups_from_all : (dups : List Dup) → length dups < 2 ^ 32 → All (λ d. d.pair < pair_count u) dups → All (λ d. 2 ≤ length d.cycle) dups → All (λ d. All IsEventInRange d.cycle) dups → AreDups u 1 (map dup_row dups)
  dups_from_all dups few pairs cycles events =
      dups_from_each 1 dups (omega arith) (recursion_from_All IsDup dups (λ i d l. (pairs i d l, cycles i d l, recursion_from_All IsEventInRange _ (events i d l))))
