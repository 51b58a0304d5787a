-- What a crew keeps beside its actions.
--     row_at rows z      the row of instance z, and [] where there is none
--     AreTables actions w own counts flags done      what the actions wait for, each instance's own numbers, a count for each actor, whether each action is done, and how many are
use Rattle.std.specs.Prelude.{◌≡◌, ◌<◌, ◌^◌, ℕ, suc, nat_eq, Bool, false, List, [], length, slice_index_or, IsTrue, IsSome}
use Rattle.std.specs.Map.{lookup}
use Rattle.std.specs.Option.{unwrap_or}
use Rattle.metis_ids.specs.declared.actions.Action.{Action}
use Rattle.metis_waits.specs.Terms.{AreWaits, WaitLists}
use Rattle.metis_crew.specs.Crew.{done_count, is_done, is_own, own_numbers}

abbrev pub row_at : List (ℕ × List ℕ) → ℕ → List ℕ
row_at rows z = unwrap_or (lookup (nat_eq z) rows) []

pub record AreTables (actions : List Action) (w : WaitLists) (own : List (ℕ × List ℕ)) (counts : List (ℕ × ℕ)) (flags : List Bool) (done : ℕ) : Type 0 where
  pub few : length actions < 2 ^ 32
  pub waited : AreWaits actions w
  pub owned : (z : ℕ) → row_at own z ≡ own_numbers actions z
  pub known : (z k : ℕ) → IsTrue (is_own actions z k) → IsSome (lookup (nat_eq z) counts)
  pub size : length flags ≡ length actions
  pub flagged : (i : ℕ) → i < length actions → slice_index_or flags i false ≡ is_done actions counts (suc i)
  pub counted : done ≡ done_count actions counts
