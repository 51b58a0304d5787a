-- The numbers of an agent's actions.
--     IsRising b own      each number is above those before it, and none is below b
--     IsPlaceOf own k found      the place of number k, and none where it is not there
--     IsAgent own      they rise and are few
use Rattle.std.specs.Prelude.{◌≡◌, ◌<◌, ◌≤◌, ◌^◌, ℕ, suc, List, [], ◌∷◌, Option, None, Some, IsFalse, length, slice_get, ⊤}
use Rattle.metis_universe.specs.Terms.{has}

abbrev pub IsRising : ℕ → List ℕ → Type 0
IsRising b [] = ⊤
IsRising b (k ∷ own) = (b ≤ k) × IsRising (suc k) own

abbrev pub IsPlaceOf : List ℕ → ℕ → Option ℕ → Type 0
IsPlaceOf own k (Some i) = slice_get own i ≡ Some k
IsPlaceOf own k None = IsFalse (has own k)

pub record IsAgent (own : List ℕ) : Type 0 where
  pub rising : IsRising 0 own
  pub few : length own < 2 ^ 32
