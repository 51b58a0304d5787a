-- What is kept beside a configuration while instances to which no binding points are removed from it.
--     is_unreferenced goes c z      whether z goes, is there and no binding points to it
--     AreUnreferenced goes c unreferenced      the list has exactly these
--     AreUnreferencedBut goes c z unreferenced      all of them but z
use Rattle.std.specs.Prelude.{ℕ, ◌≡◌, ◌==◌, ◌&&◌, not, Bool, List}
use Rattle.metis_universe.specs.Terms.{Config, has}
use Rattle.metis_rollout.specs.Rollout.{is_referenced, members}

abbrev pub is_unreferenced : (ℕ → Bool) → Config → ℕ → Bool
is_unreferenced goes c z = has (members c) z && (goes z && not (is_referenced c z))

abbrev pub AreUnreferenced : (ℕ → Bool) → Config → List ℕ → Type 0
AreUnreferenced goes c unreferenced = (z : ℕ) → has unreferenced z ≡ is_unreferenced goes c z

abbrev pub AreUnreferencedBut : (ℕ → Bool) → Config → ℕ → List ℕ → Type 0
AreUnreferencedBut goes c x unreferenced = (z : ℕ) → has unreferenced z ≡ (not (z == x) && is_unreferenced goes c z)
