-- The types of the instances that actions make.
--     AreKinds earlier entries      the entries have the type of each instance, by its last New
use Rattle.std.specs.Prelude.{◌≡◌, ℕ, ◌==◌, List}
use Rattle.std.specs.Map.{lookup}
use Rattle.metis_ids.specs.declared.actions.Action.{Action}
use Rattle.metis_text.specs.PlanText.{last_kind}

abbrev pub AreKinds : List Action → List (ℕ × ℕ) → Type 0
AreKinds earlier entries = (z : ℕ) → lookup (λ k. z == k) entries ≡ last_kind z earlier
