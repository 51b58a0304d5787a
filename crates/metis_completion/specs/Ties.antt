-- What binds an instance to slots, or unbinds it.
--     slot_ties t holder slots      what does so at each of these slots
use Rattle.std.specs.Prelude.{ℕ, List, map}
use Rattle.metis_ids.specs.declared.actions.Action.{Action}
use Rattle.metis_ids.specs.declared.tie.Tie.{Tie}
use Rattle.metis_ids.specs.Terms.{tie_action}

abbrev pub slot_ties : Tie → (ℕ → ℕ → ℕ) → List (ℕ × ℕ) → List Action
slot_ties t holder slots = map (λ s. tie_action t s.0 (holder s.0 s.1)) slots
