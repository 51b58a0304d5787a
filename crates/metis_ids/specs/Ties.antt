-- What binds an instance to slots, or unbinds it.
--     tie_action t r y      what does so at port r to y
use Rattle.std.specs.Prelude.{ℕ}
use Rattle.metis_ids.specs.declared.actions.Action.{Action}
use Rattle.metis_ids.specs.declared.actions.Action.TheVariants.{Bind, Unbind}
use Rattle.metis_ids.specs.declared.tie.Tie.{Tie}
use Rattle.metis_ids.specs.declared.tie.Tie.TheVariants.{Bound, Unbound}

abbrev pub tie_action : Tie → ℕ → ℕ → Action
tie_action (Bound z) r y = Bind r z y
tie_action (Unbound z) r y = Unbind r z y
