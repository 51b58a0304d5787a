-- Want of memory is never the fault of an action.
use Rattle.std.proofs.Common.{◌≡◌, ℕ, Bool, true, false, not, nat_eq, Option, Some, None, refl, ap, sym, ◌∙◌}
use Rattle.std.proofs.lemmas.Bool.{false≢true}
use Rattle.std.specs.Option.{option_map_or, option_or, option_and_then}
use Rattle.std.specs.Prelude.{◌≢◌, option_map}
use Rattle.metis_ids.specs.declared.actions.Action.{Action}
use Rattle.metis_ids.specs.declared.actions.Action.TheVariants.{New, Delete, Bind, Unbind, Move}
use Rattle.metis_universe.specs.Terms.{Config, Universe, after, pair_of}
use Rattle.metis_config.specs.Terms.{unmet}
use Rattle.metis_actions.specs.Terms.{fault_of, unmet_after, when}
use Rattle.metis_actions.specs.declared.faults.AFault.{AFault}
use Rattle.metis_actions.specs.declared.faults.AFault.TheVariants.{InUse, NoInstance, NoState, NoTransition, SameInstance, NoSuchPort, Bound, NotBound, Unmet, NoMemory}

abbrev is_memory : AFault → Bool
is_memory NoMemory = true
is_memory _ = false

-- there is no fault, or another one
record Other (o : Option AFault) : Type 0 where
  free : option_map_or is_memory o false ≡ false

other_or : (a b : Option AFault) → Other a → Other b → Other (option_or a b)
other_or None b h k = k
other_or (Some f) b h k = h

other_when : (b : Bool) (f : AFault) → is_memory f ≡ false → Other (when b f)
other_when true f h = record { free = h }
other_when false f h = record { free = refl }

other_elsewhere : (z p : ℕ) (o : Option ℕ) → Other (option_and_then (λ actual. when (not (nat_eq actual p)) (NoState z actual)) o)
other_elsewhere z p None = record { free = refl }
other_elsewhere z p (Some q) = other_when (not (nat_eq q p)) (NoState z q) refl

other_unmet : (o : Option (ℕ × ℕ)) → Other (option_map (λ x. Unmet x.0 x.1) o)
other_unmet None = record { free = refl }
other_unmet (Some x) = record { free = refl }

module _ (u : Universe) (c : Config) where
  lacking : (a : Action) → Other (unmet_after u c a)
  lacking a = other_unmet (unmet u (after u c a))

  other : (a : Action) → Other (fault_of u c a)
  other (New z t) = other_or _ _ (other_when _ (InUse z) refl) (lacking (New z t))
  other (Delete z) = other_or _ _ (other_when _ (NoInstance z) refl) (lacking (Delete z))
  other (Bind r z y) =
      other_or _ _ (other_when _ (NoInstance z) refl) (other_or _ _ (other_when _ (NoInstance y) refl) (other_or _ _ (other_when _ SameInstance refl)
      (other_or _ _ (other_when _ NoSuchPort refl) (other_when _ Bound refl))))
  other (Unbind r z y) = other_or _ _ (other_when _ NotBound refl) (lacking (Unbind r z y))
  other (Move z p q) =
      other_or _ _ (other_when _ (NoInstance z) refl) (other_or _ _ (other_elsewhere z p (pair_of c z)) (other_or _ _ (other_when _ NoTransition refl) (lacking (Move z p q))))

  pub never_memory : (a : Action) (f : AFault) → fault_of u c a ≡ Some f → f ≢ NoMemory
  never_memory a f is same = false≢true (sym (other a).free ∙ ap (λ o. option_map_or is_memory o false) is ∙ ap is_memory same)
