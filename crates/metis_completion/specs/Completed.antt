-- Fresh instances that are bound to what stands: a list over the residual universe, where around each move its instance is bound to
-- the given providers that the new pair demands, and unbound from those that it no longer demands.
--     given_demand u given p r      to how many of the given providers of the port an instance in pair p is bound
--     given_holder given r k      the given provider that is slot k, from 1, of the port
--     given_gained u given p q      each port with each slot that q takes from the given providers and p does not, by port and then by slot
--     completed_action u given a      the action with the binds before it and the unbinds after it
--     completed u given actions      the list of these
--     AreGiven u c given      the given instances of each port ascend and stand in pairs that provide it
--     IsBeside u old given new d      d is what old leaves and what new leaves, with the bindings from new instances to given ones
use Rattle.std.specs.Prelude.{ℕ, ◌≡◌, ◌-◌, ◌||◌, Bool, false, List, [], ◌∷◌, ◌++◌, Option, Some, IsTrue, IsFalse, flat_map, length, map, min, take, if◌then◌else◌}
use Rattle.std.specs.List.{slice_index_or}
use Rattle.std.specs.List.Sorted.{IsStrictlyIncreasing}
use Rattle.std.specs.Option.{option_map_or}
use Rattle.metis_ids.specs.declared.actions.Action.{Action}
use Rattle.metis_ids.specs.declared.actions.Action.TheVariants.{New, Delete, Bind, Unbind, Move}
use Rattle.metis_universe.specs.Terms.{Config, Universe, after_all, demand_of, empty, has, is_bound, is_initial, pair_of, provides, required_of}
use Rattle.metis_layers.specs.Terms.{slot_binds, slot_unbinds, slots_above}
use Rattle.metis_rollout.specs.Terms.{is_made}

-- an initial pair takes none: there an instance is made before it is bound
abbrev pub given_demand : Universe → (ℕ → List ℕ) → ℕ → ℕ → ℕ
given_demand u given p r = if is_initial u p then 0 else min (demand_of u p r) (length (given r))

abbrev pub given_holder : (ℕ → List ℕ) → ℕ → ℕ → ℕ
given_holder given r k = slice_index_or (given r) (k - 1) 0

abbrev pub given_gained : Universe → (ℕ → List ℕ) → ℕ → ℕ → List (ℕ × ℕ)
given_gained u given p q = flat_map (λ r. map (λ k. (r, k)) (slots_above (given_demand u given p r) (given_demand u given q r))) (required_of u q)

abbrev pub completed_action : Universe → (ℕ → List ℕ) → Action → List Action
completed_action u given (New z t) = New z t ∷ []
completed_action u given (Delete z) = Delete z ∷ []
completed_action u given (Bind r z y) = Bind r z y ∷ []
completed_action u given (Unbind r z y) = Unbind r z y ∷ []
completed_action u given (Move z p q) =
    slot_binds (given_holder given) z (given_gained u given p q) ++ (Move z p q ∷ slot_unbinds (given_holder given) z (given_gained u given q p))

abbrev pub completed : Universe → (ℕ → List ℕ) → List Action → List Action
completed u given actions = flat_map (completed_action u given) actions

-- the given instances of each port ascend, and stand in c in pairs that provide it
pub record AreGiven (u : Universe) (c : Config) (given : ℕ → List ℕ) : Type 0 where
  pub ascend : (r : ℕ) → IsStrictlyIncreasing (given r)
  pub stand : (r y : ℕ) → IsTrue (has (given r) y) → (p : ℕ) × (pair_of c y ≡ Some p) × IsTrue (provides u p r)

-- whether an instance in this pair, if there is one, is bound to the given provider y of the port
abbrev pub takes_given : Universe → (ℕ → List ℕ) → Option ℕ → ℕ → ℕ → Bool
takes_given u given pair r y = option_map_or (λ p. has (take (given_demand u given p r) (given r)) y) pair false

-- the instances that old makes are as old leaves them; the others are in the pairs in which new leaves them, with the bindings that
-- new leaves and those to the given providers that their pairs take
pub record IsBeside (u : Universe) (old : List Action) (given : ℕ → List ℕ) (new : List Action) (d : Config) : Type 0 where
  pub old_pairs : (z : ℕ) → IsTrue (is_made old z) → pair_of d z ≡ pair_of (after_all u empty old) z
  pub new_pairs : (z : ℕ) → IsFalse (is_made old z) → pair_of d z ≡ pair_of (after_all u empty new) z
  pub old_bindings : (r z y : ℕ) → IsTrue (is_made old z) → is_bound d r z y ≡ is_bound (after_all u empty old) r z y
  pub new_bindings : (r z y : ℕ) → IsFalse (is_made old z)
      → is_bound d r z y ≡ (is_bound (after_all u empty new) r z y || takes_given u given (pair_of (after_all u empty new) z) r y)
