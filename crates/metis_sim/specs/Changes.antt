-- What an action changed, by which the configuration before it is found again.
--     IsChangeOf c a x      x is what the action a, done in c, changes;  takes_away a, whether only a copy can give back what was before it
--     AreOf c b      the bindings are those of the configuration
--     before c x, befores c xs      the configuration before the change x, where c is the one after it;  all the earlier ones, the
--                                   last first, where xs are the changes that led to c, the last first
--     IsUndoable c x, AreUndoable c xs      what the change needs of the configuration after it;  what these changes need
--     IsFit u c      the configuration is correct, and its numbers are the universe's
use Rattle.std.specs.Prelude.{◌≡◌, Bool, true, false, List, [], ◌∷◌, IsTrue, IsSome, ⊤}
use Rattle.metis_ids.specs.declared.actions.Action.{Action}
use Rattle.metis_ids.specs.declared.actions.Action.TheVariants.{New, Delete, Bind, Unbind, Move}
use Rattle.metis_universe.specs.Terms.{Config, Correct, Universe, config_of, is_bound, pair_of, put, remove, untie}
use Rattle.metis_config.specs.Terms.{AreOver, Bindings, IsOver}
use Rattle.metis_sim.specs.declared.change.Change.{Change}
use Rattle.metis_sim.specs.declared.change.Change.TheVariants.{Made, Bound, Moved, Untied, Before}

pub record AreOf (c : Config) (b : Bindings) : Type 0 where
  pub same : b.ties ≡ c.bindings
  pub over : AreOver c.instances b

abbrev KeepsBindings : Config → Change → Type 0
KeepsBindings c (Untied b) = AreOf c b
KeepsBindings c _ = ⊥

abbrev pub IsChangeOf : Config → Action → Change → Type 0
IsChangeOf c (New z t) x = x ≡ Made z
IsChangeOf c (Delete z) x = x ≡ Before c
IsChangeOf c (Bind r z y) x = x ≡ Bound r z y
IsChangeOf c (Unbind r z y) x = KeepsBindings c x
IsChangeOf c (Move z p q) x = x ≡ Moved z p

abbrev pub takes_away : Action → Bool
takes_away (Delete z) = true
takes_away (Unbind r z y) = true
takes_away _ = false

abbrev pub before : Config → Change → Config
before c (Made z) = remove c z
before c (Bound r z y) = untie c r z y
before c (Moved z p) = put c z p
before c (Untied b) = config_of c.instances b.ties
before c (Before d) = d

abbrev pub befores : Config → List Change → List Config
befores c [] = []
befores c (x ∷ xs) = before c x ∷ befores (before c x) xs

abbrev pub IsUndoable : Config → Change → Type 0
IsUndoable c (Made z) = ⊤
IsUndoable c (Bound r z y) = IsTrue (is_bound c r z y)
IsUndoable c (Moved z p) = IsSome (pair_of c z)
IsUndoable c (Untied b) = AreOver c.instances b
IsUndoable c (Before d) = ⊤

abbrev pub AreUndoable : Config → List Change → Type 0
AreUndoable c [] = ⊤
AreUndoable c (x ∷ xs) = IsUndoable c x × AreUndoable (before c x) xs

pub record IsFit (u : Universe) (c : Config) : Type 0 where
  pub correct : Correct u c
  pub over : IsOver u c
