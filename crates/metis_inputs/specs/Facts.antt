-- What is known of a text that was read over a universe.
--     IsPlanFor u t      the text is well formed, and a plan has fewer actions than bytes are accepted
--     IsRefusalFor u refusal      its set is one of the universe's pairs
--     IsWhyFor u why      each line's pair and port are the universe's
--     AreHostsFor u h      there are as few hosts as lines, and each type has a size
-- And that there is one proof of each at most, and of what is known of goals.
use Rattle.std.specs.Prelude.{◌≡◌, ◌≤◌, ◌<◌, ◌^◌, ℕ, List, length}
use Rattle.std.specs.Coded.{×_prop, Unit-prop, le_prop}
use Rattle.std.specs.List.{All}
use Rattle.std.proofs.Props.{props}
use Rattle.metis_ids.specs.Terms.{Plan}
use Rattle.metis_ids.specs.declared.actions.Action.{Action}
use Rattle.metis_ids.specs.declared.actions.Action.TheVariants.{New, Delete, Bind, Unbind, Move}
use Rattle.metis_ids.specs.declared.events.Event.{Event}
use Rattle.metis_ids.specs.declared.events.Event.TheVariants.{At, End}
use Rattle.metis_ids.specs.declared.goals.Goal.{Goal}
use Rattle.metis_ids.specs.declared.goals.Goal.TheVariants.{Pair, Port}
use Rattle.metis_place.specs.Terms.{HostLists}
use Rattle.metis_text.specs.Terms.{IsEventInRange, IsWellFormed, lists_of}
use Rattle.metis_text.specs.declared.plan_text.PlanText.{PlanText}
use Rattle.metis_text.specs.declared.refusal_text.Refusal.{Refusal}
use Rattle.metis_universe.specs.Terms.{IsGoalOf, IsOf, IsWordable, NamesBelow, Universe, pair_count, type_count}
use Rattle.metis_why.specs.Terms.{IsLineOf, IsNameable}
use Rattle.metis_why.specs.declared.reason.Explanation.{Explanation}
use Rattle.metis_why.specs.declared.reason.Reason.{Reason}
use Rattle.metis_why.specs.declared.reason.Reason.TheVariants.{Needs, Comes}
use Rattle.metis_inputs.specs.Commands.{plan_limit}

pub record IsPlanFor (u : Universe) (t : PlanText) : Type 0 where
  pub formed : IsWellFormed u t.plan (lists_of t)
  pub few : length t.plan.actions < plan_limit

abbrev pub IsRefusalFor : Universe → Refusal → Type 0
IsRefusalFor u refusal = refusal.pairs.size ≡ pair_count u

pub record IsWhyFor (u : Universe) (why : Explanation) : Type 0 where
  pub lines : All (IsLineOf u) why.lines.items
  pub few : length why.lines.items < 2 ^ 32

pub record AreHostsFor (u : Universe) (h : HostLists) : Type 0 where
  pub few : length h.hosts ≤ 65536
  pub sizes : length h.sizes ≡ type_count u

-- ---- one proof at most

IsOf-prop : (u : Universe) (a : Action) → IsProp (IsOf u a)
IsOf-prop u (New z t) = le_prop
IsOf-prop u (Delete z) = Unit-prop
IsOf-prop u (Bind r z y) = le_prop
IsOf-prop u (Unbind r z y) = le_prop
IsOf-prop u (Move z p q) = ×_prop le_prop le_prop

NamesBelow-prop : (n : ℕ) (a : Action) → IsProp (NamesBelow n a)
NamesBelow-prop n (New z t) = le_prop
NamesBelow-prop n (Delete z) = le_prop
NamesBelow-prop n (Bind r z y) = ×_prop le_prop le_prop
NamesBelow-prop n (Unbind r z y) = ×_prop le_prop le_prop
NamesBelow-prop n (Move z p q) = le_prop

IsEventInRange-prop : (e : Event) → IsProp (IsEventInRange e)
IsEventInRange-prop (At l s) = ×_prop le_prop le_prop
IsEventInRange-prop End = Unit-prop

IsWellFormed-prop : (u : Universe) (p : Plan) (after : List (List ℕ)) → IsProp (IsWellFormed u p after)
IsWellFormed-prop u p after = hlevel (IsOf-prop, NamesBelow-prop, IsEventInRange-prop, props)

pub IsPlanFor-prop : (u : Universe) (t : PlanText) → IsProp (IsPlanFor u t)
IsPlanFor-prop u t = hlevel (IsWellFormed-prop, le_prop)

pub IsRefusalFor-prop : (u : Universe) (refusal : Refusal) → IsProp (IsRefusalFor u refusal)
IsRefusalFor-prop u refusal = hlevel props

IsGoalOf-prop : (u : Universe) (g : Goal) → IsProp (IsGoalOf u g)
IsGoalOf-prop u (Pair p) = le_prop
IsGoalOf-prop u (Port r) = le_prop

pub AreGoalsOf-prop : (u : Universe) (goals : List Goal) → IsProp (All (IsGoalOf u) goals)
AreGoalsOf-prop u goals = hlevel (IsGoalOf-prop)

IsWordable-prop : (u : Universe) (g : Goal) → IsProp (IsWordable u g)
IsWordable-prop u (Pair p) = le_prop
IsWordable-prop u (Port r) = hlevel props

pub AreWordable-prop : (u : Universe) (goals : List Goal) → IsProp (All (IsWordable u) goals)
AreWordable-prop u goals = hlevel (IsWordable-prop)

IsNameable-prop : (u : Universe) (reason : Reason) → IsProp (IsNameable u reason)
IsNameable-prop u (Needs r) = le_prop
IsNameable-prop u Comes = Unit-prop

pub IsWhyFor-prop : (u : Universe) (why : Explanation) → IsProp (IsWhyFor u why)
IsWhyFor-prop u why = hlevel (IsNameable-prop, le_prop)

pub AreHostsFor-prop : (u : Universe) (h : HostLists) → IsProp (AreHostsFor u h)
AreHostsFor-prop u h = hlevel props
