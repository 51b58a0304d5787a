-- What is wished of what stands, what is to be planned for, and what is made beside it, as they are found one after the other.
--     IsFound u wishes c starts leaving free      these are the roots, what leaves, and what may be bound anew
--     IsGround u wishes c avoids free leaving rows      these leave, none that is to stay or may be bound anew is among them, and the rows are what is given
--     AreAims u wishes c leaving goals left l ts zs      nothing stands in the way, and these are the targets, over this universe with these layers
--     IsGroundOf u wishes c ground, AreAimsOf u wishes c ground goals aims      the same of the values
--     IsMadeBeside u wishes old leaving goals actions plan used next      the actions are those of the plan for the targets, completed, and the rebinds
--     IsList u wishes old goals actions      they are a reconfiguration that can be answered
--     IsBar u wishes c goals bar      it is the first obstacle, or memory ran out
use Rattle.std.specs.Prelude.{◌≡◌, ◌≤◌, ℕ, List, ◌++◌, None, length, ⊤}
use Rattle.std.specs.List.{filter_map, range_with_len}
use Rattle.metis_completion.specs.Terms.{given_in}
use Rattle.metis_ids.specs.Terms.{Plan}
use Rattle.metis_ids.specs.declared.actions.Action.{Action}
use Rattle.metis_ids.specs.declared.goals.Goal.{Goal}
use Rattle.metis_layers.specs.Terms.{IsLayers, Layers}
use Rattle.metis_planner.specs.Terms.{IsPlanFor}
use Rattle.metis_rollout.specs.Terms.{free_number, news_of}
use Rattle.metis_universe.specs.Terms.{Config, Universe, has, port_count}
use Rattle.metis_wishes.specs.Terms.{avoided, rebound}
use Rattle.metis_wishes.specs.declared.wish.Wish.{Wish}
use Rattle.metis_reconfigure.specs.Answerable.{AreMet, IsAnswerable}
use Rattle.metis_reconfigure.specs.Answers.{AreThere, AreWithin, IsObstacle, IsTold, firm_leaving}
use Rattle.metis_reconfigure.specs.Missing.{missing, pair_for, rebound_in, targets}
use Rattle.metis_reconfigure.specs.Reconfiguration.{Reconfiguration, fresh_actions, left_by, rebound_actions, reconfigured}
use Rattle.metis_reconfigure.specs.Settled.{AreLeaving, given, left_to_plan, roots}
use Rattle.metis_reconfigure.specs.declared.aims.Aims.{Aims}
use Rattle.metis_reconfigure.specs.declared.aims.Ground.{Ground}
use Rattle.metis_reconfigure.specs.declared.answer.Bar.{Bar}
use Rattle.metis_reconfigure.specs.declared.answer.Bar.TheVariants.{Obstacle, NoMemory}
use Rattle.metis_reconfigure.specs.declared.answer.Reconfigured.TheVariants.{Barred}

pub record IsFound (u : Universe) (wishes : List Wish) (c : Config) (starts leaving free : List ℕ) : Type 0 where
  pub starts_are : (z : ℕ) → has starts z ≡ has (roots u wishes c) z
  pub leave : AreLeaving u wishes c leaving
  pub free_are : (z : ℕ) → has free z ≡ has (rebound wishes) z

pub record IsGround (u : Universe) (wishes : List Wish) (c : Config) (avoids free leaving : List ℕ) (rows : List (List ℕ)) : Type 0 where
  pub there : AreThere u wishes c leaving
  pub firm : firm_leaving wishes leaving ≡ None
  pub avoids_are : avoids ≡ avoided u wishes
  pub free_are : (z : ℕ) → has free z ≡ has (rebound wishes) z
  pub gives : (r : ℕ) → given_in rows r ≡ given u c leaving r
  pub ports : length rows ≡ port_count u

pub record AreAims (u : Universe) (wishes : List Wish) (c : Config) (leaving : List ℕ) (goals : List Goal) (left : Universe) (l : Layers) (ts zs : List ℕ) : Type 0 where
  pub within : AreWithin u wishes c leaving goals
  pub met : let v = left_to_plan u wishes c leaving in
      AreMet u v c leaving (rebound_in wishes c) (filter_map (pair_for v) (missing u c leaving goals)) (range_with_len 0 (port_count u))
  pub left_is : left ≡ left_to_plan u wishes c leaving
  pub layers : IsLayers left l
  pub targets_are : ts ≡ targets u wishes c leaving goals
  pub few : length ts ≤ 256
  pub free_are : zs ≡ rebound_in wishes c

-- the same of what the code has
abbrev pub IsGroundOf : Universe → List Wish → Config → Ground → Type 0
IsGroundOf u wishes c g = IsGround u wishes c g.avoided.members g.free.keys g.leaving.keys g.given

abbrev pub AreAimsOf : Universe → List Wish → Config → Ground → List Goal → Aims → Type 0
AreAimsOf u wishes c g goals a = AreAims u wishes c g.leaving.keys goals a.left a.layers a.targets.items a.rebound.items

pub record IsMadeBeside (u : Universe) (wishes : List Wish) (old : List Action) (leaving : List ℕ) (goals : List Goal) (actions : List Action) (plan : Plan) (used : List ℕ) (next : ℕ) : Type 0 where
  pub planned : let c = left_by u old in IsPlanFor (left_to_plan u wishes c leaving) (targets u wishes c leaving goals) plan
  pub actions_are : actions ≡ fresh_actions u old leaving plan ++ rebound_actions u wishes old leaving (targets u wishes (left_by u old) leaving goals) plan
  pub used_are : (z : ℕ) → has used z ≡ has (news_of old) z
  pub few : length used ≤ length old
  pub next_is : next ≡ free_number used (length (news_of plan.actions))

abbrev pub IsBar : Universe → List Wish → Config → List Goal → Bar → Type 0
IsBar u wishes c goals (Obstacle why) = IsObstacle u wishes c goals why × IsTold u goals (Barred why)
IsBar u wishes c goals NoMemory = ⊤

abbrev pub IsList : Universe → List Wish → List Action → List Goal → List Action → Type 0
IsList u wishes old goals actions = (r : Reconfiguration u wishes old goals) × IsAnswerable u wishes old goals r.leaving × (actions ≡ reconfigured r)
