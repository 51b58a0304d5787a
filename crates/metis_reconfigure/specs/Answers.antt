-- What wishes and goals come to.
--     passing test o      the instance, if there is one and it passes
--     absent wishes c      the first named instance that does not stand
--     firm_leaving wishes leaving      the first named instance that leaves, though it is to stay or may be bound anew
--     first_unavoidable u wishes c leaving goals      the first missing goal that is an avoided pair, or is not attained over what is left to plan
--     IsLeastRoot u wishes c z y      y is the least root among z and those on which it stands, and these stand, where none is looked behind that may be bound anew
--     IsTold u goals answer      the actions are few and have the universe's numbers, a goal is one of these, and a port is the universe's
--     IsReconfigured u wishes old goals answer      the answer is a reconfiguration that can be answered, or the first obstacle to it
use Rattle.std.specs.Prelude.{◌≡◌, ◌<◌, ◌≤◌, ℕ, ◌-◌, ◌^◌, Bool, ◌&&◌, List, [], ◌∷◌, Option, Some, None, IsTrue, length, ⊤, if◌then◌else◌}
use Rattle.std.specs.List.{All, Contains, filter_map, find, range_with_len}
use Rattle.metis_ids.specs.declared.actions.Action.{Action}
use Rattle.metis_ids.specs.declared.goals.Goal.{Goal}
use Rattle.metis_universe.specs.Terms.{Config, IsOf, Universe, has, port_count}
use Rattle.metis_wishes.specs.Terms.{named, rebound}
use Rattle.metis_wishes.specs.declared.wish.Wish.{Wish}
use Rattle.metis_reconfigure.specs.Answerable.{AreMet, IsAnswerable, is_absent, is_firm, is_unavoidable}
use Rattle.metis_reconfigure.specs.Missing.{missing, pair_for, rebound_in, targets}
use Rattle.metis_reconfigure.specs.Reached.{IsReached}
use Rattle.metis_reconfigure.specs.Reconfiguration.{Reconfiguration, left_by, reconfigured}
use Rattle.metis_reconfigure.specs.Settled.{AreLeaving, is_root, leads_up, left_to_plan}
use Rattle.metis_reconfigure.specs.Targeted.{IsUnmet}
use Rattle.metis_reconfigure.specs.declared.answer.Obstacle.{Obstacle}
use Rattle.metis_reconfigure.specs.declared.answer.Obstacle.TheVariants.{Absent, Kept, Unavoidable, Unmet, Needs}
use Rattle.metis_reconfigure.specs.declared.answer.Reconfigured.{Reconfigured}
use Rattle.metis_reconfigure.specs.declared.answer.Reconfigured.TheVariants.{Actions, Barred}

-- the instance, if there is one and it passes
abbrev pub passing : (ℕ → Bool) → Option ℕ → Option ℕ
passing test None = None
passing test (Some z) = if test z then Some z else None

abbrev pub absent : List Wish → Config → Option ℕ
absent wishes c = find (is_absent c) (named wishes)

abbrev pub firm_leaving : List Wish → List ℕ → Option ℕ
firm_leaving wishes leaving = find (λ z. is_firm wishes z && has leaving z) (named wishes)

abbrev pub first_unavoidable : Universe → List Wish → Config → List ℕ → List Goal → Option Goal
first_unavoidable u wishes c leaving goals = find (is_unavoidable u wishes (left_to_plan u wishes c leaving)) (missing u c leaving goals)

pub record IsLeastRoot (u : Universe) (wishes : List Wish) (c : Config) (z y : ℕ) : Type 0 where
  pub root : IsTrue (is_root u wishes c y)
  pub under : IsReached (z ∷ []) (leads_up u c (rebound wishes)) y
  pub least : (x : ℕ) → IsReached (z ∷ []) (leads_up u c (rebound wishes)) x → IsTrue (is_root u wishes c x) → y ≤ x

-- each named instance stands, and these leave
pub record AreThere (u : Universe) (wishes : List Wish) (c : Config) (leaving : List ℕ) : Type 0 where
  pub present : absent wishes c ≡ None
  pub leave : AreLeaving u wishes c leaving

-- besides, none that is to stay or may be bound anew leaves, and no missing goal is unavoidable
pub record AreWithin (u : Universe) (wishes : List Wish) (c : Config) (leaving : List ℕ) (goals : List Goal) : Type 0 where
  pub there : AreThere u wishes c leaving
  pub firm : firm_leaving wishes leaving ≡ None
  pub avoidable : first_unavoidable u wishes c leaving goals ≡ None

-- the first of these that stands in the way
abbrev pub IsObstacle : Universe → List Wish → Config → List Goal → Obstacle → Type 0
IsObstacle u wishes c goals (Absent z) = absent wishes c ≡ Some z
IsObstacle u wishes c goals (Kept z y) =
    (leaving : List ℕ) × AreThere u wishes c leaving × (firm_leaving wishes leaving ≡ Some z) × IsLeastRoot u wishes c z y
IsObstacle u wishes c goals (Unavoidable g) =
    (leaving : List ℕ) × AreThere u wishes c leaving × (firm_leaving wishes leaving ≡ None) × (first_unavoidable u wishes c leaving goals ≡ Some g)
IsObstacle u wishes c goals (Unmet z r) =
    (leaving : List ℕ) × AreWithin u wishes c leaving goals × (let v = left_to_plan u wishes c leaving in
    IsUnmet u v c leaving (rebound_in wishes c) (filter_map (pair_for v) (missing u c leaving goals)) z r)
IsObstacle u wishes c goals (Needs n) =
    (leaving : List ℕ) × AreWithin u wishes c leaving goals × (let v = left_to_plan u wishes c leaving in
    AreMet u v c leaving (rebound_in wishes c) (filter_map (pair_for v) (missing u c leaving goals)) (range_with_len 0 (port_count u)))
    × (n ≡ length (targets u wishes c leaving goals)) × (256 < n)

abbrev pub IsReconfigured : Universe → List Wish → List Action → List Goal → Reconfigured → Type 0
IsReconfigured u wishes old goals (Actions xs) =
    (r : Reconfiguration u wishes old goals) × IsAnswerable u wishes old goals r.leaving × (xs.items ≡ reconfigured r)
IsReconfigured u wishes old goals (Barred why) = IsObstacle u wishes (left_by u old) goals why

abbrev pub IsTold : Universe → List Goal → Reconfigured → Type 0
IsTold u goals (Actions xs) = All (IsOf u) xs.items × (length xs.items < 2 ^ 32 - 1)
IsTold u goals (Barred (Absent z)) = ⊤
IsTold u goals (Barred (Kept z y)) = ⊤
IsTold u goals (Barred (Unavoidable g)) = Contains goals g
IsTold u goals (Barred (Unmet z r)) = r < port_count u
IsTold u goals (Barred (Needs n)) = ⊤
