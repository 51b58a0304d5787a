-- What stays.
--     holds_up u d leaving      the edges from each instance to those on which it stands, but for leaving ones
--     wished wishes c leaving      the instances that are to stay by their lines, and all settled ones where all that does not leave is to
--     fresh_in c d      the instances of d that are not in c, ascending
--     those_in d zs      those of these that stand in d, ascending
--     StayBegun u wishes c d leaving staying      these, and all on which they stand, but for leaving ones
--     StayFor u c d leaving earlier goals from to      for each goal that too few of them serve, the least settled instance that serves it stays too, with all on which it stands
--     AreStaying u wishes c d leaving goals staying      what stays in the end
use Rattle.std.specs.Prelude.{◌≡◌, ℕ, nat_le, false, ◌&&◌, not, List, [], ◌∷◌, ◌++◌, Option, Some, None, map, if◌then◌else◌}
use Rattle.std.specs.List.{filter, find}
use Rattle.std.specs.Option.{option_map_or}
use Rattle.metis_ids.specs.declared.goals.Goal.{Goal}
use Rattle.metis_universe.specs.Terms.{Config, Universe, has, pair_of, places_of, serves}
use Rattle.metis_rollout.specs.Terms.{is_idle, members}
use Rattle.metis_wishes.specs.Terms.{keeps_all, kept, rebound}
use Rattle.metis_wishes.specs.declared.wish.Wish.{Wish}
use Rattle.metis_reconfigure.specs.Missing.{serving_among}
use Rattle.metis_reconfigure.specs.Reached.{AreReached, Edge}
use Rattle.metis_reconfigure.specs.Settled.{settled}

abbrev pub holds_up : Universe → Config → List ℕ → List Edge
holds_up u d leaving = map (λ b. (b.1, b.2, b.0)) (filter (λ b. not (is_idle u d b) && not (has leaving b.2)) d.bindings)

abbrev pub wished : List Wish → Config → List ℕ → List ℕ
wished wishes c leaving = kept wishes ++ (rebound wishes ++ (if keeps_all wishes then settled c leaving else []))

abbrev pub fresh_in : Config → Config → List ℕ
fresh_in c d = filter (λ z. not (has (members c) z)) (members d)

abbrev pub StayBegun : Universe → List Wish → Config → Config → List ℕ → List ℕ → Type 0
StayBegun u wishes c d leaving staying = AreReached (wished wishes c leaving ++ fresh_in c d) (holds_up u d leaving) staying

-- those of these that stand in d, each once
abbrev pub those_in : Config → List ℕ → List ℕ
those_in d zs = filter (has zs) (members d)

-- the least settled instance that serves the goal and is not among these
abbrev pub next_serving : Universe → Config → List ℕ → List ℕ → Goal → Option ℕ
next_serving u c leaving zs g = find (λ z. option_map_or (λ p. serves u p g) (pair_of c z) false && not (has zs z)) (settled c leaving)

-- it stays too, with all on which it stands
abbrev pub StaysToo : Universe → Config → List ℕ → List ℕ → Option ℕ → List ℕ → Type 0
StaysToo u d leaving from None to = to ≡ from
StaysToo u d leaving from (Some z) to = AreReached (z ∷ from) (holds_up u d leaving) to

abbrev pub StaysForOne : Universe → Config → Config → List ℕ → List Goal → Goal → List ℕ → List ℕ → Type 0
StaysForOne u c d leaving earlier g from to =
    StaysToo u d leaving from (if nat_le (serving_among u d (those_in d from) g) (places_of earlier g) then next_serving u c leaving from g else None) to

abbrev pub StayFor : Universe → Config → Config → List ℕ → List Goal → List Goal → List ℕ → List ℕ → Type 0
StayFor u c d leaving earlier [] from to = to ≡ from
StayFor u c d leaving earlier (g ∷ goals) from to = (next : List ℕ) × StaysForOne u c d leaving earlier g from next × StayFor u c d leaving (earlier ++ g ∷ []) goals next to

pub record AreStaying (u : Universe) (wishes : List Wish) (c d : Config) (leaving : List ℕ) (goals : List Goal) (staying : List ℕ) : Type 0 where
  pub begun : List ℕ
  pub first : StayBegun u wishes c d leaving begun
  pub rest : StayFor u c d leaving [] goals begun staying
