-- What is known of the actions of a plan that was carried out.
--     IsNumbered u old      they have the universe's numbers, instances of 32 bits, and are few
--     IsOld u old left judged      they are a steadfast run of few actions with the universe's numbers; this is what they leave, and they are judged
use Rattle.std.specs.Prelude.{◌≡◌, ◌<◌, ◌^◌, List, length}
use Rattle.std.specs.List.{All}
use Rattle.metis_ids.specs.declared.actions.Action.{Action}
use Rattle.metis_universe.specs.Terms.{Config, IsOf, IsSteadfastRun, NamesBelow, Universe, after_all, empty}
use Rattle.metis_waits.specs.Terms.{IsJudged}
use Rattle.metis_waits.specs.declared.judged.Judged.{Judged}

pub record IsOld (u : Universe) (old : List Action) (left : Config) (judged : Judged) : Type 0 where
  pub steady : IsSteadfastRun u old
  pub numbers : All (IsOf u) old
  pub short : length old < 2 ^ 28
  pub leaves : left ≡ after_all u empty old
  pub waits : IsJudged u old judged

-- as actions that were read have them: the universe's numbers, instances of 32 bits, and fewer than a text has bytes
pub record IsNumbered (u : Universe) (old : List Action) : Type 0 where
  pub numbers : All (IsOf u) old
  pub named : All (NamesBelow (2 ^ 32)) old
  pub short : length old < 2 ^ 28
