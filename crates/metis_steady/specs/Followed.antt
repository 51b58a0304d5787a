-- What is said of actions that are followed from the empty configuration on.
--     IsFollowed u actions followed      they are a run and leave this, or this is the first that cannot be done and why
use Rattle.std.specs.Prelude.{◌≡◌, List}
use Rattle.metis_actions.specs.Terms.{IsFaultOf}
use Rattle.metis_ids.specs.declared.actions.Action.{Action}
use Rattle.metis_replay.specs.Terms.{IsFirstBad}
use Rattle.metis_universe.specs.Terms.{IsRun, Universe, after_all, empty}
use Rattle.metis_steady.specs.declared.steady.Followed.{Followed}
use Rattle.metis_steady.specs.declared.steady.Followed.TheVariants.{Left, Bad}

abbrev pub IsFollowed : Universe → List Action → Followed → Type 0
IsFollowed u actions (Left c) = IsRun u empty actions × (c ≡ after_all u empty actions)
IsFollowed u actions (Bad k f) = IsFirstBad u actions k f × IsFaultOf u f
