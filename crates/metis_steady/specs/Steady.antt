-- What is said of a read plan as a run: what it leaves, and where it is no steadfast run.
--     bad_line k fault, loose_line k      action k cannot be done, and why;  action k is not steadfast
--     standing_after u actions      how many instances stand after the actions
--     HasBadAction u actions lines status      the one line is that of the first action that cannot be done from the empty configuration on
--     HasLooseAction u actions lines status      the actions are a run, and the one line is that of the first one that is not steadfast
--     IsUnsteady u actions why      this is the first that cannot be done, or else the first that is not steadfast
--     IsSteady u actions judged      the actions are a steadfast run and wait for these, or are not, and this is why
--     IsUnsteadyIn u why, TellsUnsteady u why lines      what it names is the universe's;  the one line says so
use Rattle.std.specs.Prelude.{◌≡◌, ℕ, List, [], ◌∷◌, ◌++◌, length, codes, decimal, Result, Ok, Err}
use Rattle.metis_actions.specs.Terms.{IsFaultOf, fault_text}
use Rattle.metis_actions.specs.declared.faults.AFault.{AFault}
use Rattle.metis_ids.specs.declared.actions.Action.{Action}
use Rattle.metis_output.specs.declared.status.Status.{Status}
use Rattle.metis_output.specs.declared.status.Status.TheVariants.{No}
use Rattle.metis_replay.specs.Terms.{IsFirstBad}
use Rattle.metis_universe.specs.Terms.{IsRun, IsSteadfastRun, Universe, after_all, empty}
use Rattle.metis_waits.specs.Terms.{AreWaits, IsFirstLoose, WaitLists}
use Rattle.metis_steady.specs.declared.steady.Unsteady.{Unsteady}
use Rattle.metis_steady.specs.declared.steady.Unsteady.TheVariants.{Bad, Loose}
use Rattle.metis_steady.specs.declared.steady.Unsteady.TheVariants as unsteady

abbrev pub bad_line : ℕ → List ℕ → List ℕ
bad_line k fault = codes "bad " ++ (decimal k ++ (codes " " ++ (fault ++ codes "\n")))

abbrev pub loose_line : ℕ → List ℕ
loose_line k = codes "loose " ++ (decimal k ++ codes "\n")

-- how many instances stand after the actions
abbrev pub standing_after : Universe → List Action → ℕ
standing_after u actions = length (after_all u empty actions).instances

pub record HasBadAction (u : Universe) (actions : List Action) (lines : List (List ℕ)) (status : Status) : Type 0 where
  pub number : ℕ
  pub fault : AFault
  pub first : IsFirstBad u actions number fault
  pub told : lines ≡ bad_line number (fault_text u fault) ∷ []
  pub is : status ≡ No

pub record HasLooseAction (u : Universe) (actions : List Action) (lines : List (List ℕ)) (status : Status) : Type 0 where
  pub runs : IsRun u empty actions
  pub number : ℕ
  pub first : IsFirstLoose u actions number
  pub told : lines ≡ loose_line number ∷ []
  pub is : status ≡ No

-- out of memory nothing is said
abbrev pub IsUnsteady : Universe → List Action → Unsteady → Type 0
IsUnsteady u actions (Bad k f) = IsFirstBad u actions k f × IsFaultOf u f
IsUnsteady u actions (Loose k) = IsRun u empty actions × IsFirstLoose u actions k
IsUnsteady u actions unsteady.NoMemory = Unit {0}

abbrev pub IsSteady : Universe → List Action → Result WaitLists Unsteady → Type 0
IsSteady u actions (Ok w) = IsSteadfastRun u actions × AreWaits actions w
IsSteady u actions (Err why) = IsUnsteady u actions why

abbrev pub IsUnsteadyIn : Universe → Unsteady → Type 0
IsUnsteadyIn u (Bad k f) = IsFaultOf u f
IsUnsteadyIn u (Loose k) = Unit {0}
IsUnsteadyIn u unsteady.NoMemory = Unit {0}

-- out of memory there is no line
abbrev pub TellsUnsteady : Universe → Unsteady → List (List ℕ) → Type 0
TellsUnsteady u (Bad k f) lines = lines ≡ bad_line k (fault_text u f) ∷ []
TellsUnsteady u (Loose k) lines = lines ≡ loose_line k ∷ []
TellsUnsteady u unsteady.NoMemory lines = ⊥
