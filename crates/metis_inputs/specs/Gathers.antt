-- What a part of a run reads, and what it comes to.
use Rattle.std.specs.Prelude.{◌≡◌, ◌⊎◌, ℕ, Bool, true, false, List, [], ◌∷◌, Some, None, Result, Ok, Err}
use Rattle.std.specs.declared.option.Option.{Option}
use Rattle.metis_outside.specs.Terms.{IsTaken, Openings, Rose, grown}
use Rattle.metis_outside.specs.declared.whole.ReadAnswer.{ReadAnswer}
use Rattle.metis_outside.specs.declared.whole.ReadAnswer.TheVariants as answer
use Rattle.metis_inputs.specs.declared.stop.InputFault.TheVariants.{TooLong}
use Rattle.metis_inputs.specs.declared.stop.Stop.{Stop}
use Rattle.metis_inputs.specs.declared.stop.Stop.TheVariants as stop
use Rattle.metis_inputs.specs.Script.{Script, Read, Fault, Reply}

-- what is left of the script after these bytes were taken of its files
abbrev pub after : List (List ℕ) → Script → Script
after [] script = script
after (bytes ∷ taken) (Read place name limit next) = after taken (next bytes)
after (bytes ∷ taken) script = script

-- these bytes were taken of the script's first files
abbrev pub AreTaken : Option (List ℕ → List ℕ) → List (List ℕ) → Script → Type 0
AreTaken files [] script = Unit {0}
AreTaken files (bytes ∷ taken) (Read place name limit next) = IsTaken files name limit bytes × AreTaken files taken (next bytes)
AreTaken files (bytes ∷ taken) (Fault why) = ⊥
AreTaken files (bytes ∷ taken) (Reply verb inputs size numbers) = ⊥

-- the name of the file that the script is to read, where it was opened, with whether that or a taking failed
abbrev pub next_named : Option Bool → Script → List (List ℕ × Bool)
next_named None script = []
next_named (Some failed) (Read place name limit next) = (name, failed) ∷ []
next_named (Some failed) (Fault why) = []
next_named (Some failed) (Reply verb inputs size numbers) = []

-- the names of the script's first files, of which these bytes were taken, and behind them that of the next one, where it was opened
abbrev pub named : Option Bool → List (List ℕ) → Script → List (List ℕ × Bool)
named more [] script = next_named more script
named more (bytes ∷ taken) (Read place name limit next) = (name, false) ∷ named more taken (next bytes)
named more (bytes ∷ taken) (Fault why) = []
named more (bytes ∷ taken) (Reply verb inputs size numbers) = []

-- the script is to read the file of the word at this place
abbrev pub IsReadAt : ℕ → Script → Type 0
IsReadAt place (Read at name limit next) = at ≡ place
IsReadAt place (Fault why) = ⊥
IsReadAt place (Reply verb inputs size numbers) = ⊥

abbrev pub IsRead : Script → Type 0
IsRead (Read place name limit next) = Unit {0}
IsRead (Fault why) = ⊥
IsRead (Reply verb inputs size numbers) = ⊥

-- what a part of a run opened: the files of which these bytes were taken, and perhaps the next one
abbrev pub Opened : {X : Type 0} → ((X → Script) → Script) → List (List ℕ) → Openings → Openings → Option Bool → Type 0
Opened {X} part taken opens opens' more = (next : X → Script) → opens' ≡ grown opens (named more taken (part next))

-- Where a part of a run came to that reads some files: it has what they mean, or it stops the run.
abbrev pub Came : {X Y : Type 0} → (Y → X) → ((X → Script) → Script) → List (List ℕ) → ℕ → ℕ → Openings → Openings → Result Y Stop → Type 0
Came {X} view part taken faults faults' opens opens' (Ok y) =
    ((next : X → Script) → after taken (part next) ≡ next (view y)) × (faults' ≡ faults) × Opened part taken opens opens' None
Came {X} view part taken faults faults' opens opens' (Err (stop.Faulty why)) =
    ((next : X → Script) → after taken (part next) ≡ Fault why) × (faults' ≡ faults) × Opened part taken opens opens' None
Came {X} view part taken faults faults' opens opens' (Err (stop.Failed place)) =
    ((next : X → Script) → IsReadAt place (after taken (part next))) × Rose faults faults' × Opened part taken opens opens' (Some true)
Came {X} view part taken faults faults' opens opens' (Err stop.NoMemory) =
    (faults' ≡ faults)
    × (Opened part taken opens opens' None ⊎ (((next : X → Script) → IsRead (after taken (part next))) × Opened part taken opens opens' (Some false)))

-- A part of a run: from what its files mean, seen by view, the rest of the script goes on.
pub record Gathers {S X Y : Type 0} (files_of : S → Option (List ℕ → List ℕ)) (shelf_faults : S → ℕ) (opens : S → Openings)
    (view : Y → X) (part : (X → Script) → Script) (shelf shelf' : S) (result : Result Y Stop) : Type 0 where
  pub taken : List (List ℕ)
  pub asked : (next : X → Script) → AreTaken (files_of shelf) taken (part next)
  pub files : files_of shelf' ≡ files_of shelf
  pub came : Came view part taken (shelf_faults shelf) (shelf_faults shelf') (opens shelf) (opens shelf') result

-- What a part of a run makes of what it has, with no file: it goes on, or it stops the run.
abbrev pub Judges : {X Y : Type 0} → (Y → X) → ((X → Script) → Script) → Result Y Stop → Type 0
Judges {X} view part (Ok y) = (next : X → Script) → part next ≡ next (view y)
Judges {X} view part (Err (stop.Faulty why)) = (next : X → Script) → part next ≡ Fault why
Judges view part (Err (stop.Failed place)) = ⊥
Judges view part (Err stop.NoMemory) = Unit {0}

-- what a reading gives, or why it stops the run
abbrev pub or_stop : {T : Type 0} → Result T ReadAnswer → ℕ → Result T Stop
or_stop (Ok v) place = Ok v
or_stop (Err answer.Failed) place = Err (stop.Failed place)
or_stop (Err (answer.TooLong count)) place = Err (stop.Faulty (TooLong place))
or_stop (Err answer.NoMemory) place = Err stop.NoMemory
