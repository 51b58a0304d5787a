-- The row of a command: its name, what it reads, and how many words of each kind it has.
--     verb_named word      the verb of this name
--     Reading      what a command reads of its file words
--     reading verb, file_count verb, target_limit verb      what the command reads, and so exactly so many file words and at most so many target words
use Rattle.std.specs.Prelude.{ℕ, ◌+◌, List, [], ◌∷◌, length, Option, Some, None, if◌then◌else◌, codes}
use Rattle.std.specs.Str.{bytes_eq}
use Rattle.metis_words.specs.declared.words.Verb.{Verb}
use Rattle.metis_words.specs.declared.words.Verb.TheVariants.{Plan, Replay, Refute, Audit, Sim, Crew, Waves, Waits, Control, Rollout, Reconfigure, Place, Print, Load, Why, Confirm}

-- What a file behind the universe holds: a plan, a refusal, an explanation, the script of a session or for a controller, the turns of a
-- crew, hosts and sizes, or wishes.
pub data TextKind : Type 0 where
  PlanText : TextKind
  RefusalText : TextKind
  WhyText : TextKind
  ScriptText : TextKind
  TurnsText : TextKind
  HostsText : TextKind
  WishesText : TextKind

-- No file; or a universe, and then a text of each of these kinds; or a universe in which the targets are goals, and then such texts.
pub data Reading : Type 0 where
  NoFile : Reading
  OfUniverse : (texts : List TextKind) → Reading
  OfGoals : (texts : List TextKind) → Reading

abbrev pub verb_named : List ℕ → Option Verb
verb_named word =
    if bytes_eq word (codes "plan") then Some Plan
    else if bytes_eq word (codes "replay") then Some Replay
    else if bytes_eq word (codes "refute") then Some Refute
    else if bytes_eq word (codes "audit") then Some Audit
    else if bytes_eq word (codes "sim") then Some Sim
    else if bytes_eq word (codes "crew") then Some Crew
    else if bytes_eq word (codes "waves") then Some Waves
    else if bytes_eq word (codes "waits") then Some Waits
    else if bytes_eq word (codes "control") then Some Control
    else if bytes_eq word (codes "rollout") then Some Rollout
    else if bytes_eq word (codes "reconfigure") then Some Reconfigure
    else if bytes_eq word (codes "place") then Some Place
    else if bytes_eq word (codes "print") then Some Print
    else if bytes_eq word (codes "load") then Some Load
    else if bytes_eq word (codes "why") then Some Why
    else if bytes_eq word (codes "confirm") then Some Confirm
    else None

abbrev pub reading : Verb → Reading
reading Plan = OfGoals []
reading Replay = OfGoals (PlanText ∷ [])
reading Refute = OfGoals (RefusalText ∷ [])
reading Audit = OfGoals (PlanText ∷ [])
reading Sim = OfUniverse (ScriptText ∷ [])
reading Crew = OfUniverse (PlanText ∷ TurnsText ∷ [])
reading Waves = OfUniverse (PlanText ∷ [])
reading Waits = OfUniverse (PlanText ∷ [])
reading Control = OfUniverse (PlanText ∷ ScriptText ∷ [])
reading Rollout = OfGoals (PlanText ∷ [])
reading Reconfigure = OfGoals (PlanText ∷ WishesText ∷ [])
reading Place = OfUniverse (PlanText ∷ HostsText ∷ [])
reading Print = OfUniverse []
reading Load = NoFile
reading Why = OfGoals []
reading Confirm = OfGoals (WhyText ∷ [])

-- a file for the universe, and one for each text
abbrev pub files_of : Reading → ℕ
files_of NoFile = 0
files_of (OfUniverse texts) = length texts + 1
files_of (OfGoals texts) = length texts + 1

-- exactly so many file words
abbrev pub file_count : Verb → ℕ
file_count verb = files_of (reading verb)

-- at most 256 targets, where they are goals
abbrev pub targets_of : Reading → ℕ
targets_of NoFile = 0
targets_of (OfUniverse texts) = 0
targets_of (OfGoals texts) = 256

-- at most so many target words
abbrev pub target_limit : Verb → ℕ
target_limit verb = targets_of (reading verb)

-- a size from this number on, if it has one; and else 0
abbrev pub least_size : Verb → ℕ
least_size Load = 1
least_size _ = 0

-- and up to this one
abbrev pub size_limit : Verb → ℕ
size_limit Load = 128
size_limit _ = 0

-- exactly so many numbers
abbrev pub number_count : Verb → ℕ
number_count Waves = 5
number_count _ = 0
