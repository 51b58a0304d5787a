-- A session: what it answers to each line of a script, and what it keeps.
--     Session      the universe, the configuration, the earlier ones of which the last is the first of the list, and whether `quit` was read
--     begin u      a new one
--     told wrong, answer s line      what is said of a line without an action;  the reply to a line, and the session after it
--     after_line s line, after_lines s lines      that session;  the one after a list of lines
--     reply s line, replies s lines      that reply;  those to a list of lines
--     IsSound u c xs      c, and the earlier configurations that the changes xs give, the last first, are correct, and their numbers
--                         the universe's; and each of the changes can be undone
--     changes r      the replies with which a session changes
--     takes_none s line      whether no memory is taken
use Rattle.std.specs.Prelude.{ℕ, Bool, true, false, ◌||◌, List, [], ◌∷◌, codes, Option, Some, None, Result, Ok, Err, if◌then◌else◌}
use Rattle.std.specs.List.{AllByRecursion}
use Rattle.std.specs.Str.{bytes_eq}
use Rattle.metis_ids.specs.declared.actions.Action.{Action}
use Rattle.metis_universe.specs.Terms.{Config, Universe, after, empty}
use Rattle.metis_tokens.specs.Terms.{tokens}
use Rattle.metis_actions.specs.Terms.{fault_of}
use Rattle.metis_actions.specs.declared.faults.AFault.{AFault}
use Rattle.metis_sim.specs.Changes.{AreUndoable, IsFit, befores}
use Rattle.metis_sim.specs.Checks.{check_reply}
use Rattle.metis_sim.specs.Orders.{action_in}
use Rattle.metis_actions.specs.declared.faults.AFault.TheVariants.{NoInstance}
use Rattle.metis_sim.specs.declared.change.Change.{Change}
use Rattle.metis_sim.specs.declared.misread.Misread.{Misread}
use Rattle.metis_sim.specs.declared.misread.Misread.TheVariants.{Absent, Form, Name}
use Rattle.metis_sim.specs.declared.reply.Reply.{Reply}
use Rattle.metis_sim.specs.declared.reply.Reply.TheVariants.{BadLine, Bye, Did, Ended, Nothing, Refused, Show, Undone, Unknown}

pub record Session : Type 0 where
  pub universe : Universe
  pub config : Config
  pub earlier : List Config
  pub ended : Bool

abbrev pub session_of : Universe → Config → List Config → Bool → Session
session_of u c earlier ended = record { universe = u; config = c; earlier = earlier; ended = ended }

abbrev pub begin : Universe → Session
begin u = session_of u empty [] false

pub record IsSound (u : Universe) (c : Config) (xs : List Change) : Type 0 where
  pub config : IsFit u c
  pub earlier : AllByRecursion (IsFit u) (befores c xs)
  pub undoable : AreUndoable c xs

-- a reply, and the session after it
abbrev pub Answer : Type 0
Answer = Reply × Session

-- an action that has a fault is refused; one that has none is done, and the configuration before it is kept
abbrev pub done_by : Session → Action → Option AFault → Answer
done_by s a (Some f) = (Refused f, s)
done_by s a None = (Did, session_of s.universe (after s.universe s.config a) (s.config ∷ s.earlier) s.ended)

abbrev pub done : Session → Action → Answer
done s a = done_by s a (fault_of s.universe s.config a)

-- what a line without an action is told
abbrev pub told : Misread → Reply
told Form = BadLine
told Name = Unknown
told (Absent z) = Refused (NoInstance z)

-- does the action that was read, or tells why none was
abbrev pub acted : Session → Result Action Misread → Answer
acted s (Err wrong) = (told wrong, s)
acted s (Ok a) = done s a

-- the last configuration that is kept is the configuration again
abbrev pub undone_by : Session → List Config → Answer
undone_by s [] = (Nothing, s)
undone_by s (c ∷ earlier) = (Undone, session_of s.universe c earlier s.ended)

abbrev pub undone : Session → Answer
undone s = undone_by s s.earlier

abbrev pub answer_to_words : Session → List (List ℕ) → Answer
answer_to_words s [] = (BadLine, s)
answer_to_words s (verb ∷ words) =
    if bytes_eq verb (codes "check") then (check_reply s.universe s.config words, s)
    else acted s (action_in s.universe s.config verb words)

abbrev pub answer_to_line : Session → List ℕ → Answer
answer_to_line s line =
    if bytes_eq line (codes "undo") then undone s
    else if bytes_eq line (codes "quit") then (Bye, session_of s.universe s.config s.earlier true)
    else if bytes_eq line (codes "show") then (Show, s)
    else answer_to_words s (tokens line)

abbrev pub answer : Session → List ℕ → Answer
answer s line = if s.ended then (Ended, s) else answer_to_line s line

abbrev pub reply : Session → List ℕ → Reply
reply s line = (answer s line).0

abbrev pub after_line : Session → List ℕ → Session
after_line s line = (answer s line).1

abbrev pub after_lines : Session → List (List ℕ) → Session
after_lines s [] = s
after_lines s (line ∷ lines) = after_lines (after_line s line) lines

abbrev pub replies : Session → List (List ℕ) → List Reply
replies s [] = []
replies s (line ∷ lines) = reply s line ∷ replies (after_line s line) lines

abbrev pub changes : Reply → Bool
changes Did = true
changes Undone = true
changes Bye = true
changes _ = false

-- a session that has ended, and `undo` and `quit`, take no memory
abbrev pub takes_none : Session → List ℕ → Bool
takes_none s line = s.ended || bytes_eq line (codes "undo") || bytes_eq line (codes "quit")
