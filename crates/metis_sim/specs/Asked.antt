-- What a line asks of a session.
--     asked_by read, asked_of_words u c words, asked_in u c line      what is asked by an action that was read, or was not;  by words;  by a line
--     IsAskedOf u a      an action that is asked for has numbers of the universe
--     taken s a      the reply to what is asked, and the session after it
--     forgotten s, unkept w      the session without what it keeps for `undo`;  a reply, and such a session after it
--     is_undo line      the line is `undo`
--     KeepsEnough keeps w v      the two answers are the same, but where nothing need be kept they may keep different things
use Rattle.std.specs.Prelude.{◌≡◌, ℕ, Bool, true, false, List, [], ◌∷◌, codes, Result, Ok, Err, if◌then◌else◌, ⊤}
use Rattle.std.specs.Str.{bytes_eq}
use Rattle.metis_ids.specs.declared.actions.Action.{Action}
use Rattle.metis_universe.specs.Terms.{Config, IsOf, Universe}
use Rattle.metis_tokens.specs.Terms.{tokens}
use Rattle.metis_sim.specs.Checks.{check_reply}
use Rattle.metis_sim.specs.Orders.{action_in}
use Rattle.metis_sim.specs.Session.{Answer, Session, done, session_of, told, undone}
use Rattle.metis_sim.specs.declared.asked.Asked.{Asked}
use Rattle.metis_sim.specs.declared.asked.Asked.TheVariants.{Undo, Quit, Act, Tell}
use Rattle.metis_sim.specs.declared.misread.Misread.{Misread}
use Rattle.metis_sim.specs.declared.reply.Reply.TheVariants.{BadLine, Bye, Show}

abbrev pub asked_by : Result Action Misread → Asked
asked_by (Ok a) = Act a
asked_by (Err wrong) = Tell (told wrong)

abbrev pub asked_of_words : Universe → Config → List (List ℕ) → Asked
asked_of_words u c [] = Tell BadLine
asked_of_words u c (verb ∷ words) = if bytes_eq verb (codes "check") then Tell (check_reply u c words) else asked_by (action_in u c verb words)

abbrev pub asked_in : Universe → Config → List ℕ → Asked
asked_in u c line =
    if bytes_eq line (codes "undo") then Undo
    else if bytes_eq line (codes "quit") then Quit
    else if bytes_eq line (codes "show") then Tell Show
    else asked_of_words u c (tokens line)

abbrev pub IsAskedOf : Universe → Asked → Type 0
IsAskedOf u (Act a) = IsOf u a
IsAskedOf u _ = ⊤

abbrev pub taken : Session → Asked → Answer
taken s Undo = undone s
taken s Quit = (Bye, session_of s.universe s.config s.earlier true)
taken s (Act a) = done s a
taken s (Tell r) = (r, s)

-- ---- a session that is not told to undo

abbrev pub forgotten : Session → Session
forgotten s = session_of s.universe s.config [] s.ended

abbrev pub unkept : Answer → Answer
unkept w = (w.0, forgotten w.1)

abbrev pub is_undo : List ℕ → Bool
is_undo line = bytes_eq line (codes "undo")

abbrev pub KeepsEnough : Bool → Answer → Answer → Type 0
KeepsEnough true w v = w ≡ v
KeepsEnough false w v = unkept w ≡ unkept v
