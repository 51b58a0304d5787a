-- The lines of the replies to a script.
--     replies_to u s lines      the lines of the replies to these lines, one reply after the other, where the session is s before the first one
use Rattle.std.specs.Prelude.{ℕ, List, [], ◌∷◌, ◌++◌}
use Rattle.metis_universe.specs.Terms.{Universe}
use Rattle.metis_sim.specs.Replies.{reply_lines}
use Rattle.metis_sim.specs.Session.{Session, after_line, reply}

-- The reply to a line is told with the configuration that it leaves. Once `quit` was read no reply has a line.
abbrev pub replies_to : Universe → Session → List (List ℕ) → List (List ℕ)
replies_to u s [] = []
replies_to u s (line ∷ lines) = reply_lines u (after_line s line).config (reply s line) ++ replies_to u (after_line s line) lines
