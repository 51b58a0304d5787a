-- The texts of replies.
--     IsReplyOf u r      a reply that has a text, and whose numbers are the universe's
--     reply_lines u c r      its lines, where c is the session's configuration
--     HasLine u r, line_left u r      a reply that has one line, if there is a reply;  its line
use Rattle.std.specs.Prelude.{◌≢◌, ℕ, List, [], ◌∷◌, ◌++◌, length, map, codes, decimal, Option, None, Some, ⊤}
use Rattle.metis_universe.specs.Terms.{Binding, Config, IsGoalOf, Universe, empty, goal_word, pair_word, port_name_of}
use Rattle.metis_tokens.specs.Terms.{missing_line}
use Rattle.metis_actions.specs.Terms.{IsFaultOf, fault_text}
use Rattle.metis_sim.specs.declared.reply.Reply.{Reply}
use Rattle.metis_sim.specs.declared.reply.Reply.TheVariants.{BadLine, Bye, Did, Ended, Holds, Missing, NoMemory, Nothing, Refused, Show, Undone, Unknown}

abbrev pub IsReplyOf : Universe → Reply → Type 0
IsReplyOf u (Refused f) = IsFaultOf u f
IsReplyOf u (Missing g have want) = IsGoalOf u g
IsReplyOf u Ended = ⊥
IsReplyOf u NoMemory = ⊥
IsReplyOf u _ = ⊤

abbrev pub counts_line : Config → List ℕ
counts_line c = codes "instances " ++ (decimal (length c.instances) ++ (codes " bindings " ++ (decimal (length c.bindings) ++ codes "\n")))

-- an instance with its pair
abbrev pub instance_line : Universe → ℕ × ℕ → List ℕ
instance_line u e = decimal e.0 ++ (codes " " ++ (pair_word u e.1 ++ codes "\n"))

-- a port, its requirer and its provider
abbrev pub binding_line : Universe → Binding → List ℕ
binding_line u b = port_name_of u b.0 ++ (codes " " ++ (decimal b.1 ++ (codes " " ++ (decimal b.2 ++ codes "\n"))))

-- each instance, and then each binding
abbrev pub part_lines : Universe → Config → List (List ℕ)
part_lines u c = map (instance_line u) c.instances ++ map (binding_line u) c.bindings

abbrev pub show_lines : Universe → Config → List (List ℕ)
show_lines u c = counts_line c ∷ part_lines u c

abbrev pub refused_line : List ℕ → List ℕ
refused_line fault = codes "refused " ++ (fault ++ codes "\n")

abbrev pub reply_lines : Universe → Config → Reply → List (List ℕ)
reply_lines u c Did = codes "ok\n" ∷ []
reply_lines u c (Refused f) = refused_line (fault_text u f) ∷ []
reply_lines u c Show = show_lines u c
reply_lines u c Undone = codes "undone\n" ∷ []
reply_lines u c Nothing = codes "nothing\n" ∷ []
reply_lines u c Holds = codes "holds\n" ∷ []
reply_lines u c (Missing g have want) = missing_line (goal_word u g) have want ∷ []
reply_lines u c Bye = codes "bye\n" ∷ []
reply_lines u c BadLine = codes "bad line\n" ∷ []
reply_lines u c Unknown = codes "unknown\n" ∷ []
reply_lines u c Ended = []
reply_lines u c NoMemory = []

-- every reply has one line but that to `show`
abbrev pub HasLine : Universe → Option Reply → Type 0
HasLine u None = ⊤
HasLine u (Some r) = IsReplyOf u r × (r ≢ Show)

-- whatever the configuration is
abbrev pub line_left : Universe → Option Reply → List (List ℕ)
line_left u None = []
line_left u (Some r) = reply_lines u empty r
