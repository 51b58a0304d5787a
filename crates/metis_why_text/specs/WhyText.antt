-- The text of an explanation: a goal that is never attained, and line by line what keeps it from being attained.
--     list_words u pairs      the words of the pairs, or that there is none
--     start_port u q      the first port that the pair requires, where it is the initial one of its type
--     comes_tokens u port, reason_tokens u q reason      what a reason of moves says before the pairs that it names;  what a reason says there
--     lacks_tokens u g, line_tokens u l      what stands in the line of the goal;  in that of a pair with its reason
--     lacks_line u g, count_line n, line_text u l      these lines, and that of how many pairs there are with a reason
--     why_lines u lacks lines      the lines of the whole text
--     why_bytes u lacks lines      its bytes
--     IsWhyText u lacks lines      what a text says that can be read
use Rattle.std.specs.Prelude.{◌<◌, ◌^◌, ℕ, List, [], ◌∷◌, ◌++◌, length, map, codes, decimal, Option, Some, None, if◌then◌else◌, slice_get}
use Rattle.std.specs.List.{All}
use Rattle.metis_ids.specs.declared.goals.Goal.{Goal}
use Rattle.metis_ids.specs.declared.goals.Goal.TheVariants.{Pair, Port}
use Rattle.metis_outside.specs.Terms.{bytes_of}
use Rattle.metis_tokens.specs.Terms.{end_line, line}
use Rattle.metis_universe.specs.Terms.{IsWordable, Universe, goal_word, is_initial, pair_word, port_name_of, providers_of, required_of}
use Rattle.metis_why.specs.Terms.{IsTellable, named_by}
use Rattle.metis_why.specs.declared.reason.Line.{Line}
use Rattle.metis_why.specs.declared.reason.Reason.{Reason}
use Rattle.metis_why.specs.declared.reason.Reason.TheVariants.{Needs, Comes}

abbrev pub list_words : Universe → List ℕ → List (List ℕ)
list_words u [] = codes "none" ∷ []
list_words u (p ∷ pairs) = map (pair_word u) (p ∷ pairs)

abbrev pub start_port : Universe → ℕ → Option ℕ
start_port u q = if is_initial u q then slice_get (required_of u q) 0 else None

-- no instance is made in an initial pair that requires a port
abbrev pub comes_tokens : Universe → Option ℕ → List (List ℕ)
comes_tokens u None = codes "comes" ∷ codes "from" ∷ []
comes_tokens u (Some r) = codes "starts" ∷ codes "needing" ∷ port_name_of u r ∷ codes "and" ∷ codes "comes" ∷ codes "from" ∷ []

abbrev pub reason_tokens : Universe → ℕ → Reason → List (List ℕ)
reason_tokens u q (Needs r) = codes "needs" ∷ port_name_of u r ∷ codes "from" ∷ []
reason_tokens u q Comes = comes_tokens u (start_port u q)

abbrev pub line_tokens : Universe → Line → List (List ℕ)
line_tokens u l = (pair_word u l.pair ∷ reason_tokens u l.pair l.reason) ++ list_words u (named_by u l.pair l.reason)

-- a port, and all pairs that provide it
abbrev pub lacks_tokens : Universe → Goal → List (List ℕ)
lacks_tokens u (Pair p) = codes "lacks" ∷ goal_word u (Pair p) ∷ []
lacks_tokens u (Port r) = (codes "lacks" ∷ goal_word u (Port r) ∷ codes "from" ∷ []) ++ list_words u (providers_of u r)

abbrev pub why_header : List ℕ
why_header = line (codes "metis" ∷ codes "why" ∷ codes "1" ∷ [])

abbrev pub lacks_line : Universe → Goal → List ℕ
lacks_line u g = line (lacks_tokens u g)

abbrev pub count_line : ℕ → List ℕ
count_line n = line (codes "lines" ∷ decimal n ∷ [])

abbrev pub line_text : Universe → Line → List ℕ
line_text u l = line (line_tokens u l)

-- the first lines, before those of the pairs
abbrev pub why_front : Universe → Goal → List Line → List (List ℕ)
why_front u lacks lines = why_header ∷ lacks_line u lacks ∷ count_line (length lines) ∷ []

-- the lines of the pairs, and the last line
abbrev pub why_rest : Universe → List Line → List (List ℕ)
why_rest u lines = map (line_text u) lines ++ end_line ∷ []

-- and the line before them
abbrev pub why_counted : Universe → List Line → List (List ℕ)
why_counted u lines = count_line (length lines) ∷ why_rest u lines

-- all lines but the first
abbrev pub why_body : Universe → Goal → List Line → List (List ℕ)
why_body u lacks lines = lacks_line u lacks ∷ why_counted u lines

abbrev pub why_lines : Universe → Goal → List Line → List (List ℕ)
why_lines u lacks lines = why_header ∷ why_body u lacks lines

abbrev pub why_bytes : Universe → Goal → List Line → List ℕ
why_bytes u lacks lines = bytes_of (why_lines u lacks lines)

-- the goal is the universe's, and the one that its word asks for; so are the pairs and ports of the lines, and a reason of moves is
-- told of a pair in which no instance is made
pub record IsWhyText (u : Universe) (lacks : Goal) (lines : List Line) : Type 0 where
  pub lacking : IsWordable u lacks
  pub tellable : All (IsTellable u) lines
  pub few : length lines < 2 ^ 32
