-- What the text of an explanation says, line by line, or its first fault.
--     fitting fits x      what was read of the first tokens of a line, if the line is what is written for it
--     goal_of_tokens u tokens, lacks_of_tokens u tokens      the goal that the first token names;  that of a line with these tokens
--     is_lacks_of u bytes g      the bytes are the line of the goal, without its line feed
--     count_of_tokens tokens      how many lines there are
--     needs_of_tokens u tokens, reason_of_tokens u tokens      that the port is required which the first token names;  the reason by its first tokens
--     line_of_tokens u tokens      the pair with its reason that the first tokens of a line name
--     is_held_up u q reason, is_text_of u bytes l      the reason may be told of the pair;  and the bytes are its line, without its line feed
--     lacks_in u bytes, count_in bytes, line_in u bytes      what a line says
--     lines_from u left lines l      so many more pairs with their reasons, where these were read
--     WhyParts, why_in u bytes      what an explanation's text says;  what these bytes say
--     parts_of why, ReadsWhy result meaning      what the text of this explanation says;  that it was meant, unless memory ran out
use Rattle.std.specs.Prelude.{◌≡◌, ◌≢◌, ℕ, zero, suc, Bool, true, not, ◌&&◌, ◌||◌, List, [], ◌∷◌, ◌++◌, codes, Result, Ok, Err, if◌then◌else◌}
use Rattle.std.specs.Str.{bytes_eq}
use Rattle.metis_ids.specs.declared.goals.Goal.{Goal}
use Rattle.metis_tokens.specs.declared.fault.TFault.{TFault}
use Rattle.metis_tokens.specs.declared.fault.TFault.TheVariants.{NoMemory}
use Rattle.metis_tokens.specs.declared.flaw.Flaw.{Flaw}
use Rattle.metis_tokens.specs.declared.flaw.Flaw.TheVariants.{Form}
use Rattle.metis_tokens.specs.Terms.{Cursor, and_then, both, ended, exactly, goal_in, lines_of, made, named, number_in, pair_in, read_next, tokens, words}
use Rattle.metis_universe.specs.Terms.{Universe, is_free, port_named}
use Rattle.metis_why.specs.declared.reason.Explanation.{Explanation}
use Rattle.metis_why.specs.declared.reason.Line.{Line}
use Rattle.metis_why.specs.declared.reason.Reason.{Reason}
use Rattle.metis_why.specs.declared.reason.Reason.TheVariants.{Needs, Comes}
use Rattle.metis_why_text.specs.WhyText.{lacks_tokens, line_tokens}

abbrev pub fitting : {A : Type 0} → (A → Bool) → Result A Flaw → Result A Flaw
fitting fits (Ok a) = if fits a then Ok a else Err Form
fitting fits (Err f) = Err f

-- ---- the goal

abbrev pub goal_of_tokens : Universe → List (List ℕ) → Result Goal Flaw
goal_of_tokens u (word ∷ more) = goal_in u word
goal_of_tokens u [] = Err Form

abbrev pub lacks_of_tokens : Universe → List (List ℕ) → Result Goal Flaw
lacks_of_tokens u (lacks ∷ behind) = if bytes_eq lacks (codes "lacks") then goal_of_tokens u behind else Err Form
lacks_of_tokens u [] = Err Form

abbrev pub is_lacks_of : Universe → List ℕ → Goal → Bool
is_lacks_of u bytes g = bytes_eq bytes (words (lacks_tokens u g))

abbrev pub lacks_in : Universe → List ℕ → Result Goal Flaw
lacks_in u bytes = fitting (is_lacks_of u bytes) (lacks_of_tokens u (tokens bytes))

-- ---- how many lines

abbrev pub count_of_tokens : List (List ℕ) → Result ℕ Flaw
count_of_tokens (lines ∷ count ∷ []) = if bytes_eq lines (codes "lines") then number_in count else Err Form
count_of_tokens _ = Err Form

abbrev pub count_in : List ℕ → Result ℕ Flaw
count_in bytes = count_of_tokens (tokens bytes)

-- ---- a pair with its reason

abbrev pub needs_of_tokens : Universe → List (List ℕ) → Result Reason Flaw
needs_of_tokens u (port ∷ more) = made Needs (named (port_named u) port)
needs_of_tokens u [] = Err Form

-- the reason by its first word, and the tokens behind it
abbrev pub reason_by : Universe → List ℕ → List (List ℕ) → Result Reason Flaw
reason_by u verb behind =
    if bytes_eq verb (codes "needs") then needs_of_tokens u behind
    else if bytes_eq verb (codes "comes") || bytes_eq verb (codes "starts") then Ok Comes
    else Err Form

abbrev pub reason_of_tokens : Universe → List (List ℕ) → Result Reason Flaw
reason_of_tokens u (verb ∷ behind) = reason_by u verb behind
reason_of_tokens u [] = Err Form

abbrev pub line_with : ℕ × Reason → Line
line_with p = record { pair = p.0; reason = p.1 }

abbrev pub line_of_tokens : Universe → List (List ℕ) → Result Line Flaw
line_of_tokens u (word ∷ behind) = made line_with (both (pair_in u word) (reason_of_tokens u behind))
line_of_tokens u [] = Err Form

-- a reason of moves may be told of a pair in which no instance is made
abbrev pub is_held_up : Universe → ℕ → Reason → Bool
is_held_up u q (Needs r) = true
is_held_up u q Comes = not (is_free u q)

abbrev pub is_text_of : Universe → List ℕ → Line → Bool
is_text_of u bytes l = is_held_up u l.pair l.reason && bytes_eq bytes (words (line_tokens u l))

abbrev pub line_in : Universe → List ℕ → Result Line Flaw
line_in u bytes = fitting (is_text_of u bytes) (line_of_tokens u (tokens bytes))

-- so many more lines behind those that were read
abbrev pub lines_from : Universe → ℕ → List Line → Cursor → Result (List Line × Cursor) TFault
lines_from u zero lines l = Ok (lines, l)
lines_from u (suc left) lines l = and_then (read_next (line_in u) l) (λ p. lines_from u left (lines ++ p.0 ∷ []) p.1)

-- ---- the whole text

pub record WhyParts : Type 0 where
  pub lacks : Goal
  pub lines : List Line

abbrev pub why_parts : Goal → List Line → WhyParts
why_parts lacks lines = record { lacks = lacks; lines = lines }

-- the last line, and nothing behind it
abbrev pub why_end_from : WhyParts → Cursor → Result WhyParts TFault
why_end_from w l = and_then (read_next (exactly (codes "end")) l) (λ e. and_then (ended e.1) (λ _. Ok w))

-- the lines, of which the first one says how many there are
abbrev pub why_counted_from : Universe → Goal → Cursor → Result WhyParts TFault
why_counted_from u lacks l =
    and_then (read_next count_in l) (λ count.
    and_then (lines_from u count.0 [] count.1) (λ lines.
    why_end_from (why_parts lacks lines.0) lines.1))

abbrev pub why_from : Universe → Cursor → Result WhyParts TFault
why_from u l =
    and_then (read_next (exactly (codes "metis why 1")) l) (λ header.
    and_then (read_next (lacks_in u) header.1) (λ lacks.
    why_counted_from u lacks.0 lacks.1))

abbrev pub why_in : Universe → List ℕ → Result WhyParts TFault
why_in u bytes = why_from u (lines_of bytes 0)

-- what the text of this explanation says
abbrev pub parts_of : Explanation → WhyParts
parts_of why = why_parts why.lacks why.lines.items

abbrev pub ReadsWhy : Result Explanation TFault → Result WhyParts TFault → Type 0
ReadsWhy (Ok why) meaning = meaning ≡ Ok (parts_of why)
ReadsWhy (Err fault) meaning = fault ≢ NoMemory → meaning ≡ Err fault
