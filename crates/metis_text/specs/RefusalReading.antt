-- What the text of a refusal says, line by line, or its first fault.
--     lacks_of_tokens u tokens, size_of_tokens tokens      the goal that the set lacks, by the tokens of its line;  how many pairs the set has
--     pair_of_tokens u tokens      the pair that stands alone in its line
--     above pairs p, follows last p      the pair stands behind all of these in the universe;  and behind the last one, if there is one
--     RefusalParts, refusal_in u bytes      what a refusal's text says;  what these bytes say
--     refusal_of r, ReadsRefusal result meaning      what the text of this refusal says;  that it was meant, unless memory ran out
use Rattle.std.specs.Prelude.{◌≡◌, ◌≢◌, ℕ, zero, suc, nat_lt, Bool, true, List, [], ◌∷◌, ◌++◌, codes, Option, Some, None, Result, Ok, Err, if◌then◌else◌}
use Rattle.std.specs.List.{list_all}
use Rattle.std.specs.Str.{bytes_eq}
use Rattle.metis_ids.specs.declared.goals.Goal.{Goal}
use Rattle.metis_tokens.specs.declared.fault.TFault.{TFault}
use Rattle.metis_tokens.specs.declared.fault.TFault.TheVariants.{NoMemory}
use Rattle.metis_tokens.specs.declared.flaw.Flaw.{Flaw}
use Rattle.metis_tokens.specs.declared.flaw.Flaw.TheVariants.{Form}
use Rattle.metis_text.specs.declared.refusal_text.Refusal.{Refusal}
use Rattle.metis_tokens.specs.Terms.{Cursor, and_then, ended, exactly, goal_in, lines_of, number_in, pair_in, read_next, right, tokens}
use Rattle.metis_universe.specs.Terms.{Universe}

abbrev pub lacks_of_tokens : Universe → List (List ℕ) → Result Goal Flaw
lacks_of_tokens u (lacks ∷ word ∷ []) = if bytes_eq lacks (codes "lacks") then goal_in u word else Err Form
lacks_of_tokens u _ = Err Form

abbrev pub lacks_in : Universe → List ℕ → Result Goal Flaw
lacks_in u line = lacks_of_tokens u (tokens line)

abbrev pub size_of_tokens : List (List ℕ) → Result ℕ Flaw
size_of_tokens (pairs ∷ size ∷ []) = if bytes_eq pairs (codes "pairs") then number_in size else Err Form
size_of_tokens _ = Err Form

abbrev pub size_in : List ℕ → Result ℕ Flaw
size_in line = size_of_tokens (tokens line)

abbrev pub pair_of_tokens : Universe → List (List ℕ) → Result ℕ Flaw
pair_of_tokens u (word ∷ []) = pair_in u word
pair_of_tokens u _ = Err Form

-- the pair stands behind all of these
abbrev pub above : List ℕ → ℕ → Bool
above pairs p = list_all (λ q. nat_lt q p) pairs

-- the pair stands behind the last one, if there is one
abbrev pub follows : Option ℕ → ℕ → Bool
follows None p = true
follows (Some last) p = nat_lt last p

-- the next pair of the set, where these are known
abbrev pub next_pair_in : Universe → List ℕ → List ℕ → Result ℕ Flaw
next_pair_in u pairs line = right (above pairs) (pair_of_tokens u (tokens line))

-- so many more pairs behind those that were read
abbrev pub pairs_from : Universe → ℕ → List ℕ → Cursor → Result (List ℕ × Cursor) TFault
pairs_from u zero pairs l = Ok (pairs, l)
pairs_from u (suc left) pairs l = and_then (read_next (next_pair_in u pairs) l) (λ p. pairs_from u left (pairs ++ p.0 ∷ []) p.1)

pub record RefusalParts : Type 0 where
  pub lacks : Goal
  pub pairs : List ℕ

abbrev pub refusal_parts : Goal → List ℕ → RefusalParts
refusal_parts lacks pairs = record { lacks = lacks; pairs = pairs }

-- the last line, and nothing behind it
abbrev pub refusal_end_from : RefusalParts → Cursor → Result RefusalParts TFault
refusal_end_from r l = and_then (read_next (exactly (codes "end")) l) (λ e. and_then (ended e.1) (λ _. Ok r))

-- the set, of which the first line says how many pairs it has
abbrev pub refusal_set_from : Universe → Goal → Cursor → Result RefusalParts TFault
refusal_set_from u lacks l =
    and_then (read_next size_in l) (λ size.
    and_then (pairs_from u size.0 [] size.1) (λ pairs.
    refusal_end_from (refusal_parts lacks pairs.0) pairs.1))

abbrev pub refusal_from : Universe → Cursor → Result RefusalParts TFault
refusal_from u l =
    and_then (read_next (exactly (codes "metis refusal 1")) l) (λ header.
    and_then (read_next (lacks_in u) header.1) (λ lacks.
    refusal_set_from u lacks.0 lacks.1))

abbrev pub refusal_in : Universe → List ℕ → Result RefusalParts TFault
refusal_in u bytes = refusal_from u (lines_of bytes 0)

-- what the text of this refusal says
abbrev pub refusal_of : Refusal → RefusalParts
refusal_of r = refusal_parts r.lacks r.pairs.members

abbrev pub ReadsRefusal : Result Refusal TFault → Result RefusalParts TFault → Type 0
ReadsRefusal (Ok r) meaning = meaning ≡ Ok (refusal_of r)
ReadsRefusal (Err fault) meaning = fault ≢ NoMemory → meaning ≡ Err fault
