-- A line of an action that is read.
--     action_in u earlier verb args      the action that stands behind the action's number, with the tokens behind it
--     after_in k tokens      the numbers of the actions that action number k waits for, which ascend and lie below k
--     row_in u earlier line      the action and its list, where those before it are known
use Rattle.std.specs.Prelude.{ℕ, ◌+◌, nat_lt, Bool, true, ◌&&◌, List, [], ◌∷◌, length, codes, Option, Some, None, Result, Ok, Err, if◌then◌else◌}
use Rattle.std.specs.Str.{bytes_eq}
use Rattle.metis_ids.specs.declared.actions.Action.{Action}
use Rattle.metis_ids.specs.declared.actions.Action.TheVariants.{New, Delete, Bind, Unbind, Move}
use Rattle.metis_tokens.specs.declared.flaw.Flaw.{Flaw}
use Rattle.metis_tokens.specs.declared.flaw.Flaw.TheVariants.{Form}
use Rattle.metis_tokens.specs.Terms.{all_behind, both, due, made, named, number_in, right, state_in, tokens}
use Rattle.metis_text.specs.PlanText.{last_kind}
use Rattle.metis_universe.specs.Terms.{Universe, port_named, type_named}

abbrev pub new_action : ℕ × ℕ → Action
new_action p = New p.0 p.1

abbrev pub bind_action : ℕ × (ℕ × ℕ) → Action
bind_action p = Bind p.0 p.1.0 p.1.1

abbrev pub unbind_action : ℕ × (ℕ × ℕ) → Action
unbind_action p = Unbind p.0 p.1.0 p.1.1

abbrev pub move_action : ℕ × (ℕ × ℕ) → Action
move_action p = Move p.0 p.1.0 p.1.1

abbrev pub new_in : Universe → List ℕ → List ℕ → Result Action Flaw
new_in u z kind = made new_action (both (number_in z) (named (type_named u) kind))

-- a port, the instance that requires it and the one that provides it
abbrev pub ends_in : Universe → List ℕ → List ℕ → List ℕ → Result (ℕ × (ℕ × ℕ)) Flaw
ends_in u r z y = both (named (port_named u) r) (both (number_in z) (number_in y))

-- the type of the instance, if it was made before
abbrev pub kind_in : List Action → Result ℕ Flaw → Option ℕ
kind_in earlier (Ok z) = last_kind z earlier
kind_in earlier (Err f) = None

-- an instance, and two states of its type
abbrev pub states_in : Universe → List Action → List ℕ → List ℕ → List ℕ → Result (ℕ × (ℕ × ℕ)) Flaw
states_in u earlier z p q = both (number_in z) (both (state_in u (kind_in earlier (number_in z)) p) (state_in u (kind_in earlier (number_in z)) q))

-- an action, and the tokens behind it
abbrev pub Words : Type 0
Words = Result Action Flaw × List (List ℕ)

abbrev pub new_words : Universe → List (List ℕ) → Option Words
new_words u (z ∷ kind ∷ rest) = Some (new_in u z kind, rest)
new_words u _ = None

abbrev pub delete_words : List (List ℕ) → Option Words
delete_words (z ∷ rest) = Some (made Delete (number_in z), rest)
delete_words _ = None

abbrev pub tie_words : Universe → (ℕ × (ℕ × ℕ) → Action) → List (List ℕ) → Option Words
tie_words u make (r ∷ z ∷ y ∷ rest) = Some (made make (ends_in u r z y), rest)
tie_words u make _ = None

abbrev pub move_words : Universe → List Action → List (List ℕ) → Option Words
move_words u earlier (z ∷ p ∷ q ∷ rest) = Some (made move_action (states_in u earlier z p q), rest)
move_words u earlier _ = None

abbrev pub action_in : Universe → List Action → List ℕ → List (List ℕ) → Option Words
action_in u earlier verb args =
    if bytes_eq verb (codes "new") then new_words u args
    else if bytes_eq verb (codes "delete") then delete_words args
    else if bytes_eq verb (codes "bind") then tie_words u bind_action args
    else if bytes_eq verb (codes "unbind") then tie_words u unbind_action args
    else if bytes_eq verb (codes "move") then move_words u earlier args
    else None

-- the numbers ascend, and lie between the two
abbrev pub rise : ℕ → ℕ → List ℕ → Bool
rise low high [] = true
rise low high (m ∷ ms) = nat_lt low m && nat_lt m high && rise m high ms

abbrev pub after_in : ℕ → List (List ℕ) → Result (List ℕ) Flaw
after_in k [] = Ok []
after_in k (word ∷ []) = Err Form
after_in k (word ∷ t ∷ more) = if bytes_eq word (codes "after") then right (rise 0 k) (all_behind number_in (Ok []) (t ∷ more)) else Err Form

-- an action with its list
abbrev pub Row : Type 0
Row = Action × List ℕ

abbrev pub row_with : ℕ → List ℕ → Option Words → Result Row Flaw
row_with k number None = Err Form
row_with k number (Some words) = made (λ p. p.1) (both (due k number) (both words.0 (after_in k words.1)))

abbrev pub row_of : Universe → List Action → List (List ℕ) → Result Row Flaw
row_of u earlier (number ∷ verb ∷ args) = row_with (length earlier + 1) number (action_in u earlier verb args)
row_of u earlier _ = Err Form

abbrev pub row_in : Universe → List Action → List ℕ → Result Row Flaw
row_in u earlier line = row_of u earlier (tokens line)
