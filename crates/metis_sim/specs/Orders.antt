-- The action that the tokens of a line ask for, or why they ask for none.
--     formed x, known x, present z x      a part of the line in its form;  what a name stands for, if it is there;
--                                         the pair of the instance z, if it is there
--     on x next      what comes next, unless something was wrong before
--     action_in u c verb args      the action of the verb and the tokens behind it, in the configuration c
use Rattle.std.specs.Prelude.{ℕ, ◌&&◌, List, [], ◌∷◌, codes, Option, Some, None, Result, Ok, Err, if◌then◌else◌}
use Rattle.std.specs.Str.{bytes_eq}
use Rattle.metis_ids.specs.declared.actions.Action.{Action}
use Rattle.metis_ids.specs.declared.actions.Action.TheVariants.{New, Delete, Bind, Unbind, Move}
use Rattle.metis_universe.specs.Terms.{Config, Universe, is_name, pair_of, port_named, state_named, type_named, type_of}
use Rattle.metis_sim.specs.Words.{number_of}
use Rattle.metis_sim.specs.declared.misread.Misread.{Misread}
use Rattle.metis_sim.specs.declared.misread.Misread.TheVariants.{Absent, Form, Name}

abbrev pub formed : {A : Type 0} → Option A → Result A Misread
formed None = Err Form
formed (Some a) = Ok a

abbrev pub known : {A : Type 0} → Option A → Result A Misread
known None = Err Name
known (Some a) = Ok a

abbrev pub present : ℕ → Option ℕ → Result ℕ Misread
present z None = Err (Absent z)
present z (Some p) = Ok p

abbrev pub on : {A B : Type 0} → Result A Misread → (A → Result B Misread) → Result B Misread
on (Ok a) next = next a
on (Err wrong) next = Err wrong

-- what has the name that the token is
abbrev pub named : {A : Type 0} → (List ℕ → Option A) → List ℕ → Result A Misread
named find t = if is_name t then known (find t) else Err Form

abbrev pub new_in : Universe → List ℕ → List ℕ → Result Action Misread
new_in u z kind = on (formed (number_of z)) (λ n. on (named (type_named u) kind) (λ t. Ok (New n t)))

abbrev pub delete_in : List ℕ → Result Action Misread
delete_in z = on (formed (number_of z)) (λ n. Ok (Delete n))

-- the port, its requirer and its provider
unfoldable pub ends_in : Universe → List ℕ → List ℕ → List ℕ → Result (ℕ × ℕ × ℕ) Misread
ends_in u r z y = on (formed (number_of z)) (λ n. on (formed (number_of y)) (λ m. on (named (port_named u) r) (λ port. Ok (port, n, m))))

-- between two states of the type of which the instance is
abbrev pub between : Universe → Config → ℕ → List ℕ → List ℕ → Result Action Misread
between u c z from to =
    on (present z (pair_of c z)) (λ p.
    on (known (state_named u (type_of u p) from)) (λ a.
    on (known (state_named u (type_of u p) to)) (λ b. Ok (Move z a b))))

abbrev pub move_in : Universe → Config → List ℕ → List ℕ → List ℕ → Result Action Misread
move_in u c z from to = on (formed (number_of z)) (λ n. if is_name from && is_name to then between u c n from to else Err Form)

-- ---- the tokens behind each verb

abbrev pub new_args : Universe → List (List ℕ) → Result Action Misread
new_args u (z ∷ kind ∷ []) = new_in u z kind
new_args u _ = Err Form

abbrev pub delete_args : List (List ℕ) → Result Action Misread
delete_args (z ∷ []) = delete_in z
delete_args _ = Err Form

-- a port, and its two ends
abbrev pub tie_ends : Universe → List ℕ → List (List ℕ) → Result (ℕ × ℕ × ℕ) Misread
tie_ends u r (z ∷ y ∷ []) = ends_in u r z y
tie_ends u r _ = Err Form

abbrev pub tie_args : Universe → List (List ℕ) → Result (ℕ × ℕ × ℕ) Misread
tie_args u (r ∷ ends) = tie_ends u r ends
tie_args u [] = Err Form

abbrev pub bind_args : Universe → List (List ℕ) → Result Action Misread
bind_args u args = on (tie_args u args) (λ e. Ok (Bind e.0 e.1 e.2))

abbrev pub unbind_args : Universe → List (List ℕ) → Result Action Misread
unbind_args u args = on (tie_args u args) (λ e. Ok (Unbind e.0 e.1 e.2))

-- an instance, and two states
abbrev pub move_states : Universe → Config → List ℕ → List (List ℕ) → Result Action Misread
move_states u c z (from ∷ to ∷ []) = move_in u c z from to
move_states u c z _ = Err Form

abbrev pub move_args : Universe → Config → List (List ℕ) → Result Action Misread
move_args u c (z ∷ states) = move_states u c z states
move_args u c [] = Err Form

abbrev pub action_in : Universe → Config → List ℕ → List (List ℕ) → Result Action Misread
action_in u c verb args =
    if bytes_eq verb (codes "new") then new_args u args
    else if bytes_eq verb (codes "delete") then delete_args args
    else if bytes_eq verb (codes "bind") then bind_args u args
    else if bytes_eq verb (codes "unbind") then unbind_args u args
    else if bytes_eq verb (codes "move") then move_args u c args
    else Err Form
