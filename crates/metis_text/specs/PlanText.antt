-- The text of a plan.
--     action_tokens u a, after_tokens ks      what stands in an action's line behind its number;  and behind that, for the numbers of its list
--     action_line u k row      the line of action number k, where the row is the action and its list
--     actions_left u actions after at, IsListed u actions w      the lines of the actions from a place on;  what is known of actions whose lines are made
--     event_token e      an event's token
--     dup_line u k d      the line of dup number k
--     plan_lines u p after      the lines of the whole text, where `after` has a list for each action
--     plan_bytes u p after      its bytes
--     last_kind z actions      the type of the last New of instance z, if there is one
--     IsWellFormed u p after      what a text says that can be read
use Rattle.std.specs.Prelude.{◌≡◌, ◌<◌, ◌≤◌, ℕ, zero, suc, ◌+◌, ◌^◌, drop, ◌==◌, cond, List, [], ◌∷◌, ◌++◌, length, map, codes, decimal, Option, Some, None}
use Rattle.std.specs.List.{All, count_by, slice_index_or, zip}
use Rattle.std.specs.List.Sorted.{IsStrictlyIncreasing}
use Rattle.metis_ids.specs.Terms.{Dup, Plan, makes}
use Rattle.metis_ids.specs.declared.actions.Action.{Action}
use Rattle.metis_ids.specs.declared.actions.Action.TheVariants.{New, Delete, Bind, Unbind, Move}
use Rattle.metis_ids.specs.declared.events.Event.{Event}
use Rattle.metis_ids.specs.declared.events.Event.TheVariants.{At, End}
use Rattle.metis_outside.specs.Terms.{bytes_of}
use Rattle.metis_text.specs.InRange.{IsPlanInRange}
use Rattle.metis_tokens.specs.Terms.{end_line, line, numbered}
use Rattle.metis_universe.specs.Terms.{IsOf, Universe, action_at, before, pair_count, pair_word, port_name_of, state_name_of, type_name_of, type_of}
use Rattle.metis_waits.specs.Terms.{AreWaits, WaitLists}

abbrev pub action_tokens : Universe → Action → List (List ℕ)
action_tokens u (New z t) = codes "new" ∷ decimal z ∷ type_name_of u t ∷ []
action_tokens u (Delete z) = codes "delete" ∷ decimal z ∷ []
action_tokens u (Bind r z y) = codes "bind" ∷ port_name_of u r ∷ decimal z ∷ decimal y ∷ []
action_tokens u (Unbind r z y) = codes "unbind" ∷ port_name_of u r ∷ decimal z ∷ decimal y ∷ []
action_tokens u (Move z p q) = codes "move" ∷ decimal z ∷ state_name_of u p ∷ state_name_of u q ∷ []

-- nothing where the list is empty
abbrev pub after_tokens : List ℕ → List (List ℕ)
after_tokens [] = []
after_tokens (k ∷ ks) = codes "after" ∷ map decimal (k ∷ ks)

abbrev pub action_line : Universe → ℕ → (Action × List ℕ) → List ℕ
action_line u k row = line ((decimal k ∷ action_tokens u row.0) ++ after_tokens row.1)

-- the line and the step of what happens, or the end of the plan
abbrev pub event_token : Event → List ℕ
event_token (At l s) = decimal l ++ (codes "." ++ decimal s)
event_token End = codes "end"

abbrev pub dup_tokens : Universe → ℕ → ℕ → List (List ℕ)
dup_tokens u k p = codes "dup" ∷ decimal k ∷ pair_word u p ∷ codes "cycle" ∷ []

abbrev pub dup_line : Universe → ℕ → Dup → List ℕ
dup_line u k d = line (dup_tokens u k d.pair ++ map event_token d.cycle)

abbrev pub plan_header : List ℕ
plan_header = line (codes "metis" ∷ codes "plan" ∷ codes "1" ∷ [])

abbrev pub counts_line : ℕ → ℕ → ℕ → List ℕ
counts_line instances actions dups = line (codes "instances" ∷ decimal instances ∷ codes "actions" ∷ decimal actions ∷ codes "dups" ∷ decimal dups ∷ [])

abbrev pub counts_of : Plan → List ℕ
counts_of p = counts_line p.instances (length p.actions) (length p.dups)

abbrev pub action_lines : Universe → List Action → List (List ℕ) → List (List ℕ)
action_lines u actions after = numbered (action_line u) 1 (zip actions after)

-- those from a place on
abbrev pub actions_left : Universe → List Action → List (List ℕ) → ℕ → List (List ℕ)
actions_left u actions after at = numbered (action_line u) (at + 1) (zip (drop at actions) (drop at after))

-- what is known of actions whose lines are made
pub record IsListed (u : Universe) (actions : List Action) (w : WaitLists) : Type 0 where
  pub numbers : All (IsOf u) actions
  pub waited : AreWaits actions w
  pub few : length actions < 2 ^ 32

abbrev pub dup_lines : Universe → List Dup → List (List ℕ)
dup_lines u dups = numbered (dup_line u) 1 dups

-- the first lines, before those of the actions
abbrev pub plan_front : Plan → List (List ℕ)
plan_front p = plan_header ∷ counts_of p ∷ []

-- the lines of the dups, and the last line
abbrev pub plan_end : Universe → List Dup → List (List ℕ)
plan_end u dups = dup_lines u dups ++ end_line ∷ []

-- all lines but the first two
abbrev pub plan_rest : Universe → Plan → List (List ℕ) → List (List ℕ)
plan_rest u p after = action_lines u p.actions after ++ plan_end u p.dups

-- all lines but the first
abbrev pub plan_body : Universe → Plan → List (List ℕ) → List (List ℕ)
plan_body u p after = counts_of p ∷ plan_rest u p after

abbrev pub plan_lines : Universe → Plan → List (List ℕ) → List (List ℕ)
plan_lines u p after = plan_header ∷ plan_body u p after

abbrev pub plan_bytes : Universe → Plan → List (List ℕ) → List ℕ
plan_bytes u p after = bytes_of (plan_lines u p after)

-- the type of instance z after the action, where this was it before
abbrev pub kind_after : ℕ → Option ℕ → Action → Option ℕ
kind_after z kind (New y t) = cond (y == z) (Some t) kind
kind_after z kind (Delete y) = kind
kind_after z kind (Bind r y x) = kind
kind_after z kind (Unbind r y x) = kind
kind_after z kind (Move y p q) = kind

abbrev pub kind_from : ℕ → Option ℕ → List Action → Option ℕ
kind_from z kind [] = kind
kind_from z kind (a ∷ actions) = kind_from z (kind_after z kind a) actions

abbrev pub last_kind : ℕ → List Action → Option ℕ
last_kind z actions = kind_from z None actions

-- the list of action k
abbrev pub after_of : List (List ℕ) → ℕ → List ℕ
after_of after zero = []
after_of after (suc i) = slice_index_or after i []

-- the action's instance is made before, and both pairs are of the type of its last New
abbrev pub IsMoveOf : Universe → List Action → ℕ → ℕ → ℕ → Type 0
IsMoveOf u earlier z p q = (last_kind z earlier ≡ Some (type_of u p)) × (type_of u q ≡ type_of u p)

-- An action waits for earlier ones, its list ascends, each move goes between pairs of its instance's type, each cycle
-- has two or more events, and all numbers are the universe's, or of 32 bits. There are fewer than 2^32 actions and
-- dups, and the instances are counted.
pub record IsWellFormed (u : Universe) (p : Plan) (after : List (List ℕ)) : Type 0 where
  pub lists : length after ≡ length p.actions
  pub ascending : All IsStrictlyIncreasing after
  pub earlier : (k : ℕ) → All (λ m. (1 ≤ m) × (m < k)) (after_of after k)
  pub moves : (k z a b : ℕ) → action_at p.actions k ≡ Some (Move z a b) → IsMoveOf u (before k p.actions) z a b
  pub actions : All (IsOf u) p.actions
  pub dups : All (λ d. d.pair < pair_count u) p.dups
  pub cycles : All (λ d. 2 ≤ length d.cycle) p.dups
  pub in_range : IsPlanInRange p
  pub few_actions : length p.actions < 2 ^ 32
  pub few_dups : length p.dups < 2 ^ 32
  pub instances : p.instances ≡ count_by makes p.actions
