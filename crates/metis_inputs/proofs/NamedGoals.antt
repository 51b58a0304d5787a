-- The goals of target words, word by word.
use Rattle.std.proofs.Common.{◌≡◌, ℕ, zero, suc, ◌+◌, ◌<◌, List, [], ◌∷◌, ◌++◌, drop, get_or, length, map, Option, Some, None, Result, Ok, Err, refl, sym, ap, ◌∙◌, subst, append-nil, append_assoc, arith}
use Rattle.std.specs.Prelude.{◌↔◌, IsSome, slice_get}
use Rattle.std.specs.Option.{option_and_then}
use Rattle.std.proofs.lemmas.List.{drop_more}
use Rattle.metis_ids.specs.declared.goals.Goal.{Goal}
use Rattle.metis_tokens.specs.Terms.{and_then}
use Rattle.metis_universe.specs.Terms.{Universe}
use Rattle.metis_words.specs.Terms.{TargetName}
use Rattle.metis_inputs.specs.Terms.{AreGoals, IsFirstNoGoal, goal_of, goals_after, goals_named, or_word}
use Rattle.metis_inputs.specs.declared.stop.InputFault.{InputFault}
use Rattle.metis_inputs.specs.declared.stop.InputFault.TheVariants.{Word}

abbrev good : List Goal → Result (List Goal) InputFault
good goals = Ok goals

abbrev bad : InputFault → Result (List Goal) InputFault
bad why = Err why

-- goes on behind the goals that were found, if the next target means this
abbrev next : List Goal → ℕ → Universe → List TargetName → Option Goal → Result (List Goal) InputFault
next found place u targets o = and_then (or_word place o) (λ g. goals_after (found ++ g ∷ []) (place + 1) u targets)

-- target k means none
pub stops_at : (u : Universe) (found : List Goal) (place k : ℕ) (targets : List TargetName) (target : TargetName) → k < length targets → target ≡ get_or targets k target → goal_of u target ≡ None
    → goals_after found (place + k) u (drop k targets) ≡ Err (Word (place + k))
stops_at u found place k targets target low is none =
    ap (goals_after found (place + k) u) (drop_more targets k target low ∙ ap (λ t. t ∷ drop (k + 1) targets) (sym is)) ∙ ap (next found (place + k) u (drop (k + 1) targets)) none

-- ---- all mean a goal

record AreNamed (u : Universe) (found : List Goal) (targets : List TargetName) (goals : List Goal) : Type 0 where
  more : List Goal
  behind : goals ≡ found ++ more
  each : map (goal_of u) targets ≡ map Some more

good_same : (a b : List Goal) → good a ≡ good b → a ≡ b
good_same a b h = cc

bad_is_not_good : (why : InputFault) (goals : List Goal) → bad why ≡ good goals → ⊥
bad_is_not_good why goals h = cc

named_all : (u : Universe) (found : List Goal) (place : ℕ) (targets : List TargetName) (goals : List Goal) → goals_after found place u targets ≡ Ok goals → AreNamed u found targets goals
named_all u found place [] goals h = record { more = []; behind = sym (good_same found goals h) ∙ sym (append-nil found); each = refl }
named_all u found place (target ∷ targets) goals h =
    elim (goal_of u target) as (λ o. goal_of u target ≡ o → next found place u targets o ≡ Ok goals → AreNamed u found (target ∷ targets) goals) [
      | None ↦ λ _ e. absurd (bad_is_not_good (Word place) goals e)
      | Some g ↦ λ is e.
          let rest = named_all u (found ++ g ∷ []) (place + 1) targets goals e in
          record {
            more = g ∷ rest.more;
            behind = rest.behind ∙ append_assoc found (g ∷ []) rest.more;
            each = λ i. is i ∷ rest.each i;
          }
    ] refl h

all_named : (u : Universe) (found : List Goal) (place : ℕ) (targets : List TargetName) (goals : List Goal) → map (goal_of u) targets ≡ map Some goals → goals_after found place u targets ≡ Ok (found ++ goals)
all_named u found place [] [] each = ap Ok (sym (append-nil found))
all_named u found place [] (g ∷ goals) each = absurd (no_more each) where
  no_more : [] ≡ Some g ∷ map Some goals → ⊥
  no_more e = cc
all_named u found place (target ∷ targets) [] each = absurd (no_more each) where
  no_more : goal_of u target ∷ map (goal_of u) targets ≡ [] → ⊥
  no_more e = cc
all_named u found place (target ∷ targets) (g ∷ goals) each =
    ap (next found place u targets) (first_same each) ∙ all_named u (found ++ g ∷ []) (place + 1) targets goals (rest_same each) ∙ ap Ok (append_assoc found (g ∷ []) goals) where
      first_same : goal_of u target ∷ map (goal_of u) targets ≡ Some g ∷ map Some goals → goal_of u target ≡ Some g
      first_same e = cc

      rest_same : goal_of u target ∷ map (goal_of u) targets ≡ Some g ∷ map Some goals → map (goal_of u) targets ≡ map Some goals
      rest_same e = cc

pub all_are_named : (place : ℕ) (u : Universe) (targets : List TargetName) (goals : List Goal) → goals_named place u targets ≡ Ok goals ↔ AreGoals u targets goals
all_are_named place u targets goals = (
  λ h. let named = named_all u [] place targets goals h in named.each ∙ ap (map Some) (sym named.behind),
  λ h. all_named u [] place targets goals h,
)

-- ---- the first that means none

good_is_not_bad : (goals : List Goal) (why : InputFault) → good goals ≡ bad why → ⊥
good_is_not_bad goals why h = cc

bad_same : (a b : InputFault) → bad a ≡ bad b → a ≡ b
bad_same a b h = cc

first_after : (u : Universe) (found : List Goal) (place : ℕ) (targets : List TargetName) (why : InputFault) → goals_after found place u targets ≡ Err why → IsFirstNoGoal place u targets why
first_after u found place [] why h = absurd (good_is_not_bad found why h)
first_after u found place (target ∷ targets) why h =
    elim (goal_of u target) as (λ o. goal_of u target ≡ o → next found place u targets o ≡ Err why → IsFirstNoGoal place u (target ∷ targets) why) [
      | None ↦ λ is e. record { target = 0; at = sym (bad_same (Word place) why e) ∙ ap Word (omega arith); is = record { within = omega arith; before = λ j low. absurd (omega (arith, low)); here = is } }
      | Some g ↦ λ is e.
          let rest = first_after u (found ++ g ∷ []) (place + 1) targets why e in
          record {
            target = suc rest.target;
            at = rest.at ∙ ap Word (omega arith);
            is = record { within = (let within = rest.is.within in omega (arith, within)); before = earlier g is rest.target rest.is.before; here = rest.is.here };
          }
    ] refl h where
      earlier : (g : Goal) → goal_of u target ≡ Some g → (i : ℕ) → ((j : ℕ) → j < i → IsSome (option_and_then (goal_of u) (slice_get targets j))) → (j : ℕ) → j < suc i → IsSome (option_and_then (goal_of u) (slice_get (target ∷ targets) j))
      earlier g is i before zero low = subst IsSome (sym is) refl
      earlier g is i before (suc j) low = before j (omega (arith, low))

pub first_is_told : (place : ℕ) (u : Universe) (targets : List TargetName) (why : InputFault) → goals_named place u targets ≡ Err why → IsFirstNoGoal place u targets why
first_is_told place u targets why h = first_after u [] place targets why h
