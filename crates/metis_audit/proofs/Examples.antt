-- Audits of small texts.
use Rattle.std.proofs.Common.{◌≡◌, ℕ, zero, suc, ◌+◌, ◌-◌, ◌<◌, ◌≤◌, true, false, [], ◌∷◌, List, length, get_or, map, refl, sym, ap, ◌∙◌, arith}
use Rattle.std.specs.Prelude.{IsSome}
use Rattle.std.proofs.lemmas.List.Elements.{All-from_recursion}
use Rattle.metis_ids.specs.declared.actions.Action.{Action}
use Rattle.metis_ids.specs.declared.actions.Action.TheVariants.{New, Delete, Bind, Unbind, Move}
use Rattle.metis_ids.specs.declared.events.Event.TheVariants.{At}
use Rattle.metis_ids.specs.Terms.{Dup, Plan}
use Rattle.metis_universe.proofs.PlanExamples.{kind, pair}
use Rattle.metis_universe.specs.Terms.{Universe, layer_of, numbers, waits}
use Rattle.metis_lines.proofs.Examples.{crossing}
use Rattle.metis_lines.specs.Terms.{is_justified_at, lines_for}
use Rattle.metis_support.specs.Terms.{support_of}
use Rattle.metis_text.specs.Terms.{after_of}
use Rattle.metis_waits.proofs.Listed.{list_of-others}
use Rattle.metis_waits.specs.Terms.{AreWaits, waits_on_others}
use Rattle.metis_audit.specs.Terms.{IsAnswer, IsAttained, IsFollowed, IsForced, IsSteady, audited_lines, follows, takes}
use Rattle.metis_audit.specs.declared.answers.Answer.TheVariants.{Justified, NoCycle, Count, Path, After}

-- each of the two goes on only when the other has gone on, so the pair that provides x, 1, is doubled
abbrev dup : Dup
dup = record { pair = 1; cycle = At 0 2 ∷ At 1 3 ∷ At 1 2 ∷ At 0 3 ∷ [] }

abbrev goals : List ℕ
goals = 3 ∷ 7 ∷ []

-- A goes through while B provides y, and then B while a second A provides x
abbrev actions : List Action
actions = New 0 0 ∷ Move 0 0 1 ∷ New 1 1 ∷ Move 1 4 5 ∷ Bind 1 0 1 ∷ Move 0 1 2 ∷ Move 0 2 3 ∷ Unbind 1 0 1
    ∷ New 2 0 ∷ Move 2 0 1 ∷ Bind 0 1 2 ∷ Move 1 5 6 ∷ Move 1 6 7 ∷ Unbind 0 1 2 ∷ Delete 2 ∷ []

-- a bind waits for the provider's entry, and a move or a deletion for the unbinds that end what was taken from there
abbrev after : List (List ℕ)
after = [] ∷ [] ∷ [] ∷ [] ∷ (4 ∷ []) ∷ [] ∷ [] ∷ [] ∷ [] ∷ [] ∷ (10 ∷ []) ∷ (8 ∷ []) ∷ [] ∷ [] ∷ (14 ∷ []) ∷ []

abbrev text : List Action → List Dup → ℕ → Plan
text actions dups n = record { actions = actions; dups = dups; instances = n }

attained : IsAttained crossing goals
attained = All-from_recursion (λ q. IsSome (layer_of crossing q)) goals (refl, (refl, tt))

forced : (steps : List Action) (n : ℕ) → IsForced crossing goals (text steps (dup ∷ []) n)
forced steps n = record { attained = attained; justified = refl }

followed : IsFollowed crossing goals (text actions (dup ∷ []) 3)
followed = record { counted = record { forced = forced actions 3; count = refl }; each = each } where
  each : (l : ℕ) → l < length (audited_lines crossing goals (text actions (dup ∷ []) 3)).lines → follows crossing goals (text actions (dup ∷ []) 3) l
  each zero low = refl
  each (suc zero) low = refl
  each (suc (suc zero)) low = refl
  each (suc (suc (suc l))) low = absurd (omega arith)

steady : IsSteady crossing goals (text actions (dup ∷ []) 3)
steady = record { followed = followed; steadfast = refl }

listed : AreWaits actions (record { each = map (waits actions) (numbers actions); others = after })
listed = record { each = refl; others = refl }

justified : IsAnswer crossing goals (text actions (dup ∷ []) 3) after Justified
justified = record { steady = steady; printed = printed } where
  printed : (k : ℕ) → 1 ≤ k → k ≤ 15 → after_of after k ≡ waits_on_others actions k
  printed zero one low = absurd (omega arith)
  printed (suc i) one low =
      let back : suc i - 1 ≡ i = omega arith in
      sym (ap (λ j. get_or after j []) back) ∙ list_of-others actions (record { each = map (waits actions) (numbers actions); others = after }) (suc i) listed one low

-- once the one pair is doubled, the same events are no cycle
no_cycle : IsAnswer crossing goals (text actions (dup ∷ record { pair = 5; cycle = dup.cycle } ∷ []) 3) after (NoCycle 2)
no_cycle = (attained, record { first = omega arith; last = omega arith; fails = refl; before = before }) where
  before : (i : ℕ) → i + 1 < 2 → is_justified_at crossing goals (dup ∷ record { pair = 5; cycle = dup.cycle } ∷ []) i ≡ true
  before zero low = refl
  before (suc i) low = absurd (omega arith)

-- with a line for each target and one for the dup there are three
miscount : IsAnswer crossing goals (text [] (dup ∷ []) 0) [] (Count 0 3)
miscount = (forced [] 0, record { made = refl; needed = refl; differ = λ same. omega (arith, same) })

-- the second instance is only made
abbrev made : List Action
made = New 0 0 ∷ Move 0 0 1 ∷ Move 0 1 2 ∷ Move 0 2 3 ∷ New 1 1 ∷ New 2 0 ∷ Move 2 0 1 ∷ []

astray : IsAnswer crossing goals (text made (dup ∷ []) 3) after (Path 1)
astray = (record { forced = forced made 3; count = refl }, record { within = omega arith; fails = λ same. let long = ap length same in omega arith; before = before }) where
  before : (m : ℕ) → m < 1 → follows crossing goals (text made (dup ∷ []) 3) m
  before zero low = refl
  before (suc m) low = absurd (omega arith)

-- no numbers stand behind the actions
unlisted : IsAnswer crossing goals (text actions (dup ∷ []) 3) [] (After 5)
unlisted = (steady, record { first = omega arith; last = omega arith; fails = λ same. let long = ap length same in omega arith; before = before }) where
  before : (j : ℕ) → 1 ≤ j → j < 5 → after_of [] j ≡ waits_on_others actions j
  before zero one low = refl
  before (suc zero) one low = refl
  before (suc (suc zero)) one low = refl
  before (suc (suc (suc zero))) one low = refl
  before (suc (suc (suc (suc zero)))) one low = refl
  before (suc (suc (suc (suc (suc j))))) one low = absurd (omega arith)

-- a database that is switched on, and a web server that needs two of them; pairs Db:off 0, Db:on 1, Web:off 2, Web:run 3, port sql 0
abbrev farm : Universe
farm = record {
  version = 2;
  kinds = kind 0 ∷ kind 2 ∷ [];
  pairs = pair 0 [] [] (1 ∷ []) ∷ pair 0 (0 ∷ []) [] [] ∷ pair 1 [] [] (3 ∷ [])
      ∷ record { kind = 1; state = []; provided = []; required = 0 ∷ []; further = 1 ∷ []; next = [] } ∷ [];
  ports = (115 ∷ 113 ∷ 108 ∷ []) ∷ [];
}

-- the server is told to run when it is bound to both
abbrev farm_actions : List Action
farm_actions = New 0 1 ∷ New 1 0 ∷ Move 1 0 1 ∷ Bind 0 0 1 ∷ New 2 0 ∷ Move 2 0 1 ∷ Bind 0 0 2 ∷ Move 0 2 3 ∷ []

abbrev farm_after : List (List ℕ)
farm_after = [] ∷ [] ∷ [] ∷ (3 ∷ []) ∷ [] ∷ [] ∷ (6 ∷ []) ∷ [] ∷ []

farm_attained : IsAttained farm (3 ∷ [])
farm_attained = All-from_recursion (λ q. IsSome (layer_of farm q)) (3 ∷ []) (refl, tt)

farm_forced : (steps : List Action) (n : ℕ) → IsForced farm (3 ∷ []) (text steps [] n)
farm_forced steps n = record { attained = farm_attained; justified = refl }

-- an instance for the target, and one for each slot of the database
farm_followed : IsFollowed farm (3 ∷ []) (text farm_actions [] 3)
farm_followed = record { counted = record { forced = farm_forced farm_actions 3; count = refl }; each = each } where
  each : (l : ℕ) → l < length (audited_lines farm (3 ∷ []) (text farm_actions [] 3)).lines → follows farm (3 ∷ []) (text farm_actions [] 3) l
  each zero low = refl
  each (suc zero) low = refl
  each (suc (suc zero)) low = refl
  each (suc (suc (suc l))) low = absurd (omega arith)

farm_listed : AreWaits farm_actions (record { each = map (waits farm_actions) (numbers farm_actions); others = farm_after })
farm_listed = record { each = refl; others = refl }

farm_justified : IsAnswer farm (3 ∷ []) (text farm_actions [] 3) farm_after Justified
farm_justified = record { steady = record { followed = farm_followed; steadfast = refl }; printed = printed } where
  printed : (k : ℕ) → 1 ≤ k → k ≤ 8 → after_of farm_after k ≡ waits_on_others farm_actions k
  printed zero one low = absurd (omega arith)
  printed (suc i) one low =
      let back : suc i - 1 ≡ i = omega arith in
      sym (ap (λ j. get_or farm_after j []) back) ∙ list_of-others farm_actions (record { each = map (waits farm_actions) (numbers farm_actions); others = farm_after }) (suc i) farm_listed one low

-- with one database there are too few
farm_miscount : IsAnswer farm (3 ∷ []) (text (New 0 1 ∷ New 1 0 ∷ Move 1 0 1 ∷ Bind 0 0 1 ∷ Move 0 2 3 ∷ []) [] 2) [] (Count 2 3)
farm_miscount = (farm_forced _ 2, record { made = refl; needed = refl; differ = λ same. omega (arith, same) })

-- the server takes the port from both databases, and from no third
farm_takes : map (λ h. takes farm (support_of farm (3 ∷ [])) (lines_for farm (3 ∷ []) []) 0 1 h 1) (0 ∷ 1 ∷ 2 ∷ 3 ∷ []) ≡ false ∷ true ∷ true ∷ false ∷ []
farm_takes = refl
