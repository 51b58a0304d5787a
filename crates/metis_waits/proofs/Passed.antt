-- One pass over a list: what is said of the next action, and of all.
use Rattle.std.proofs.Common.{◌≡◌, ℕ, zero, suc, ◌+◌, ◌-◌, ◌<◌, ◌≤◌, Bool, true, not, List, [], ◌∷◌, ◌++◌, length, map, take, Some, refl, sym, ap, ◌∙◌, arith, nat_eq, inl, inr}
use Rattle.std.proofs.lemmas.Bool.{and_from, cases_eq}
use Rattle.std.proofs.lemmas.List.{map-append}
use Rattle.std.specs.List.{filter, list_all, range_with_len, slice_get}
use Rattle.std.specs.Option.{option_map_or}
use Rattle.metis_ids.specs.Terms.{actor_of}
use Rattle.metis_ids.specs.declared.actions.Action.{Action}
use Rattle.metis_ids.proofs.Lists.{range_push}
use Rattle.metis_universe.specs.Terms.{Universe, action_at, before, is_steadfast, is_steadfast_after, is_steadfast_at, is_wait, last_number, numbers, waits}
use Rattle.metis_waits.specs.Terms.{is_by, own_previous, waits_on_others}

-- what a function of the earlier actions and of the action gives at the next number
at_next : {A : Type 0} (f : List Action → Action → A) (d : A) (actions : List Action) (i : ℕ) (a : Action) → slice_get actions i ≡ Some a →
    option_map_or (f (before (i + 1) actions)) (action_at actions (i + 1)) d ≡ f (take i actions) a
at_next f d actions i a is =
    let next : i + 1 ≡ suc i = omega arith in
    let back : i + 1 - 1 ≡ i = omega arith in
    ap (λ k. option_map_or (f (take k actions)) (action_at actions (i + 1)) d) back
    ∙ ap (λ k. option_map_or (f (take i actions)) (action_at actions k) d) next
    ∙ ap (λ o. option_map_or (f (take i actions)) o d) is

module _ (actions : List Action) (i : ℕ) (a : Action) (is : slice_get actions i ≡ Some a) where
  pub waits_next : waits actions (i + 1) ≡ filter (is_wait (take i actions) a) (numbers (take i actions))
  waits_next = at_next (λ earlier b. filter (is_wait earlier b) (numbers earlier)) [] actions i a is

  previous_next : own_previous actions (i + 1) ≡ last_number (is_by (actor_of a)) (take i actions)
  previous_next = at_next (λ earlier b. last_number (is_by (actor_of b)) earlier) 0 actions i a is

  pub others_next : (ms : List ℕ) (n : ℕ) → ms ≡ filter (is_wait (take i actions) a) (numbers (take i actions)) → n ≡ last_number (is_by (actor_of a)) (take i actions) →
      filter (λ m. not (nat_eq m n)) ms ≡ waits_on_others actions (i + 1)
  others_next ms n all own = let list = all ∙ sym waits_next in let previous = own ∙ sym previous_next in λ j. filter (λ m. not (nat_eq m (previous j))) (list j)

  pub steadfast_next : (u : Universe) → is_steadfast_at u actions (i + 1) ≡ is_steadfast_after u (take i actions) a
  steadfast_next u = at_next (is_steadfast_after u) true actions i a is

-- one more list
pub mapped : (f : ℕ → List ℕ) (i : ℕ) (rows rows' : List (List ℕ)) (x : List ℕ) → rows' ≡ rows ++ x ∷ [] → rows ≡ map f (range_with_len 1 i) → x ≡ f (i + 1) → rows' ≡ map f (range_with_len 1 (i + 1))
mapped f i rows rows' x is old at =
    let next : 1 + i ≡ i + 1 = omega arith in
    is ∙ (λ j. old j ++ at j ∷ []) ∙ ap (λ k. map f (range_with_len 1 i) ++ f k ∷ []) (sym next) ∙ sym (map-append f (range_with_len 1 i) ((1 + i) ∷ [])) ∙ ap (map f) (sym (range_push 1 i))

each_in : (t : ℕ → Bool) (a n : ℕ) → ((j : ℕ) → j < a + n → t j ≡ true) → list_all t (range_with_len a n) ≡ true
each_in t a zero each = refl
each_in t a (suc n) each = and_from _ _ (each a (omega arith)) (each_in t (a + 1) n (λ j low. each j (omega arith)))

pub all_steadfast : (u : Universe) (actions : List Action) (i : ℕ) → length actions ≤ i → ((j : ℕ) → j ≤ i → is_steadfast_at u actions j ≡ true) → is_steadfast u actions ≡ true
all_steadfast u actions i long each = each_in (is_steadfast_at u actions) 1 (length actions) (λ j low. each j (omega arith))

pub one_more : (t : ℕ → Bool) (i : ℕ) → ((j : ℕ) → j ≤ i → t j ≡ true) → t (i + 1) ≡ true → (j : ℕ) → j ≤ i + 1 → t j ≡ true
one_more t i old now j low = elim (cases_eq j (i + 1)) [ inl same ↦ ap t same ∙ now | inr other ↦ old j (omega arith) ]
