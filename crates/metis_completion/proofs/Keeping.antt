-- What the completed list does: it makes, moves and removes what the fresh list does, and binds fresh instances to fresh ones and given ones alone.
use Rattle.std.proofs.Common.{◌≡◌, ℕ, zero, suc, ◌+◌, ◌-◌, ◌<◌, ◌≤◌, Bool, true, false, cond, Option, Some, None, take, not, List, [], ◌∷◌, ◌++◌, length, map, refl, sym, ap, ◌∙◌, arith, nat_eq, inl, inr}
use Rattle.std.specs.Prelude.{IsFalse, IsTrue}
use Rattle.std.specs.List.{All, AllByRecursion, flat_map, range_with_len}
use Rattle.std.proofs.lemmas.Bool.{both_ways, cases_lt, false≢true, or_cases, or_right}
use Rattle.std.proofs.lemmas.List.{get_or_past}
use Rattle.std.proofs.lemmas.List.Elements.{All-from_recursion, filter-append, recursion_from_All}
use Rattle.metis_ids.proofs.Lists.{all_at, has_at, has_here, has_take}
use Rattle.metis_ids.specs.declared.actions.Action.{Action}
use Rattle.metis_ids.specs.declared.actions.Action.TheVariants.{New, Delete, Bind, Unbind, Move}
use Rattle.metis_layers.specs.Terms.{slot_binds, slot_unbinds, slots_above}
use Rattle.metis_rollout.proofs.Each.{each_append}
use Rattle.metis_rollout.proofs.Going.{going_from_steady}
use Rattle.metis_rollout.proofs.Together.{touches_own}
use Rattle.metis_rollout.proofs.Touching.{AllTouch, At, Touches, bound_touched}
use Rattle.metis_rollout.specs.Terms.{is_made, news_of}
use Rattle.metis_universe.specs.Terms.{Config, IsOf, IsSteadfastRun, IsUniverse, Universe, after_all, empty, has, is_bound, no_pair, pair_count, pair_of, port_count, required_of, requires, residual}
use Rattle.metis_completion.specs.Terms.{IsBeside, IsNewOrGiven, KeepsTo, besides_ties, completed, completed_action, given_demand, given_gained, given_holder, is_tie_action, takes_given}
use Rattle.metis_completion.proofs.Front.{empty_front}
use Rattle.metis_completion.proofs.GivenSlots.{given_demand-few, given_demand-none}
use Rattle.metis_completion.proofs.ResidualRows.{residual_after_all}

-- ---- the slots

-- a slot of a port that the pair requires, up to what it takes
abbrev IsTakenSlot : Universe → (ℕ → List ℕ) → ℕ → ℕ × ℕ → Type 0
IsTakenSlot u given q s = (has (required_of u q) s.0 ≡ true) × (1 ≤ s.1) × (s.1 ≤ length (given s.0))

module _ (u : Universe) (given : ℕ → List ℕ) where
  taken_slots : (p q : ℕ) → AllByRecursion (IsTakenSlot u given q) (given_gained u given p q)
  taken_slots p q = ports (required_of u q) (λ r h. h) where
    up : (r : ℕ) → has (required_of u q) r ≡ true → (n a : ℕ) → 1 ≤ a → a + n ≤ length (given r) + 1 → AllByRecursion (IsTakenSlot u given q) (map (λ k. (r, k)) (range_with_len a n))
    up r h zero a first last = tt
    up r h (suc n) a first last = ((h, first, omega arith), up r h n (a + 1) (omega arith) (omega arith))

    ports : (rs : List ℕ) → ((r : ℕ) → has rs r ≡ true → has (required_of u q) r ≡ true) → AllByRecursion (IsTakenSlot u given q) (flat_map (λ r. map (λ k. (r, k)) (slots_above (given_demand u given p r) (given_demand u given q r))) rs)
    ports [] within = tt
    ports (r ∷ rs) within =
        each_append (IsTakenSlot u given q) (map (λ k. (r, k)) (slots_above (given_demand u given p r) (given_demand u given q r))) (flat_map (λ s. map (λ k. (s, k)) (slots_above (given_demand u given p s) (given_demand u given q s))) rs)
        (up r (within r (has_here r rs)) (given_demand u given q r - given_demand u given p r) (given_demand u given p r + 1) (omega arith)
        (low (given_demand u given p r) (given_demand u given q r) (length (given r)) (given_demand-few u given p r) (given_demand-few u given q r)))
        (ports rs (λ s h. within s (or_right (nat_eq r s) (has rs s) h))) where
          low : (m n g : ℕ) → m ≤ g → n ≤ g → m + 1 + (n - m) ≤ g + 1
          low m n g one two = omega arith

  each_mapped : {X : Type 0} (P : Action → Type 0) (Q : X → Type 0) (f : X → Action) → ((x : X) → Q x → P (f x)) → (xs : List X) → AllByRecursion Q xs → AllByRecursion P (map f xs)
  each_mapped P Q f into [] all = tt
  each_mapped P Q f into (x ∷ xs) all = (into x all.0, each_mapped P Q f into xs all.1)

  -- what holds of a move and of each binding to a given one holds of all that stands for the move
  each_of_move : (P : Action → Type 0) (z p q : ℕ) → P (Move z p q) → ((s : ℕ × ℕ) → IsTakenSlot u given q s → P (Bind s.0 z (given_holder given s.0 s.1))) → ((s : ℕ × ℕ) → IsTakenSlot u given p s → P (Unbind s.0 z (given_holder given s.0 s.1)))
      → AllByRecursion P (completed_action u given (Move z p q))
  each_of_move P z p q now binds unbinds =
      let h = given_holder given in
      each_append P (slot_binds h z (given_gained u given p q)) (Move z p q ∷ slot_unbinds h z (given_gained u given q p))
      (each_mapped P (IsTakenSlot u given q) (λ (s : ℕ × ℕ). Bind s.0 z (h s.0 s.1)) binds (given_gained u given p q) (taken_slots p q))
      (now, each_mapped P (IsTakenSlot u given p) (λ (s : ℕ × ℕ). Unbind s.0 z (h s.0 s.1)) unbinds (given_gained u given q p) (taken_slots q p))

  -- ---- whom it touches

  module _ (new : List Action) where
    held : (s : ℕ × ℕ) (q : ℕ) → IsTakenSlot u given q s → has (given s.0) (given_holder given s.0 s.1) ≡ true
    held s q taken = has_at (given s.0) (s.1 - 1) 0 (below s.1 (length (given s.0)) taken.1 taken.2) where
      below : (k n : ℕ) → 1 ≤ k → k ≤ n → k - 1 < n
      below k n first last = omega arith

    action_keeps : (a : Action) → Touches (At (is_made new)) a → AllByRecursion (KeepsTo given new) (completed_action u given a)
    action_keeps (New z t) made = (made, tt)
    action_keeps (Delete z) made = (made, tt)
    action_keeps (Bind r z y) made = ((made.0, inl made.1), tt)
    action_keeps (Unbind r z y) made = ((made.0, inl made.1), tt)
    action_keeps (Move z p q) made = each_of_move (KeepsTo given new) z p q made (λ s taken. (made, inr (held s q taken))) (λ s taken. (made, inr (held s p taken)))

    list_keeps : (xs : List Action) → AllTouch (At (is_made new)) xs → AllByRecursion (KeepsTo given new) (completed u given xs)
    list_keeps [] all = tt
    list_keeps (a ∷ xs) all = each_append (KeepsTo given new) (completed_action u given a) (completed u given xs) (action_keeps a all.0) (list_keeps xs all.1)

  pub completed_keeps : (avoided : List ℕ) (new : List Action) → IsSteadfastRun (residual u (λ r. length (given r)) avoided) new → All (KeepsTo given new) (completed u given new)
  completed_keeps avoided new s =
      let v = residual u (λ r. length (given r)) avoided in
      All-from_recursion (KeepsTo given new) (completed u given new) (list_keeps new new (touches_own v new (going_from_steady v new s)))

  -- ---- what else it does

  none_of_binds : (z : ℕ) (slots : List (ℕ × ℕ)) → besides_ties (slot_binds (given_holder given) z slots) ≡ []
  none_of_binds z [] = refl
  none_of_binds z (s ∷ slots) = none_of_binds z slots

  none_of_unbinds : (z : ℕ) (slots : List (ℕ × ℕ)) → besides_ties (slot_unbinds (given_holder given) z slots) ≡ []
  none_of_unbinds z [] = refl
  none_of_unbinds z (s ∷ slots) = none_of_unbinds z slots

  one_besides : (a : Action) (rest : List Action) → besides_ties (completed_action u given a ++ rest) ≡ besides_ties (a ∷ rest)
  one_besides (New z t) rest = refl
  one_besides (Delete z) rest = refl
  one_besides (Bind r z y) rest = refl
  one_besides (Unbind r z y) rest = refl
  one_besides (Move z p q) rest =
      let t : Action → Bool = λ a. not (is_tie_action a) in
      let binds = slot_binds (given_holder given) z (given_gained u given p q) in
      let unbinds = slot_unbinds (given_holder given) z (given_gained u given q p) in
      filter-append t (binds ++ (Move z p q ∷ unbinds)) rest ∙ ap (λ l. l ++ besides_ties rest) (filter-append t binds (Move z p q ∷ unbinds))
      ∙ ap (λ l. (l ++ (Move z p q ∷ besides_ties unbinds)) ++ besides_ties rest) (none_of_binds z (given_gained u given p q))
      ∙ ap (λ l. Move z p q ∷ (l ++ besides_ties rest)) (none_of_unbinds z (given_gained u given q p))

  pub completed_besides : (new : List Action) → besides_ties (completed u given new) ≡ besides_ties new
  completed_besides [] = refl
  completed_besides (a ∷ new) = one_besides a (completed u given new) ∙ ap (λ l. cond (not (is_tie_action a)) (a ∷ l) l) (completed_besides new)

  -- so it makes the same instances
  news_besides : (xs : List Action) → news_of (besides_ties xs) ≡ news_of xs
  news_besides [] = refl
  news_besides (New z t ∷ xs) = ap (λ l. z ∷ l) (news_besides xs)
  news_besides (Delete z ∷ xs) = news_besides xs
  news_besides (Bind r z y ∷ xs) = news_besides xs
  news_besides (Unbind r z y ∷ xs) = news_besides xs
  news_besides (Move z p q ∷ xs) = news_besides xs

  pub completed_news : (new : List Action) → news_of (completed u given new) ≡ news_of new
  completed_news new = sym (news_besides (completed u given new)) ∙ ap news_of (completed_besides new) ∙ news_besides new

  -- ---- the numbers that it names

  module _ (k : IsUniverse u) where
    port_low : (p r : ℕ) → has (required_of u p) r ≡ true → r < port_count u
    port_low p r needs = elim (cases_lt p (pair_count u)) [
      | inl inside ↦ all_at (λ s. s < port_count u) r (required_of u p) (k.required p inside).1 needs
      | inr past ↦ absurd (false≢true (sym (ap (λ row. has row.required r) (get_or_past u.pairs p no_pair past)) ∙ needs))
    ]

    action_of : (a : Action) → IsOf u a → AllByRecursion (IsOf u) (completed_action u given a)
    action_of (New z t) of = (of, tt)
    action_of (Delete z) of = (of, tt)
    action_of (Bind r z y) of = (of, tt)
    action_of (Unbind r z y) of = (of, tt)
    action_of (Move z p q) of = each_of_move (IsOf u) z p q of (λ s taken. port_low q s.0 taken.0) (λ s taken. port_low p s.0 taken.0)

    list_of : (xs : List Action) → AllByRecursion (IsOf u) xs → AllByRecursion (IsOf u) (completed u given xs)
    list_of [] all = tt
    list_of (a ∷ xs) all = each_append (IsOf u) (completed_action u given a) (completed u given xs) (action_of a all.0) (list_of xs all.1)

    pub completed_of : (new : List Action) → All (IsOf u) new → All (IsOf u) (completed u given new)
    completed_of new of = All-from_recursion (IsOf u) (completed u given new) (list_of new (recursion_from_All (IsOf u) new of))

-- ---- where its bindings lead

-- to a given provider an instance is bound only at a port that its pair requires
pub taken_required : (u : Universe) (given : ℕ → List ℕ) (p r y : ℕ) → IsTrue (takes_given u given (Some p) r y) → IsTrue (requires u p r) × IsTrue (has (given r) y)
taken_required u given p r y h = (by (requires u p r) refl, has_take (given r) (given_demand u given p r) y h) where
  by : (b : Bool) → requires u p r ≡ b → requires u p r ≡ true
  by true is = is
  by false is = absurd (both_ways (has (take (given_demand u given p r) (given r)) y) (empty_front (given_demand u given p r) (given r) y (given_demand-none u given p r is)) h)

module _ (u : Universe) (old : List Action) (given : ℕ → List ℕ) (avoided : List ℕ) (new : List Action) (d : Config) (s : IsSteadfastRun (residual u (λ r. length (given r)) avoided) new) (b : IsBeside u old given new d) where
  taken_given : (o : Option ℕ) (r y : ℕ) → takes_given u given o r y ≡ true → has (given r) y ≡ true
  taken_given None r y h = absurd (false≢true h)
  taken_given (Some p) r y h = (taken_required u given p r y h).1

  pub fresh_leads : (r z y : ℕ) → IsFalse (is_made old z) → IsTrue (is_bound d r z y) → IsNewOrGiven given new r y
  fresh_leads r z y off h =
      let e = after_all u empty new in
      let v = residual u (λ x. length (given x)) avoided in
      elim (or_cases (is_bound e r z y) (takes_given u given (pair_of e z) r y) (sym (b.new_bindings r z y off) ∙ h)) [
        | inl fresh ↦ inl (bound_touched (At (is_made new)) v r z y new (touches_own v new (going_from_steady v new s)) (ap (λ c. is_bound c r z y) (residual_after_all u (λ x. length (given x)) avoided empty new) ∙ fresh)).1
        | inr standing ↦ inr (taken_given (pair_of e z) r y standing)
      ]
