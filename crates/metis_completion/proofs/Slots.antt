-- Bindings to given instances, one slot and one port more at a time.
use Rattle.std.proofs.Common.{◌≡◌, ℕ, ◌+◌, ◌-◌, ◌<◌, ◌≤◌, List, [], ◌∷◌, ◌++◌, length, get_or, map, take, refl, sym, ap, ◌∙◌, arith, append_assoc}
use Rattle.std.specs.List.{range_with_len}
use Rattle.std.proofs.lemmas.List.{get_or_read, map-append}
use Rattle.std.proofs.lemmas.List.FromFn.{map-range_with_len_more}
use Rattle.metis_ids.specs.declared.actions.Action.{Action}
use Rattle.metis_layers.proofs.SlotLists.{slots_of}
use Rattle.metis_layers.specs.Terms.{slots_above}
use Rattle.metis_rollout.proofs.Required.{slots_more}
use Rattle.metis_universe.specs.Terms.{Universe}
use Rattle.metis_completion.specs.Terms.{given_demand, given_holder, slot_ties}
use Rattle.metis_ids.specs.Terms.{tie_action}
use Rattle.metis_ids.specs.declared.tie.Tie.{Tie}

-- the slots of these ports that q takes and p does not
abbrev pub slots_gained_of : Universe → (ℕ → List ℕ) → ℕ → ℕ → List ℕ → List (ℕ × ℕ)
slots_gained_of u given p q rs = slots_of (λ r. slots_above (given_demand u given p r) (given_demand u given q r)) rs

module _ (u : Universe) (given : ℕ → List ℕ) (t : Tie) (p q : ℕ) (rs : List ℕ) (i r : ℕ) (first now : List Action) (low : i < length rs) (is : r ≡ get_or rs i r) where
  abbrev slots_at : List (ℕ × ℕ)
  slots_at = map (λ k. (r, k)) (slots_above (given_demand u given p r) (given_demand u given q r))

  abbrev slots_before : List (ℕ × ℕ)
  slots_before = slots_gained_of u given p q (take i rs)

  one_port : slots_before ++ slots_at ≡ slots_gained_of u given p q (take (i + 1) rs)
  one_port = sym (slots_more (λ s. slots_above (given_demand u given p s) (given_demand u given q s)) rs i r low is)

  pub ties_more : now ≡ first ++ slot_ties t (given_holder given) slots_before → now ++ slot_ties t (given_holder given) slots_at ≡ first ++ slot_ties t (given_holder given) (slots_gained_of u given p q (take (i + 1) rs))
  ties_more before =
      let h = given_holder given in
      ap (λ l. l ++ slot_ties t h slots_at) before ∙ append_assoc first (slot_ties t h slots_before) (slot_ties t h slots_at)
      ∙ ap (λ l. first ++ l) (sym (map-append (λ (s : ℕ × ℕ). tie_action t s.0 (h s.0 s.1)) slots_before slots_at) ∙ ap (slot_ties t h) one_port)

-- ---- the slots of one port

module _ (given : ℕ → List ℕ) (t : Tie) (r held b to : ℕ) (first now : List Action) (low : held ≤ b) (inside : b < length (given r)) (is : to ≡ get_or (given r) b to) where
  -- the slots above `held` up to a number
  abbrev slots_up_to : ℕ → List (ℕ × ℕ)
  slots_up_to n = map (λ k. (r, k)) (range_with_len (held + 1) (n - held))

  slot_of : (f : ℕ × ℕ → Action) (xs : List ℕ) → map f (map (λ k. (r, k)) xs) ≡ map (λ k. f (r, k)) xs
  slot_of f [] = refl
  slot_of f (x ∷ xs) = ap (λ l. f (r, x) ∷ l) (slot_of f xs)

  one_slot : (f : ℕ × ℕ → Action) → map f (slots_up_to b) ++ f (r, b + 1) ∷ [] ≡ map f (slots_up_to (b + 1))
  one_slot f =
      let next : b + 1 - held ≡ (b - held) + 1 = omega arith in
      ap (λ l. l ++ f (r, b + 1) ∷ []) (slot_of f (range_with_len (held + 1) (b - held)))
      ∙ sym (map-range_with_len_more (λ k. f (r, k)) (held + 1) (b - held) (b + 1) (omega arith))
      ∙ ap (λ n. map (λ k. f (r, k)) (range_with_len (held + 1) n)) (sym next) ∙ sym (slot_of f (range_with_len (held + 1) (b + 1 - held)))

  holds : to ≡ given_holder given r (b + 1)
  holds = let place : b + 1 - 1 ≡ b = omega arith in get_or_read (given r) b to inside is 0 ∙ ap (λ k. get_or (given r) k 0) (sym place)

  pub tie_more : now ≡ first ++ slot_ties t (given_holder given) (slots_up_to b) → now ++ tie_action t r to ∷ [] ≡ first ++ slot_ties t (given_holder given) (slots_up_to (b + 1))
  tie_more before =
      let f : ℕ × ℕ → Action = λ s. tie_action t s.0 (given_holder given s.0 s.1) in
      (λ j. before j ++ tie_action t r (holds j) ∷ []) ∙ append_assoc first (map f (slots_up_to b)) (f (r, b + 1) ∷ []) ∙ ap (λ l. first ++ l) (one_slot f)
