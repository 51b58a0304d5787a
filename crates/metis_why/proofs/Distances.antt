-- The pairs behind a goal, from near to far, and their fronts.
use Rattle.std.proofs.Common.{◌≡◌, ℕ, ◌+◌, ◌<◌, ◌≤◌, Bool, true, false, ◌||◌, List, ◌++◌, length, min, take, drop, refl, sym, ap, ◌∙◌, subst, arith}
use Rattle.std.specs.List.{All}
use Rattle.std.proofs.lemmas.List.{take-append-drop, take_min}
use Rattle.metis_ids.proofs.Lists.{all_at, has_take, all_from}
use Rattle.metis_ids.specs.declared.goals.Goal.{Goal}
use Rattle.metis_universe.specs.Terms.{Universe, has, pair_count}
use Rattle.metis_why.specs.Terms.{IsEnough, IsWithin}

-- ---- flags of a front

none_more : (b : Bool) → (b || false) ≡ b
none_more true = refl
none_more false = refl

-- where none was set, those of the first so many are
pub front_set : (order items : List ℕ) (size n : ℕ) (old new : ℕ → Bool) → items ≡ take n order → n ≡ min size (length order) → ((p : ℕ) → old p ≡ false) → ((p : ℕ) → new p ≡ (has items p || old p)) → (p : ℕ) → new p ≡ has (take size order) p
front_set order items size n old new are at none step p =
    step p ∙ ap (λ b. has items p || b) (none p) ∙ none_more (has items p) ∙ ap (λ l. has l p) (are ∙ ap (λ k. take k order) at ∙ take_min size order)

pub front_within : (u : Universe) (order : List ℕ) (size : ℕ) (f : ℕ → Bool) → All (λ p. p < pair_count u) order → ((p : ℕ) → f p ≡ has (take size order) p) → IsWithin u f
front_within u order size f low same p there = all_at (λ q. q < pair_count u) p order low (has_take order size p (sym (same p) ∙ there))

pub front_low : (u : Universe) (order items : List ℕ) (n : ℕ) → pair_count u ≤ 2000 → All (λ p. p < pair_count u) order → items ≡ take n order → All (λ p. p < 2000) items
front_low u order items n few low are = all_from (λ p. p < 2000) items (λ p there.
    let here = all_at (λ q. q < pair_count u) p order low (has_take order n p (subst (λ l. has l p ≡ true) are there)) in
    omega (arith, here, few))

pub low_of : (u : Universe) (g : Goal) (order pairs : List ℕ) → IsEnough u g (has order) → pairs ≡ order → All (λ p. p < pair_count u) pairs
low_of u g order pairs enough is = subst (λ l. All (λ p. p < pair_count u) l) (sym is) (all_from (λ p. p < pair_count u) order (λ p there. enough.within p there))

pub cut_at : (order new : List ℕ) (n : ℕ) → new ≡ take n order → (rest : List ℕ) × (order ≡ new ++ rest)
cut_at order new n is = (drop n order, sym (take-append-drop n order) ∙ ap (λ l. l ++ drop n order) (sym is))
