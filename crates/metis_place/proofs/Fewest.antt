-- No shorter beginning is enough.
use Rattle.std.proofs.Common.{◌≡◌, ℕ, zero, suc, ◌+◌, ◌<◌, ◌≤◌, Bool, true, false, cond, List, [], ◌∷◌, Some, None, Option, refl, sym, ap, ◌∙◌, subst, arith, inl, inr, take, length}
use Rattle.std.specs.List.{find, range_with_len}
use Rattle.std.specs.Option.{option_map_or}
use Rattle.std.proofs.lemmas.Bool.{cases_eq}
use Rattle.metis_ids.specs.declared.actions.Action.{Action}
use Rattle.metis_place.specs.Terms.{HostLists, Seat, candidates, further, is_enough, seat_at, seats_by, shortest}
use Rattle.std.proofs.lemmas.Option.{same_Some}

take_le : (m : ℕ) (xs : List ℕ) → length (take m xs) ≤ m
take_le zero [] = omega arith
take_le zero (x ∷ xs) = omega arith
take_le (suc m) [] = omega arith
take_le (suc m) (x ∷ xs) = let rest = take_le m xs in omega arith

none_before : (t : ℕ → Bool) (a k m n : ℕ) → find t (range_with_len a k) ≡ Some m → a ≤ n → n < m → t n ≡ false
none_before t a zero m n h low less = cc
none_before t a (suc k) m n h low less = by (none_before t (a + 1) k m n) (t a) refl h where
  by : (find t (range_with_len (a + 1) k) ≡ Some m → a + 1 ≤ n → n < m → t n ≡ false) → (b : Bool) → t a ≡ b → cond b (Some a) (find t (range_with_len (a + 1) k)) ≡ Some m → t n ≡ false
  by next true e h = let is = same_Some a m h in absurd (omega arith)
  by next false e h = elim (cases_eq a n) [
    | inl at ↦ sym (ap t at) ∙ e
    | inr other ↦ next h (omega arith) less
  ]

shortest_least : (test : List ℕ → Bool) (xs : List ℕ) (n : ℕ) → n < length (shortest test xs) → test (take n xs) ≡ false
shortest_least test xs n = by (find (λ n. test (take n xs)) (range_with_len 0 (length xs + 1))) refl where
  by : (o : Option ℕ) → find (λ n. test (take n xs)) (range_with_len 0 (length xs + 1)) ≡ o → n < length (option_map_or (λ n. take n xs) o []) → test (take n xs) ≡ false
  by None e less = absurd (omega arith)
  by (Some m) e less = let few = take_le m xs in none_before (λ n. test (take n xs)) 0 (length xs + 1) m n e (omega arith) (omega arith)

pub fewest : (h : HostLists) (A : List Action) (g n : ℕ) (s : Seat) → seat_at h A (suc g) ≡ Some s → n < length (further h A (suc g)) → is_enough h A (seats_by h A (suc g)) s.host (take n (candidates A (seats_by h A (suc g)) g s.host)) ≡ false
fewest h A g n s at less =
    let S = seats_by h A (suc g) in
    let is = ap (λ o. option_map_or (λ (r : Seat). shortest (is_enough h A S r.host) (candidates A S g r.host)) o []) at in
    shortest_least (is_enough h A S s.host) (candidates A S g s.host) n (subst (λ l. n < length l) is less)
