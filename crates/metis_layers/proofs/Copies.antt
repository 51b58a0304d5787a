-- Each element of a list so many times, one after another: where the copies of an element stand, and which copy stands at a place.
--     block_slot b g y      which of the g places from b on y is, counted from 1, and 0 where it is none of them
use Rattle.std.proofs.Common.{◌≡◌, ℕ, zero, suc, ◌+◌, ◌-◌, ◌*◌, ◌<◌, ◌≤◌, Bool, true, false, cond, ◌&&◌, List, [], ◌∷◌, ◌++◌, length, refl, sym, ap, ◌∙◌, arith, nat_eq, inl, inr, append-nil, length-append}
use Rattle.std.proofs.Math.Nat.{mul-suc}
use Rattle.std.proofs.lemmas.Bool.{and_from, and_parts, eq-eqb, le-leb, leb-true, or_cases, or_left, or_right}
use Rattle.std.proofs.lemmas.Grind.{flat_map-append}
use Rattle.std.proofs.lemmas.List.{length-replicate}
use Rattle.std.proofs.lemmas.List.Folds.{list_any-append}
use Rattle.std.specs.List.{flat_map, slice_get}
use Rattle.std.specs.Prelude.{nat_le, replicate}
use Rattle.metis_layers.proofs.Repeated.{in_copies, past_copies}
use Rattle.metis_ids.proofs.Lists.{has-replicate}
use Rattle.metis_universe.specs.Terms.{has}

abbrev pub copies : ℕ → List ℕ → List ℕ
copies g xs = flat_map (replicate g) xs

-- ---- places

abbrev pub block_slot : ℕ → ℕ → ℕ → ℕ
block_slot b g y = cond (nat_le b y && nat_le (y + 1) (b + g)) (y - b + 1) 0

-- a place in the block is the one that its number says
pub block_back : (b g y : ℕ) → 1 ≤ block_slot b g y → b + (block_slot b g y - 1) ≡ y
block_back b g y = by (nat_le b y && nat_le (y + 1) (b + g)) refl where
  by : (t : Bool) → (nat_le b y && nat_le (y + 1) (b + g)) ≡ t → 1 ≤ cond t (y - b + 1) 0 → b + (cond t (y - b + 1) 0 - 1) ≡ y
  by true is h = let low = leb-true b y (and_parts _ _ is).0 in omega (arith, low)
  by false is h = absurd (omega (arith, h))

pub block_own : (b g k : ℕ) → 1 ≤ k → k ≤ g → block_slot b g (b + (k - 1)) ≡ k
block_own b g k first last =
    ap (λ t. cond t ((b + (k - 1)) - b + 1) 0) (and_from _ _ (le-leb b (b + (k - 1)) (omega arith)) (le-leb (b + (k - 1) + 1) (b + g) (omega (arith, first, last)))) ∙ omega (arith, first)

-- ---- what the list has

pub length-copies : (g : ℕ) (xs : List ℕ) → length (copies g xs) ≡ g * length xs
length-copies g [] = omega arith
length-copies g (x ∷ xs) = omega (arith, length-append (replicate g x) (copies g xs), length-replicate g x, length-copies g xs, mul-suc g (length xs))

-- the copies of the i-th element
pub slice_get-copies : (g : ℕ) (xs : List ℕ) (i j : ℕ) → j < g → slice_get (copies g xs) (g * i + j) ≡ slice_get xs i
slice_get-copies g [] i j low = refl
slice_get-copies g (x ∷ xs) zero j low = ap (slice_get (replicate g x ++ copies g xs)) (omega arith) ∙ in_copies g x (copies g xs) j low
slice_get-copies g (x ∷ xs) (suc i) j low =
    ap (slice_get (replicate g x ++ copies g xs)) (omega (arith, mul-suc g i)) ∙ past_copies g x (copies g xs) (g * i + j) ∙ slice_get-copies g xs i j low

pub has-copies : (g : ℕ) (xs : List ℕ) (q : ℕ) → has (copies g xs) q ≡ true → has xs q ≡ true
has-copies g [] q h = h
has-copies g (x ∷ xs) q h = elim (or_cases (has (replicate g x) q) (has (copies g xs) q) (sym (list_any-append (λ y. nat_eq y q) (replicate g x) (copies g xs)) ∙ h)) [
  | inl copy ↦ or_left (nat_eq x q) (has xs q) (eq-eqb x q (has-replicate g x q copy))
  | inr more ↦ or_right (nat_eq x q) (has xs q) (has-copies g xs q more)
]

-- one more element at the end
pub copies-push : (g : ℕ) (xs : List ℕ) (x : ℕ) → copies g (xs ++ x ∷ []) ≡ copies g xs ++ replicate g x
copies-push g xs x = flat_map-append (replicate g) xs (x ∷ []) ∙ ap (λ l. copies g xs ++ l) (append-nil (replicate g x))
