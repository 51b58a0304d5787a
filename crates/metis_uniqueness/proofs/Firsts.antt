-- What is first in a list, or least, is one.
--     Alike xs x ys y      x and y are the same item, and so is what stands before them
--     Among xs x ys      x, behind xs, is among the items ys
--     Parted xs x ys y      x and y are alike, or one of them is among what stands before the other
use Rattle.std.proofs.Common.{◌≡◌, ◌⊎◌, Bool, true, false, cond, List, [], ◌∷◌, ◌++◌, Some, refl, sym, ap, ◌∙◌, inl, inr}
use Rattle.std.specs.List.{All, find}
use Rattle.std.proofs.lemmas.List.Elements.{All-head, All-tail}

pub record Alike {A : Type 0} (xs : List A) (x : A) (ys : List A) (y : A) : Type 0 where
  pub before : xs ≡ ys
  pub item : x ≡ y

pub record Among {A : Type 0} (xs : List A) (x : A) (ys : List A) : Type 0 where
  pub later : List A
  pub parts : ys ≡ xs ++ x ∷ later

abbrev pub Parted : {A : Type 0} → List A → A → List A → A → Type 0
Parted xs x ys y = Alike xs x ys y ⊎ (Among xs x ys ⊎ Among ys y xs)

same_head : {A : Type 0} (x y : A) (xs ys : List A) → x ∷ xs ≡ y ∷ ys → x ≡ y
same_head x y xs ys e = cc

same_tail : {A : Type 0} (x y : A) (xs ys : List A) → x ∷ xs ≡ y ∷ ys → xs ≡ ys
same_tail x y xs ys e = cc

-- a list that is parted in two ways
pub parted : {A : Type 0} (xs : List A) (x : A) (zs ys : List A) (y : A) (ws : List A) → xs ++ x ∷ zs ≡ ys ++ y ∷ ws → Parted xs x ys y
parted [] x zs [] y ws e = inl (record { before = refl; item = same_head x y zs ws e })
parted [] x zs (b ∷ ys) y ws e = inr (inl (record { later = ys; parts = ap (λ c. c ∷ ys) (sym_head e) })) where
  sym_head : x ∷ zs ≡ b ∷ (ys ++ y ∷ ws) → b ≡ x
  sym_head h = cc
parted (a ∷ xs) x zs [] y ws e = inr (inr (record { later = xs; parts = ap (λ c. c ∷ xs) (same_head a y (xs ++ x ∷ zs) ws e) }))
parted (a ∷ xs) x zs (b ∷ ys) y ws e = elim (parted xs x zs ys y ws (same_tail a b (xs ++ x ∷ zs) (ys ++ y ∷ ws) e)) [
  | inl same ↦ inl (record { before = (λ i. first i ∷ same.before i); item = same.item })
  | inr other ↦ elim other [
    | inl among ↦ inr (inl (record { later = among.later; parts = (λ i. sym_first i ∷ among.parts i) }))
    | inr among ↦ inr (inr (record { later = among.later; parts = (λ i. first i ∷ among.parts i) }))
  ]
] where
  first : a ≡ b
  first = same_head a b (xs ++ x ∷ zs) (ys ++ y ∷ ws) e

  sym_first : b ≡ a
  sym_first = cc

-- two tests that imply each other are one
pub same_test : (a b : Bool) → (a ≡ true → b ≡ true) → (b ≡ true → a ≡ true) → a ≡ b
same_test true true up down = refl
same_test true false up down = sym (up refl)
same_test false true up down = down refl
same_test false false up down = refl

-- what is found passes the test
pub found_passes : {A : Type 0} (t : A → Bool) (xs : List A) (x : A) → find t xs ≡ Some x → All (λ y. t y ≡ false) xs → ⊥
found_passes t [] x h all = absurd (cc)
found_passes t (y ∷ xs) x h all = found_passes t xs x (sym (ap (λ b. cond b (Some y) (find t xs)) (All-head (λ z. t z ≡ false) y xs all)) ∙ h) (All-tail (λ z. t z ≡ false) y xs all)
