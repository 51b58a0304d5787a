-- The barred set that covers the goal and does without the farthest pairs.
use Rattle.std.proofs.Common.{◌≡◌, ℕ, zero, suc, ◌+◌, ◌<◌, ◌≤◌, Bool, true, false, cond, List, [], ◌∷◌, ◌++◌, length, take, get_or, refl, sym, ap, ◌∙◌, subst, arith, inl, inr, nat_eq}
use Rattle.std.specs.List.{list_all}
use Rattle.std.proofs.lemmas.Bool.{both_ways, cases_eq, eq-eqb, eqb-true, false≢true, ne_eqb, or_cases, or_left, or_parts}
use Rattle.std.proofs.lemmas.List.{get_or_default, take_all}
use Rattle.metis_ids.proofs.Lists.{has-append, has_at, has_take}
use Rattle.metis_ids.specs.declared.goals.Goal.{Goal}
use Rattle.metis_universe.specs.Terms.{Universe, has}
use Rattle.metis_why.proofs.Reasons.{all_inside}
use Rattle.metis_why.specs.Terms.{AreApart, IsBarred, IsEnough, IsFront, IsGreatest, IsInside, IsLess, IsMissed, IsNearest, IsNearing, IsNeeded, place_in, wanted_by}

-- ---- places

pub place_past : (order : List ℕ) (p : ℕ) → has order p ≡ false → place_in order p ≡ length order
place_past [] p away = refl
place_past (q ∷ order) p away =
    let parts = or_parts (nat_eq q p) (has order p) away in
    ap (λ b. cond b 0 (suc (place_in order p))) parts.0 ∙ ap (λ n. suc n) (place_past order p parts.1)

pub place_low : (order : List ℕ) (p : ℕ) → has order p ≡ true → place_in order p < length order
place_low [] p there = absurd (false≢true there)
place_low (q ∷ order) p there = by (nat_eq q p) refl (place_low order p) where
  by : (b : Bool) → nat_eq q p ≡ b → (has order p ≡ true → place_in order p < length order) → cond b 0 (suc (place_in order p)) < suc (length order)
  by true here rest = omega arith
  by false other rest = elim (or_cases (nat_eq q p) (has order p) there) [
    | inl here ↦ absurd (both_ways (nat_eq q p) other here)
    | inr later ↦ let low = rest later in omega (arith, low)
  ]

-- the pair at the place of p is p
place_is : (order : List ℕ) (p n : ℕ) → n < length order → place_in order p ≡ n → get_or order n 0 ≡ p
place_is [] p n low at = absurd (omega arith)
place_is (q ∷ order) p n low at = by (nat_eq q p) refl n low at (place_is order p) where
  by : (b : Bool) → nat_eq q p ≡ b → (n : ℕ) → n < suc (length order) → cond b 0 (suc (place_in order p)) ≡ n → ((m : ℕ) → m < length order → place_in order p ≡ m → get_or order m 0 ≡ p) → get_or (q ∷ order) n 0 ≡ p
  by true here zero low at rest = eqb-true q p here
  by true here (suc n) low at rest = absurd (omega (arith, at))
  by false other zero low at rest = absurd (omega (arith, at))
  by false other (suc n) low at rest = rest n (omega arith) (omega (arith, at))

-- and where no pair stands twice, its place is the one where it stands
pub place_apart : (order : List ℕ) (n : ℕ) → AreApart order → n < length order → place_in order (get_or order n 0) ≡ n
place_apart [] n apart low = absurd (omega arith)
place_apart (q ∷ order) zero apart low = ap (λ b. cond b 0 (suc (place_in order q))) (eq-eqb q q refl)
place_apart (q ∷ order) (suc n) apart low =
    let p : ℕ = get_or order n 0 in
    let there : has order p ≡ true = has_at order n 0 (omega arith) in
    let other : nat_eq q p ≡ false = ne_eqb q p (λ same. both_ways (has order q) apart.0 (subst (λ r. has order r ≡ true) (sym same) there)) in
    ap (λ b. cond b 0 (suc (place_in order p))) other ∙ ap (λ k. suc k) (place_apart order n apart.1 (omega arith))

pub place_read : (order : List ℕ) (n p : ℕ) → AreApart order → n < length order → p ≡ get_or order n p → place_in order p ≡ n
place_read order n p apart low at = ap (place_in order) (at ∙ get_or_default order n p 0 low) ∙ place_apart order n apart low

-- ---- a front of an order

module _ (front rest : List ℕ) where
  pub front_place : (p : ℕ) → has front p ≡ true → place_in (front ++ rest) p ≡ place_in front p
  front_place p there = go front there where
    go : (front : List ℕ) → has front p ≡ true → place_in (front ++ rest) p ≡ place_in front p
    go [] there = absurd (false≢true there)
    go (q ∷ front) there = by (nat_eq q p) refl (go front) where
      by : (b : Bool) → nat_eq q p ≡ b → (has front p ≡ true → place_in (front ++ rest) p ≡ place_in front p) → cond b 0 (suc (place_in (front ++ rest) p)) ≡ cond b 0 (suc (place_in front p))
      by true here more = refl
      by false other more = elim (or_cases (nat_eq q p) (has front p) there) [
        | inl here ↦ absurd (both_ways (nat_eq q p) other here)
        | inr later ↦ ap (λ n. suc n) (more later)
      ]

  pub front_least : (p : ℕ) → place_in front p ≤ place_in (front ++ rest) p
  front_least p = go front where
    go : (front : List ℕ) → place_in front p ≤ place_in (front ++ rest) p
    go [] = omega arith
    go (q ∷ front) = by (nat_eq q p) (go front) where
      by : (b : Bool) → place_in front p ≤ place_in (front ++ rest) p → cond b 0 (suc (place_in front p)) ≤ cond b 0 (suc (place_in (front ++ rest) p))
      by true more = omega arith
      by false more = omega arith

  front_apart : AreApart (front ++ rest) → AreApart front
  front_apart apart = go front apart where
    go : (front : List ℕ) → AreApart (front ++ rest) → AreApart front
    go [] apart = tt
    go (q ∷ front) apart = ((or_parts (has front q) (has rest q) (sym (has-append front rest q) ∙ apart.0)).0, go front apart.1)

  -- a front in which a barred set covers the goal comes to the same as the whole
  front_nearest : (u : Universe) (g : Goal) (x : ℕ → Bool) → IsNearest u g front x → IsNearest u g (front ++ rest) x
  front_nearest u g x near = record {
    barred = near.barred;
    covers = near.covers;
    inside = λ p there. has-append front rest p ∙ or_left (has front p) (has rest p) (near.inside p there);
    near = λ y barred covers q there far. near.near y barred covers q there (λ p behind on.
        far p (farther (place_in (front ++ rest) q) (place_in front q) (place_in front p) (place_in (front ++ rest) p) (front_place q (near.inside q there)) behind (front_least p)) on);
  } where
    farther : (a b c d : ℕ) → a ≡ b → b < c → c ≤ d → a < d
    farther a b c d same less least = omega arith

-- ---- the nearest set, place by place

module _ (u : Universe) (g : Goal) (order : List ℕ) where
  pub nearing_start : (x : ℕ → Bool) → IsFront u g order x → IsNearing u g order x (length order)
  nearing_start x front = record {
    enough = record { within = front.within; barred = front.greatest.barred; covers = front.covers };
    inside = front.greatest.inside;
    keeps = λ y barred back. front.greatest.greatest y barred (λ p there. known y back p there (has order p) refl);
    near = λ y barred covers q there past far. absurd (less (place_in order q) (length order) (place_low order q (front.greatest.inside q there)) past);
  } where
    less : (a b : ℕ) → a < b → b ≤ a → ⊥
    less a b low high = omega arith

    known : (y : ℕ → Bool) → ((p : ℕ) → length order ≤ place_in order p → y p ≡ true → x p ≡ true) → (p : ℕ) → y p ≡ true → (b : Bool) → has order p ≡ b → has order p ≡ true
    known y back p there true is = is
    known y back p there false is = let past = place_past order p is in front.greatest.inside p (back p (omega (arith, past)) there)

  pub nearing_more : (x z : ℕ → Bool) (n q : ℕ) → n < length order → place_in order q ≡ n → IsNearing u g order x (n + 1) → IsLess u g x z →
      ((y : ℕ → Bool) → IsBarred u y → IsInside y x → (y q ≡ true → z q ≡ true) → IsInside y z) → (z q ≡ true → IsMissed u g z q) → IsNearing u g order z n
  nearing_more x z n q low at before less keeps missed = record {
    enough = less.enough;
    inside = λ p there. before.inside p (less.inside p there);
    keeps = λ y barred back. keeps y barred (before.keeps y barred (λ p far on. less.inside p (back p (omega (arith, far)) on))) (back q (omega (arith, at)));
    near = λ y barred covers r there far behind. elim (cases_eq (place_in order r) n) [
      | inl here ↦
          let same : q ≡ r = sym (place_is order q n low at) ∙ place_is order r n low here in
          let on : z q ≡ true = ap z same ∙ there in
          let inside : IsInside y x = before.keeps y barred (λ p past yes. less.inside p (behind p (omega (arith, past, here)) yes)) in
          ap y (sym same) ∙ missed on y barred covers (keeps y barred inside (λ _. on))
      | inr other ↦ before.near y barred covers r (less.inside r there) (omega (arith, other, far)) (λ p past yes. less.inside p (behind p past yes))
    ];
  }

  pub nearing_done : (x : ℕ → Bool) → IsNearing u g order x 0 → IsNearest u g order x
  nearing_done x done = record {
    barred = done.enough.barred;
    covers = done.enough.covers;
    inside = done.inside;
    near = λ y barred covers q there far. done.near y barred covers q there (omega arith) far;
  }

  pub needed_where_nearest : (x : ℕ → Bool) → IsNearest u g order x → IsNeeded u g x
  needed_where_nearest x nearest = record { covers = nearest.covers; least = λ y barred covers inside p there. nearest.near y barred covers p there (λ r far on. inside r on) }

  -- ---- there is one

  same_from : (x z : ℕ → Bool) → IsNearest u g order x → IsNearest u g order z → (k : ℕ) (p : ℕ) → length order ≤ place_in order p + k → (x p ≡ true → z p ≡ true) × (z p ≡ true → x p ≡ true)
  same_from x z a b zero p past = (gone x z a, gone z x b) where
    gone : (y w : ℕ → Bool) → IsNearest u g order y → y p ≡ true → w p ≡ true
    gone y w n there = let low = place_low order p (n.inside p there) in absurd (omega (arith, low, past))
  same_from x z a b (suc k) p past =
      let further : (r : ℕ) → place_in order p < place_in order r → (x r ≡ true → z r ≡ true) × (z r ≡ true → x r ≡ true) = λ r far. same_from x z a b k r (omega (arith, far, past)) in (
        λ there. a.near z b.barred b.covers p there (λ r far on. (further r far).1 on),
        λ there. b.near x a.barred a.covers p there (λ r far on. (further r far).0 on),
      )

  pub nearest_one : (x z : ℕ → Bool) → IsNearest u g order x → IsNearest u g order z → x ≡ z
  nearest_one x z a b = λ i p. same p i where
    agree : (c d : Bool) → (c ≡ true → d ≡ true) → (d ≡ true → c ≡ true) → c ≡ d
    agree true d there back = sym (there refl)
    agree false true there back = back refl
    agree false false there back = refl

    same : (p : ℕ) → x p ≡ z p
    same p = let both = same_from x z a b (length order) p (omega arith) in agree (x p) (z p) both.0 both.1

-- ---- fronts in which a barred set covers the goal

module _ (u : Universe) (g : Goal) (order : List ℕ) (enough : IsEnough u g (has order)) where
  front_by : (n : ℕ) (x : ℕ → Bool) → IsGreatest u (has (take n order)) x → list_all x (wanted_by u g) ≡ true → IsFront u g (take n order) x
  front_by n x greatest covers = record { within = λ p there. enough.within p (has_take order n p (greatest.inside p there)); greatest = greatest; covers = covers }

  whole_front : (x : ℕ → Bool) → IsGreatest u (has order) x → IsFront u g order x
  whole_front x all = record {
    within = λ p there. enough.within p (all.inside p there);
    greatest = all;
    covers = all_inside x (has order) (wanted_by u g) (all.greatest (has order) enough.barred (λ p there. there)) enough.covers;
  }

  pub front_cut : (old d new : List ℕ) (n : ℕ) (x : ℕ → Bool) → old ≡ order → d ≡ old → new ≡ take n old → IsGreatest u (has (take n d)) x → list_all x (wanted_by u g) ≡ true → IsFront u g new x
  front_cut old d new n x same read cut greatest covers =
      subst (λ l. IsFront u g l x) (sym (cut ∙ ap (take n) same)) (front_by n x (subst (λ l. IsGreatest u (has (take n l)) x) (read ∙ same) greatest) covers)

  pub front_all : (old d : List ℕ) (n : ℕ) (x : ℕ → Bool) → old ≡ order → d ≡ old → length d ≤ n → IsGreatest u (has (take n d)) x → IsFront u g old x
  front_all old d n x same read all greatest =
      subst (λ l. IsFront u g l x) (sym same) (whole_front x (subst (λ l. IsGreatest u (has l) x) (read ∙ same) (subst (λ l. IsGreatest u (has l) x) (take_all n d all) greatest)))

-- ---- an order that was cut

module _ (old new d rest : List ℕ) (cut : old ≡ new ++ rest) (read : d ≡ new) where
  pub cut_apart : AreApart old → AreApart d
  cut_apart apart = subst AreApart (sym read) (front_apart new rest (subst AreApart cut apart))

  pub cut_nearest : (u : Universe) (g : Goal) (x : ℕ → Bool) → IsNearest u g d x → IsNearest u g old x
  cut_nearest u g x near = subst (λ l. IsNearest u g l x) (sym cut) (front_nearest new rest u g x (subst (λ l. IsNearest u g l x) read near))

-- ---- flags of a front

pub greatest_of : (u : Universe) (s t z : ℕ → Bool) → ((p : ℕ) → s p ≡ t p) → IsGreatest u s z → IsGreatest u t z
greatest_of u s t z same greatest = subst (λ w. IsGreatest u w z) (λ i p. same p i) greatest
