-- Bindings that are made one after another, in whatever order: no one twice, and each fits from the beginning on.
use Rattle.std.proofs.Common.{◌≡◌, ℕ, Bool, true, false, ◌&&◌, ◌||◌, List, [], ◌∷◌, ◌++◌, map, flat_map, refl, sym, ap, ◌∙◌, nat_eq}
use Rattle.std.specs.List.{AllByRecursion}
use Rattle.std.proofs.lemmas.Bool.{both_ways, false_from_ne_true, false≢true, or_from, or_left, or_right}
use Rattle.std.proofs.lemmas.List.Folds.{list_any-append}
use Rattle.metis_ids.proofs.Lists.{list_any-flat_map, some_member}
use Rattle.metis_universe.proofs.Bindings.{own_tie}
use Rattle.metis_universe.proofs.Edits.{is_bound-tie}
use Rattle.metis_universe.specs.Terms.{AreDifferent, Binding, Config, Correct, Universe, has, is_bound, is_tie, tie}
use Rattle.metis_completion.proofs.Binding.{Fits}
use Rattle.metis_rollout.proofs.Quiet.{QuietFrom, is_in, tie_flip}
use Rattle.metis_rollout.proofs.Serving.{more_bound}
use Rattle.metis_rollout.specs.Terms.{bind}

-- ---- no binding twice

abbrev pub AreApart : List Binding → Type 0
AreApart [] = Unit {0}
AreApart (b ∷ bs) = (is_in bs b.0 b.1 b.2 ≡ false) × AreApart bs

is_in-append : (xs ys : List Binding) (r z y : ℕ) → is_in (xs ++ ys) r z y ≡ (is_in xs r z y || is_in ys r z y)
is_in-append xs ys r z y = list_any-append (is_tie r z y) xs ys

AreApart-append : (xs ys : List Binding) → AreApart xs → AreApart ys → ((r z y : ℕ) → is_in xs r z y ≡ true → is_in ys r z y ≡ false) → AreApart (xs ++ ys)
AreApart-append [] ys one two other = two
AreApart-append (b ∷ xs) ys one two other = (
  is_in-append xs ys b.0 b.1 b.2 ∙ or_from _ _ one.0 (other b.0 b.1 b.2 (or_left (is_tie b.0 b.1 b.2 b) _ (own_tie b))),
  AreApart-append xs ys one.1 two (λ r z y h. other r z y (or_right (is_tie r z y b) _ h)),
)

-- bindings that are joined from lists by a number that each of the binding has
pub AreApart-joined : (key : Binding → ℕ) (f : ℕ → List Binding) → ((x r z y : ℕ) → is_in (f x) r z y ≡ true → key (r, z, y) ≡ x) → ((x : ℕ) → AreApart (f x)) → (xs : List ℕ) → AreDifferent xs → AreApart (flat_map f xs)
AreApart-joined key f own each [] different = tt
AreApart-joined key f own each (x ∷ xs) different = AreApart-append (f x) (flat_map f xs) (each x) (AreApart-joined key f own each xs different.1) (λ r z y h. false_from_ne_true _ (λ again.
    let from = some_member (λ w. is_in (f w) r z y) xs (sym (list_any-flat_map (is_tie r z y) f xs) ∙ again) in
    let same : from.0 ≡ x = sym (own from.0 r z y from.2) ∙ own x r z y h in
    both_ways (has xs x) different.0 (ap (has xs) (sym same) ∙ from.1)))

-- those of one port and requirer to different providers
pub AreApart-one : (r z : ℕ) (ys : List ℕ) → AreDifferent ys → AreApart (map (λ y. (r, z, y)) ys)
AreApart-one r z [] different = tt
AreApart-one r z (y ∷ ys) different = (none ys different.0, AreApart-one r z ys different.1) where
  none : (xs : List ℕ) → has xs y ≡ false → is_in (map (λ w. (r, z, w)) xs) r z y ≡ false
  none [] h = refl
  none (x ∷ xs) h = or_from _ _ (false_from_ne_true _ (λ is. both_ways (has (x ∷ xs) y) h (or_left (nat_eq x y) (has xs y) (last is)))) (none xs (false_from_ne_true _ (λ is. both_ways (has (x ∷ xs) y) h (or_right (nat_eq x y) (has xs y) is)))) where
    last : is_tie r z y (r, z, x) ≡ true → nat_eq x y ≡ true
    last is = by (nat_eq r r) (nat_eq z z) (nat_eq x y) is where
      by : (a b d : Bool) → ((a && b) && d) ≡ true → d ≡ true
      by true true d e = e
      by true false d e = absurd (false≢true e)
      by false b d e = absurd (false≢true e)

-- ---- they are made

still_fit : (u : Universe) (c : Config) (b : Binding) (bs : List Binding) → is_in bs b.0 b.1 b.2 ≡ false → AllByRecursion (Fits u c) bs → AllByRecursion (Fits u (tie c b.0 b.1 b.2)) bs
still_fit u c b [] other all = tt
still_fit u c b (d ∷ bs) other all = (
  record {
    can = record {
      apart = all.0.can.apart;
      requirer = all.0.can.requirer;
      provider = all.0.can.provider;
      unbound = is_bound-tie c b.0 b.1 b.2 d.0 d.1 d.2 ∙ or_from (is_tie d.0 d.1 d.2 b) (is_bound c d.0 d.1 d.2)
          (tie_flip d b ∙ false_from_ne_true _ (λ is. both_ways _ other (or_left (is_tie b.0 b.1 b.2 d) _ is))) all.0.can.unbound;
    };
    gives = all.0.gives;
  },
  still_fit u c b bs (false_from_ne_true _ (λ is. both_ways _ other (or_right (is_tie b.0 b.1 b.2 d) _ is))) all.1,
)

pub new_binds_quiet : (u : Universe) (c : Config) (bs : List Binding) → AreApart bs → AllByRecursion (Fits u c) bs → Correct u c → QuietFrom u c (map bind bs)
new_binds_quiet u c [] apart all correct = tt
new_binds_quiet u c (b ∷ bs) apart all correct =
    let d = tie c b.0 b.1 b.2 in
    let now = more_bound u c d (λ z. refl) (λ r z y h. is_bound-tie c b.0 b.1 b.2 r z y ∙ or_right (is_tie r z y b) (is_bound c r z y) h) correct in
    (all.0.can, now, all.0.gives, new_binds_quiet u d bs apart.1 (still_fit u c b bs apart.0 all.1) now)
