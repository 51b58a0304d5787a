-- The targets serve the missing goals: with the settled instances they are as many as the goals have places.
use Rattle.std.proofs.Common.{◌≡◌, ℕ, ◌+◌, ◌≤◌, Bool, true, false, cond, not, List, [], ◌∷◌, ◌++◌, Option, Some, None, length, append_assoc, refl, sym, ap, ◌∙◌, subst, arith, max}
use Rattle.std.specs.Prelude.{is_some, nat_le, IsFalse, IsSomeAnd}
use Rattle.std.specs.List.{All, cons_option, count_by, filter_map, range_with_len}
use Rattle.std.proofs.lemmas.Bool.{and_parts, eq-eqb, false≢true, leb-false, leb-true}
use Rattle.std.proofs.lemmas.List.{append-nil}
use Rattle.std.proofs.lemmas.List.Elements.{All-head, All-tail}
use Rattle.metis_ids.specs.declared.goals.Goal.{Goal}
use Rattle.metis_ids.specs.declared.goals.Goal.TheVariants.{Pair, Port}
use Rattle.metis_completion.proofs.ResidualRows.{residual_provides}
use Rattle.metis_layers.proofs.LayerFacts.{found}
use Rattle.metis_universe.proofs.Served.{count-cons, same_is}
use Rattle.metis_universe.specs.Terms.{Config, Universe, has, layered, places_of, port_count, provider_of, provides, same_goal, serves}
use Rattle.metis_wishes.specs.Terms.{avoided}
use Rattle.metis_wishes.specs.declared.wish.Wish.{Wish}
use Rattle.metis_reconfigure.specs.Terms.{given, is_unavoidable, left_to_plan, missing, missing_behind, pair_for, providers_short, rebound_in, serving_among, settled, targets, targets_behind}
use Rattle.metis_reconfigure.proofs.Lists.{count-append, count-push}

-- ---- how often a goal is missing

module _ (u : Universe) (c : Config) (zs : List ℕ) (g : Goal) where
  abbrev h : ℕ
  h = serving_among u c zs g

  push_place : (earlier : List Goal) (x : Goal) → places_of (earlier ++ x ∷ []) g ≡ places_of earlier g + cond (same_goal x g) 1 0
  push_place earlier x = count-push (λ y. same_goal y g) earlier x

  missing_step : (b s : Bool) (n m pe pe' all rest now : ℕ) → all ≤ max h pe' + rest → pe' ≡ pe + cond s 1 0 → (s ≡ true → n ≡ h) → (s ≡ true → m ≡ pe)
      → nat_le n m ≡ b → now ≡ cond b (cond s 1 0 + rest) rest → all ≤ max h pe + now
  missing_step b false n m pe pe' all rest now behind next one two test is = by b is where
    by : (b : Bool) → now ≡ cond b (0 + rest) rest → all ≤ max h pe + now
    by true is = omega (arith, behind, next, is)
    by false is = omega (arith, behind, next, is)
  missing_step true true n m pe pe' all rest now behind next one two test is =
      omega (arith, behind, next, is, one refl, two refl, leb-true n m test)
  missing_step false true n m pe pe' all rest now behind next one two test is =
      omega (arith, behind, next, is, one refl, two refl, leb-false n m test)

  missing_enough : (earlier goals : List Goal) → places_of (earlier ++ goals) g ≤ max h (places_of earlier g) + places_of (missing_behind u c zs earlier goals) g
  missing_enough earlier [] = let all = ap (λ gs. places_of gs g) (append-nil earlier) in omega (arith, all)
  missing_enough earlier (x ∷ goals) =
      let more = earlier ++ x ∷ [] in
      let behind = missing_enough more goals in
      let all : places_of (more ++ goals) g ≡ places_of (earlier ++ x ∷ goals) g = ap (λ gs. places_of gs g) (append_assoc earlier (x ∷ []) goals) in
      let test = nat_le (serving_among u c zs x) (places_of earlier x) in
      let rest = missing_behind u c zs more goals in
      missing_step test (same_goal x g) (serving_among u c zs x) (places_of earlier x) (places_of earlier g) (places_of more g) (places_of (earlier ++ x ∷ goals) g) (places_of rest g)
      (places_of (missing_behind u c zs earlier (x ∷ goals)) g) (subst (λ n. n ≤ max h (places_of more g) + places_of rest g) all behind) (push_place earlier x)
      (λ same. ap (serving_among u c zs) (same_is x g same)) (λ same. ap (places_of earlier) (same_is x g same)) refl (counted test rest) where
        counted : (b : Bool) (gs : List Goal) → places_of (cond b (x ∷ gs) gs) g ≡ cond b (cond (same_goal x g) 1 0 + places_of gs g) (places_of gs g)
        counted true gs = count-cons (λ y. same_goal y g) x gs
        counted false gs = refl

-- ---- the pairs for these

-- the pair for a goal that is not unavoidable is one that serves it
pub record HasPair (u v : Universe) (g : Goal) : Type 0 where
  pub pair : ℕ
  pub is : pair_for v g ≡ Some pair
  pub good : serves u pair g ≡ true

module _ (u v : Universe) (wishes : List Wish) (less : (p r : ℕ) → provides v p r ≡ true → provides u p r ≡ true) where
  pair_found : (g : Goal) → IsFalse (is_unavoidable u wishes v g) → HasPair u v g
  pair_found (Pair p) h = record { pair = p; is = refl; good = eq-eqb p p refl }
  pair_found (Port r) h = by (provider_of v r) refl h where
    by : (o : Option ℕ) → provider_of v r ≡ o → not (is_some o) ≡ false → HasPair u v (Port r)
    by None is h = absurd (false≢true (sym h))
    by (Some p) is h = record { pair = p; is = is; good = less p r (found (λ q. provides v q r) (layered v) p is).1 }

  pair_step : (t : ℕ → Bool) (o : Option ℕ) (s : Bool) (rest all : ℕ) (ps : List ℕ) → (s ≡ true → IsSomeAnd o (λ p. t p ≡ true)) → all ≡ cond s 1 0 + rest
      → rest ≤ count_by t ps → all ≤ count_by t (cons_option o ps)
  pair_step t None true rest all ps good steps few = absurd (good refl)
  pair_step t None false rest all ps good steps few = omega (arith, steps, few)
  pair_step t (Some p) true rest all ps good steps few = let passes : cond (t p) 1 0 ≡ 1 = ap {B = ℕ} (λ b. cond b 1 0) (good refl) in omega (arith, steps, few, count-cons t p ps, passes)
  pair_step t (Some p) false rest all ps good steps few = omega (arith, steps, few, count-cons t p ps)

  pairs_serve : (g : Goal) (gs : List Goal) → All (λ x. IsFalse (is_unavoidable u wishes v x)) gs → places_of gs g ≤ count_by (λ p. serves u p g) (filter_map (pair_for v) gs)
  pairs_serve g [] all = omega arith
  pairs_serve g (x ∷ gs) all =
      let P : Goal → Type 0 = λ x. IsFalse (is_unavoidable u wishes v x) in
      let k = pair_found x (All-head P x gs all) in
      pair_step (λ p. serves u p g) (pair_for v x) (same_goal x g) (places_of gs g) (places_of (x ∷ gs) g) (filter_map (pair_for v) gs)
      (λ same. subst (λ o. IsSomeAnd o (λ p. serves u p g ≡ true)) (sym k.is) (subst (λ y. serves u k.pair y ≡ true) (same_is x g same) k.good))
      (count-cons (λ y. same_goal y g) x gs) (pairs_serve g gs (All-tail P x gs all))

  all_serve : (c : Config) (leaving zs : List ℕ) (t : ℕ → Bool) (ts rs : List ℕ) → count_by t ts ≤ count_by t (targets_behind u v c leaving zs ts rs)
  all_serve c leaving zs t ts [] = omega arith
  all_serve c leaving zs t ts (r ∷ rs) =
      let more = providers_short u v c leaving zs ts r in
      omega (arith, count-append t ts more, all_serve c leaving zs t (ts ++ more) rs)

-- ---- together

module _ (u : Universe) (wishes : List Wish) (c : Config) (leaving : List ℕ) where
  pub provides_less : (p r : ℕ) → provides (left_to_plan u wishes c leaving) p r ≡ true → provides u p r ≡ true
  provides_less p r h = (and_parts (not (has (avoided u wishes) p)) (provides u p r) (sym (residual_provides u (λ r. length (given u c leaving r)) (avoided u wishes) p r) ∙ h)).1

  -- the settled instances that serve a goal, and the targets that do, are as many as the goal has places
  pub targets_enough : (goals : List Goal) → All (λ g. IsFalse (is_unavoidable u wishes (left_to_plan u wishes c leaving) g)) (missing u c leaving goals)
      → (g : Goal) → places_of goals g ≤ serving_among u c (settled c leaving) g + count_by (λ p. serves u p g) (targets u wishes c leaving goals)
  targets_enough goals avoidable g =
      let v = left_to_plan u wishes c leaving in
      let lack = missing u c leaving goals in
      let first = missing_enough u c (settled c leaving) g [] goals in
      let second = pairs_serve u v wishes provides_less g lack avoidable in
      let third = all_serve u v wishes provides_less c leaving (rebound_in wishes c) (λ p. serves u p g) (filter_map (pair_for v) lack) (range_with_len 0 (port_count u)) in
      omega (arith, first, second, third)
