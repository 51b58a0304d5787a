-- The next pair of the order, and that there is an order.
use Rattle.std.proofs.Common.{◌≡◌, ℕ, zero, suc, ◌+◌, ◌*◌, ◌<◌, ◌≤◌, Bool, true, false, List, [], ◌∷◌, ◌++◌, length, Option, Some, None, refl, sym, ap, ◌∙◌, subst, arith, inl, inr, lit<, ◌-◌}
use Rattle.std.specs.Prelude.{◌⊎◌, nat_lt}
use Rattle.std.specs.List.{All, filter, range_with_len}
use Rattle.std.proofs.lemmas.Bool.{cases_eq, cases_lt, false≢true, ltb-false, ltb-true}
use Rattle.std.proofs.lemmas.List.{length_push}
use Rattle.std.proofs.lemmas.List.FromFn.{length-range_with_len}
use Rattle.std.proofs.lemmas.List.Sums.{count_by-le-length, length-filter}
use Rattle.metis_ids.proofs.Lists.{has_range, all_from}
use Rattle.metis_ids.specs.declared.goals.Goal.{Goal}
use Rattle.metis_universe.proofs.Demands.{no_more}
use Rattle.metis_universe.specs.Terms.{AreDifferent, Universe, all_pairs, has, next_of, pair_count, provides}
use Rattle.metis_why.proofs.Costs.{on_cases, on_most, on_there, reaching_done, reaching_more, reaching_start}
use Rattle.metis_why.proofs.Farther.{ascends_apart, cost_inside}
use Rattle.metis_why.proofs.Soundness.{passes_of}
use Rattle.metis_why.specs.Terms.{AreApart, IsByDistance, IsCost, IsEnough, IsFirst, IsNext, IsReaching, far_in, least_of, led_on, lowered, named_by, never, wanted_by}
use Rattle.metis_why.specs.declared.reason.Reason.{Reason}
use Rattle.metis_why.specs.declared.reason.Reason.TheVariants.{Needs, Comes}

-- ---- the next pair

module _ (top : ℕ) (f : ℕ → ℕ) (done : ℕ → Bool) where
  pub next_start : IsNext top f done 0 None
  next_start p low off = absurd (omega arith)

  tie_or_less : (q p : ℕ) → f q ≤ f p → q ≤ p → (f q < f p) ⊎ ((f q ≡ f p) × (q ≤ p))
  tie_or_less q p least low = elim (cases_lt (f q) (f p)) [ inl less ↦ inl less | inr most ↦ inr (omega (arith, least, most), low) ]

  pub next_old : (n : ℕ) (o : Option ℕ) → IsNext top f done n o → (done n ≡ false → least_of top f o ≤ f n) → IsNext top f done (n + 1) o
  next_old n None old past = λ p low off. elim (cases_eq p n) [
    | inl same ↦ subst (λ k. top ≤ f k) (sym same) (past (subst (λ k. done k ≡ false) same off))
    | inr other ↦ old p (omega (arith, other, low)) off
  ]
  next_old n (Some q) old past = record {
    low = let low = old.low in omega (arith, low);
    open_ = old.open_;
    known = old.known;
    first = λ p low off. elim (cases_eq p n) [
      | inl same ↦
          let least : f q ≤ f p = subst (λ k. f q ≤ f k) (sym same) (past (subst (λ k. done k ≡ false) same off)) in
          let below = old.low in
          tie_or_less q p least (omega (arith, below, same))
      | inr other ↦ old.first p (omega (arith, other, low)) off
    ];
  }

  pub next_new : (n : ℕ) (o : Option ℕ) → IsNext top f done n o → done n ≡ false → f n < least_of top f o → IsNext top f done (n + 1) (Some n)
  next_new n o old off less = record { low = omega arith; open_ = off; known = known o old less; first = λ p low away. first o old less p low away (cases_eq p n) } where
    known : (o : Option ℕ) → IsNext top f done n o → f n < least_of top f o → f n < top
    known None old less = less
    known (Some q) old less = let low = old.known in omega (arith, less, low)

    first : (o : Option ℕ) → IsNext top f done n o → f n < least_of top f o → (p : ℕ) → p < n + 1 → done p ≡ false → (p ≡ n) ⊎ (p ≡ n → ⊥) → (f n < f p) ⊎ ((f n ≡ f p) × (n ≤ p))
    first o old less p low away (inl same) = inr (ap f (sym same), omega (arith, same))
    first None old less p low away (inr other) = let past = old p (omega (arith, other, low)) away in inl (omega (arith, past, less))
    first (Some q) old less p low away (inr other) = elim (old.first p (omega (arith, other, low)) away) [
      | inl far ↦ inl (omega (arith, far, less))
      | inr tie ↦ let same = tie.0 in inl (omega (arith, same, less))
    ]

  next_below : (n : ℕ) → (o : Option ℕ) × IsNext top f done n o
  next_below zero = (None, next_start)
  next_below (suc n) = more (next_below n) where
    one : n + 1 ≡ suc n
    one = omega arith

    more : ((o : Option ℕ) × IsNext top f done n o) → (o : Option ℕ) × IsNext top f done (suc n) o
    more (o, old) = by (done n) (nat_lt (f n) (least_of top f o)) refl refl where
      by : (a b : Bool) → done n ≡ a → nat_lt (f n) (least_of top f o) ≡ b → (o : Option ℕ) × IsNext top f done (suc n) o
      by true b on less = (o, subst (λ k. IsNext top f done k o) one (next_old n o old (λ off. absurd (false≢true (sym off ∙ on)))))
      by false true off less = (Some n, subst (λ k. IsNext top f done k (Some n)) one (next_new n o old off (ltb-true (f n) (least_of top f o) less)))
      by false false off less = (o, subst (λ k. IsNext top f done k o) one (next_old n o old (λ _. ltb-false (f n) (least_of top f o) less)))

-- ---- a list of so many numbers

different : (list : List ℕ) → AreApart list → AreDifferent list
different [] apart = tt
different (p ∷ list) apart = (apart.0, different list apart.1)

pub short : (m : ℕ) (list : List ℕ) → AreApart list → ((p : ℕ) → has list p ≡ true → p < m) → length list ≤ m
short m list apart low =
    let most : length list ≤ length (range_with_len 0 m) = no_more list (range_with_len 0 m) (different list apart) (λ p there. let below = low p there in has_range 0 m p (omega arith) (omega (arith, below))) in
    omega (arith, most, length-range_with_len 0 m)

-- ---- what a reason names is no more than there are pairs

few_pass : (u : Universe) (t : ℕ → Bool) → length (filter t (all_pairs u)) ≤ pair_count u
few_pass u t = omega (arith, length-filter t (all_pairs u), count_by-le-length t (all_pairs u), length-range_with_len 0 (pair_count u))

pub few_named : (u : Universe) (size : ℕ) → pair_count u ≤ size → (q : ℕ) (reason : Reason) → length (named_by u q reason) ≤ size
few_named u size limit q (Needs r) = let most = few_pass u (λ p. provides u p r) in omega (arith, limit, most)
few_named u size limit q Comes = let most = few_pass u (λ p. has (next_of u p) q) in omega (arith, limit, most)

pub few_low : (u : Universe) → pair_count u ≤ 2000 → (q : ℕ) (reason : Reason) (pairs : List ℕ) → pairs ≡ named_by u q reason → All (λ p. p < 2000) pairs
few_low u limit q reason pairs is = subst (λ l. All (λ p. p < 2000) l) (sym is) (all_from (λ p. p < 2000) (named_by u q reason) (λ p there. by reason p there)) where
  by : (reason : Reason) (p : ℕ) → has (named_by u q reason) p ≡ true → p < 2000
  by (Needs r) p there = let at = passes_of u (λ z. provides u z r) p there in omega (arith, limit, at.1)
  by Comes p there = let at = passes_of u (λ z. has (next_of u z) q) p there in omega (arith, limit, at.1)

-- ---- there is an order

module _ (u : Universe) (x : ℕ → Bool) (g : Goal) (enough : IsEnough u g x) (size top : ℕ) (limit : pair_count u ≤ size) (room : size * size + size < top) where
  pub low_cost : (p n : ℕ) → IsCost u x g p n → p < pair_count u
  low_cost p n way = enough.within p (cost_inside u x g enough.covers way)

  pub ordered_low : (f : ℕ → ℕ) (order : List ℕ) → IsReaching u x g size top f order → (p : ℕ) → has order p ≡ true → p < pair_count u
  ordered_low f order all p on = low_cost p (f p) (all.costs p (all.known p on))

  pub ordered_short : (f : ℕ → ℕ) (order : List ℕ) → IsReaching u x g size top f order → length order ≤ pair_count u
  ordered_short f order all = short (pair_count u) order (ascends_apart f order all.ascends) (ordered_low f order all)

  pub order_more : (f e : ℕ → ℕ) (order : List ℕ) (q : ℕ) → IsReaching u x g size top f order → IsFirst top f (has order) (pair_count u) q → e ≡ led_on u x (f q) f q → IsReaching u x g size top e (order ++ q ∷ [])
  order_more f e order q all next is =
      subst (λ d. IsReaching u x g size top d (order ++ q ∷ [])) (sym is)
      (reaching_more u x g size top (pair_count u) f (led_on u x (f q) f q) order q all next low_cost (few_named u size limit q) (on_most u x (f q) f q) (λ reason p step. on_there u x (f q) f q p reason step) (on_cases u x (f q) f q))

  pub order_done : (f : ℕ → ℕ) (order : List ℕ) → IsReaching u x g size top f order → IsNext top f (has order) (pair_count u) None → IsByDistance u x g order
  order_done f order all none = let few = ordered_short f order all in reaching_done u x g size top (pair_count u) f order all none low_cost (few_named u size limit) (omega (arith, few, limit)) room

  order_go : (more : ℕ) (f : ℕ → ℕ) (order : List ℕ) → ((e : ℕ → ℕ) (q : ℕ) → IsReaching u x g size top e (order ++ q ∷ []) → (w : List ℕ) × IsByDistance u x g w) → IsReaching u x g size top f order → (o : Option ℕ) → IsNext top f (has order) (pair_count u) o → (w : List ℕ) × IsByDistance u x g w
  order_go more f order go all None none = (order, order_done f order all none)
  order_go more f order go all (Some q) next = go (led_on u x (f q) f q) q (order_more f (led_on u x (f q) f q) order q all next refl)

  order_from : (more : ℕ) (f : ℕ → ℕ) (order : List ℕ) → pair_count u ≤ more + length order → IsReaching u x g size top f order → (w : List ℕ) × IsByDistance u x g w
  order_from zero f order enough all = let next = next_below top f (has order) (pair_count u) in order_go zero f order (λ e q reached. let few = ordered_short e (order ++ q ∷ []) reached in absurd (omega (arith, few, enough, length_push order q))) all next.0 next.1
  order_from (suc more) f order enough all = let next = next_below top f (has order) (pair_count u) in order_go more f order (λ e q reached. order_from more e (order ++ q ∷ []) (omega (arith, enough, length_push order q)) reached) all next.0 next.1

  order_found : (w : List ℕ) × IsByDistance u x g w
  order_found = order_from (pair_count u) (lowered (λ _. top) (wanted_by u g) 0) [] (omega arith) (reaching_start u x g size top (omega (arith, room)) (lowered (λ _. top) (wanted_by u g) 0) [] refl refl)

pub order_there : (u : Universe) (x : ℕ → Bool) (g : Goal) → IsEnough u g x → (w : List ℕ) × IsByDistance u x g w
order_there u x g enough = order_found u x g enough (pair_count u) (pair_count u * pair_count u + pair_count u + 1) (omega arith) (omega arith)

-- ---- the next pair is put behind the others

module _ (u : Universe) (x : ℕ → Bool) (g : Goal) (enough : IsEnough u g x) (limit : pair_count u ≤ 2000) (far : List ℕ) (order : List ℕ) (all : IsReaching u x g 2000 never (far_in far) order) where
  within : (q : ℕ) → IsNext never (far_in far) (has order) 2000 (Some q) → IsFirst never (far_in far) (has order) (pair_count u) q
  within q next = record {
    low = low_cost u x g enough 2000 never limit (lit< tt) q (far_in far q) (all.costs q next.known);
    open_ = next.open_;
    known = next.known;
    first = λ p low off. next.first p (omega (arith, low, limit)) off;
  }

  few_ordered : (costs list : List ℕ) → IsReaching u x g 2000 never (far_in costs) list → length list ≤ 2000
  few_ordered costs list reaching = let few = ordered_short u x g enough 2000 never limit (lit< tt) (far_in costs) list reaching in omega (arith, few, limit)

  pub next_low : (q : ℕ) → IsNext never (far_in far) (has order) 2000 (Some q) → q < pair_count u
  next_low q next = (within q next).low

  pub next_near : (q : ℕ) → IsNext never (far_in far) (has order) 2000 (Some q) → far_in far q ≤ 4000000
  next_near q next = let near = all.near q next.known in let few = few_ordered far order all in omega (arith, near, few)

  pub next_more : (new : List ℕ) (wider : List ℕ) (q : ℕ) → IsNext never (far_in far) (has order) 2000 (Some q) → far_in new ≡ led_on u x (far_in far q) (far_in far) q → wider ≡ order ++ q ∷ [] → IsReaching u x g 2000 never (far_in new) wider
  next_more new wider q next is longer =
      subst (λ l. IsReaching u x g 2000 never (far_in new) l) (sym longer) (order_more u x g enough 2000 never limit (lit< tt) (far_in far) (far_in new) order q all (within q next) is)

  pub next_smaller : (new : List ℕ) (wider : List ℕ) (q : ℕ) → IsReaching u x g 2000 never (far_in new) wider → wider ≡ order ++ q ∷ [] → 2000 - length wider < 2000 - length order
  next_smaller new wider q reaching longer = let few = few_ordered new wider reaching in omega (arith, few, ap length longer, length_push order q)

  pub next_none : IsNext never (far_in far) (has order) 2000 None → IsByDistance u x g order
  next_none none = order_done u x g enough 2000 never limit (lit< tt) (far_in far) order all (λ p low off. none p (omega (arith, low, limit)) off)
