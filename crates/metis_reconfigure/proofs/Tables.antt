-- What is read off tables: whether a goal is unavoidable, and what is to be planned for.
use Rattle.std.proofs.Common.{◌≡◌, ℕ, ◌+◌, ◌-◌, ◌<◌, ◌≤◌, Bool, true, false, cond, not, ◌&&◌, ◌||◌, List, [], ◌∷◌, ◌++◌, get_or, length, map, take, Option, Some, None, refl, sym, ap, ◌∙◌, subst, arith, inl, inr, append-nil, nat_eq}
use Rattle.std.specs.Prelude.{◌⊎◌, IsSome, fold, max, nat_lt, replicate}
use Rattle.std.proofs.Math.Nat.{max-le}
use Rattle.std.specs.List.{All, cons_option, count_by, filter, filter_map, find, position_or_len, range_with_len, slice_index_or}
use Rattle.std.specs.Option.{is_some, option_map_or}
use Rattle.std.proofs.lemmas.Bool.{and_parts, false_from_ne_true, false≢true, le-ltb, ltb-false, ltb-true, or_right}
use Rattle.std.proofs.lemmas.List.{take_more}
use Rattle.std.proofs.lemmas.List.Elements.{All-head, All-tail, filter_map-append}
use Rattle.metis_completion.specs.Terms.{given_in}
use Rattle.metis_config.specs.Terms.{demanded, is_required}
use Rattle.metis_ids.proofs.Lists.{has_here, range_more}
use Rattle.metis_ids.specs.declared.goals.Goal.{Goal}
use Rattle.metis_ids.specs.declared.goals.Goal.TheVariants.{Pair, Port}
use Rattle.metis_layers.specs.Terms.{IsLayers, Layers, first_at}
use Rattle.metis_rollout.proofs.Quiet.{find_some}
use Rattle.metis_universe.proofs.ResidualRows.{residual_count}
use Rattle.metis_universe.specs.Terms.{Config, IsGoalOf, Universe, demand_of, further_of, has, pair_of, port_count, provider_of, provides, required_of, requires}
use Rattle.metis_wishes.specs.Terms.{avoided, is_avoided}
use Rattle.metis_wishes.specs.declared.wish.Wish.{Wish}
use Rattle.metis_reconfigure.specs.Terms.{AreMet, AreTables, HasRequired, IsLeft, IsUnmet, given, is_lacking, is_unavoidable, is_unavoidable_by, is_unserved, is_unserved_by, lack, lack_by, left_to_plan, pair_for, pair_in, providers_short, short, short_by, targets_behind, wanted, wanted_by, wants}
use Rattle.metis_reconfigure.proofs.Counted.{wanted_by as wanted_at}

-- ---- what is left to plan

pub left_over : (u : Universe) (wishes : List Wish) (c : Config) (leaving : List ℕ) (l : Layers) → IsLayers (left_to_plan u wishes c leaving) l → IsLeft u (left_to_plan u wishes c leaving) l
left_over u wishes c leaving l k = record { layers = k; pairs = residual_count u (λ r. length (given u c leaving r)) (avoided u wishes); ports = refl }

-- ---- the missing goals

module _ (u left : Universe) (l : Layers) (k : IsLeft u left l) where
  module _ (wishes : List Wish) where
    alike : (g : Goal) → IsGoalOf u g → is_unavoidable_by u wishes l g ≡ is_unavoidable u wishes left g
    alike (Pair p) low = ap (λ o. is_avoided u wishes p || not (is_some o)) (k.layers.layer p (subst (λ n. p < n) (sym k.pairs) low))
    alike (Port r) low = ap (λ o. not (is_some o)) (k.layers.provider r (subst (λ n. r < n) (sym k.ports) low))

    pub first_unavoidable : (gs : List Goal) → All (IsGoalOf u) gs → find (is_unavoidable_by u wishes l) gs ≡ find (is_unavoidable u wishes left) gs
    first_unavoidable [] within = refl
    first_unavoidable (g ∷ gs) within =
        (λ i. cond (alike g (All-head (IsGoalOf u) g gs within) i) (Some g) (first_unavoidable gs (All-tail (IsGoalOf u) g gs within) i))

  paired : (g : Goal) → IsGoalOf u g → pair_in l g ≡ pair_for left g
  paired (Pair p) low = refl
  paired (Port r) low = k.layers.provider r (subst (λ n. r < n) (sym k.ports) low)

  pub pairs_alike : (gs : List Goal) → All (IsGoalOf u) gs → filter_map (pair_in l) gs ≡ filter_map (pair_for left) gs
  pairs_alike [] within = refl
  pairs_alike (g ∷ gs) within =
      (λ i. cons_option (paired g (All-head (IsGoalOf u) g gs within) i) (pairs_alike gs (All-tail (IsGoalOf u) g gs within) i))

pub paired_more : (l : Layers) (goals : List Goal) (i : ℕ) (g : Goal) → i < length goals → g ≡ get_or goals i g
    → filter_map (pair_in l) (take (i + 1) goals) ≡ filter_map (pair_in l) (take i goals) ++ cons_option (pair_in l g) []
paired_more l goals i g low is =
    ap (filter_map (pair_in l)) (take_more goals i g low ∙ ap (λ x. take i goals ++ x ∷ []) (sym is)) ∙ filter_map-append (pair_in l) (take i goals) (g ∷ [])

-- ---- how many are wanted

greatest-push : (f : ℕ → ℕ) (t : ℕ → Bool) (a : ℕ) (xs : List ℕ) (x : ℕ)
    → fold max a (map f (filter t (xs ++ x ∷ []))) ≡ cond (t x) (max (fold max a (map f (filter t xs))) (f x)) (fold max a (map f (filter t xs)))
greatest-push f t a [] x = elim (t x) as (λ b. fold max a (map f (cond b (x ∷ []) [])) ≡ cond b (max a (f x)) a) [ true ↦ refl | false ↦ refl ]
greatest-push f t a (y ∷ xs) x =
    elim (t y) as (λ b. fold max a (map f (cond b (y ∷ filter t (xs ++ x ∷ [])) (filter t (xs ++ x ∷ []))))
    ≡ cond (t x) (max (fold max a (map f (cond b (y ∷ filter t xs) (filter t xs)))) (f x)) (fold max a (map f (cond b (y ∷ filter t xs) (filter t xs))))) [
      | true ↦ greatest-push f t (max a (f y)) xs x
      | false ↦ greatest-push f t a xs x
    ]

module _ (u : Universe) (c : Config) (standing : List ℕ) (r : ℕ) (zs : List ℕ) (i z : ℕ) (low : i < length zs) (is : z ≡ get_or zs i z) where
  wanted_more : wanted_by u c standing (take (i + 1) zs) r
      ≡ cond (is_lacking u c standing r z) (max (wanted_by u c standing (take i zs) r) (wants u c r z)) (wanted_by u c standing (take i zs) r)
  wanted_more =
      ap (λ xs. wanted_by u c standing xs r) (take_more zs i z low ∙ ap (λ x. take i zs ++ x ∷ []) (sym is))
      ∙ greatest-push (wants u c r) (is_lacking u c standing r) 0 (take i zs) z

  pub wanted_with : is_lacking u c standing r z ≡ true → wanted_by u c standing (take (i + 1) zs) r ≡ max (wanted_by u c standing (take i zs) r) (wants u c r z)
  wanted_with lacks = wanted_more ∙ ap (λ b. cond b (max (wanted_by u c standing (take i zs) r) (wants u c r z)) (wanted_by u c standing (take i zs) r)) lacks

  pub wanted_without : is_lacking u c standing r z ≡ false → wanted_by u c standing (take (i + 1) zs) r ≡ wanted_by u c standing (take i zs) r
  wanted_without none = wanted_more ∙ ap (λ b. cond b (max (wanted_by u c standing (take i zs) r) (wants u c r z)) (wanted_by u c standing (take i zs) r)) none

-- ---- port by port

-- a port that none of the instances requires
not_demanded : (u : Universe) (r : ℕ) (o : Option ℕ) → option_map_or (λ p. requires u p r) o false ≡ false → option_map_or (λ p. demand_of u p r) o 0 ≡ 0
not_demanded u r None h = refl
not_demanded u r (Some p) h = ap (λ b. cond b (1 + slice_index_or (further_of u p) (position_or_len (λ s. nat_eq s r) (required_of u p)) 0) 0) h

none_requires : (u : Universe) (c : Config) (standing : List ℕ) (r : ℕ) (xs : List ℕ) → ((z : ℕ) → has xs z ≡ true → is_required u c z r ≡ false) → find (is_lacking u c standing r) xs ≡ None
none_requires u c standing r [] none = refl
none_requires u c standing r (x ∷ xs) none =
    let zero : demanded u c x r ≡ 0 = not_demanded u r (pair_of c x) (none x (has_here x xs)) in
    ap (λ b. cond b (Some x) (find (is_lacking u c standing r) xs)) (le-ltb 0 (lack_by u c standing x r) (omega (arith, zero)))
    ∙ none_requires u c standing r xs (λ z h. none z (or_right (nat_eq x z) (has xs z) h))

pub not_among : (u : Universe) (c : Config) (standing zs rs : List ℕ) (r : ℕ) → HasRequired u c zs rs → has rs r ≡ false → find (is_lacking u c standing r) zs ≡ None
not_among u c standing zs rs r all off =
    none_requires u c standing r zs (λ z there. false_from_ne_true (is_required u c z r) (λ needs. false≢true (sym off ∙ all z r there needs)))

none_found : (t : ℕ → Bool) (xs : List ℕ) → find t xs ≡ None → filter t xs ≡ []
none_found t [] h = refl
none_found t (x ∷ xs) h = elim (t x) as (λ b. cond b (Some x) (find t xs) ≡ None → cond b (x ∷ filter t xs) (filter t xs) ≡ []) [
  | true ↦ λ h. absurd (some_none h)
  | false ↦ λ h. none_found t xs h
] h where
  some_none : Some x ≡ None → ⊥
  some_none h = cc

-- ---- who is unserved

module _ (u : Universe) (c : Config) (leaving ts : List ℕ) (r : ℕ) where
  abbrev lacks : ℕ → Bool
  lacks z = nat_lt 0 (lack u c leaving z r)

  abbrev there : ℕ
  there = length (given u c leaving r) + count_by (λ p. provides u p r) ts

  -- one that lacks the port and is not unserved wants no more than there are
  pub wants_low : (z : ℕ) → nat_lt (count_by (λ p. provides u p r) ts) (wants u c r z - length (given u c leaving r)) ≡ false → wants u c r z ≤ there
  wants_low z h = let most = ltb-false (count_by (λ p. provides u p r) ts) (wants u c r z - length (given u c leaving r)) h in omega (arith, most)

  wanted_low : (zs : List ℕ) (a : ℕ) → a ≤ there → find (is_unserved u c leaving ts r) zs ≡ None → fold max a (map (wants u c r) (filter lacks zs)) ≤ there
  wanted_low [] a low none = low
  wanted_low (z ∷ zs) a low none = by (wanted_low zs) (lacks z) (nat_lt (count_by (λ p. provides u p r) ts) (wants u c r z - length (given u c leaving r))) refl none where
    by : ((a : ℕ) → a ≤ there → find (is_unserved u c leaving ts r) zs ≡ None → fold max a (map (wants u c r) (filter lacks zs)) ≤ there)
        → (b e : Bool) → nat_lt (count_by (λ p. provides u p r) ts) (wants u c r z - length (given u c leaving r)) ≡ e
        → cond (b && e) (Some z) (find (is_unserved u c leaving ts r) zs) ≡ None → fold max a (map (wants u c r) (cond b (z ∷ filter lacks zs) (filter lacks zs))) ≤ there
    by rest true true is h = absurd (some_none h) where
      some_none : Some z ≡ None → ⊥
      some_none h = cc
    by rest true false is h = rest (max a (wants u c r z)) (max-le low (wants_low z is)) h
    by rest false e is h = rest a low h

  -- where none is unserved the port is not short
  pub none_unserved : (zs : List ℕ) → find (is_unserved u c leaving ts r) zs ≡ None → short u c leaving zs ts r ≡ 0
  none_unserved zs none = let low = wanted_low zs 0 (omega arith) none in omega (arith, low)

  -- and where one is it is
  pub record IsUnserved (zs : List ℕ) (z : ℕ) : Type 0 where
    pub among : has zs z ≡ true
    pub lacking : 0 < lack u c leaving z r
    pub more : there < wants u c r z

  pub who_is_unserved : (zs : List ℕ) (z : ℕ) → find (is_unserved u c leaving ts r) zs ≡ Some z → IsUnserved zs z
  who_is_unserved zs z is =
      let at = find_some (is_unserved u c leaving ts r) zs z is in
      let parts = and_parts (lacks z) (nat_lt (count_by (λ p. provides u p r) ts) (wants u c r z - length (given u c leaving r))) at.1 in
      let most = ltb-true (count_by (λ p. provides u p r) ts) (wants u c r z - length (given u c leaving r)) parts.1 in
      record { among = at.0; lacking = ltb-true 0 (lack u c leaving z r) parts.0; more = omega (arith, most) }

  pub unserved_short : (zs : List ℕ) (z : ℕ) → find (is_unserved u c leaving ts r) zs ≡ Some z → 0 < short u c leaving zs ts r
  unserved_short zs z is =
      let k = who_is_unserved zs z is in
      let most = wanted_at u c leaving zs z r k.among k.lacking in
      omega (arith, k.more, most)

module _ (u left : Universe) (c : Config) (leaving zs : List ℕ) where
  behind : List ℕ → List ℕ → List ℕ
  behind ts rs = targets_behind u left c leaving zs ts rs

  -- nothing is short, or there is a provider
  IsMetAt : List ℕ → ℕ → Type 0
  IsMetAt ts r = (short u c leaving zs ts r ≡ 0) ⊎ IsSome (provider_of left r)

  behind-push : (ts rs : List ℕ) (r : ℕ) → behind ts (rs ++ r ∷ []) ≡ behind ts rs ++ providers_short u left c leaving zs (behind ts rs) r
  unfolding behind
  behind-push ts [] r = refl
  behind-push ts (s ∷ rs) r = behind-push (ts ++ providers_short u left c leaving zs ts s) rs r

  met-push : (ts rs : List ℕ) (r : ℕ) → AreMet u left c leaving zs ts rs → IsMetAt (behind ts rs) r → AreMet u left c leaving zs ts (rs ++ r ∷ [])
  unfolding behind IsMetAt
  met-push ts [] r k here = (here, tt)
  met-push ts (s ∷ rs) r k here = (k.0, met-push (ts ++ providers_short u left c leaving zs ts s) rs r k.1 here)

  -- the targets of the ports below n, which are met
  pub record AreSoFar (first : List ℕ) (n : ℕ) (ts : List ℕ) : Type 0 where
    pub targets : targets_behind u left c leaving zs first (range_with_len 0 n) ≡ ts
    pub met : AreMet u left c leaving zs first (range_with_len 0 n)

  pub begun : (first : List ℕ) → AreSoFar first 0 first
  begun first = record { targets = refl; met = tt }

  step : (first ts : List ℕ) (n : ℕ) → AreSoFar first n ts → IsMetAt ts n → AreSoFar first (n + 1) (ts ++ providers_short u left c leaving zs ts n)
  unfolding behind
  step first ts n k here = record {
    targets = ap (behind first) (range_more n) ∙ behind-push first (range_with_len 0 n) n ∙ ap (λ xs. xs ++ providers_short u left c leaving zs xs n) k.targets;
    met = subst (AreMet u left c leaving zs first) (sym (range_more n)) (met-push first (range_with_len 0 n) n k.met (subst (λ xs. IsMetAt xs n) (sym k.targets) here));
  }

  nothing : (ts : List ℕ) (n : ℕ) → short u c leaving zs ts n ≡ 0 → providers_short u left c leaving zs ts n ≡ []
  nothing ts n none = ap (λ m. option_map_or (replicate m) (provider_of left n) []) none ∙ by (provider_of left n) where
    by : (o : Option ℕ) → option_map_or (replicate 0) o [] ≡ []
    by None = refl
    by (Some p) = refl

  skipped : (first ts : List ℕ) (n : ℕ) → AreSoFar first n ts → short u c leaving zs ts n ≡ 0 → AreSoFar first (n + 1) ts
  unfolding IsMetAt
  skipped first ts n k none = subst (AreSoFar first (n + 1)) (ap (λ xs. ts ++ xs) (nothing ts n none) ∙ append-nil ts) (step first ts n k (inl none))

  pushed : (first ts : List ℕ) (n p : ℕ) → AreSoFar first n ts → provider_of left n ≡ Some p → AreSoFar first (n + 1) (ts ++ replicate (short u c leaving zs ts n) p)
  unfolding IsMetAt
  pushed first ts n p k is =
      subst (AreSoFar first (n + 1)) (ap (λ o. ts ++ option_map_or (replicate (short u c leaving zs ts n)) o []) is)
      (step first ts n k (inr (subst (λ o. IsSome o) (sym is) refl)))

  none_lacks : (ts : List ℕ) (r : ℕ) → find (λ z. nat_lt 0 (lack u c leaving z r)) zs ≡ None → short u c leaving zs ts r ≡ 0
  none_lacks ts r none =
      let nobody = none_found (λ z. nat_lt 0 (lack u c leaving z r)) zs none in
      let wanted_none : wanted u c leaving zs r ≡ 0 = ap (λ xs. fold max 0 (map (wants u c r) xs)) nobody in
      omega (arith, wanted_none)

  module _ (rows : List (List ℕ)) (l : Layers) (k : AreTables u left c leaving rows l) where
    same_short : (ts : List ℕ) (r : ℕ) → short_by u c (given_in rows r) zs ts r ≡ short u c leaving zs ts r
    same_short ts r = ap (λ standing. short_by u c standing zs ts r) (k.standing r)

    same_found : (r : ℕ) → find (is_lacking u c (given_in rows r) r) zs ≡ find (λ z. nat_lt 0 (lack u c leaving z r)) zs
    same_found r = ap (λ standing. find (is_lacking u c standing r) zs) (k.standing r)

    provider : (r : ℕ) → r < port_count u → first_at l r ≡ provider_of left r
    provider r low = k.over.layers.provider r (subst (λ n. r < n) (sym k.over.ports) low)

    pub none_lacking : (first ts : List ℕ) (n : ℕ) → find (is_lacking u c (given_in rows n) n) zs ≡ None → AreSoFar first n ts → AreSoFar first (n + 1) ts
    none_lacking first ts n none so_far = skipped first ts n so_far (none_lacks ts n (sym (same_found n) ∙ none))

    same_unserved : (ts : List ℕ) (r : ℕ) → find (is_unserved_by u c (given_in rows r) ts r) zs ≡ find (is_unserved u c leaving ts r) zs
    same_unserved ts r = ap (λ standing. find (is_unserved_by u c standing ts r) zs) (k.standing r)

    pub none_short : (first ts : List ℕ) (n : ℕ) → find (is_unserved_by u c (given_in rows n) ts n) zs ≡ None → AreSoFar first n ts → AreSoFar first (n + 1) ts
    none_short first ts n none so_far = skipped first ts n so_far (none_unserved u c leaving ts n zs (sym (same_unserved ts n) ∙ none))

    pub provided_more : (first ts : List ℕ) (n p : ℕ) → n < port_count u → first_at l n ≡ Some p → AreSoFar first n ts → AreSoFar first (n + 1) (ts ++ replicate (short_by u c (given_in rows n) zs ts n) p)
    provided_more first ts n p low is so_far =
        subst (λ m. AreSoFar first (n + 1) (ts ++ replicate m p)) (sym (same_short ts n)) (pushed first ts n p so_far (sym (provider n low) ∙ is))

    pub unmet_here : (first ts : List ℕ) (n z : ℕ) → n < port_count u → first_at l n ≡ None → find (is_unserved_by u c (given_in rows n) ts n) zs ≡ Some z
        → AreSoFar first n ts → IsUnmet u left c leaving zs first z n
    unmet_here first ts n z low none unserved so_far =
        let here = sym (same_unserved ts n) ∙ unserved in
        record {
          below = low;
          met = so_far.met;
          short = subst (λ xs. 0 < short u c leaving zs xs n) (sym so_far.targets) (unserved_short u c leaving ts n zs z here);
          without = sym (provider n low) ∙ none;
          unserved = subst (λ xs. find (is_unserved u c leaving xs n) zs ≡ Some z) (sym so_far.targets) here;
        }
