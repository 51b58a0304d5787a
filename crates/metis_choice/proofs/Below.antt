-- Origins, found pair by pair: each pair becomes the origin of those to which it leads up and that have none yet.
use Rattle.std.proofs.Common.{◌≡◌, ℕ, zero, suc, ◌+◌, ◌-◌, ◌<◌, true, false, List, [], ◌∷◌, ◌++◌, length, map, set, get_or, Option, Some, None, refl, sym, ap, ◌∙◌, subst, arith, nat_eq, inl, inr, get_or-set_same, get_or-set_other}
use Rattle.std.specs.Prelude.{IsSomeAnd, MatchOption, is_some}
use Rattle.std.specs.Option.{option_or}
use Rattle.std.proofs.lemmas.Bool.{cases_eq, cases_lt, false≢true, or_parts}
use Rattle.std.proofs.lemmas.List.{length-set}
use Rattle.std.proofs.lemmas.List.Folds.{list_any-append}
use Rattle.std.proofs.lemmas.List.FromFn.{fill_by_all}
use Rattle.metis_ids.proofs.Lists.{has_here, has_one}
use Rattle.metis_universe.proofs.FirstPairs.{origin-above, origin-leads, origin-least, provider-provides}
use Rattle.metis_universe.proofs.Ranges.{in_range}
use Rattle.metis_universe.specs.Terms.{Universe, all_pairs, has, layer_of, next_of, origin_of, pair_count, provider_of}
use Rattle.metis_layers.proofs.LayerFacts.{layer_pair}
use Rattle.metis_support.proofs.Lists.{has-append_cases}
use Rattle.metis_support.proofs.Selections.{some_is}
use Rattle.metis_choice.specs.Terms.{AreFirstBelow, IsFirstBelow, IsLeastBelow, LeadsUp}

module _ (u : Universe) where
  -- ---- origins and providers are pairs of the universe

  pub pair_low : (p l : ℕ) → layer_of u p ≡ Some l → p < pair_count u
  pair_low p l is = let there = in_range 0 (pair_count u) p (layer_pair u p l is) in omega (arith, there.1)

  pub origin_low : (q p : ℕ) → origin_of u q ≡ Some p → p < pair_count u
  origin_low q p is = let lower = (origin-leads u q p is).0 in pair_low p lower.lower lower.of_lower

  pub provider_low : (r p : ℕ) → provider_of u r ≡ Some p → p < pair_count u
  provider_low r p is = let l = some_is (layer_of u p) (provider-provides u r p is).0 in pair_low p l.0 l.1

  -- ---- one more pair

  -- the next pair leads up to p
  noted : (n p : ℕ) (o : Option ℕ) → IsFirstBelow u n p o → LeadsUp u n p → IsFirstBelow u (n + 1) p (option_or o (Some n))
  noted n p None none leads = (omega arith, record { leads = leads; least = λ q up. elim (cases_lt q n) [ inl low ↦ absurd (none q low up) | inr high ↦ high ] })
  noted n p (Some o) first leads = let low = first.0 in (omega arith, first.1)

  noted_again : (n p : ℕ) (o : Option ℕ) → IsFirstBelow u (n + 1) p o → LeadsUp u n p → IsFirstBelow u (n + 1) p (option_or o (Some n))
  noted_again n p None none leads = absurd (none n (omega arith) leads)
  noted_again n p (Some o) first leads = first

  -- it does not
  passed : (n p : ℕ) (o : Option ℕ) → IsFirstBelow u n p o → (LeadsUp u n p → ⊥) → IsFirstBelow u (n + 1) p o
  passed n p None none not_up = λ q low up. elim (cases_eq q n) [ inl same ↦ not_up (subst (λ x. LeadsUp u x p) same up) | inr other ↦ none q (omega arith) up ]
  passed n p (Some o) first not_up = let low = first.0 in (omega arith, first.1)

  -- ---- pair n, of whose moves these were seen

  pub record IsNoted (n : ℕ) (seen : List ℕ) (origins : List (Option ℕ)) : Type 0 where
    pub count : length origins ≡ pair_count u
    pub done : (p : ℕ) → p < pair_count u → has seen p ≡ true → IsFirstBelow u (n + 1) p (get_or origins p None)
    pub before : (p : ℕ) → p < pair_count u → has seen p ≡ false → IsFirstBelow u n p (get_or origins p None)

  unseen : (seen : List ℕ) (x p : ℕ) → has (seen ++ x ∷ []) p ≡ false → has seen p ≡ false
  unseen seen x p h = (or_parts (has seen p) (has (x ∷ []) p) (sym (list_any-append (λ y. nat_eq y p) seen (x ∷ [])) ∙ h)).0

  -- the entry of x is right after pair n
  entry_noted : (n x : ℕ) (seen : List ℕ) (origins : List (Option ℕ)) → x < pair_count u → IsNoted n seen origins → LeadsUp u n x → IsFirstBelow u (n + 1) x (option_or (get_or origins x None) (Some n))
  entry_noted n x seen origins low old leads = elim (has seen x) as (λ b. has seen x ≡ b → IsFirstBelow u (n + 1) x (option_or (get_or origins x None) (Some n))) [
    | true ↦ λ h. noted_again n x (get_or origins x None) (old.done x low h) leads
    | false ↦ λ h. noted n x (get_or origins x None) (old.before x low h) leads
  ] refl

  entry_passed : (n x : ℕ) (seen : List ℕ) (origins : List (Option ℕ)) → x < pair_count u → IsNoted n seen origins → (LeadsUp u n x → ⊥) → IsFirstBelow u (n + 1) x (get_or origins x None)
  entry_passed n x seen origins low old not_up = elim (has seen x) as (λ b. has seen x ≡ b → IsFirstBelow u (n + 1) x (get_or origins x None)) [
    | true ↦ λ h. old.done x low h
    | false ↦ λ h. passed n x (get_or origins x None) (old.before x low h) not_up
  ] refl

  -- one more move, which leads up to x
  pub noted_up : (n x : ℕ) (seen : List ℕ) (origins : List (Option ℕ)) → x < pair_count u → IsNoted n seen origins → LeadsUp u n x → IsNoted n (seen ++ x ∷ []) (set origins x (option_or (get_or origins x None) (Some n)))
  noted_up n x seen origins low old leads = record {
    count = length-set origins x (option_or (get_or origins x None) (Some n)) ∙ old.count;
    done = done;
    before = λ p below h. subst (IsFirstBelow u n p) (sym (other p (λ same. false≢true (sym (last p h) ∙ has_this p same)))) (old.before p below (unseen seen x p h));
  } where
    other : (p : ℕ) → (p ≡ x → ⊥) → get_or (set origins x (option_or (get_or origins x None) (Some n))) p None ≡ get_or origins p None
    other p apart = get_or-set_other origins x p (option_or (get_or origins x None) (Some n)) None apart

    last : (p : ℕ) → has (seen ++ x ∷ []) p ≡ false → has (x ∷ []) p ≡ false
    last p h = (or_parts (has seen p) (has (x ∷ []) p) (sym (list_any-append (λ y. nat_eq y p) seen (x ∷ [])) ∙ h)).1

    has_this : (p : ℕ) → p ≡ x → has (x ∷ []) p ≡ true
    has_this p same = subst (λ y. has (y ∷ []) p ≡ true) same (has_here p [])

    done : (p : ℕ) → p < pair_count u → has (seen ++ x ∷ []) p ≡ true → IsFirstBelow u (n + 1) p (get_or (set origins x (option_or (get_or origins x None) (Some n))) p None)
    done p below h = elim (cases_eq p x) [
      | inl same ↦
          let there : x < length origins = let count = old.count in omega arith in
          subst (λ y. IsFirstBelow u (n + 1) y (get_or (set origins x (option_or (get_or origins x None) (Some n))) y None)) (sym same)
          (subst (IsFirstBelow u (n + 1) x) (sym (get_or-set_same origins x (option_or (get_or origins x None) (Some n)) None there)) (entry_noted n x seen origins low old leads))
      | inr apart ↦ subst (IsFirstBelow u (n + 1) p) (sym (other p apart)) (elim (has-append_cases seen (x ∷ []) p h) [
        | inl earlier ↦ old.done p below earlier
        | inr now ↦ absurd (apart (sym (has_one x p now)))
      ])
    ]

  -- one more move, which does not
  pub noted_past : (n x : ℕ) (seen : List ℕ) (origins : List (Option ℕ)) → x < pair_count u → IsNoted n seen origins → (LeadsUp u n x → ⊥) → IsNoted n (seen ++ x ∷ []) origins
  noted_past n x seen origins low old not_up = record {
    count = old.count;
    done = λ p below h. elim (has-append_cases seen (x ∷ []) p h) [
      | inl earlier ↦ old.done p below earlier
      | inr now ↦ subst (λ y. IsFirstBelow u (n + 1) y (get_or origins y None)) (has_one x p now) (entry_passed n x seen origins low old not_up)
    ];
    before = λ p below h. old.before p below (unseen seen x p h);
  }

  -- all moves of pair n
  pub noted_all : (n : ℕ) (origins : List (Option ℕ)) → IsNoted n (next_of u n) origins → AreFirstBelow u (n + 1) origins
  noted_all n origins old = record {
    count = old.count;
    each = λ p low. elim (has (next_of u n) p) as (λ b. has (next_of u n) p ≡ b → IsFirstBelow u (n + 1) p (get_or origins p None)) [
      | true ↦ λ h. old.done p low h
      | false ↦ λ h. passed n p (get_or origins p None) (old.before p low h) (λ up. false≢true (sym h ∙ up.leads))
    ] refl;
  }

  -- whether pair n, of this layer, leads up to x shows at the layer of x
  pub leads_up : (n x l : ℕ) → layer_of u n ≡ Some l → has (next_of u n) x ≡ true → IsSomeAnd (layer_of u x) (λ m. l < m) → LeadsUp u n x
  leads_up n x l is leads above = by (layer_of u x) refl above where
    by : (o : Option ℕ) → layer_of u x ≡ o → IsSomeAnd o (λ m. l < m) → LeadsUp u n x
    by None at h = absurd h
    by (Some m) at h = record { lower = record { lower = l; upper = m; of_lower = is; of_upper = at; below = h }; leads = leads }

  pub is_above : (n x l : ℕ) → layer_of u n ≡ Some l → LeadsUp u n x → IsSomeAnd (layer_of u x) (λ m. l < m)
  is_above n x l is up =
      let same : up.lower.lower ≡ l = same_some up.lower.lower l (sym up.lower.of_lower ∙ is) in
      subst (λ o. IsSomeAnd o (λ m. l < m)) (sym up.lower.of_upper) (subst (λ k. k < up.lower.upper) same up.lower.below) where
        same_some : (a b : ℕ) → Some a ≡ Some b → a ≡ b
        same_some a b h = cc

  -- ---- all pairs

  leads_of : (p o : ℕ) → origin_of u p ≡ Some o → LeadsUp u o p
  leads_of p o is = let f = origin-leads u p o is in record { lower = f.0; leads = f.1 }

  has_origin : (p o : ℕ) → LeadsUp u o p → origin_of u p ≡ None → ⊥
  has_origin p o up none =
      let above : suc (up.lower.upper - 1) ≡ up.lower.upper = let low = up.lower.below in omega arith in
      false≢true (sym (ap is_some none) ∙ origin-above u p (up.lower.upper - 1) (up.lower.of_upper ∙ ap Some (sym above)))

  is_origin : (p : ℕ) (o : Option ℕ) → IsFirstBelow u (pair_count u) p o → (v : Option ℕ) → origin_of u p ≡ v → o ≡ v
  is_origin p None none None is = refl
  is_origin p None none (Some x) is = absurd (none x (origin_low p x is) (leads_of p x is))
  is_origin p (Some o) first None is = absurd (has_origin p o first.1.leads is)
  is_origin p (Some o) first (Some x) is =
      let one = first.1.least x (leads_of p x is) in
      let two = origin-least u p x o is first.1.leads.lower first.1.leads.leads in
      let same : o ≡ x = omega arith in
      ap Some same

  pub all_found : (origins : List (Option ℕ)) → AreFirstBelow u (pair_count u) origins → origins ≡ map (origin_of u) (all_pairs u)
  all_found origins first = fill_by_all (origin_of u) origins (pair_count u) None first.count (λ p low. is_origin p (get_or origins p None) (first.each p low) (origin_of u p) refl)

  -- ---- what the origin of a pair is

  pub least_below : (p l : ℕ) → layer_of u p ≡ Some l → MatchOption (origin_of u p) (layer_of u p ≡ Some 0) (IsLeastBelow u p)
  least_below p l at = by (origin_of u p) refl where
    lowest : (k : ℕ) → layer_of u p ≡ Some k → origin_of u p ≡ None → layer_of u p ≡ Some 0
    lowest zero is none = is
    lowest (suc k) is none = absurd (false≢true (sym (ap is_some none) ∙ origin-above u p k is))

    by : (v : Option ℕ) → origin_of u p ≡ v → MatchOption v (layer_of u p ≡ Some 0) (IsLeastBelow u p)
    by None is = lowest l at is
    by (Some o) is = record { leads = leads_of p o is; least = λ q up. origin-least u p o q is up.lower up.leads }
