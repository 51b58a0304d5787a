-- One that may be bound anew finds as many other providers as it lacks.
use Rattle.std.proofs.Common.{◌≡◌, ℕ, ◌+◌, ◌-◌, ◌<◌, ◌≤◌, Bool, true, false, cond, not, ◌&&◌, List, [], ◌∷◌, ◌++◌, Some, length, refl, sym, ap, ◌∙◌, subst, arith, nat_eq, inl, inr, length-append}
use Rattle.std.specs.List.{count_by, filter, range_with_len, slice_index_or}
use Rattle.std.specs.Option.{option_map_or}
use Rattle.std.proofs.lemmas.Bool.{and_from, both_ways, cases_Bool, cases_lt, eq-eqb, eqb-true, or_cases, or_left, or_right}
use Rattle.std.proofs.lemmas.List.{length-map, length-take-le}
use Rattle.std.proofs.lemmas.List.Sums.{length-filter}
use Rattle.metis_ids.proofs.Lists.{has-append, has-filter}
use Rattle.metis_rollout.proofs.Quiet.{keys-has}
use Rattle.metis_rollout.specs.Terms.{members}
use Rattle.metis_universe.proofs.Demands.{no_more}
use Rattle.metis_universe.specs.Terms.{Config, IsConfig, Universe, demand_of, has, is_bound, pair_of, provides}
use Rattle.metis_wishes.specs.declared.wish.Wish.{Wish}
use Rattle.metis_reconfigure.specs.Terms.{AreLeaving, candidates, fresh_givers, given, lack, rebound_in, wants}
use Rattle.metis_reconfigure.proofs.Counted.{by_place}
use Rattle.metis_reconfigure.proofs.Given.{is_given}
use Rattle.metis_reconfigure.proofs.Rebound.{AreTargets, asked_there, fresh_away, givers, givers_differ, taken}

module _ (u : Universe) (wishes : List Wish) (c : Config) (leaving ts : List ℕ) (name : ℕ → ℕ) (k : IsConfig c) (leave : AreLeaving u wishes c leaving) (d : Config) (t : AreTargets u wishes c leaving ts name d) where
  length-givers : (r : ℕ) → length (givers u wishes c leaving ts name k leave d t r) ≡ length (given u c leaving r) + count_by (λ p. provides u p r) ts
  length-givers r =
      let test : ℕ → Bool = λ n. provides u (slice_index_or ts n 0) r in
      length-append (given u c leaving r) (fresh_givers u ts name r)
      ∙ ap (λ n. length (given u c leaving r) + n) (length-map (filter test (range_with_len 0 (length ts))) name ∙ by_place (λ p. provides u p r) ts)

  module _ (z p r : ℕ) (asked : has (rebound_in wishes c) z ≡ true) (stands : pair_of c z ≡ Some p) where
    abbrev all : List ℕ
    all = givers u wishes c leaving ts name k leave d t r

    abbrev others : List ℕ
    others = candidates u c leaving ts name z r

    abbrev bound : ℕ → Bool
    bound = is_bound c r z

    -- to which it is bound already
    abbrev pub held : List ℕ
    held = filter bound (given u c leaving r)

    abbrev itself : List ℕ
    itself = cond (provides u p r) (z ∷ []) []

    there : has (members c) z ≡ true
    there = asked_there u wishes c leaving ts name k leave d t z asked

    old_giver : (y : ℕ) → has all y ≡ true → has (members c) y ≡ true → has (given u c leaving r) y ≡ true
    old_giver y h at = elim (or_cases (has (given u c leaving r) y) (has (fresh_givers u ts name r) y) (sym (has-append (given u c leaving r) (fresh_givers u ts name r) y) ∙ h)) [
      | inl old ↦ old
      | inr fresh ↦ absurd (both_ways _ (fresh_away u wishes c leaving ts name k leave d t r y fresh) at)
    ]

    -- each that provides the port is another candidate, itself, or one to which it is bound
    among : (y : ℕ) → has all y ≡ true → has (others ++ (itself ++ held)) y ≡ true
    among y h = has-append others (itself ++ held) y ∙ elim (cases_Bool (nat_eq y z)) [
      | inl same ↦
          let is = eqb-true y z same in
          let old = old_giver y h (subst (λ x. has (members c) x ≡ true) (sym is) there) in
          let gives_it : provides u p r ≡ true = ap (λ o. option_map_or (λ q. provides u q r) o false) (sym (ap (pair_of c) is ∙ stands)) ∙ (is_given u wishes c k leaving leave r y old).0 in
          or_right (has others y) _ (has-append itself held y ∙ or_left _ _ (ap (λ b. has (cond b (z ∷ []) []) y) gives_it ∙ or_left (nat_eq z y) false (eq-eqb z y (sym is))))
      | inr other ↦ elim (cases_Bool (bound y)) [
        | inl is ↦
            let old = old_giver y h (keys-has c.instances y (k.provider r z y is)) in
            or_right (has others y) _ (has-append itself held y ∙ or_right (has itself y) _ (has-filter bound y (given u c leaving r) ∙ and_from (bound y) _ is old))
        | inr free ↦ or_left _ _ (has-filter (λ x. not (nat_eq x z) && not (bound x)) y all ∙ and_from (not (nat_eq y z) && not (bound y)) (has all y) (and_from _ _ (ap not other) (ap not free)) h)
      ]
    ]

    enough : demand_of u p r + cond (provides u p r) 1 0 ≤ length (given u c leaving r) + count_by (λ q. provides u q r) ts → demand_of u p r ≤ length others + length held
    enough wanted =
        let few = no_more all (others ++ (itself ++ held)) (givers_differ u wishes c leaving ts name k leave d t r) among in
        by (provides u p r) (demand_of u p r) (length (given u c leaving r) + count_by (λ q. provides u q r) ts) (length others) (length held) (length itself) (length (others ++ (itself ++ held))) (length all)
        (length-givers r) few (length-append others (itself ++ held) ∙ ap (λ n. length others + n) (length-append itself held)) (one (provides u p r)) wanted where
          one : (b : Bool) → length (cond b (z ∷ []) []) ≡ cond b 1 0
          one true = refl
          one false = refl

          by : (b : Bool) (n w o l i s a : ℕ) → a ≡ w → a ≤ s → s ≡ o + (i + l) → i ≡ cond b 1 0 → n + cond b 1 0 ≤ w → n ≤ o + l
          by true n w o l i s a e f h g q = omega arith
          by false n w o l i s a e f h g q = omega arith

    lack_is : lack u c leaving z r ≡ demand_of u p r - length held
    lack_is = λ i. option_map_or (λ q. demand_of u q r) (stands i) 0 - sym (length-filter bound (given u c leaving r)) i

    -- those to which it is bound and those to which it is bound anew
    pub enough_taken : (0 < lack u c leaving z r → wants u c r z ≤ length (given u c leaving r) + count_by (λ q. provides u q r) ts) → demand_of u p r ≤ length held + length (taken u wishes c leaving ts name z r)
    enough_taken wanted = elim (cases_lt 0 (lack u c leaving z r)) [
      | inl some ↦
          let want : wants u c r z ≡ demand_of u p r + cond (provides u p r) 1 0 = ap (λ o. option_map_or (λ q. demand_of u q r + cond (provides u q r) 1 0) o 0) stands in
          let many = enough (subst (λ n. n ≤ length (given u c leaving r) + count_by (λ q. provides u q r) ts) want (wanted some)) in
          omega (arith, many, lack_is, length-take-le (lack u c leaving z r) others (omega (arith, many, lack_is)))
      | inr none ↦ omega (arith, lack_is, none)
    ]
