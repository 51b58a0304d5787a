-- At the end the goals are held: what stays of what stood, and the instances of the targets, serve them.
use Rattle.std.proofs.Common.{◌≡◌, ℕ, ◌+◌, ◌<◌, ◌≤◌, true, false, cond, not, ◌&&◌, List, ◌++◌, Some, None, length, length-append, map, refl, sym, ap, ◌∙◌, subst, arith, inl, inr}
use Rattle.std.specs.List.{count_by, filter, slice_get}
use Rattle.std.specs.Option.{option_map_or}
use Rattle.std.proofs.lemmas.Bool.{and_from, and_parts, both_ways, false_from_ne_true, not_from_false, or_cases, or_right}
use Rattle.std.proofs.lemmas.List.{length-map}
use Rattle.std.proofs.lemmas.List.Sums.{length-filter}
use Rattle.std.proofs.lemmas.Option.{none-some}
use Rattle.metis_ids.specs.declared.actions.Action.{Action}
use Rattle.metis_ids.specs.declared.goals.Goal.{Goal}
use Rattle.metis_completion.proofs.Front.{append_differs}
use Rattle.metis_ids.proofs.Finding.{not_found}
use Rattle.metis_ids.proofs.Lists.{has-append, has-filter}
use Rattle.metis_ids.proofs.Options.{none_or_some}
use Rattle.metis_rollout.proofs.Quiet.{has-keys}
use Rattle.metis_rollout.specs.Terms.{IsWithout, all_but, fresh_name, members}
use Rattle.metis_universe.specs.Terms.{AreDifferent, Config, HoldsGoals, IsConfig, Universe, has, pair_of, places_of, serves}
use Rattle.metis_wishes.specs.declared.wish.Wish.{Wish}
use Rattle.metis_reconfigure.specs.Terms.{IsAnswerable, Reconfiguration, StayBegun, before_removal, fresh_in, left_by, next_serving, serving_among, settled, start, targets, wished}
use Rattle.metis_reconfigure.proofs.Lists.{by_case, filter_differs, has_named, length-places, members_differ, named_differ, at_places, places, places_differ, serving_more}
use Rattle.metis_reconfigure.proofs.Stays.{Within, count, counted, enough_stay, in_members, serves_by, serves_in, those, those_are, those_differ, length-those}
use Rattle.metis_reconfigure.proofs.Wanted.{targets_enough}

-- the instances of the targets, beside what stood
pub record AreTargets (ts : List ℕ) (name : ℕ → ℕ) (c d : Config) : Type 0 where
  pub stand : (n p : ℕ) → slice_get ts n ≡ Some p → pair_of d (name n) ≡ Some p
  pub apart : (n m : ℕ) → n < length ts → m < length ts → name n ≡ name m → n ≡ m
  pub new : (n : ℕ) → n < length ts → pair_of c (name n) ≡ None

module _ (u : Universe) (wishes : List Wish) (c d : Config) (leaving begun ts : List ℕ) (name : ℕ → ℕ) (goals : List Goal) (k : IsConfig c) (in_d : IsConfig d)
    (stands : (z p : ℕ) → pair_of c z ≡ Some p → pair_of d z ≡ Some p) (made : AreTargets ts name c d) (first : StayBegun u wishes c d leaving begun)
    (wanted : (g : Goal) → places_of goals g ≤ serving_among u c (settled c leaving) g + count_by (λ p. serves u p g) ts) where
  -- what served a goal serves it still
  serves_still : (z : ℕ) (g : Goal) → serves_in u c g z ≡ true → serves_in u d g z ≡ true
  serves_still z g h = let by = serves_by u c g z h in ap (λ o. option_map_or (λ p. serves u p g) o false) (stands z by.0 by.1) ∙ by.2

  -- those that stood and serve the goal, and the instances of the targets that do
  abbrev old_ones : Goal → List ℕ
  old_ones g = filter (serves_in u c g) (settled c leaving)

  abbrev new_ones : Goal → List ℕ
  new_ones g = map name (places (λ p. serves u p g) 0 ts)

  old_differ : (g : Goal) → AreDifferent (old_ones g)
  old_differ g = filter_differs (serves_in u c g) (settled c leaving) (filter_differs (λ z. not (has leaving z)) (members c) (members_differ c k))

  record IsNewOne (g : Goal) (z : ℕ) : Type 0 where
    number : ℕ
    pair : ℕ
    is : name number ≡ z
    low : number < length ts
    there : slice_get ts number ≡ Some pair
    good : serves u pair g ≡ true

  new_one : (g : Goal) (n : ℕ) → has (places (λ p. serves u p g) 0 ts) n ≡ true → IsNewOne g (name n)
  new_one g n h =
      let at = at_places (λ p. serves u p g) 0 n ts h in
      let same : n ≡ at.after = omega (arith, at.is) in
      record { number = n; pair = at.element; is = refl; low = omega (arith, same, at.low); there = ap (slice_get ts) same ∙ at.there; good = at.passes }

  is_new_one : (g : Goal) (z : ℕ) → has (new_ones g) z ≡ true → IsNewOne g z
  is_new_one g z h =
      let by = has_named name (places (λ p. serves u p g) 0 ts) z h in
      subst (IsNewOne g) by.2 (new_one g by.0 by.1)

  new_differ : (g : Goal) → AreDifferent (new_ones g)
  new_differ g = named_differ name (places (λ p. serves u p g) 0 ts) (places_differ (λ p. serves u p g) 0 ts) (λ x y one two same.
      let at_x = at_places (λ p. serves u p g) 0 x ts one in
      let at_y = at_places (λ p. serves u p g) 0 y ts two in
      made.apart x y (omega (arith, at_x.is, at_x.low)) (omega (arith, at_y.is, at_y.low)) same)

  -- the new ones stay from the beginning
  new_begun : (g : Goal) (z : ℕ) → has (new_ones g) z ≡ true → (serves_in u d g z ≡ true) × (has begun z ≡ true)
  new_begun g z h =
      let n = is_new_one g z h in
      let there : pair_of d z ≡ Some n.pair = subst (λ x. pair_of d x ≡ Some n.pair) n.is (made.stand n.number n.pair n.there) in
      let gone : pair_of c z ≡ None = subst (λ x. pair_of c x ≡ None) n.is (made.new n.number n.low) in
      let out : has (members c) z ≡ false = false_from_ne_true (has (members c) z) (λ h. none_or_some (pair_of c z) gone (has-keys c.instances z h)) in
      let fresh : has (fresh_in c d) z ≡ true =
      has-filter (λ x. not (has (members c) x)) z (members d) ∙ and_from (not (has (members c) z)) (has (members d) z) (not_from_false (has (members c) z) out) (in_members d z n.pair there) in (
        ap (λ o. option_map_or (λ p. serves u p g) o false) there ∙ n.good,
        (first z).1 (start z (has-append (wished wishes c leaving) (fresh_in c d) z ∙ or_right (has (wished wishes c leaving) z) (has (fresh_in c d) z) fresh)),
      )

  -- where no settled one can be added, all of them are there
  pub enough : (zs : List ℕ) (g : Goal) → Within u c d leaving begun zs → next_serving u c leaving zs g ≡ None → places_of goals g ≤ count u c d leaving zs g
  enough zs g within none =
      let old_are : (z : ℕ) → has (old_ones g) z ≡ true → (serves_in u c g z ≡ true) × (has zs z ≡ true) = λ z h.
      let both = and_parts (serves_in u c g z) (has (settled c leaving) z) (sym (has-filter (serves_in u c g) z (settled c leaving)) ∙ h) in (
        both.0,
        by_case (has zs z) (has zs z ≡ true) (λ there. there) (λ out. absurd (both_ways (serves_in u c g z && not (has zs z))
            (not_found (λ x. serves_in u c g x && not (has zs x)) (settled c leaving) none z both.1)
            (and_from (serves_in u c g z) (not (has zs z)) both.0 (not_from_false (has zs z) out)))),
      ) in
      let more = counted u c d leaving zs (old_ones g ++ new_ones g) g
      (append_differs (old_ones g) (new_ones g) (old_differ g) (new_differ g) (λ z old. false_from_ne_true (has (new_ones g) z) (λ new.
      let by = serves_by u c g z (old_are z old).0 in
      let n = is_new_one g z new in
      none-some by.0 (sym (subst (λ x. pair_of c x ≡ None) n.is (made.new n.number n.low)) ∙ by.1))))
      (λ z h. elim (or_cases (has (old_ones g) z) (has (new_ones g) z) (sym (has-append (old_ones g) (new_ones g) z) ∙ h)) [
        | inl old ↦ let both = old_are z old in (serves_still z g both.0, both.1)
        | inr new ↦ let both = new_begun g z new in (both.0, within z both.1)
      ]) in
      let all = length-append (old_ones g) (new_ones g) in
      let olds : length (old_ones g) ≡ serving_among u c (settled c leaving) g = length-filter (serves_in u c g) (settled c leaving) in
      let news : length (new_ones g) ≡ count_by (λ p. serves u p g) ts = length-map (places (λ p. serves u p g) 0 ts) name ∙ length-places (λ p. serves u p g) 0 ts in
      omega (arith, wanted g, more, all, olds, news)

-- what is known of the configurations at which a list of actions that joins the new to the old arrives, before the removal and after it
pub record Joins (u : Universe) (wishes : List Wish) (old : List Action) (goals : List Goal) (r : Reconfiguration u wishes old goals) (e : Config) : Type 0 where
  pub old_config : IsConfig (left_by u old)
  pub config : IsConfig (left_by u (before_removal r))
  pub stands : (z p : ℕ) → pair_of (left_by u old) z ≡ Some p → pair_of (left_by u (before_removal r)) z ≡ Some p
  pub made : AreTargets (targets u wishes (left_by u old) r.leaving goals) (fresh_name old r.plan.actions) (left_by u old) (left_by u (before_removal r))
  pub without : IsWithout u (all_but r.staying) (left_by u (before_removal r)) e

-- at the end the goals are held
pub goals_held : (u : Universe) (wishes : List Wish) (old : List Action) (goals : List Goal) (r : Reconfiguration u wishes old goals) (e : Config)
    → IsAnswerable u wishes old goals r.leaving → Joins u wishes old goals r e → HoldsGoals u e goals
goals_held u wishes old goals r e answerable k g =
    let c = left_by u old in
    let d = left_by u (before_removal r) in
    let ts = targets u wishes c r.leaving goals in
    let stay = r.stay in
    let wanted = targets_enough u wishes c r.leaving goals answerable.avoidable in
    let many = enough_stay u c d r.leaving k.config goals stay.begun
    (enough u wishes c d r.leaving stay.begun ts (fresh_name old r.plan.actions) goals k.old_config k.config k.stands k.made stay.first wanted)
    (serves_still u wishes c d r.leaving stay.begun ts (fresh_name old r.plan.actions) goals k.old_config k.config k.stands k.made stay.first wanted) r.staying stay.rest g in
    let held = serving_more u e g (those u c d r.leaving r.staying g) (those_differ u c d r.leaving k.config r.staying g) (λ x h.
    let both = those_are u c d r.leaving r.staying g x h in
    let by = serves_by u d g x both.0 in
    (by.0, k.without.pairs x ∙ ap (λ b. cond (not b) None (pair_of d x)) both.1 ∙ by.1, by.2)) in
    omega (arith, many, held, length-those u c d r.leaving r.staying g)
