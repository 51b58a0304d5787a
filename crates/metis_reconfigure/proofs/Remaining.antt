-- The staying instances stand, none leaves, and with each all on which it stands stay, but for leaving ones.
use Rattle.std.proofs.Common.{◌≡◌, ℕ, Bool, true, false, cond, not, ◌&&◌, List, [], ◌∷◌, ◌++◌, Option, Some, None, refl, sym, ap, ◌∙◌, subst, nat_eq, nat_le, inl, inr}
use Rattle.std.specs.Prelude.{IsSome}
use Rattle.std.specs.Option.{option_map_or}
use Rattle.std.proofs.lemmas.Bool.{and_from, and_parts, both_ways, eqb-true, false_from_ne_true, false≢true, not-true, or_cases, or_left, or_right}
use Rattle.metis_ids.specs.declared.goals.Goal.{Goal}
use Rattle.metis_ids.proofs.Lists.{has-append, has-filter}
use Rattle.metis_rollout.proofs.Quiet.{find_some, has-keys, keys-has}
use Rattle.metis_rollout.specs.Terms.{is_idle, members}
use Rattle.metis_universe.specs.Terms.{Binding, Config, IsConfig, Universe, has, is_bound, pair_of, places_of, serves}
use Rattle.metis_wishes.specs.Terms.{keeps_all, kept, rebound}
use Rattle.metis_wishes.specs.declared.wish.Wish.{Wish}
use Rattle.metis_reconfigure.specs.Terms.{AreLeaving, AreReached, AreStaying, Edge, IsReached, StayFor, StaysToo, fresh_in, holds_up, is_firm, next, next_serving, serving_among, settled, start, those_in, wished}
use Rattle.metis_reconfigure.proofs.Given.{edge_from, edge_to, is_settled, leaves_inside}

-- what stands in d, does not leave, and has with each all on which it stands that does not leave
pub record IsClosed (u : Universe) (d : Config) (leaving zs : List ℕ) : Type 0 where
  pub stands : (z : ℕ) → has zs z ≡ true → IsSome (pair_of d z)
  pub stays : (z : ℕ) → has zs z ≡ true → has leaving z ≡ false
  pub leads : (r z y : ℕ) → has zs z ≡ true → is_bound d r z y ≡ true → is_idle u d (r, z, y) ≡ false → has leaving y ≡ false → has zs y ≡ true

module _ (u : Universe) (d : Config) (kd : IsConfig d) (leaving : List ℕ) where
  abbrev edges : List Edge
  edges = holds_up u d leaving

  abbrev forth : Binding → Edge
  forth b = (b.1, b.2, b.0)

  abbrev holds : Binding → Bool
  holds b = not (is_idle u d b) && not (has leaving b.2)

  abbrev MayStay : ℕ → Type 0
  MayStay z = IsSome (pair_of d z) × (has leaving z ≡ false)

  reached_stays : (starts : List ℕ) → ((z : ℕ) → has starts z ≡ true → MayStay z) → (z : ℕ) → IsReached starts edges z → MayStay z
  reached_stays starts first z (start _ h) = first z h
  reached_stays starts first y (next z _ r h) =
      let e = edge_from forth holds d.bindings z y h in
      let parts = and_parts (not (is_idle u d e.binding)) (not (has leaving e.binding.2)) e.passes in
      (subst (λ x. IsSome (pair_of d x)) e.to (kd.provider e.binding.0 e.binding.1 e.binding.2 e.among), subst (λ x. has leaving x ≡ false) e.to (not-true _ parts.1))

  pub reached_closed : (starts zs : List ℕ) → AreReached starts edges zs → ((z : ℕ) → has starts z ≡ true → MayStay z) → IsClosed u d leaving zs
  reached_closed starts zs are first = record {
    stands = λ z h. (reached_stays starts first z ((are z).0 h)).0;
    stays = λ z h. (reached_stays starts first z ((are z).0 h)).1;
    leads = λ r z y h bound needed off. (are y).1 (next z y ((are z).0 h) (edge_to forth holds (r, z, y) d.bindings bound (and_from (not (is_idle u d (r, z, y))) (not (has leaving y)) (ap not needed) (ap not off))));
  }

  pub starts_reached : (starts zs : List ℕ) → AreReached starts edges zs → (z : ℕ) → has starts z ≡ true → has zs z ≡ true
  starts_reached starts zs are z h = (are z).1 (start z h)

  module _ (c : Config) (settled_stay : (z : ℕ) → has (settled c leaving) z ≡ true → MayStay z) where
    serving_stays : (from : List ℕ) (g : Goal) (z : ℕ) → next_serving u c leaving from g ≡ Some z → MayStay z
    serving_stays from g z is = settled_stay z (find_some (λ x. option_map_or (λ p. serves u p g) (pair_of c x) false && not (has from x)) (settled c leaving) z is).0

    too_closed : (from to : List ℕ) (o : Option ℕ) → ((z : ℕ) → o ≡ Some z → MayStay z) → IsClosed u d leaving from → StaysToo u d leaving from o to → IsClosed u d leaving to
    too_closed from to None first closed is = subst (IsClosed u d leaving) (sym is) closed
    too_closed from to (Some z) first closed are = reached_closed (z ∷ from) to are (λ x h. elim (or_cases (nat_eq z x) (has from x) h) [
      | inl now ↦ subst MayStay (eqb-true z x now) (first z refl)
      | inr old ↦ (closed.stands x old, closed.stays x old)
    ])

    too_kept : (from to : List ℕ) (o : Option ℕ) → StaysToo u d leaving from o to → (z : ℕ) → has from z ≡ true → has to z ≡ true
    too_kept from to None is z h = ap (λ l. has l z) is ∙ h
    too_kept from to (Some x) are z h = starts_reached (x ∷ from) to are z (or_right (nat_eq x z) (has from z) h)

    abbrev next_for : List Goal → Goal → List ℕ → Option ℕ
    next_for earlier g from = cond (nat_le (serving_among u d (those_in d from) g) (places_of earlier g)) (next_serving u c leaving from g) None

    next_stays : (earlier : List Goal) (g : Goal) (from : List ℕ) (z : ℕ) → next_for earlier g from ≡ Some z → MayStay z
    next_stays earlier g from z is = by (nat_le (serving_among u d (those_in d from) g) (places_of earlier g)) is where
      by : (b : Bool) → cond b (next_serving u c leaving from g) None ≡ Some z → MayStay z
      by true e = serving_stays from g z e
      by false e = cc

    pub all_closed : (earlier goals : List Goal) (from to : List ℕ) → IsClosed u d leaving from → StayFor u c d leaving earlier goals from to → IsClosed u d leaving to
    all_closed earlier [] from to closed is = subst (IsClosed u d leaving) (sym is) closed
    all_closed earlier (g ∷ goals) from to closed are =
        all_closed (earlier ++ g ∷ []) goals are.0 to (too_closed from are.0 (next_for earlier g from) (next_stays earlier g from) closed are.1) are.2

    pub all_kept : (earlier goals : List Goal) (from to : List ℕ) → StayFor u c d leaving earlier goals from to → (z : ℕ) → has from z ≡ true → has to z ≡ true
    all_kept earlier [] from to is z h = ap (λ l. has l z) is ∙ h
    all_kept earlier (g ∷ goals) from to are z h = all_kept (earlier ++ g ∷ []) goals are.0 to are.2 z (too_kept from are.0 (next_for earlier g from) are.1 z h)

-- ---- the staying ones

module _ (u : Universe) (wishes : List Wish) (c : Config) (kc : IsConfig c) (leaving : List ℕ) (leave : AreLeaving u wishes c leaving) (d : Config) (kd : IsConfig d) where
  module _ (same : (z : ℕ) → has (members c) z ≡ true → pair_of d z ≡ pair_of c z) (firm : (z : ℕ) → is_firm wishes z ≡ true → IsSome (pair_of c z) × (has leaving z ≡ false)) where
    abbrev Stays : ℕ → Type 0
    Stays z = IsSome (pair_of d z) × (has leaving z ≡ false)

    settled_may : (z : ℕ) → has (settled c leaving) z ≡ true → Stays z
    settled_may z h = let at = is_settled u wishes c kc leaving leave z h in (subst IsSome (sym (same z at.1)) (has-keys c.instances z at.1), at.0)

    firm_may : (z : ℕ) → is_firm wishes z ≡ true → Stays z
    firm_may z h = let at = firm z h in (subst IsSome (sym (same z (keys-has c.instances z at.0))) at.0, at.1)

    fresh_may : (z : ℕ) → has (fresh_in c d) z ≡ true → Stays z
    fresh_may z h =
        let parts = and_parts (not (has (members c) z)) (has (members d) z) (sym (has-filter (λ x. not (has (members c) x)) z (members d)) ∙ h) in
        (has-keys d.instances z parts.1, false_from_ne_true _ (λ is. both_ways _ (not-true _ parts.0) (leaves_inside u wishes c kc leaving leave z is)))

    abbrev all_settled : List ℕ
    all_settled = cond (keeps_all wishes) (settled c leaving) []

    wished_may : (z : ℕ) → has (wished wishes c leaving) z ≡ true → Stays z
    wished_may z h = elim (or_cases (has (kept wishes) z) (has (rebound wishes ++ all_settled) z) (sym (has-append (kept wishes) (rebound wishes ++ all_settled) z) ∙ h)) [
      | inl is ↦ firm_may z (or_left (has (kept wishes) z) (has (rebound wishes) z) is)
      | inr more ↦ elim (or_cases (has (rebound wishes) z) (has all_settled z) (sym (has-append (rebound wishes) all_settled z) ∙ more)) [
        | inl is ↦ firm_may z (or_right (has (kept wishes) z) (has (rebound wishes) z) is)
        | inr is ↦ by (keeps_all wishes) is
      ]
    ] where
      by : (b : Bool) → has (cond b (settled c leaving) []) z ≡ true → Stays z
      by true is = settled_may z is
      by false is = absurd (false≢true is)

    -- they stand in c
    pub wished_old : (z : ℕ) → has (wished wishes c leaving) z ≡ true → IsSome (pair_of c z)
    wished_old z h = elim (or_cases (has (kept wishes) z) (has (rebound wishes ++ all_settled) z) (sym (has-append (kept wishes) (rebound wishes ++ all_settled) z) ∙ h)) [
      | inl is ↦ (firm z (or_left (has (kept wishes) z) (has (rebound wishes) z) is)).0
      | inr more ↦ elim (or_cases (has (rebound wishes) z) (has all_settled z) (sym (has-append (rebound wishes) all_settled z) ∙ more)) [
        | inl is ↦ (firm z (or_right (has (kept wishes) z) (has (rebound wishes) z) is)).0
        | inr is ↦ by (keeps_all wishes) is
      ]
    ] where
      by : (b : Bool) → has (cond b (settled c leaving) []) z ≡ true → IsSome (pair_of c z)
      by true is = has-keys c.instances z (is_settled u wishes c kc leaving leave z is).1
      by false is = absurd (false≢true is)

    first_may : (z : ℕ) → has (wished wishes c leaving ++ fresh_in c d) z ≡ true → Stays z
    first_may z h = elim (or_cases (has (wished wishes c leaving) z) (has (fresh_in c d) z) (sym (has-append (wished wishes c leaving) (fresh_in c d) z) ∙ h)) [
      | inl is ↦ wished_may z is
      | inr is ↦ fresh_may z is
    ]

    module _ (goals : List Goal) (staying : List ℕ) (stay : AreStaying u wishes c d leaving goals staying) where
      pub staying_closed : IsClosed u d leaving staying
      staying_closed = all_closed u d kd leaving c settled_may [] goals stay.begun staying (reached_closed u d kd leaving (wished wishes c leaving ++ fresh_in c d) stay.begun stay.first first_may) stay.rest

      pub firsts_stay : (z : ℕ) → has (wished wishes c leaving ++ fresh_in c d) z ≡ true → has staying z ≡ true
      firsts_stay z h = all_kept u d kd leaving c settled_may [] goals stay.begun staying stay.rest z (starts_reached u d kd leaving (wished wishes c leaving ++ fresh_in c d) stay.begun stay.first z h)

      pub wished_stay : (z : ℕ) → has (wished wishes c leaving) z ≡ true → has staying z ≡ true
      wished_stay z h = firsts_stay z (has-append (wished wishes c leaving) (fresh_in c d) z ∙ or_left _ _ h)

      pub fresh_stay : (z : ℕ) → has (fresh_in c d) z ≡ true → has staying z ≡ true
      fresh_stay z h = firsts_stay z (has-append (wished wishes c leaving) (fresh_in c d) z ∙ or_right (has (wished wishes c leaving) z) _ h)
