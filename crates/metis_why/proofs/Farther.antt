-- The pairs to which ways lead, from near to far: there is one such order, and it goes from near to far.
use Rattle.std.proofs.Common.{◌≡◌, ℕ, suc, ◌<◌, ◌≤◌, Bool, true, false, cond, List, [], ◌∷◌, refl, sym, ap, ◌∙◌, subst, arith, inl, inr, nat_eq}
use Rattle.std.specs.List.{flat_map, list_all}
use Rattle.std.proofs.lemmas.Bool.{both_ways, eq-eqb, eqb-true, false_from_ne_true, false≢true, or_cases, or_left, or_right}
use Rattle.metis_ids.proofs.Lists.{any_at, has-append, list_any-flat_map, some_member}
use Rattle.metis_ids.specs.declared.goals.Goal.{Goal}
use Rattle.metis_universe.proofs.Correctness.{all_from_has, all_has}
use Rattle.metis_universe.specs.Terms.{Universe, has, providers_of, required_of}
use Rattle.metis_why.specs.Terms.{AreApart, Ascends, Covers, IsBefore, IsByDistance, IsCost, IsFromNearToFar, IsInside, IsStep, IsWithinCost, all_in, before_of, further, may_name, named_by, place_in, wanted, wanted_by}
use Rattle.metis_why.specs.declared.reason.Reason.{Reason}
use Rattle.metis_why.specs.declared.reason.Reason.TheVariants.{Needs, Comes}

-- ---- a step leads to the pairs for which one may wait

all_in_parts : (x : ℕ → Bool) (pairs : List ℕ) (p : ℕ) → has (all_in x pairs) p ≡ true → (list_all x pairs ≡ true) × (has pairs p ≡ true)
all_in_parts x pairs p there = by (list_all x pairs) there where
  by : (b : Bool) → has (cond b pairs []) p ≡ true → (b ≡ true) × (has pairs p ≡ true)
  by true there = (refl, there)
  by false there = absurd (false≢true there)

all_in_from : (x : ℕ → Bool) (pairs : List ℕ) (p : ℕ) → list_all x pairs ≡ true → has pairs p ≡ true → has (all_in x pairs) p ≡ true
all_in_from x pairs p all there = ap (λ b. has (cond b pairs []) p) all ∙ there

module _ (u : Universe) (x : ℕ → Bool) (q p : ℕ) where
  abbrev Ports : List ℕ
  Ports = flat_map (λ r. all_in x (providers_of u r)) (required_of u q)

  abbrev Moves : List ℕ
  Moves = all_in x (before_of u q)

  pub step_named : (reason : Reason) → IsStep u x q reason p → has (may_name u x q) p ≡ true
  step_named (Needs r) step =
      has-append Ports Moves p
      ∙ or_left (has Ports p) (has Moves p)
      (list_any-flat_map (λ z. nat_eq z p) (λ r. all_in x (providers_of u r)) (required_of u q)
      ∙ any_at (λ r. has (all_in x (providers_of u r)) p) r (required_of u q) step.asked (all_in_from x (providers_of u r) p step.waits step.names))
  step_named Comes step = has-append Ports Moves p ∙ or_right (has Ports p) (has Moves p) (all_in_from x (before_of u q) p step.waits step.names)

  pub named_step : has (may_name u x q) p ≡ true → (reason : Reason) × IsStep u x q reason p
  named_step there = elim (or_cases (has Ports p) (has Moves p) (sym (has-append Ports Moves p) ∙ there)) [
    | inl port ↦
        let r = some_member (λ r. has (all_in x (providers_of u r)) p) (required_of u q) (sym (list_any-flat_map (λ z. nat_eq z p) (λ r. all_in x (providers_of u r)) (required_of u q)) ∙ port) in
        let parts = all_in_parts x (providers_of u r.0) p r.2 in
        (Needs r.0, record { asked = r.1; waits = parts.0; names = parts.1 })
    | inr move ↦ let parts = all_in_parts x (before_of u q) p move in (Comes, record { asked = tt; waits = parts.0; names = parts.1 })
  ]

-- ---- what ways lead to

module _ (u : Universe) (x y : ℕ → Bool) (g : Goal) (covers : Covers u y g) (goes : (q : ℕ) → y q ≡ true → list_all y (may_name u x q) ≡ true) where
  pub cost_leads : {p n : ℕ} → IsCost u x g p n → y p ≡ true
  cost_leads (wanted p on) = all_has y p (wanted_by u g) covers on
  cost_leads (further q n p reason way step) = all_has y p (may_name u x q) (goes q (cost_leads way)) (step_named u x q p reason step)

pub cost_inside : (u : Universe) (x : ℕ → Bool) (g : Goal) → Covers u x g → {p n : ℕ} → IsCost u x g p n → x p ≡ true
cost_inside u x g covers (wanted p on) = all_has x p (wanted_by u g) covers on
cost_inside u x g covers (further q n p reason way step) = all_has x p (named_by u q reason) step.waits step.names

-- ---- lists that ascend

not_itself : (f : ℕ → ℕ) (p q : ℕ) → IsBefore f p q → p ≡ q → ⊥
not_itself f p q (inl less) same = let alike = ap f same in omega (arith, less, alike)
not_itself f p q (inr tie) same = omega (arith, tie.1, same)

not_both : (f e : ℕ → ℕ) (p q : ℕ) → f p ≡ e p → f q ≡ e q → IsBefore f p q → IsBefore e q p → ⊥
not_both f e p q a b (inl less) (inl back) = omega (arith, a, b, less, back)
not_both f e p q a b (inl less) (inr back) = omega (arith, a, b, less, back.0)
not_both f e p q a b (inr tie) (inl back) = omega (arith, a, b, tie.0, back)
not_both f e p q a b (inr tie) (inr back) = omega (arith, tie.1, back.1)

pub ascends_apart : (f : ℕ → ℕ) (order : List ℕ) → Ascends f order → AreApart order
ascends_apart f [] ascends = tt
ascends_apart f (p ∷ order) ascends = (false_from_ne_true (has order p) (λ there. not_itself f p p (ascends.0 p there) refl), ascends_apart f order ascends.1)

module _ (f e : ℕ → ℕ) where
  abbrev Inside : List ℕ → List ℕ → Type 0
  Inside v w = (p : ℕ) → has v p ≡ true → has w p ≡ true

  tail_there : (p q : ℕ) (v w : List ℕ) → Ascends f (p ∷ v) → p ≡ q → Inside (p ∷ v) (q ∷ w) → Inside v w
  tail_there p q v w a heads there r on = elim (or_cases (nat_eq q r) (has w r) (there r (or_right (nat_eq p r) (has v r) on))) [
    | inl here ↦ absurd (not_itself f p r (a.0 r on) (heads ∙ eqb-true q r here))
    | inr later ↦ later
  ]

  tail_back : (p q : ℕ) (v w : List ℕ) → Ascends e (q ∷ w) → p ≡ q → Inside (q ∷ w) (p ∷ v) → Inside w v
  tail_back p q v w b heads back r on = elim (or_cases (nat_eq p r) (has v r) (back r (or_right (nat_eq q r) (has w r) on))) [
    | inl here ↦ absurd (not_itself e q r (b.0 r on) (sym heads ∙ eqb-true p r here))
    | inr later ↦ later
  ]

  pub ascends_one : (v w : List ℕ) → Ascends f v → Ascends e w → ((p : ℕ) → has v p ≡ true → has w p ≡ true) → ((p : ℕ) → has w p ≡ true → has v p ≡ true) →
      ((p : ℕ) → has v p ≡ true → f p ≡ e p) → v ≡ w
  ascends_one [] [] a b there back same = refl
  ascends_one [] (q ∷ w) a b there back same = absurd (false≢true (back q (or_left (nat_eq q q) (has w q) (eq-eqb q q refl))))
  ascends_one (p ∷ v) [] a b there back same = absurd (false≢true (there p (or_left (nat_eq p p) (has v p) (eq-eqb p p refl))))
  ascends_one (p ∷ v) (q ∷ w) a b there back same = joined (ascends_one v w a.1 b.1 (tail_there p q v w a heads there) (tail_back p q v w b heads back) (λ r on. same r (or_right (nat_eq p r) (has v r) on))) where
    p_here : has (p ∷ v) p ≡ true
    p_here = or_left (nat_eq p p) (has v p) (eq-eqb p p refl)

    q_here : has (q ∷ w) q ≡ true
    q_here = or_left (nat_eq q q) (has w q) (eq-eqb q q refl)

    heads : p ≡ q
    heads = elim (or_cases (nat_eq q p) (has w p) (there p p_here)) [
      | inl here ↦ sym (eqb-true q p here)
      | inr later ↦ elim (or_cases (nat_eq p q) (has v q) (back q q_here)) [
        | inl here ↦ eqb-true p q here
        | inr behind ↦ absurd (not_both f e p q (same p p_here) (same q (back q q_here)) (a.0 q behind) (b.0 p later))
      ]
    ]

    joined : v ≡ w → (p ∷ v) ≡ (q ∷ w)
    joined tails = λ i. heads i ∷ tails i

-- what stands before a pair of the list is not farther
ascends_least : (f : ℕ → ℕ) (order : List ℕ) (p q : ℕ) → Ascends f order → has order q ≡ true → place_in order p < place_in order q → (has order p ≡ true) × (f p ≤ f q)
ascends_least f [] p q ascends on less = absurd (false≢true on)
ascends_least f (r ∷ order) p q ascends on less = by (nat_eq r p) (nat_eq r q) refl refl less (ascends_least f order p q ascends.1) where
  least : (a b : ℕ) → IsBefore f a b → f a ≤ f b
  least a b (inl less) = omega arith
  least a b (inr tie) = omega (arith, tie.0)

  by : (a b : Bool) → nat_eq r p ≡ a → nat_eq r q ≡ b → cond a 0 (suc (place_in order p)) < cond b 0 (suc (place_in order q)) →
      (has order q ≡ true → place_in order p < place_in order q → (has order p ≡ true) × (f p ≤ f q)) → (has (r ∷ order) p ≡ true) × (f p ≤ f q)
  by a true here there less rest = absurd (omega arith)
  by true false here there less rest = elim (or_cases (nat_eq r q) (has order q) on) [
    | inl now ↦ absurd (both_ways (nat_eq r q) there now)
    | inr later ↦ (or_left (nat_eq r p) (has order p) here, subst (λ k. f k ≤ f q) (eqb-true r p here) (least r q (ascends.0 q later)))
  ]
  by false false here there less rest = elim (or_cases (nat_eq r q) (has order q) on) [
    | inl now ↦ absurd (both_ways (nat_eq r q) there now)
    | inr later ↦ let found = rest later (omega (arith, less)) in (or_right (nat_eq r p) (has order p) found.0, found.1)
  ]

-- ---- the order of distance

module _ (u : Universe) (x : ℕ → Bool) (g : Goal) (order : List ℕ) (far : IsByDistance u x g order) where
  pub distance_apart : AreApart order
  distance_apart = ascends_apart far.far order far.ascends

  pub distance_wanted : (p : ℕ) → has (wanted_by u g) p ≡ true → has order p ≡ true
  distance_wanted p on = far.all p 0 (wanted p on)

  pub distance_step : (q p : ℕ) (reason : Reason) → has order q ≡ true → IsStep u x q reason p → has order p ≡ true
  distance_step q p reason on step = far.all p _ (further q (far.far q) p reason (far.distance q on).cost step)

  pub nearer_first : IsFromNearToFar u x g order
  nearer_first n p q (m, low, way) less =
      let on : has order q ≡ true = far.all q m way in
      let found = ascends_least far.far order p q far.ascends on less in
      let least = (far.distance q on).least m way in
      (far.far p, omega (arith, found.1, least, low), (far.distance p found.0).cost)

  pub some_cost : (p : ℕ) → has order p ≡ true → (n : ℕ) × IsWithinCost u x g n p
  some_cost p on = (far.far p, (far.far p, omega arith, (far.distance p on).cost))

  pub distance_covers : Covers u (has order) g
  distance_covers = all_from_has (has order) (wanted_by u g) distance_wanted

  pub distance_closed : (q : ℕ) → has order q ≡ true → list_all (has order) (may_name u x q) ≡ true
  distance_closed q on = all_from_has (has order) (may_name u x q) (λ p named. let step = named_step u x q p named in distance_step q p step.0 on step.1)

  pub distance_least : (y : ℕ → Bool) → Covers u y g → ((q : ℕ) → y q ≡ true → list_all y (may_name u x q) ≡ true) → IsInside (has order) y
  distance_least y covers goes p on = cost_leads u x y g covers goes (far.distance p on).cost

pub distance_one : (u : Universe) (x : ℕ → Bool) (g : Goal) (v w : List ℕ) → IsByDistance u x g v → IsByDistance u x g w → v ≡ w
distance_one u x g v w a b =
    ascends_one a.far b.far v w a.ascends b.ascends (λ p on. b.all p (a.far p) (a.distance p on).cost) (λ p on. a.all p (b.far p) (b.distance p on).cost) same
  where
    same : (p : ℕ) → has v p ≡ true → a.far p ≡ b.far p
    same p on =
        let there : has w p ≡ true = b.all p (a.far p) (a.distance p on).cost in
        let one = (a.distance p on).least (b.far p) (b.distance p there).cost in
        let other = (b.distance p there).least (a.far p) (a.distance p on).cost in
        omega (arith, one, other)
