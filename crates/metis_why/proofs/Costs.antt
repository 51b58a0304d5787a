-- Costs that are lowered, and the order that they come to.
use Rattle.std.proofs.Common.{◌≡◌, ℕ, suc, ◌+◌, ◌*◌, ◌<◌, ◌≤◌, Bool, true, false, cond, List, [], ◌∷◌, ◌++◌, length, refl, sym, ap, ◌∙◌, subst, arith, inl, inr, nat_eq}
use Rattle.std.specs.Prelude.{◌⊎◌, fold, nat_lt}
use Rattle.std.specs.List.{list_all}
use Rattle.std.proofs.lemmas.Bool.{both_ways, cases_eq, eq-eqb, eqb-true, false≢true, ltb-false, ltb-true, or_cases, or_left, or_parts, or_right}
use Rattle.std.proofs.lemmas.List.{length_push}
use Rattle.std.proofs.Math.Nat.{mul-le-mul_left, mul-suc}
use Rattle.metis_ids.proofs.Lists.{has-append, has_one}
use Rattle.metis_ids.specs.declared.goals.Goal.{Goal}
use Rattle.metis_universe.specs.Terms.{Universe, has, providers_of, required_of}
use Rattle.metis_why.specs.Terms.{Ascends, IsBefore, IsByDistance, IsCost, IsFirst, IsReaching, IsStep, before_of, further, led_by, led_on, lowered, named_by, wanted, wanted_by}
use Rattle.metis_why.specs.declared.reason.Reason.{Reason}
use Rattle.metis_why.specs.declared.reason.Reason.TheVariants.{Needs, Comes}

-- ---- a cost that is lowered

module _ (f : ℕ → ℕ) (pairs : List ℕ) (c p : ℕ) where
  lower_most : lowered f pairs c p ≤ f p
  lower_most = by (has pairs p) (nat_lt c (f p)) refl where
    by : (a b : Bool) → nat_lt c (f p) ≡ b → cond a (cond b c (f p)) (f p) ≤ f p
    by false b is = omega arith
    by true false is = omega arith
    by true true is = let less = ltb-true c (f p) is in omega (arith, less)

  lower_there : has pairs p ≡ true → lowered f pairs c p ≤ c
  lower_there there = by (has pairs p) (nat_lt c (f p)) there refl where
    by : (a b : Bool) → a ≡ true → nat_lt c (f p) ≡ b → cond a (cond b c (f p)) (f p) ≤ c
    by false b on is = absurd (false≢true on)
    by true false on is = ltb-false c (f p) is
    by true true on is = omega arith

  lower_cases : (lowered f pairs c p ≡ f p) ⊎ ((has pairs p ≡ true) × (lowered f pairs c p ≡ c))
  lower_cases = by (has pairs p) (nat_lt c (f p)) where
    by : (a b : Bool) → (cond a (cond b c (f p)) (f p) ≡ f p) ⊎ ((a ≡ true) × (cond a (cond b c (f p)) (f p) ≡ c))
    by false b = inl refl
    by true false = inl refl
    by true true = inr (refl, refl)

module _ (x : ℕ → Bool) (h : ℕ) (f : ℕ → ℕ) (pairs : List ℕ) (p : ℕ) where
  by_most : led_by x h f pairs p ≤ f p
  by_most = by (list_all x pairs) where
    by : (b : Bool) → cond b (lowered f pairs (h + length pairs)) f p ≤ f p
    by true = lower_most f pairs (h + length pairs) p
    by false = omega arith

  by_there : list_all x pairs ≡ true → has pairs p ≡ true → led_by x h f pairs p ≤ h + length pairs
  by_there all there = by (list_all x pairs) all where
    by : (b : Bool) → b ≡ true → cond b (lowered f pairs (h + length pairs)) f p ≤ h + length pairs
    by true on = lower_there f pairs (h + length pairs) p there
    by false on = absurd (false≢true on)

  by_cases : (led_by x h f pairs p ≡ f p) ⊎ ((list_all x pairs ≡ true) × (has pairs p ≡ true) × (led_by x h f pairs p ≡ h + length pairs))
  by_cases = by (list_all x pairs) where
    by : (b : Bool) → (cond b (lowered f pairs (h + length pairs)) f p ≡ f p) ⊎ ((b ≡ true) × (has pairs p ≡ true) × (cond b (lowered f pairs (h + length pairs)) f p ≡ h + length pairs))
    by true = elim (lower_cases f pairs (h + length pairs) p) [ inl same ↦ inl same | inr new ↦ inr (refl, new.0, new.1) ]
    by false = inl refl

-- ---- by the reasons of a pair

module _ (u : Universe) (x : ℕ → Bool) (h : ℕ) where
  abbrev by_ports : (ℕ → ℕ) → List ℕ → ℕ → ℕ
  by_ports f ports = fold (λ e r. led_by x h e (providers_of u r)) f ports

  ports_most : (f : ℕ → ℕ) (ports : List ℕ) (p : ℕ) → by_ports f ports p ≤ f p
  ports_most f [] p = omega arith
  ports_most f (r ∷ ports) p =
      let rest = ports_most (led_by x h f (providers_of u r)) ports p in
      let here = by_most x h f (providers_of u r) p in
      omega (arith, rest, here)

  ports_there : (f : ℕ → ℕ) (ports : List ℕ) (p r : ℕ) → has ports r ≡ true → list_all x (providers_of u r) ≡ true → has (providers_of u r) p ≡ true → by_ports f ports p ≤ h + length (providers_of u r)
  ports_there f [] p r there all on = absurd (false≢true there)
  ports_there f (s ∷ ports) p r there all on = elim (or_cases (nat_eq s r) (has ports r) there) [
    | inl here ↦
        let same : s ≡ r = eqb-true s r here in
        let rest = ports_most (led_by x h f (providers_of u s)) ports p in
        let one = by_there x h f (providers_of u s) p (subst (λ k. list_all x (providers_of u k) ≡ true) (sym same) all) (subst (λ k. has (providers_of u k) p ≡ true) (sym same) on) in
        subst (λ k. by_ports f (s ∷ ports) p ≤ h + length (providers_of u k)) same (omega (arith, rest, one))
    | inr later ↦ ports_there (led_by x h f (providers_of u s)) ports p r later all on
  ]

  abbrev IsByPort : (ℕ → ℕ) → List ℕ → ℕ → ℕ → Type 0
  IsByPort f ports p r = (has ports r ≡ true) × (list_all x (providers_of u r) ≡ true) × (has (providers_of u r) p ≡ true) × (by_ports f ports p ≡ h + length (providers_of u r))

  ports_cases : (f : ℕ → ℕ) (ports : List ℕ) (p : ℕ) → (by_ports f ports p ≡ f p) ⊎ ((r : ℕ) × IsByPort f ports p r)
  ports_cases f [] p = inl refl
  ports_cases f (s ∷ ports) p = elim (ports_cases (led_by x h f (providers_of u s)) ports p) [
    | inl same ↦ elim (by_cases x h f (providers_of u s) p) [
      | inl old ↦ inl (same ∙ old)
      | inr new ↦ inr (s, (or_left (nat_eq s s) (has ports s) (eq-eqb s s refl), new.0, new.1, same ∙ new.2))
    ]
    | inr new ↦ inr (new.0, (or_right (nat_eq s new.0) (has ports new.0) new.1.0, new.1.1, new.1.2, new.1.3))
  ]

  module _ (f : ℕ → ℕ) (q p : ℕ) where
    pub on_most : led_on u x h f q p ≤ f p
    on_most =
        let move = by_most x h (by_ports f (required_of u q)) (before_of u q) p in
        let port = ports_most f (required_of u q) p in
        omega (arith, move, port)

    pub on_there : (reason : Reason) → IsStep u x q reason p → led_on u x h f q p ≤ h + length (named_by u q reason)
    on_there (Needs r) step =
        let move = by_most x h (by_ports f (required_of u q)) (before_of u q) p in
        let port = ports_there f (required_of u q) p r step.asked step.waits step.names in
        omega (arith, move, port)
    on_there Comes step = by_there x h (by_ports f (required_of u q)) (before_of u q) p step.waits step.names

    pub on_cases : (led_on u x h f q p ≡ f p) ⊎ ((reason : Reason) × IsStep u x q reason p × (led_on u x h f q p ≡ h + length (named_by u q reason)))
    on_cases = elim (by_cases x h (by_ports f (required_of u q)) (before_of u q) p) [
      | inl same ↦ elim (ports_cases f (required_of u q) p) [
        | inl old ↦ inl (same ∙ old)
        | inr new ↦ inr (Needs new.0, record { asked = new.1.0; waits = new.1.1; names = new.1.2 }, same ∙ new.1.3)
      ]
      | inr new ↦ inr (Comes, record { asked = tt; waits = new.0; names = new.1 }, new.2)
    ]

-- ---- lists that ascend

pub ascends_as : (f e : ℕ → ℕ) (order : List ℕ) → ((p : ℕ) → has order p ≡ true → e p ≡ f p) → Ascends f order → Ascends e order
ascends_as f e [] same ascends = tt
ascends_as f e (p ∷ order) same ascends = (
  λ q there. moved p q (same p (or_left (nat_eq p p) (has order p) (eq-eqb p p refl))) (same q (or_right (nat_eq p q) (has order q) there)) (ascends.0 q there),
  ascends_as f e order (λ q there. same q (or_right (nat_eq p q) (has order q) there)) ascends.1,
) where
  moved : (r q : ℕ) → e r ≡ f r → e q ≡ f q → IsBefore f r q → IsBefore e r q
  moved r q a b (inl less) = inl (omega (arith, a, b, less))
  moved r q a b (inr tie) = inr (a ∙ tie.0 ∙ sym b, tie.1)

pub ascends_push : (f : ℕ → ℕ) (order : List ℕ) (q : ℕ) → Ascends f order → ((p : ℕ) → has order p ≡ true → IsBefore f p q) → Ascends f (order ++ q ∷ [])
ascends_push f [] q ascends last = (λ r there. absurd (false≢true there), tt)
ascends_push f (p ∷ order) q ascends last = (
  λ r there. elim (or_cases (has order r) (has (q ∷ []) r) (sym (has-append order (q ∷ []) r) ∙ there)) [
    | inl old ↦ ascends.0 r old
    | inr new ↦ subst (λ k. IsBefore f p k) (has_one q r new) (last p (or_left (nat_eq p p) (has order p) (eq-eqb p p refl)))
  ],
  ascends_push f order q ascends.1 (λ r there. last r (or_right (nat_eq p r) (has order r) there)),
)

some_length : (list : List ℕ) (p : ℕ) → has list p ≡ true → 1 ≤ length list
some_length [] p there = absurd (false≢true there)
some_length (q ∷ list) p there = omega arith

-- ---- the order, place by place

mul_more : (m n : ℕ) → m * (n + 1) ≡ m * n + m
mul_more m n = let one : n + 1 ≡ suc n = omega arith in ap (λ k. m * k) one ∙ mul-suc m n

module _ (u : Universe) (x : ℕ → Bool) (g : Goal) (size top : ℕ) where
  abbrev Far : (ℕ → ℕ) → List ℕ → Type 0
  Far f order = IsReaching u x g size top f order

  pub reaching_start : 0 < top → (f : ℕ → ℕ) (order : List ℕ) → f ≡ lowered (λ _. top) (wanted_by u g) 0 → order ≡ [] → Far f order
  reaching_start some f order is none = subst (λ l. Far f l) (sym none) (subst (λ e. Far e []) (sym is) start) where
    first : (p : ℕ) → lowered (λ _. top) (wanted_by u g) 0 p < top → (has (wanted_by u g) p ≡ true) × (lowered (λ _. top) (wanted_by u g) 0 p ≡ 0)
    first p low = elim (lower_cases (λ _. top) (wanted_by u g) 0 p) [ inl same ↦ absurd (omega (arith, same, low)) | inr new ↦ new ]

    start : Far (lowered (λ _. top) (wanted_by u g) 0) []
    start = record {
      costs = λ p low. let at = first p low in subst (λ n. IsCost u x g p n) (sym at.1) (wanted p at.0);
      wanted = λ p there. let least = lower_there (λ _. top) (wanted_by u g) 0 p there in omega (arith, least);
      led = λ q none. absurd (false≢true none);
      near = λ p low. let at = first p low in omega (arith, at.1);
      known = λ q none. absurd (false≢true none);
      ascends = tt;
      behind = λ q p none. absurd (false≢true none);
    }

  -- q is the next pair, and e has the ways that lead on from it too
  module _ (count : ℕ) (f e : ℕ → ℕ) (order : List ℕ) (q : ℕ) (old : Far f order) (next : IsFirst top f (has order) count q)
      (low : (p n : ℕ) → IsCost u x g p n → p < count) (few : (reason : Reason) → length (named_by u q reason) ≤ size)
      (most : (p : ℕ) → e p ≤ f p) (there : (reason : Reason) (p : ℕ) → IsStep u x q reason p → e p ≤ f q + length (named_by u q reason))
      (cases : (p : ℕ) → (e p ≡ f p) ⊎ ((reason : Reason) × IsStep u x q reason p × (e p ≡ f q + length (named_by u q reason)))) where
    cases_far : (p : ℕ) → (e p ≡ f p) ⊎ (f q < e p)
    cases_far p = elim (cases p) [
      | inl same ↦ inl same
      | inr new ↦ let some = some_length (named_by u q new.0) p new.1.names in inr (omega (arith, some, new.2))
    ]

    settled : (p : ℕ) → f p ≤ f q → e p ≡ f p
    settled p least = elim (cases_far p) [ inl same ↦ same | inr past ↦ let fell = most p in absurd (omega (arith, past, fell, least)) ]

    before_least : (p r : ℕ) → IsBefore f p r → f p ≤ f r
    before_least p r (inl less) = omega arith
    before_least p r (inr tie) = omega (arith, tie.0)

    ahead : (p : ℕ) → has order p ≡ true → IsBefore f p q
    ahead p on = old.behind p q on next.open_ next.known

    kept : (p : ℕ) → has order p ≡ true → e p ≡ f p
    kept p on = settled p (before_least p q (ahead p on))

    here : e q ≡ f q
    here = settled q (omega arith)

    one_of : (p : ℕ) → has (order ++ q ∷ []) p ≡ true → (has order p ≡ true) ⊎ (q ≡ p)
    one_of p on = elim (or_cases (has order p) (has (q ∷ []) p) (sym (has-append order (q ∷ []) p) ∙ on)) [ inl before ↦ inl before | inr last ↦ inr (has_one q p last) ]

    moved : (p r : ℕ) → e p ≡ f p → e r ≡ f r → IsBefore f p r → IsBefore e p r
    moved p r a b (inl less) = inl (omega (arith, a, b, less))
    moved p r a b (inr tie) = inr (a ∙ tie.0 ∙ sym b, tie.1)

    new_costs : (p : ℕ) → e p < top → IsCost u x g p (e p)
    new_costs p low = elim (cases p) [
      | inl same ↦ subst (λ n. IsCost u x g p n) (sym same) (old.costs p (omega (arith, same, low)))
      | inr new ↦ subst (λ n. IsCost u x g p n) (sym new.2) (further q (f q) p new.0 (old.costs q next.known) new.1)
    ]

    new_led : (r : ℕ) → has (order ++ q ∷ []) r ≡ true → (reason : Reason) (p : ℕ) → IsStep u x r reason p → e p ≤ e r + length (named_by u r reason)
    new_led r on reason p step = elim (one_of r on) [
      | inl before ↦ let same = kept r before in let was = old.led r before reason p step in let fell = most p in omega (arith, same, was, fell)
      | inr last ↦
          let first = there reason p (subst (λ k. IsStep u x k reason p) (sym last) step) in
          let same : e r ≡ f q = ap e (sym last) ∙ here in
          let long : length (named_by u q reason) ≡ length (named_by u r reason) = ap (λ k. length (named_by u k reason)) last in
          omega (arith, first, same, long)
    ]

    longer : size * length (order ++ q ∷ []) ≡ size * length order + size
    longer = ap (λ n. size * n) (length_push order q) ∙ mul_more size (length order)

    new_near : (p : ℕ) → e p < top → e p ≤ size * length (order ++ q ∷ [])
    new_near p low = elim (cases p) [
      | inl same ↦ let was = old.near p (omega (arith, same, low)) in omega (arith, same, was, longer)
      | inr new ↦ let was = old.near q next.known in let most_of = few new.0 in omega (arith, new.2, was, most_of, longer)
    ]

    new_known : (r : ℕ) → has (order ++ q ∷ []) r ≡ true → e r < top
    new_known r on = elim (one_of r on) [
      | inl before ↦ let fell = most r in let was = old.known r before in omega (arith, fell, was)
      | inr last ↦ let fell = most r in let was : f r < top = subst (λ k. f k < top) last next.known in omega (arith, fell, was)
    ]

    behind_from : (r p : ℕ) → e r ≡ f r → f r ≤ f q → (e p ≡ f p → IsBefore f r p) → IsBefore e r p
    behind_from r p same least was = elim (cases_far p) [ inl still ↦ moved r p same still (was still) | inr past ↦ inl (omega (arith, same, least, past)) ]

    later : (p : ℕ) → has (order ++ q ∷ []) p ≡ false → e p < top → e p ≡ f p → IsBefore f q p
    later p off known still =
        let parts = or_parts (has order p) (has (q ∷ []) p) (sym (has-append order (q ∷ []) p) ∙ off) in
        let other : q ≡ p → ⊥ = λ same. both_ways (has (q ∷ []) p) parts.1 (or_left (nat_eq q p) false (eq-eqb q p same)) in
        let before : f p < top = omega (arith, known, still) in
        elim (next.first p (low p (f p) (old.costs p before)) parts.0) [
          | inl less ↦ inl less
          | inr tie ↦ elim (cases_eq q p) [ inl same ↦ absurd (other same) | inr differ ↦ inr (tie.0, omega (arith, differ, tie.1)) ]
        ]

    new_behind : (r p : ℕ) → has (order ++ q ∷ []) r ≡ true → has (order ++ q ∷ []) p ≡ false → e p < top → IsBefore e r p
    new_behind r p on off low = elim (one_of r on) [
      | inl before ↦
          let parts = or_parts (has order p) (has (q ∷ []) p) (sym (has-append order (q ∷ []) p) ∙ off) in
          behind_from r p (kept r before) (before_least r q (ahead r before)) (λ still. old.behind r p before parts.0 (omega (arith, still, low)))
      | inr last ↦ subst (λ k. IsBefore e k p) last (behind_from q p here (omega arith) (later p off low))
    ]

    pub reaching_more : Far e (order ++ q ∷ [])
    reaching_more = record {
      costs = new_costs;
      wanted = λ p on. let was = old.wanted p on in let fell = most p in omega (arith, was, fell);
      led = new_led;
      near = new_near;
      known = new_known;
      ascends = ascends_push e order q (ascends_as f e order kept old.ascends) (λ p on. moved p q (kept p on) here (ahead p on));
      behind = new_behind;
    }

  -- no pair is left
  module _ (count : ℕ) (f : ℕ → ℕ) (order : List ℕ) (all : Far f order) (none : (p : ℕ) → p < count → has order p ≡ false → top ≤ f p)
      (low : (p n : ℕ) → IsCost u x g p n → p < count) (few : (q : ℕ) (reason : Reason) → length (named_by u q reason) ≤ size) (short : length order ≤ size) (room : size * size + size < top) where
    there_below : (p : ℕ) → p < count → f p < top → has order p ≡ true
    there_below p below known = by (has order p) refl where
      by : (b : Bool) → has order p ≡ b → has order p ≡ true
      by true on = on
      by false off = let past = none p below off in absurd (omega (arith, past, known))

    least : {p n : ℕ} → IsCost u x g p n → (f p ≤ n) × (f p < top)
    least (wanted p on) = let at = all.wanted p on in (omega (arith, at), omega (arith, at))
    least (further q n p reason way step) =
        let was = least way in
        let on : has order q ≡ true = there_below q (low q n way) was.1 in
        let led = all.led q on reason p step in
        let near = all.near q was.1 in
        let most_of = few q reason in
        let bound : size * length order ≤ size * size = mul-le-mul_left size short in
        (omega (arith, was.0, led), omega (arith, near, bound, led, most_of, room))

    pub reaching_done : IsByDistance u x g order
    reaching_done = record {
      far = f;
      distance = λ p on. record { cost = all.costs p (all.known p on); least = λ m way. (least way).0 };
      all = λ p n way. there_below p (low p n way) (least way).1;
      ascends = all.ascends;
    }
