-- The bindings that stand, and those of one instance, after one came or went.
use Rattle.std.proofs.Common.{◌≡◌, ℕ, ◌+◌, Bool, true, false, cond, not, ◌&&◌, ◌||◌, List, [], ◌∷◌, length, refl, sym, ap, ◌∙◌, arith, nat_eq, nat_cmp, inl, inr}
use Rattle.std.proofs.Math.Bool.{and-false}
use Rattle.std.proofs.lemmas.Bool.{and_from, and_parts, both_ways, cases_Bool, eq-eqb, eqb-true, false_from_ne_true, or_cases, or_left, or_right}
use Rattle.std.proofs.lemmas.Bool.Decides.{nat_tests}
use Rattle.std.proofs.lemmas.Cmp.{nat_cmp_total, on_total, then_total}
use Rattle.std.proofs.lemmas.List.Kept.{IsStrictlySortedBy-filter}
use Rattle.std.proofs.lemmas.Map.Views.{any-filter_same}
use Rattle.std.specs.BTreeMap.{is_at}
use Rattle.std.specs.BTreeSet.{insert_key}
use Rattle.std.specs.Cmp.{IsTotalOrder, both_ways as same_bool}
use Rattle.std.specs.List.{filter, list_any}
use Rattle.std.specs.List.Sorted.{IsStrictlySortedBy}
use Rattle.std.specs.Ordering.{is_eq, ordering_then}
use Rattle.std.specs.Set.{remove_key}
use Rattle.std.specs.declared.cmp.Ordering.TheVariants.{Equal}
use Rattle.metis_universe.proofs.Bindings.{own_tie}
use Rattle.metis_universe.proofs.Edits.{any-insert_key, binding_cmp-exact, binding_cmp_total, tie_is}
use Rattle.metis_universe.proofs.Sorted.{remove_key-sorted}
use Rattle.metis_universe.specs.Terms.{Binding, binding_cmp, is_tie, names}
use Rattle.metis_waits.proofs.Counted.{counted_in, counted_out, insert_key-there, kept_all, none_behind}
use Rattle.metis_waits.proofs.LetGo.{is_to}
use Rattle.metis_waits.specs.Terms.{clients_of, is_own, tie_cmp}

-- ---- ports with their providers

pub tie_cmp_total : IsTotalOrder tie_cmp
tie_cmp_total = then_total (on_total (λ (k : ℕ × ℕ). k.0) nat_cmp_total) (on_total (λ (k : ℕ × ℕ). k.1) nat_cmp_total)

parts_alike : (a b x y : ℕ) → ordering_then (nat_cmp a x) (nat_cmp b y) ≡ Equal → (a ≡ x) × (b ≡ y)
parts_alike a b x y h = grind (arith, nat_tests)

tie_cmp-exact : (a b : ℕ × ℕ) → tie_cmp a b ≡ Equal → a ≡ b
tie_cmp-exact a b h = let e = parts_alike a.0 a.1 b.0 b.1 h in λ i. (e.0 i, e.1 i)

at_numbers : (a b x y : ℕ) → is_eq (ordering_then (nat_cmp a x) (nat_cmp b y)) ≡ (nat_eq x a && nat_eq y b)
at_numbers a b x y = grind (arith, nat_tests)

at_own : (r y : ℕ) (k : ℕ × ℕ) → is_at (tie_cmp (r, y)) k ≡ is_own r y k
at_own r y k = at_numbers r y k.0 k.1

pub own_at : (r y : ℕ) (ks : List (ℕ × ℕ)) → list_any (is_at (tie_cmp (r, y))) ks ≡ list_any (is_own r y) ks
own_at r y [] = refl
own_at r y (k ∷ ks) = λ i. at_own r y k i || own_at r y ks i

own_is : (r y : ℕ) (k : ℕ × ℕ) → is_own r y k ≡ true → k ≡ (r, y)
own_is r y k h = let p = and_parts (nat_eq k.0 r) _ h in let a = eqb-true k.0 r p.0 in let b = eqb-true k.1 y p.1 in λ i. (a i, b i)

own_self : (k : ℕ × ℕ) → is_own k.0 k.1 k ≡ true
own_self k = and_from _ _ (eq-eqb k.0 k.0 refl) (eq-eqb k.1 k.1 refl)

pub remove_own : (r y : ℕ) (ks : List (ℕ × ℕ)) → IsStrictlySortedBy tie_cmp ks → remove_key (is_at (tie_cmp (r, y))) ks ≡ filter (λ k. not (is_own r y k)) ks
remove_own r y ks sorted = remove_key-sorted tie_cmp_total (is_own r y) (r, y) (at_own r y) ks sorted

at_binding : (a b c x y z : ℕ) → is_eq (ordering_then (ordering_then (nat_cmp a x) (nat_cmp b y)) (nat_cmp c z)) ≡ ((nat_eq x a && nat_eq y b) && nat_eq z c)
at_binding a b c x y z = grind (arith, nat_tests)

tie_at : (r x w : ℕ) (bs : List Binding) → list_any (is_at (binding_cmp (r, x, w))) bs ≡ list_any (is_tie r x w) bs
tie_at r x w [] = refl
tie_at r x w (b ∷ bs) = λ i. at_binding r x w b.0 b.1 b.2 i || tie_at r x w bs i

-- ---- what the test of one binding says of any test

-- one that passes
passing : {K : Type 0} (mark : K → K → Bool) (t : K → Bool) (own : (k : K) → mark k k ≡ true) (ks : List K) → list_any t ks ≡ true → (k : K) × (t k ≡ true) × (list_any (mark k) ks ≡ true)
passing mark t own [] h = absurd (both_ways _ refl h)
passing mark t own (k ∷ ks) h = elim (or_cases (t k) _ h) [
  | inl here ↦ (k, here, or_left _ _ (own k))
  | inr later ↦ let found = passing mark t own ks later in (found.0, found.1, or_right _ _ found.2)
]

pub passes : {K : Type 0} (mark t : K → Bool) → ((k : K) → mark k ≡ true → t k ≡ true) → (ks : List K) → list_any mark ks ≡ true → list_any t ks ≡ true
passes mark t h [] m = m
passes mark t h (k ∷ ks) m = elim (or_cases (mark k) _ m) [
  | inl here ↦ or_left _ _ (h k here)
  | inr later ↦ or_right _ _ (passes mark t h ks later)
]

-- ---- one binding comes

module _ (r x w z : ℕ) (st : List Binding) (ks : List (ℕ × ℕ)) where
  abbrev bound_more : List Binding
  bound_more = insert_key binding_cmp st (r, x, w)

  abbrev bound_less : List Binding
  bound_less = filter (λ b. not (is_tie r x w b)) st

  pub in_ties : (bx : Bool) → nat_eq x z ≡ bx → ((s y : ℕ) → list_any (is_own s y) ks ≡ list_any (is_tie s z y) st) →
      (s y : ℕ) → list_any (is_own s y) (cond bx (insert_key tie_cmp ks (r, w)) ks) ≡ list_any (is_tie s z y) bound_more
  in_ties bx e same s y = left bx ∙ ap (λ b. ((nat_eq r s && b) && nat_eq w y) || list_any (is_tie s z y) st) (sym e) ∙ sym (any-insert_key binding_cmp binding_cmp-exact (is_tie s z y) (r, x, w) st) where
    left : (bx : Bool) → list_any (is_own s y) (cond bx (insert_key tie_cmp ks (r, w)) ks) ≡ (((nat_eq r s && bx) && nat_eq w y) || list_any (is_tie s z y) st)
    left true = any-insert_key tie_cmp tie_cmp-exact (is_own s y) (r, w) ks ∙ (λ i. (yes (nat_eq r s) i && nat_eq w y) || same s y i) where
      yes : (b : Bool) → b ≡ (b && true)
      yes true = refl
      yes false = refl
    left false = same s y ∙ ap (λ b. (b && nat_eq w y) || list_any (is_tie s z y) st) (sym (and-false (nat_eq r s)))

  pub out_ties : IsStrictlySortedBy tie_cmp ks → (bx : Bool) → nat_eq x z ≡ bx → ((s y : ℕ) → list_any (is_own s y) ks ≡ list_any (is_tie s z y) st) →
      (s y : ℕ) → list_any (is_own s y) (cond bx (remove_key (is_at (tie_cmp (r, w))) ks) ks) ≡ list_any (is_tie s z y) bound_less
  out_ties sorted bx e same s y =
      left bx ∙ ap (λ b. not ((nat_eq s r && b) && nat_eq y w) && list_any (is_tie s z y) st) (sym (turned ∙ e))
      ∙ sym (any-filter_same (is_tie s z y) (λ b. not (is_tie r x w b)) (not (is_tie r x w (s, z, y))) (λ b h. ap (λ q. not (is_tie r x w q)) (tie_is s z y b h)) st) where
        turned : nat_eq z x ≡ nat_eq x z
        turned = either_way z x where
          either_way : (a b : ℕ) → nat_eq a b ≡ nat_eq b a
          either_way a b = grind (arith, nat_tests)

        left : (bx : Bool) → list_any (is_own s y) (cond bx (remove_key (is_at (tie_cmp (r, w))) ks) ks) ≡ (not ((nat_eq s r && bx) && nat_eq y w) && list_any (is_tie s z y) st)
        left true =
            ap (list_any (is_own s y)) (remove_own r w ks sorted)
            ∙ any-filter_same (is_own s y) (λ k. not (is_own r w k)) (not (is_own r w (s, y))) (λ k h. ap (λ q. not (is_own r w q)) (own_is s y k h)) ks
            ∙ (λ i. not (yes (nat_eq s r) i && nat_eq y w) && same s y i) where
              yes : (b : Bool) → b ≡ (b && true)
              yes true = refl
              yes false = refl
        left false = same s y ∙ ap (λ b. not (b && nat_eq y w) && list_any (is_tie s z y) st) (sym (and-false (nat_eq s r)))

  module _ (sorted : IsStrictlySortedBy binding_cmp st) where
    pub in_clients : list_any (is_tie r x w) st ≡ false → clients_of z bound_more ≡ clients_of z st + cond (nat_eq w z) 1 0
    in_clients absent = counted_in binding_cmp (λ (b : Binding). nat_eq b.2 z) (r, x, w) st (tie_at r x w st ∙ absent)

    pub in_again : list_any (is_tie r x w) st ≡ true → bound_more ≡ st
    in_again there = insert_key-there binding_cmp_total (r, x, w) st sorted (tie_at r x w st ∙ there)

    pub out_clients : list_any (is_tie r x w) st ≡ true → clients_of z st ≡ clients_of z bound_less + cond (nat_eq w z) 1 0
    out_clients there = counted_out binding_cmp_total (is_tie r x w) (r, x, w) (tie_is r x w) (λ (b : Binding). nat_eq b.2 z) st sorted there

    pub out_never : list_any (is_tie r x w) st ≡ false → bound_less ≡ st
    out_never absent = kept_all binding_cmp_total (is_tie r x w) (r, x, w) (tie_is r x w) st absent

-- ---- an instance goes that serves none, with its bindings

no_clients : (x : ℕ) (b : Binding) (bs : List Binding) → list_any (λ (q : Binding). nat_eq q.2 x) (b ∷ bs) ≡ false → (nat_eq b.2 x ≡ false) × (list_any (λ (q : Binding). nat_eq q.2 x) bs ≡ false)
no_clients x b bs h = by (nat_eq b.2 x) _ h where
  by : (a c : Bool) → (a || c) ≡ false → (a ≡ false) × (c ≡ false)
  by true c h = absurd (both_ways _ h refl)
  by false c h = (refl, h)

behind : (b : Binding) (bs : List Binding) → IsStrictlySortedBy binding_cmp (b ∷ bs) → IsStrictlySortedBy binding_cmp bs
unfolding IsStrictlySortedBy
behind b bs s = s.1

more : (b : Bool) {K : Type 0} (k : K) (ks : List K) → length (cond b (k ∷ ks) ks) ≡ length ks + cond b 1 0
more true k ks = omega arith
more false k ks = omega arith

module _ (x z : ℕ) where
  pub gone_clients : (bs : List Binding) (ks : List (ℕ × ℕ)) → IsStrictlySortedBy binding_cmp bs → IsStrictlySortedBy tie_cmp ks → ((r y : ℕ) → list_any (is_own r y) ks ≡ list_any (is_tie r x y) bs) →
      list_any (λ (b : Binding). nat_eq b.2 x) bs ≡ false → clients_of z bs ≡ clients_of z (filter (λ b. not (names x b)) bs) + length (filter (is_to z) ks)
  gone_clients [] [] sorted in_order same none = refl
  gone_clients [] (k ∷ ks) sorted in_order same none = absurd (both_ways _ (same k.0 k.1) (or_left _ _ (own_self k)))
  gone_clients (b ∷ bs) ks sorted in_order same none =
      let parts = no_clients x b bs none in
      elim (cases_Bool (nat_eq b.1 x)) [
        | inl mine ↦
            let e = eqb-true b.1 x mine in
            let at : is_tie b.0 x b.2 b ≡ true = ap (λ q. is_tie b.0 q b.2 b) (sym e) ∙ own_tie b in
            let there : list_any (is_own b.0 b.2) ks ≡ true = same b.0 b.2 ∙ or_left _ _ at in
            let ks' = filter (λ k. not (is_own b.0 b.2 k)) ks in
            let apart : list_any (is_tie b.0 x b.2) bs ≡ false = none_behind binding_cmp_total (is_tie b.0 x b.2) (b.0, x, b.2) (tie_is b.0 x b.2) b bs sorted at in
            let less : (r y : ℕ) → list_any (is_own r y) ks' ≡ list_any (is_tie r x y) bs =
            λ r y. any-filter_same (is_own r y) (λ k. not (is_own b.0 b.2 k)) (not (is_own b.0 b.2 (r, y))) (λ k h. ap (λ q. not (is_own b.0 b.2 q)) (own_is r y k h)) ks
            ∙ ap (λ v. not (is_own b.0 b.2 (r, y)) && v) (same r y)
            ∙ without b bs e apart r y in
            let rest = gone_clients bs ks' (behind b bs sorted) (IsStrictlySortedBy-filter tie_cmp (λ k. not (is_own b.0 b.2 k)) ks in_order) less parts.1 in
            let out : length (filter (is_to z) ks) ≡ length (filter (is_to z) ks') + cond (nat_eq b.2 z) 1 0 = counted_out tie_cmp_total (is_own b.0 b.2) (b.0, b.2) (own_is b.0 b.2) (is_to z) ks in_order there in
            let here : clients_of z (b ∷ bs) ≡ clients_of z bs + cond (nat_eq b.2 z) 1 0 = more (nat_eq b.2 z) b (filter (λ (q : Binding). nat_eq q.2 z) bs) in
            let goes : clients_of z (filter (λ q. not (names x q)) (b ∷ bs)) ≡ clients_of z (filter (λ q. not (names x q)) bs) =
            ap (λ v. clients_of z (cond (not (v || nat_eq b.2 x)) (b ∷ filter (λ q. not (names x q)) bs) (filter (λ q. not (names x q)) bs))) mine in
            omega (arith, rest, out, here, goes)
        | inr other ↦
            let same' : (r y : ℕ) → list_any (is_own r y) ks ≡ list_any (is_tie r x y) bs = λ r y. same r y ∙ ap (λ v. ((nat_eq b.0 r && v) && nat_eq b.2 y) || list_any (is_tie r x y) bs) other ∙ ap (λ v. (v && nat_eq b.2 y) || list_any (is_tie r x y) bs) (and-false (nat_eq b.0 r)) in
            let rest = gone_clients bs ks (behind b bs sorted) in_order same' parts.1 in
            let here : clients_of z (b ∷ bs) ≡ clients_of z bs + cond (nat_eq b.2 z) 1 0 = more (nat_eq b.2 z) b (filter (λ (q : Binding). nat_eq q.2 z) bs) in
            let left = filter (λ q. not (names x q)) bs in
            let stays : clients_of z (filter (λ q. not (names x q)) (b ∷ bs)) ≡ clients_of z (b ∷ left) = (λ i. clients_of z (cond (not (other i || parts.0 i)) (b ∷ left) left)) in
            let there : clients_of z (b ∷ left) ≡ clients_of z left + cond (nat_eq b.2 z) 1 0 = more (nat_eq b.2 z) b (filter (λ (q : Binding). nat_eq q.2 z) left) in
            omega (arith, rest, here, stays, there)
      ] where
        without : (b : Binding) (bs : List Binding) → b.1 ≡ x → list_any (is_tie b.0 x b.2) bs ≡ false → (r y : ℕ) → (not (is_own b.0 b.2 (r, y)) && (is_tie r x y b || list_any (is_tie r x y) bs)) ≡ list_any (is_tie r x y) bs
        without b bs e apart r y = elim (cases_Bool (is_own b.0 b.2 (r, y))) [
          | inl at ↦
              let k = own_is b.0 b.2 (r, y) at in
              ap (λ v. not v && (is_tie r x y b || list_any (is_tie r x y) bs)) at ∙ sym (ap (λ (q : ℕ × ℕ). list_any (is_tie q.0 x q.1) bs) k ∙ apart)
          | inr other ↦
              ap (λ v. not v && (is_tie r x y b || list_any (is_tie r x y) bs)) other
              ∙ ap (λ v. v || list_any (is_tie r x y) bs) (false_from_ne_true _ (λ at. both_ways _ other (let i = tie_is r x y b at in ap (λ (q : Binding). is_own b.0 b.2 (q.0, q.2)) (sym i) ∙ own_self (b.0, b.2))))
        ]

  module _ (bs : List Binding) (ks : List (ℕ × ℕ)) (same : (r y : ℕ) → list_any (is_own r y) ks ≡ list_any (is_tie r x y) bs) where
    -- whom they release
    pub gone_releases : list_any (λ (b : Binding). nat_eq b.1 x && nat_eq b.2 z) bs ≡ list_any (is_to z) ks
    gone_releases = same_bool _ _
        (λ h.
        let found = passing (λ (k b : Binding). is_tie k.0 k.1 k.2 b) (λ (b : Binding). nat_eq b.1 x && nat_eq b.2 z) own_tie bs h in
        let b = found.0 in
        let p = and_parts (nat_eq b.1 x) (nat_eq b.2 z) found.1 in
        let there : list_any (is_own b.0 b.2) ks ≡ true = same b.0 b.2 ∙ ap (λ q. list_any (is_tie b.0 q b.2) bs) (sym (eqb-true b.1 x p.0)) ∙ found.2 in
        passes (is_own b.0 b.2) (is_to z) (λ k m. ap (λ (q : ℕ × ℕ). nat_eq q.1 z) (own_is b.0 b.2 k m) ∙ p.1) ks there)
        (λ h.
        let found = passing (λ (k q : ℕ × ℕ). is_own k.0 k.1 q) (is_to z) own_self ks h in
        let k = found.0 in
        let there : list_any (is_tie k.0 x k.1) bs ≡ true = sym (same k.0 k.1) ∙ found.2 in
        passes (is_tie k.0 x k.1) (λ (b : Binding). nat_eq b.1 x && nat_eq b.2 z) (λ b m. let i = tie_is k.0 x k.1 b m in ap (λ (q : Binding). nat_eq q.1 x && nat_eq q.2 z) i ∙ and_from _ _ (eq-eqb x x refl) found.1) bs there)

  -- what others have stays
  pub gone_ties : (bs : List Binding) (ks : List (ℕ × ℕ)) (bx : Bool) → nat_eq z x ≡ bx → ((r y : ℕ) → list_any (is_own r y) ks ≡ list_any (is_tie r z y) bs) → list_any (λ (b : Binding). nat_eq b.2 x) bs ≡ false →
      (r y : ℕ) → list_any (is_own r y) (cond bx [] ks) ≡ list_any (is_tie r z y) (filter (λ b. not (names x b)) bs)
  gone_ties bs ks bx e same none r y =
      left bx ∙ ap (λ v. not (v || nat_eq y x) && list_any (is_tie r z y) bs) (sym e)
      ∙ sym (any-filter_same (is_tie r z y) (λ b. not (names x b)) (not (names x (r, z, y))) (λ b h. ap (λ q. not (names x q)) (tie_is r z y b h)) bs) where
        left : (bx : Bool) → list_any (is_own r y) (cond bx [] ks) ≡ (not (bx || nat_eq y x) && list_any (is_tie r z y) bs)
        left true = refl
        left false = same r y ∙ elim (cases_Bool (nat_eq y x)) [
          | inl at ↦
              let absent : list_any (is_tie r z y) bs ≡ false = false_from_ne_true _ (λ h. both_ways _ none (passes (is_tie r z y) (λ (b : Binding). nat_eq b.2 x) (λ b m. let i = tie_is r z y b m in ap (λ (q : Binding). nat_eq q.2 x) i ∙ at) bs h)) in
              absent ∙ sym (ap (λ v. not (nat_eq y x) && v) absent ∙ and-false (not (nat_eq y x)))
          | inr other ↦ sym (ap (λ v. not v && list_any (is_tie r z y) bs) other)
        ]
