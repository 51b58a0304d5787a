-- How what is reached is found: each instance that is seen waits until the edges from it are taken.
use Rattle.std.proofs.Common.{◌≡◌, ◌⊎◌, ℕ, ◌+◌, ◌*◌, ◌≤◌, Bool, true, false, cond, not, ◌&&◌, ◌||◌, List, [], ◌∷◌, ◌++◌, Some, None, length, length-append, refl, sym, ap, ◌∙◌, subst, arith, nat_eq, inl, inr}
use Rattle.std.specs.Prelude.{option_map}
use Rattle.std.specs.BTreeMap.{is_at}
use Rattle.std.specs.List.{find, list_any}
use Rattle.std.specs.Ordering.{is_eq, nat_cmp, ordering_then}
use Rattle.std.specs.Set.{remove_key}
use Rattle.std.proofs.lemmas.Bool.Decides.{nat_tests}
use Rattle.std.proofs.lemmas.Bool.{and_from, and_parts, eq-eqb, eqb-true, false≢true, ne_eqb, or_cases, or_left, or_right}
use Rattle.std.proofs.lemmas.List.Folds.{list_any-append}
use Rattle.std.proofs.lemmas.Option.{none-some}
use Rattle.metis_config.proofs.Firsts.{head, short}
use Rattle.metis_ids.specs.Terms.{has}
use Rattle.metis_universe.specs.Terms.{binding_cmp}
use Rattle.metis_reconfigure.specs.Terms.{AreReached, Edge, IsClosed, IsFollowed, IsReached, IsUnderWay, has_edge, next, start}

-- ---- the edges from one instance

-- what was seen and what waited before, and those to which the edges led that were taken
pub record IsFollowing (z : ℕ) (left left' : List Edge) (seen seen' waiting waiting' : List ℕ) : Type 0 where
  pub others : (x y : ℕ) → nat_eq x z ≡ false → has_edge left' x y ≡ has_edge left x y
  pub among : (y : ℕ) → has_edge left' z y ≡ true → has_edge left z y ≡ true
  pub taken : (y : ℕ) → has_edge left z y ≡ true → has_edge left' z y ≡ false → has seen' y ≡ true
  pub stay : (y : ℕ) → has seen y ≡ true → has seen' y ≡ true
  pub led : (y : ℕ) → has seen' y ≡ true → has seen y ≡ false → has_edge left z y ≡ true
  pub kept : (y : ℕ) → has waiting y ≡ true → has waiting' y ≡ true
  pub new : (y : ℕ) → has seen' y ≡ true → has seen y ≡ false → has waiting' y ≡ true
  pub only : (y : ℕ) → has waiting' y ≡ true → has waiting y ≡ false → has seen' y ≡ true
  pub fresh : (y : ℕ) → has waiting' y ≡ true → has waiting y ≡ false → has seen y ≡ false
  pub fewer : 2 * length left' + length waiting' ≤ 2 * length left + length waiting

pub following-begin : (z : ℕ) (left : List Edge) (seen waiting : List ℕ) → IsFollowing z left left seen seen waiting waiting
following-begin z left seen waiting = record {
  others = λ x y other. refl;
  among = λ y h. h;
  taken = λ y h off. absurd (false≢true (sym off ∙ h));
  stay = λ y h. h;
  led = λ y h off. absurd (false≢true (sym off ∙ h));
  kept = λ y h. h;
  new = λ y h off. absurd (false≢true (sym off ∙ h));
  only = λ y h off. absurd (false≢true (sym off ∙ h));
  fresh = λ y h off. absurd (false≢true (sym off ∙ h));
  fewer = omega arith;
}

-- ---- a set without one edge

any_among : (p t : Edge → Bool) (es : List Edge) → list_any p (remove_key t es) ≡ true → list_any p es ≡ true
any_among p t [] h = h
any_among p t (e ∷ es) h = elim (t e) as (λ b. list_any p (cond b es (e ∷ remove_key t es)) ≡ true → (p e || list_any p es) ≡ true) [
  | true ↦ λ h. or_right (p e) _ h
  | false ↦ λ h. elim (or_cases (p e) (list_any p (remove_key t es)) h) [
    | inl here ↦ or_left (p e) _ here
    | inr later ↦ or_right (p e) _ (any_among p t es later)
  ]
] h

any_other : (p t : Edge → Bool) (es : List Edge) → ((e : Edge) → t e ≡ true → p e ≡ false) → list_any p (remove_key t es) ≡ list_any p es
any_other p t [] apart = refl
any_other p t (e ∷ es) apart = elim (t e) as (λ b. t e ≡ b → list_any p (cond b es (e ∷ remove_key t es)) ≡ (p e || list_any p es)) [
  | true ↦ λ is. ap (λ b. b || list_any p es) (sym (apart e is))
  | false ↦ λ _. ap (λ b. p e || b) (any_other p t es apart)
] refl

pub at_binding : (a b c x y z : ℕ) → is_eq (ordering_then (ordering_then (nat_cmp a x) (nat_cmp b y)) (nat_cmp c z)) ≡ ((nat_eq x a && nat_eq y b) && nat_eq z c)
at_binding a b c x y z = grind (arith, nat_tests)

-- the edge that the removal takes is from z to y
taken_edge : (z y port : ℕ) (e : Edge) → is_at (binding_cmp (z, y, port)) e ≡ true → (nat_eq z e.0 ≡ true) × (nat_eq y e.1 ≡ true)
taken_edge z y port e h =
    let both = and_parts (nat_eq e.0 z && nat_eq e.1 y) (nat_eq e.2 port) (sym (at_binding z y port e.0 e.1 e.2) ∙ h) in
    let ends = and_parts (nat_eq e.0 z) (nat_eq e.1 y) both.0 in
    (eq-eqb z e.0 (sym (eqb-true e.0 z ends.0)), eq-eqb y e.1 (sym (eqb-true e.1 y ends.1)))

other_edge : (z y port x w : ℕ) (es : List Edge) → (nat_eq x z && nat_eq w y) ≡ false → has_edge (remove_key (is_at (binding_cmp (z, y, port))) es) x w ≡ has_edge es x w
other_edge z y port x w es other = any_other (λ e. nat_eq e.0 x && nat_eq e.1 w) (is_at (binding_cmp (z, y, port))) es (λ e is.
    let ends = taken_edge z y port e is in
    let from = eqb-true z e.0 ends.0 in
    let to = eqb-true y e.1 ends.1 in
    turned (nat_eq e.0 x) (nat_eq e.1 w) (λ at. other_is e from to at)) where
      turned : (a b : Bool) → ((a && b) ≡ true → ⊥) → (a && b) ≡ false
      turned a b h = elim (a && b) as (λ v. (v ≡ true → ⊥) → v ≡ false) [
        | true ↦ λ h. absurd (h refl)
        | false ↦ λ _. refl
      ] h

      other_is : (e : Edge) → z ≡ e.0 → y ≡ e.1 → (nat_eq e.0 x && nat_eq e.1 w) ≡ true → ⊥
      other_is e from to at =
          let ends = and_parts (nat_eq e.0 x) (nat_eq e.1 w) at in
          false≢true (sym other ∙ and_from (nat_eq x z) (nat_eq w y) (eq-eqb x z (sym (from ∙ eqb-true e.0 x ends.0))) (eq-eqb w y (sym (to ∙ eqb-true e.1 w ends.1))))

-- one edge more is taken
pub following-next : (z y port : ℕ) (left left1 left2 : List Edge) (seen seen1 seen2 waiting waiting1 waiting2 : List ℕ)
    → has_edge left1 z y ≡ true → left2 ≡ remove_key (is_at (binding_cmp (z, y, port))) left1 → length left2 + 1 ≤ length left1
    → ((w : ℕ) → has seen2 w ≡ (nat_eq y w || has seen1 w))
    → ((has seen1 y ≡ false) × (waiting2 ≡ waiting1 ++ y ∷ [])) ⊎ ((has seen1 y ≡ true) × (waiting2 ≡ waiting1))
    → IsFollowing z left left1 seen seen1 waiting waiting1 → IsFollowing z left left2 seen seen2 waiting waiting2
following-next z y port left left1 left2 seen seen1 seen2 waiting waiting1 waiting2 led less shorter added queue k =
    let stays : (w : ℕ) → has seen1 w ≡ true → has seen2 w ≡ true = λ w h. added w ∙ or_right (nat_eq y w) _ h in
    let from_old : (w : ℕ) → has_edge left2 z w ≡ true → has_edge left1 z w ≡ true = λ w h. any_among _ _ left1 (ap (λ es. has_edge es z w) (sym less) ∙ h) in
    record {
      others = λ x w other. ap (λ es. has_edge es x w) less ∙ other_edge z y port x w left1 (ap (λ b. b && nat_eq w y) other) ∙ k.others x w other;
      among = λ w h. k.among w (from_old w h);
      taken = λ w h off. by_case (nat_eq w y) (has seen2 w ≡ true)
          (λ is. added w ∙ or_left (nat_eq y w) _ (eq-eqb y w (sym (eqb-true w y is))))
          (λ other. by_case (has_edge left1 z w) (has seen2 w ≡ true)
          (λ there. absurd (false≢true (sym off ∙ (ap (λ es. has_edge es z w) less ∙ other_edge z y port z w left1 (ap (λ b. nat_eq z z && b) other ∙ nothing (nat_eq z z)) ∙ there))))
          (λ gone. stays w (k.taken w h gone)));
      stay = λ w h. stays w (k.stay w h);
      led = λ w h off. elim (or_cases (nat_eq y w) (has seen1 w) (sym (added w) ∙ h)) [
        | inl is ↦ subst (λ v. has_edge left z v ≡ true) (eqb-true y w is) (k.among y led)
        | inr old ↦ k.led w old off
      ];
      kept = λ w h. longer w (k.kept w h);
      new = λ w h off. elim (or_cases (nat_eq y w) (has seen1 w) (sym (added w) ∙ h)) [
        | inl is ↦ elim queue [
          | inl fresh ↦ ap (λ zs. has zs w) fresh.1 ∙ list_any-append (λ v. nat_eq v w) waiting1 (y ∷ []) ∙ or_right (has waiting1 w) _ (or_left (nat_eq y w) false is)
          | inr old ↦ longer w (k.new w (subst (λ v. has seen1 v ≡ true) (eqb-true y w is) old.0) off)
        ]
        | inr old ↦ longer w (k.new w old off)
      ];
      only = λ w h off. elim queue [
        | inl fresh ↦ elim (or_cases (has waiting1 w) (nat_eq y w || false) (sym (list_any-append (λ v. nat_eq v w) waiting1 (y ∷ [])) ∙ ap (λ zs. has zs w) (sym fresh.1) ∙ h)) [
          | inl old ↦ stays w (k.only w old off)
          | inr now ↦ added w ∙ or_left (nat_eq y w) _ (first (nat_eq y w) now)
        ]
        | inr old ↦ stays w (k.only w (ap (λ zs. has zs w) (sym old.1) ∙ h) off)
      ];
      fresh = λ w h off. elim queue [
        | inl fresh ↦ elim (or_cases (has waiting1 w) (nat_eq y w || false) (sym (list_any-append (λ v. nat_eq v w) waiting1 (y ∷ [])) ∙ ap (λ zs. has zs w) (sym fresh.1) ∙ h)) [
          | inl old ↦ k.fresh w old off
          | inr now ↦ by_case (has seen w) (has seen w ≡ false)
              (λ there. absurd (false≢true (sym fresh.0 ∙ subst (λ v. has seen1 v ≡ true) (sym (eqb-true y w (first (nat_eq y w) now))) (k.stay w there))))
              (λ gone. gone)
        ]
        | inr old ↦ k.fresh w (ap (λ zs. has zs w) (sym old.1) ∙ h) off
      ];
      fewer = elim queue [
        | inl fresh ↦ omega (arith, k.fewer, shorter, ap length fresh.1, length-append waiting1 (y ∷ []))
        | inr old ↦ omega (arith, k.fewer, shorter, ap length old.1)
      ];
    } where
      by_case : (b : Bool) (P : Type 0) → (b ≡ true → P) → (b ≡ false → P) → P
      by_case true P t f = t refl
      by_case false P t f = f refl

      nothing : (b : Bool) → (b && false) ≡ false
      nothing true = refl
      nothing false = refl

      first : (b : Bool) → (b || false) ≡ true → b ≡ true
      first true h = refl
      first false h = h

      longer : (w : ℕ) → has waiting1 w ≡ true → has waiting2 w ≡ true
      longer w h = elim queue [
        | inl fresh ↦ ap (λ zs. has zs w) fresh.1 ∙ list_any-append (λ v. nat_eq v w) waiting1 (y ∷ []) ∙ or_left (has waiting1 w) _ h
        | inr old ↦ ap (λ zs. has zs w) old.1 ∙ h
      ]

-- ---- the first edge from an instance

pub first_edge : (z y port : ℕ) (es : List Edge) → Some (y, port) ≡ option_map short (find (head z) es) → has_edge es z y ≡ true
first_edge z y port [] e = absurd (none-some _ (sym e))
first_edge z y port (x ∷ es) e = elim (head z x) as (λ v. head z x ≡ v → Some (y, port) ≡ option_map short (cond v (Some x) (find (head z) es)) → has_edge (x ∷ es) z y ≡ true) [
  | true ↦ λ at some. let same : (y, port) ≡ short x = cc in or_left _ _ (and_from (nat_eq x.0 z) (nat_eq x.1 y) at (eq-eqb x.1 y (sym (ap (λ (p : ℕ × ℕ). p.0) same))))
  | false ↦ λ _ rest. or_right _ _ (first_edge z y port es rest)
] refl e

-- it is taken from the set, which is then shorter
first_there : (z y port : ℕ) (es : List Edge) → Some (y, port) ≡ option_map short (find (head z) es) → list_any (is_at (binding_cmp (z, y, port))) es ≡ true
first_there z y port [] e = absurd (none-some _ (sym e))
first_there z y port (x ∷ es) e = elim (head z x) as (λ v. head z x ≡ v → Some (y, port) ≡ option_map short (cond v (Some x) (find (head z) es)) → list_any (is_at (binding_cmp (z, y, port))) (x ∷ es) ≡ true) [
  | true ↦ λ at some.
      let same : (y, port) ≡ short x = cc in
      let to = eq-eqb x.1 y (sym (ap (λ (p : ℕ × ℕ). p.0) same)) in
      let by = eq-eqb x.2 port (sym (ap (λ (p : ℕ × ℕ). p.1) same)) in
      or_left _ _ (at_binding z y port x.0 x.1 x.2 ∙ and_from _ _ (and_from _ _ at to) by)
  | false ↦ λ _ rest. or_right _ _ (first_there z y port es rest)
] refl e

one_shorter : (t : Edge → Bool) (es : List Edge) → list_any t es ≡ true → length (remove_key t es) + 1 ≤ length es
one_shorter t [] h = absurd (false≢true h)
one_shorter t (e ∷ es) h = elim (t e) as (λ b. t e ≡ b → length (cond b es (e ∷ remove_key t es)) + 1 ≤ length (e ∷ es)) [
  | true ↦ λ _. omega arith
  | false ↦ λ off. let rest = one_shorter t es (ap (λ b. b || list_any t es) (sym off) ∙ h) in omega (arith, rest)
] refl

pub shorter : (z y port : ℕ) (es es' : List Edge) → Some (y, port) ≡ option_map short (find (head z) es) → es' ≡ remove_key (is_at (binding_cmp (z, y, port))) es → length es' + 1 ≤ length es
shorter z y port es es' e is = omega (arith, ap length is, one_shorter (is_at (binding_cmp (z, y, port))) es (first_there z y port es e))

pub no_edge : (z : ℕ) (es : List Edge) → None ≡ option_map short (find (head z) es) → (y : ℕ) → has_edge es z y ≡ false
no_edge z [] e y = refl
no_edge z (x ∷ es) e y = elim (head z x) as (λ v. head z x ≡ v → None ≡ option_map short (cond v (Some x) (find (head z) es)) → has_edge (x ∷ es) z y ≡ false) [
  | true ↦ λ _ none. absurd (none-some _ none)
  | false ↦ λ off rest. ap (λ b. (b && nat_eq x.1 y) || has_edge es z y) off ∙ no_edge z es rest y
] refl e

-- no edge from the instance is left
pub following-end : (z : ℕ) (left left' : List Edge) (seen seen' waiting waiting' : List ℕ) → ((y : ℕ) → has_edge left' z y ≡ false)
    → IsFollowing z left left' seen seen' waiting waiting' → IsFollowed z left left' seen seen' waiting waiting'
following-end z left left' seen seen' waiting waiting' none k = record {
  edges = λ x y. pick x y (nat_eq x z)
      (λ is. ap (λ v. has_edge left' v y) (eqb-true x z is) ∙ none y)
      (λ other. k.others x y other);
  reached = λ y. same_bool (has seen' y) (has seen y || has_edge left z y)
      (λ h. pick_or (has_edge left z y) (has seen y) (λ off. k.led y h off))
      (λ h. elim (or_cases (has seen y) (has_edge left z y) h) [
        | inl old ↦ k.stay y old
        | inr there ↦ k.taken y there (none y)
      ]);
  waits = λ y. same_bool (has waiting' y) (has waiting y || (has_edge left z y && not (has seen y)))
      (λ h. pick_or (has_edge left z y && not (has seen y)) (has waiting y) (λ off. let now = k.only y h off in unseen y now off h))
      (λ h. elim (or_cases (has waiting y) (has_edge left z y && not (has seen y)) h) [
        | inl old ↦ k.kept y old
        | inr fresh ↦ let both = and_parts (has_edge left z y) (not (has seen y)) fresh in k.new y (k.taken y both.0 (none y)) (not_true (has seen y) both.1)
      ]);
  less = k.fewer;
} where
  pick : (x y : ℕ) (b : Bool) → (b ≡ true → has_edge left' x y ≡ false) → (b ≡ false → has_edge left' x y ≡ has_edge left x y) → has_edge left' x y ≡ (not b && has_edge left x y)
  pick x y true t f = t refl
  pick x y false t f = f refl

  pick_or : (c b : Bool) → (b ≡ false → c ≡ true) → (b || c) ≡ true
  pick_or c true f = refl
  pick_or c false f = f refl

  same_bool : (a b : Bool) → (a ≡ true → b ≡ true) → (b ≡ true → a ≡ true) → a ≡ b
  same_bool true b f g = sym (f refl)
  same_bool false true f g = g refl
  same_bool false false f g = refl

  not_true : (b : Bool) → not b ≡ true → b ≡ false
  not_true true e = absurd (false≢true e)
  not_true false e = refl

  unseen : (y : ℕ) → has seen' y ≡ true → has waiting y ≡ false → has waiting' y ≡ true → (has_edge left z y && not (has seen y)) ≡ true
  unseen y now off waits = elim (has seen y) as (λ b. has seen y ≡ b → (has_edge left z y && not b) ≡ true) [
    | true ↦ λ old. absurd (false≢true (sym (k.fresh y waits off) ∙ old))
    | false ↦ λ off_seen. and_from (has_edge left z y) true (k.led y now off_seen) refl
  ] refl

-- ---- all instances

not_both : (b : Bool) → b ≡ true → b ≡ false → ⊥
not_both b t f = false≢true (sym f ∙ t)

is_one : (b : Bool) → (b ≡ true → ⊥) → b ≡ false
is_one true h = absurd (h refl)
is_one false h = refl

two_cases : (b : Bool) (P : Type 0) → (b ≡ true → P) → (b ≡ false → P) → P
two_cases true P t f = t refl
two_cases false P t f = f refl

has-push : (zs : List ℕ) (z x : ℕ) → has (zs ++ z ∷ []) x ≡ (has zs x || (nat_eq z x || false))
has-push zs z x = list_any-append (λ y. nat_eq y x) zs (z ∷ [])

pub under_way-begin : (starts : List ℕ) (edges : List Edge) (waiting : List ℕ) → waiting ≡ starts → IsUnderWay starts edges edges starts waiting
under_way-begin starts edges waiting e = record {
  begun = λ z h. h;
  sound = λ z h. start z h;
  among = λ x y h. h;
  taken = λ x y h off. absurd (not_both _ h off);
  done = λ x y there off. absurd (not_both (has starts x) there (ap (λ zs. has zs x) (sym e) ∙ off));
  queued = λ x h. ap (λ zs. has zs x) (sym e) ∙ h;
}

-- one more instance is taken from those that wait, and the edges from it are followed
pub under_way-next : (starts : List ℕ) (edges left left' : List Edge) (seen seen' waiting rest waiting' : List ℕ) (z : ℕ) → waiting ≡ rest ++ z ∷ []
    → IsUnderWay starts edges left seen waiting → IsFollowed z left left' seen seen' rest waiting' → IsUnderWay starts edges left' seen' waiting'
under_way-next starts edges left left' seen seen' waiting rest waiting' z e k f =
    let popped : (x : ℕ) → has waiting x ≡ (has rest x || (nat_eq z x || false)) = λ x. ap (λ zs. has zs x) e ∙ has-push rest z x in
    let z_seen : has seen z ≡ true = k.queued z (popped z ∙ or_right (has rest z) _ (or_left (nat_eq z z) false (eq-eqb z z refl))) in
    let stays : (y : ℕ) → has seen y ≡ true → has seen' y ≡ true = λ y h. f.reached y ∙ or_left (has seen y) _ h in
    record {
      begun = λ y h. stays y (k.begun y h);
      sound = λ y h. elim (or_cases (has seen y) (has_edge left z y) (sym (f.reached y) ∙ h)) [
        | inl old ↦ k.sound y old
        | inr led ↦ next z y (k.sound z z_seen) (k.among z y led)
      ];
      among = λ x y h. k.among x y (and_parts (not (nat_eq x z)) (has_edge left x y) (sym (f.edges x y) ∙ h)).1;
      taken = λ x y h off. two_cases (has_edge left x y) (has seen' y ≡ true)
          (λ there. two_cases (nat_eq x z) (has seen' y ≡ true)
          (λ is. f.reached y ∙ or_right (has seen y) _ (sym (ap (λ w. has_edge left w y) (eqb-true x z is)) ∙ there))
          (λ other. absurd (not_both _ (f.edges x y ∙ and_from (not (nat_eq x z)) (has_edge left x y) (ap not other) there) off)))
          (λ gone. stays y (k.taken x y h gone));
      done = λ x y there off. two_cases (nat_eq x z) (has_edge left' x y ≡ false)
          (λ is. f.edges x y ∙ ap (λ b. not b && has_edge left x y) is)
          (λ other. f.edges x y ∙ ap (λ b. not (nat_eq x z) && b) (elim (or_cases (has seen x) (has_edge left z x) (sym (f.reached x) ∙ there)) [
            | inl old ↦ k.done x y old (popped x ∙ nothing (has rest x) (nat_eq z x) (is_one (has rest x) (λ waits. not_both _ (f.waits x ∙ or_left (has rest x) _ waits) off)) (ne_eqb z x (λ same. not_both _ (eq-eqb x z (sym same)) other)))
            | inr led ↦ two_cases (has seen x) (has_edge left x y ≡ false)
                (λ old. k.done x y old (popped x ∙ nothing (has rest x) (nat_eq z x) (is_one (has rest x) (λ waits. not_both _ (f.waits x ∙ or_left (has rest x) _ waits) off)) (ne_eqb z x (λ same. not_both _ (eq-eqb x z (sym same)) other))))
                (λ fresh. absurd (not_both _ (f.waits x ∙ or_right (has rest x) _ (and_from (has_edge left z x) (not (has seen x)) led (ap not fresh))) off))
          ]) ∙ none (not (nat_eq x z)));
      queued = λ x h. elim (or_cases (has rest x) (has_edge left z x && not (has seen x)) (sym (f.waits x) ∙ h)) [
        | inl old ↦ stays x (k.queued x (popped x ∙ or_left (has rest x) _ old))
        | inr new ↦ f.reached x ∙ or_right (has seen x) _ (and_parts (has_edge left z x) (not (has seen x)) new).0
      ];
    } where
      nothing : (a b : Bool) → a ≡ false → b ≡ false → (a || (b || false)) ≡ false
      nothing a b e f = rw (e, f) refl

      none : (b : Bool) → (b && false) ≡ false
      none true = refl
      none false = refl

-- nothing waits any more
pub under_way-end : (starts : List ℕ) (edges left : List Edge) (seen waiting : List ℕ) → waiting ≡ [] → IsUnderWay starts edges left seen waiting → AreReached starts edges seen
under_way-end starts edges left seen waiting e k = λ z. (k.sound z, closed z) where
  closed : (z : ℕ) → IsReached starts edges z → has seen z ≡ true
  closed z (start _ h) = k.begun z h
  closed y (next z _ r h) = k.taken z y h (k.done z y (closed z r) (ap (λ zs. has zs z) e))

-- and then the edges that are left lead from others
pub under_way-closed : (starts : List ℕ) (edges left : List Edge) (seen waiting : List ℕ) → waiting ≡ [] → IsUnderWay starts edges left seen waiting → IsClosed edges left seen
under_way-closed starts edges left seen waiting e k = record {
  among = k.among;
  taken = k.taken;
  done = λ x y there. k.done x y there (ap (λ zs. has zs x) e);
}

-- one more instance is seen, and waits
pub under_way-again : (z : ℕ) (edges left : List Edge) (zs seen waiting : List ℕ) → ((w : ℕ) → has seen w ≡ (nat_eq z w || has zs w)) → waiting ≡ z ∷ []
    → IsClosed edges left zs → IsUnderWay (z ∷ zs) edges left seen waiting
under_way-again z edges left zs seen waiting added e k = record {
  begun = λ w h. added w ∙ h;
  sound = λ w h. start w (sym (added w) ∙ h);
  among = k.among;
  taken = λ x y h off. added y ∙ or_right (nat_eq z y) _ (k.taken x y h off);
  done = λ x y there off. elim (or_cases (nat_eq z x) (has zs x) (sym (added x) ∙ there)) [
    | inl is ↦ absurd (not_both _ (ap (λ xs. has xs x) e ∙ or_left (nat_eq z x) false is) off)
    | inr old ↦ k.done x y old
  ];
  queued = λ x h. added x ∙ or_left (nat_eq z x) _ (only (nat_eq z x) (ap (λ xs. has xs x) (sym e) ∙ h));
} where
  only : (b : Bool) → (b || false) ≡ true → b ≡ true
  only true h = refl
  only false h = h

-- an instance that is there already is put in again
pub there_again : (y : ℕ) (zs : List ℕ) → has zs y ≡ true → (w : ℕ) → has zs w ≡ (nat_eq y w || has zs w)
there_again y zs there w = elim (nat_eq y w) as (λ b. nat_eq y w ≡ b → has zs w ≡ (b || has zs w)) [
  | true ↦ λ is. subst (λ v. has zs v ≡ true) (eqb-true y w is) there
  | false ↦ λ _. refl
] refl
