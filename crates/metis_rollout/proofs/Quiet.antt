-- Lists that make no instance, from a configuration.
use Rattle.std.proofs.Common.{◌≡◌, ℕ, zero, suc, ◌<◌, ◌≤◌, Bool, true, false, cond, not, ◌&&◌, ◌||◌, List, [], ◌∷◌, ◌++◌, Option, Some, None, refl, sym, ap, ◌∙◌, subst, arith, nat_eq, map, length, inl, inr}
use Rattle.std.specs.Prelude.{IsSome}
use Rattle.std.specs.List.{AllByRecursion, filter, find, list_any}
use Rattle.std.specs.List.Sorted.{IsStrictlySortedBy}
use Rattle.std.specs.Map.{keys_of, lookup}
use Rattle.std.specs.Option.{option_map_or}
use Rattle.std.specs.Ordering.{ordering_reverse}
use Rattle.std.specs.declared.cmp.Ordering.TheVariants.{Less, Greater}
use Rattle.std.proofs.lemmas.Bool.{and_from, and_parts, eq-eqb, eqb-true, false≢true, or_cases, or_left, or_right, both_ways, not-false, not-true}
use Rattle.std.proofs.lemmas.List.Kept.{IsStrictlySortedBy-filter}
use Rattle.std.proofs.lemmas.Map.Views.{any-filter_same}
use Rattle.metis_ids.specs.declared.actions.Action.{Action}
use Rattle.metis_ids.specs.declared.actions.Action.TheVariants.{New, Delete, Bind, Unbind, Move}
use Rattle.metis_ids.proofs.Finding.{not_found}
use Rattle.metis_universe.specs.Terms.{Allows, Binding, Config, Correct, IsConfig, IsMet, Universe, after, after_all, binding_cmp, demand_of, has, is_bound, is_new, is_steadfast_after, is_tie, names, pair_of, provides, remove, requires, untie}
use Rattle.metis_universe.proofs.Edits.{binding_cmp_total, is_bound-remove, is_bound-untie, pair_of-remove, tie_is}
use Rattle.metis_universe.proofs.Kept.{IsConfig-remove}
use Rattle.metis_universe.proofs.Sorted.{keys_of-filter}
use Rattle.metis_universe.proofs.Bindings.{own_tie}
use Rattle.metis_layers.proofs.Going.{GoesOn, at, at-next}
use Rattle.metis_rollout.specs.Terms.{MayGo, all_go, among, ends_first, first_unbinds, idle_unbinds, is_made, is_referenced, members, next_unreferenced, unbind, unreferenced_deletes_within}
use Rattle.metis_rollout.proofs.Among.{bound_from, pair_among, pair_from}
use Rattle.metis_rollout.proofs.Unused.{length-without}
use Rattle.metis_rollout.proofs.Serving.{more_bound, served_still}
use Rattle.metis_rollout.proofs.Going.{Unpointed, standing-Unpointed, unpointed}

-- what a steadfast action needs of the configuration, where it makes no instance
abbrev pub IsQuiet : Universe → Config → Action → Type 0
IsQuiet u c (New z t) = ⊥
IsQuiet u c (Delete y) = Unpointed c y
IsQuiet u c (Bind r z y) = option_map_or (λ q. provides u q r) (pair_of c y) false ≡ true
IsQuiet u c (Unbind r z y) = Unit {0}
IsQuiet u c (Move y p q) = Unpointed c y

abbrev pub QuietFrom : Universe → Config → List Action → Type 0
QuietFrom u c [] = Unit {0}
QuietFrom u c (a ∷ rest) = Allows u c a × Correct u (after u c a) × IsQuiet u c a × QuietFrom u (after u c a) rest

pub QuietFrom-append : (u : Universe) (c : Config) (xs ys : List Action) → QuietFrom u c xs → QuietFrom u (after_all u c xs) ys → QuietFrom u c (xs ++ ys)
QuietFrom-append u c [] ys one two = two
QuietFrom-append u c (a ∷ xs) ys one two = (one.0, one.1, one.2, QuietFrom-append u (after u c a) xs ys one.3 two)

pub quiet_goes : (u : Universe) (earlier rest : List Action) → QuietFrom u (at u earlier) rest → GoesOn u earlier rest
quiet_goes u earlier [] quiet = tt
quiet_goes u earlier (a ∷ rest) quiet = (
  quiet.0,
  quiet.1,
  steady a quiet.2,
  quiet_goes u (earlier ++ a ∷ []) rest (subst (λ c. QuietFrom u c rest) (sym (at-next u earlier a)) quiet.3),
) where
  steady : (a : Action) → IsQuiet u (at u earlier) a → is_steadfast_after u earlier a ≡ true
  steady (New z t) h = absurd h
  steady (Delete y) h = ap not (standing-Unpointed u earlier y h)
  steady (Bind r z y) h = h
  steady (Unbind r z y) h = refl
  steady (Move y p q) h = ap not (standing-Unpointed u earlier y h)

pub quiet_makes_none : (u : Universe) (c : Config) (xs : List Action) (z : ℕ) → QuietFrom u c xs → is_made xs z ≡ false
quiet_makes_none u c [] z quiet = refl
quiet_makes_none u c (a ∷ xs) z quiet = ap (λ b. b || is_made xs z) (none a quiet.2) ∙ quiet_makes_none u (after u c a) xs z quiet.3 where
  none : (a : Action) → IsQuiet u c a → is_new z a ≡ false
  none (New x t) h = absurd h
  none (Delete y) h = refl
  none (Bind r x y) h = refl
  none (Unbind r x y) h = refl
  none (Move y p q) h = refl

-- ---- bindings and the list of them

less_more : Less ≡ Greater → ⊥
less_more h = cc

pub not_below_itself : (b : Binding) → binding_cmp b b ≡ Less → ⊥
not_below_itself b e = less_more (sym e ∙ binding_cmp_total.antisymm b b ∙ ap ordering_reverse e)

abbrev pub is_in : List Binding → ℕ → ℕ → ℕ → Bool
is_in bs r z y = list_any (is_tie r z y) bs

pub tie_flip : (a b : Binding) → is_tie a.0 a.1 a.2 b ≡ is_tie b.0 b.1 b.2 a
tie_flip a b = flip (is_tie a.0 a.1 a.2 b) (is_tie b.0 b.1 b.2 a)
    (λ h. subst (λ (x : Binding). is_tie x.0 x.1 x.2 a ≡ true) (sym (tie_is a.0 a.1 a.2 b h)) (own_tie a))
    (λ h. subst (λ (x : Binding). is_tie x.0 x.1 x.2 b ≡ true) (sym (tie_is b.0 b.1 b.2 a h)) (own_tie b)) where
      flip : (p q : Bool) → (p ≡ true → q ≡ true) → (q ≡ true → p ≡ true) → p ≡ q
      flip true q f g = sym (f refl)
      flip false true f g = g refl
      flip false false f g = refl

-- each binding of the list stands
abbrev pub AllBound : Config → List Binding → Type 0
AllBound c bs = AllByRecursion (λ b. is_bound c b.0 b.1 b.2 ≡ true) bs

bound_still : (c : Config) (b : Binding) (bs : List Binding) → AllByRecursion (λ d. binding_cmp b d ≡ Less) bs → AllBound c bs → AllBound (untie c b.0 b.1 b.2) bs
bound_still c b [] below all = tt
bound_still c b (d ∷ bs) below all = (
  is_bound-untie c b.0 b.1 b.2 d.0 d.1 d.2 ∙ and_from (not (is_tie b.0 b.1 b.2 d)) (is_bound c d.0 d.1 d.2) (ap not apart) all.0,
  bound_still c b bs below.1 all.1,
) where
  apart : is_tie b.0 b.1 b.2 d ≡ false
  apart = elim (is_tie b.0 b.1 b.2 d) as (λ v. is_tie b.0 b.1 b.2 d ≡ v → v ≡ false) [
    | true ↦ λ is. absurd (not_below_itself b (subst (λ x. binding_cmp b x ≡ Less) (tie_is b.0 b.1 b.2 d is) below.0))
    | false ↦ λ _. refl
  ] refl

pub unbinds_pair : (u : Universe) (c : Config) (bs : List Binding) (z : ℕ) → pair_of (after_all u c (map unbind bs)) z ≡ pair_of c z
unbinds_pair u c [] z = refl
unbinds_pair u c (b ∷ bs) z = unbinds_pair u (untie c b.0 b.1 b.2) bs z

pub unbinds_bound : (u : Universe) (c : Config) (bs : List Binding) (r z y : ℕ) → is_bound (after_all u c (map unbind bs)) r z y ≡ (not (is_in bs r z y) && is_bound c r z y)
unbinds_bound u c [] r z y = refl
unbinds_bound u c (b ∷ bs) r z y =
    unbinds_bound u (untie c b.0 b.1 b.2) bs r z y
    ∙ ap (λ v. not (is_in bs r z y) && v) (is_bound-untie c b.0 b.1 b.2 r z y ∙ ap (λ v. not v && is_bound c r z y) (tie_flip b (r, z, y)))
    ∙ swap (is_in bs r z y) (is_tie r z y b) (is_bound c r z y) where
      swap : (p q v : Bool) → (not p && (not q && v)) ≡ (not (q || p) && v)
      swap true true v = refl
      swap true false v = refl
      swap false true v = refl
      swap false false v = refl

-- Bindings end one after another where what they leave is correct: on the way there are only more bindings.
pub unbinds_quiet : (u : Universe) (c : Config) (bs : List Binding) → IsStrictlySortedBy binding_cmp bs → AllBound c bs → Correct u (after_all u c (map unbind bs)) → QuietFrom u c (map unbind bs)
unfolding IsStrictlySortedBy
unbinds_quiet u c [] sorted bound correct = tt
unbinds_quiet u c (b ∷ bs) sorted bound correct =
    let d = untie c b.0 b.1 b.2 in (
      bound.0,
      more_bound u (after_all u d (map unbind bs)) d (λ z. sym (unbinds_pair u d bs z)) (λ r z y h. (and_parts (not (is_in bs r z y)) (is_bound d r z y) (sym (unbinds_bound u d bs r z y) ∙ h)).1) correct,
      tt,
      unbinds_quiet u d bs sorted.1 (bound_still c b bs sorted.0 bound.1) correct,
    )

-- ---- the bindings that nothing requires

pub all_among : (xs ys : List Binding) → ((t : Binding → Bool) → list_any t ys ≡ true → list_any t xs ≡ true) → AllByRecursion (λ b. is_in xs b.0 b.1 b.2 ≡ true) ys
all_among xs [] within = tt
all_among xs (b ∷ ys) within = (
  within (is_tie b.0 b.1 b.2) (or_left (is_tie b.0 b.1 b.2 b) (list_any (is_tie b.0 b.1 b.2) ys) (own_tie b)),
  all_among xs ys (λ t h. within t (or_right (t b) (list_any t ys) h)),
)

any_kept : (p t : Binding → Bool) (xs : List Binding) → list_any t (filter p xs) ≡ true → list_any t xs ≡ true
any_kept p t [] h = h
any_kept p t (x ∷ xs) h = elim (p x) as (λ b. list_any t (cond b (x ∷ filter p xs) (filter p xs)) ≡ true → (t x || list_any t xs) ≡ true) [
  | true ↦ λ g. elim (or_cases (t x) (list_any t (filter p xs)) g) [ inl now ↦ or_left (t x) (list_any t xs) now | inr later ↦ or_right (t x) (list_any t xs) (any_kept p t xs later) ]
  | false ↦ λ g. or_right (t x) (list_any t xs) (any_kept p t xs g)
] h

pub all_bound : (c : Config) (p : Binding → Bool) → AllBound c (filter p c.bindings)
all_bound c p = all_among c.bindings (filter p c.bindings) (λ t h. any_kept p t c.bindings h)

-- whether the pair of z requires r
abbrev pub is_required : Universe → Config → ℕ → ℕ → Bool
is_required u c r z = option_map_or (λ p. requires u p r) (pair_of c z) false

-- whether a binding from z to y is one of the first to end, whatever the port
abbrev pub crosses : (ℕ → Bool) → ℕ → ℕ → Bool
crosses goes z y = not (goes z) && goes y

in_first : (u : Universe) (goes : ℕ → Bool) (c : Config) (r z y : ℕ) → is_in (filter (ends_first u goes c) c.bindings) r z y ≡ ((crosses goes z y || not (is_required u c r z)) && is_bound c r z y)
in_first u goes c r z y = any-filter_same (is_tie r z y) (ends_first u goes c) (crosses goes z y || not (is_required u c r z)) (λ b h. ap (ends_first u goes c) (tie_is r z y b h)) c.bindings

pub first_pair : (u : Universe) (goes : ℕ → Bool) (c : Config) (z : ℕ) → pair_of (after_all u c (first_unbinds u goes c)) z ≡ pair_of c z
first_pair u goes c z = unbinds_pair u c (filter (ends_first u goes c) c.bindings) z

-- the bindings that are required stay, but from a staying instance to one that goes, and no others
pub first_bound : (u : Universe) (goes : ℕ → Bool) (c : Config) (r z y : ℕ) → is_bound (after_all u c (first_unbinds u goes c)) r z y ≡ ((not (crosses goes z y) && is_required u c r z) && is_bound c r z y)
first_bound u goes c r z y = unbinds_bound u c (filter (ends_first u goes c) c.bindings) r z y ∙ ap (λ b. not b && is_bound c r z y) (in_first u goes c r z y) ∙ only (crosses goes z y) (is_required u c r z) (is_bound c r z y) where
  only : (q p b : Bool) → (not ((q || not p) && b) && b) ≡ ((not q && p) && b)
  only true true true = refl
  only true true false = refl
  only true false true = refl
  only true false false = refl
  only false true true = refl
  only false true false = refl
  only false false true = refl
  only false false false = refl

pub idle_pair : (u : Universe) (c : Config) (z : ℕ) → pair_of (after_all u c (idle_unbinds u c)) z ≡ pair_of c z
idle_pair u c z = first_pair u all_go c z

-- where all go, the bindings that are required stay, and no others
pub idle_bound : (u : Universe) (c : Config) (r z y : ℕ) → is_bound (after_all u c (idle_unbinds u c)) r z y ≡ (is_required u c r z && is_bound c r z y)
idle_bound u c r z y = first_bound u all_go c r z y

pub first_quiet : (u : Universe) (goes : ℕ → Bool) (c : Config) → IsConfig c → Correct u c → MayGo u goes c → QuietFrom u c (first_unbinds u goes c)
first_quiet u goes c k correct may = unbinds_quiet u c (filter (ends_first u goes c) c.bindings) (IsStrictlySortedBy-filter binding_cmp (ends_first u goes c) c.bindings k.in_order) (all_bound c (ends_first u goes c)) left where
  left : Correct u (after_all u c (first_unbinds u goes c))
  left z p r there needs =
      let d = after_all u c (first_unbinds u goes c) in
      let was = sym (first_pair u goes c z) ∙ there in
      let needed : is_required u c r z ≡ true = ap (λ o. option_map_or (λ p. requires u p r) o false) was ∙ needs in
      elim (goes z) as (λ b. goes z ≡ b → IsMet u d z r (demand_of u p r)) [
        | true ↦ λ go. served_still u c d r z (demand_of u p r) (correct z p r was needs) (λ y q h g. (
          first_bound u goes c r z y ∙ (λ i. (not (not (go i) && goes y) && needed i) && h i),
          first_pair u goes c y ∙ g,
        ))
        | false ↦ λ stay. served_still u (among (λ x. not (goes x)) c) d r z (demand_of u p r) (may.served z p r (pair_among (λ x. not (goes x)) c z p (ap not stay) was) needs) (λ y q h g.
            let was_bound = bound_from (λ x. not (goes x)) c r z y h in (
              first_bound u goes c r z y ∙ (λ i. (not (not (goes z) && not-true (goes y) was_bound.1 i) && needed i) && was_bound.2 i) ∙ both (not (goes z)),
              first_pair u goes c y ∙ (pair_from (λ x. not (goes x)) c y q g).1,
            ))
      ] refl where
        both : (b : Bool) → ((not (b && false) && true) && true) ≡ true
        both true = refl
        both false = refl

-- ---- removals of instances to which nothing is bound

pub remove_correct : (u : Universe) (c : Config) (z : ℕ) → Unpointed c z → Correct u c → Correct u (remove c z)
remove_correct u c z none correct x p r there needs =
    elim (nat_eq x z) as (λ b. nat_eq x z ≡ b → cond (not b) (pair_of c x) None ≡ Some p → IsMet u (remove c z) x r (demand_of u p r)) [
      | true ↦ λ _ h. absurd (none≢some p h)
      | false ↦ λ other h. served_still u c (remove c z) r x (demand_of u p r) (correct x p r h needs) (λ y q bound there.
          let apart : nat_eq y z ≡ false = elim (nat_eq y z) as (λ b. nat_eq y z ≡ b → b ≡ false) [
            | true ↦ λ is. absurd (both_ways (is_bound c r x y) (ap (is_bound c r x) (eqb-true y z is) ∙ none r x) bound)
            | false ↦ λ _. refl
          ] refl in
          (is_bound-remove c z r x y ∙ rw (other, apart) bound, pair_of-remove c z y ∙ ap (λ b. cond (not b) (pair_of c y) None) apart ∙ there))
    ] refl (sym (pair_of-remove c z x) ∙ there) where
      none≢some : (p : ℕ) → None ≡ Some p → ⊥
      none≢some p h = cc

pub has-keys : (es : List (ℕ × ℕ)) (z : ℕ) → has (keys_of es) z ≡ true → IsSome (lookup (nat_eq z) es)
has-keys [] z h = absurd (false≢true h)
has-keys (e ∷ es) z h = elim (nat_eq z e.0) as (λ b. nat_eq z e.0 ≡ b → IsSome (cond b (Some e.1) (lookup (nat_eq z) es))) [
  | true ↦ λ _. refl
  | false ↦ λ other. elim (or_cases (nat_eq e.0 z) (has (keys_of es) z) h) [
    | inl now ↦ absurd (both_ways (nat_eq z e.0) other (eq-eqb z e.0 (sym (eqb-true e.0 z now))))
    | inr later ↦ has-keys es z later
  ]
] refl

pub keys-has : (es : List (ℕ × ℕ)) (z : ℕ) → IsSome (lookup (nat_eq z) es) → has (keys_of es) z ≡ true
keys-has [] z h = absurd (false≢true h)
keys-has (e ∷ es) z h = elim (nat_eq z e.0) as (λ b. nat_eq z e.0 ≡ b → IsSome (cond b (Some e.1) (lookup (nat_eq z) es)) → (nat_eq e.0 z || has (keys_of es) z) ≡ true) [
  | true ↦ λ is _. or_left (nat_eq e.0 z) (has (keys_of es) z) (eq-eqb e.0 z (sym (eqb-true z e.0 is)))
  | false ↦ λ _ later. or_right (nat_eq e.0 z) (has (keys_of es) z) (keys-has es z later)
] refl h

-- the first that passes is in the list, and passes
pub find_some : (t : ℕ → Bool) (xs : List ℕ) (z : ℕ) → find t xs ≡ Some z → (has xs z ≡ true) × (t z ≡ true)
find_some t [] z h = absurd (none≢some z h) where
  none≢some : (p : ℕ) → None ≡ Some p → ⊥
  none≢some p h = cc
find_some t (x ∷ xs) z h = elim (t x) as (λ b. t x ≡ b → cond b (Some x) (find t xs) ≡ Some z → (has (x ∷ xs) z ≡ true) × (t z ≡ true)) [
  | true ↦ λ is e. let same = some_same x z e in (or_left (nat_eq x z) (has xs z) (eq-eqb x z same), subst (λ y. t y ≡ true) same is)
  | false ↦ λ _ e. let rest = find_some t xs z e in (or_right (nat_eq x z) (has xs z) rest.0, rest.1)
] refl h where
  some_same : (a b : ℕ) → Some a ≡ Some b → a ≡ b
  some_same a b h = cc

-- the one that goes next goes, is there, and no binding points to it
pub next_one : (goes : ℕ → Bool) (c : Config) (x : ℕ) → next_unreferenced goes c ≡ Some x → (has (members c) x ≡ true) × (goes x ≡ true) × (is_referenced c x ≡ false)
next_one goes c x is =
    let first = find_some (λ z. goes z && not (is_referenced c z)) (members c) x is in
    let parts = and_parts (goes x) (not (is_referenced c x)) first.1 in
    (first.0, parts.0, not-true (is_referenced c x) parts.1)

module _ (goes : ℕ → Bool) where
  abbrev rest_of : ℕ → Config → Option ℕ → List Action
  rest_of n c o = option_map_or (λ z. Delete z ∷ unreferenced_deletes_within goes n (remove c z)) o []

  pub unreferenced_quiet : (u : Universe) (n : ℕ) (c : Config) → IsConfig c → Correct u c → QuietFrom u c (unreferenced_deletes_within goes n c)
  unreferenced_quiet u zero c k correct = tt
  unreferenced_quiet u (suc n) c k correct = elim (next_unreferenced goes c) as (λ o. next_unreferenced goes c ≡ o → QuietFrom u c (rest_of n c o)) [
    | None ↦ λ _. tt
    | Some z ↦ λ is.
        let first = next_one goes c z is in
        let none = unpointed c z first.2 in
        let now = remove_correct u c z none correct in
        (has-keys c.instances z first.0, now, none, unreferenced_quiet u n (remove c z) (IsConfig-remove c z k) now)
  ] refl

  -- each instance that goes and is left has a binding to it
  pub unreferenced_ends : (u : Universe) (n : ℕ) (c : Config) → length (members c) ≤ n → (z : ℕ) → goes z ≡ true → IsSome (pair_of (after_all u c (unreferenced_deletes_within goes n c)) z) → is_referenced (after_all u c (unreferenced_deletes_within goes n c)) z ≡ true
  unreferenced_ends u zero c low z go there = absurd (no_more (members c) low (keys-has c.instances z there)) where
    no_more : (xs : List ℕ) → length xs ≤ 0 → has xs z ≡ true → ⊥
    no_more [] low h = false≢true h
    no_more (x ∷ xs) low h = absurd (omega arith)
  unreferenced_ends u (suc n) c low z go there = elim (next_unreferenced goes c) as (λ o. next_unreferenced goes c ≡ o → IsSome (pair_of (after_all u c (rest_of n c o)) z) → is_referenced (after_all u c (rest_of n c o)) z ≡ true) [
    | None ↦ λ is h. not-false (is_referenced c z) (ap (λ b. b && not (is_referenced c z)) (sym go) ∙ not_found (λ z. goes z && not (is_referenced c z)) (members c) is z (keys-has c.instances z h))
    | Some x ↦ λ is h.
        let first = next_one goes c x is in
        let fewer : length (members (remove c x)) < length (members c) = subst (λ l. length l < length (members c)) (sym (keys_of-filter (λ y. not (nat_eq y x)) c.instances)) (length-without x (members c) first.0) in
        unreferenced_ends u n (remove c x) (omega arith) z go h
  ] refl there

  -- what is left is as it was
  pub unreferenced_pair : (u : Universe) (n : ℕ) (c : Config) (z p : ℕ) → pair_of (after_all u c (unreferenced_deletes_within goes n c)) z ≡ Some p → pair_of c z ≡ Some p
  unreferenced_pair u zero c z p h = h
  unreferenced_pair u (suc n) c z p h = elim (next_unreferenced goes c) as (λ o. pair_of (after_all u c (rest_of n c o)) z ≡ Some p → pair_of c z ≡ Some p) [
    | None ↦ λ g. g
    | Some x ↦ λ g. was (nat_eq z x) (sym (pair_of-remove c x z) ∙ unreferenced_pair u n (remove c x) z p g)
  ] h where
    was : (b : Bool) → cond (not b) (pair_of c z) None ≡ Some p → pair_of c z ≡ Some p
    was true e = absurd (none≢some p e) where
      none≢some : (p : ℕ) → None ≡ Some p → ⊥
      none≢some p h = cc
    was false e = e

  pub unreferenced_bound : (u : Universe) (n : ℕ) (c : Config) (r z y : ℕ) → is_bound (after_all u c (unreferenced_deletes_within goes n c)) r z y ≡ true → is_bound c r z y ≡ true
  unreferenced_bound u zero c r z y h = h
  unreferenced_bound u (suc n) c r z y h = elim (next_unreferenced goes c) as (λ o. is_bound (after_all u c (rest_of n c o)) r z y ≡ true → is_bound c r z y ≡ true) [
    | None ↦ λ g. g
    | Some x ↦ λ g. (and_parts (not (names x (r, z, y))) (is_bound c r z y) (sym (is_bound-remove c x r z y) ∙ unreferenced_bound u n (remove c x) r z y g)).1
  ] h

  -- what stays is left
  other_stays : (z x : ℕ) → goes z ≡ false → goes x ≡ true → nat_eq z x ≡ false
  other_stays z x stay go = elim (nat_eq z x) as (λ b. nat_eq z x ≡ b → b ≡ false) [
    | true ↦ λ same. absurd (both_ways (goes z) stay (ap goes (eqb-true z x same) ∙ go))
    | false ↦ λ _. refl
  ] refl

  pub staying_pair : (u : Universe) (n : ℕ) (c : Config) (z : ℕ) → goes z ≡ false → pair_of (after_all u c (unreferenced_deletes_within goes n c)) z ≡ pair_of c z
  staying_pair u zero c z stay = refl
  staying_pair u (suc n) c z stay = elim (next_unreferenced goes c) as (λ o. next_unreferenced goes c ≡ o → pair_of (after_all u c (rest_of n c o)) z ≡ pair_of c z) [
    | None ↦ λ _. refl
    | Some x ↦ λ is.
        let first = next_one goes c x is in
        staying_pair u n (remove c x) z stay ∙ pair_of-remove c x z ∙ ap (λ b. cond (not b) (pair_of c z) None) (other_stays z x stay first.1)
  ] refl

  pub staying_bound : (u : Universe) (n : ℕ) (c : Config) (r z y : ℕ) → goes z ≡ false → goes y ≡ false → is_bound (after_all u c (unreferenced_deletes_within goes n c)) r z y ≡ is_bound c r z y
  staying_bound u zero c r z y stay stays = refl
  staying_bound u (suc n) c r z y stay stays = elim (next_unreferenced goes c) as (λ o. next_unreferenced goes c ≡ o → is_bound (after_all u c (rest_of n c o)) r z y ≡ is_bound c r z y) [
    | None ↦ λ _. refl
    | Some x ↦ λ is.
        let first = next_one goes c x is in
        staying_bound u n (remove c x) r z y stay stays ∙ is_bound-remove c x r z y
        ∙ (λ i. not (other_stays z x stay first.1 i || other_stays y x stays first.1 i) && is_bound c r z y)
  ] refl
