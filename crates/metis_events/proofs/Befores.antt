-- The list of the edges into an event has each edge once, in order, and the graph gives it back.
use Rattle.std.proofs.Common.{◌≡◌, ℕ, ◌<◌, Bool, true, false, cond, ◌&&◌, ◌||◌, List, [], ◌∷◌, length, get_or, map, nat_lt, Some, refl, sym, ap, ◌∙◌, arith, nat_eq, inl, inr}
use Rattle.std.specs.List.{AllByRecursion, filter, flat_map, list_any, position_or_len}
use Rattle.std.specs.List.Sorted.{IsStrictlySortedBy}
use Rattle.std.specs.Ordering.{nat_cmp, ordering_then}
use Rattle.std.specs.declared.cmp.Ordering.{Ordering}
use Rattle.std.specs.declared.cmp.Ordering.TheVariants.{Less, Equal}
use Rattle.std.proofs.lemmas.Bool.{and_from, and_parts, cond-true, lt-ltb, false_from_ne_true, false≢true, or_cases, or_left, or_right}
use Rattle.std.proofs.lemmas.Bool.Decides.{nat_tests}
use Rattle.std.proofs.lemmas.List.{get_or-map}
use Rattle.std.proofs.lemmas.List.Elements.{All-contains, All-from_recursion}
use Rattle.std.proofs.lemmas.List.Sums.{position_or_len_is}
use Rattle.std.proofs.lemmas.Map.Keys.{Less-from_sorted}
use Rattle.std.specs.Cmp.{both_ways as same_bool}
use Rattle.metis_ids.specs.declared.events.Event.{Event}
use Rattle.metis_ids.specs.declared.events.Event.TheVariants.{At, End}
use Rattle.metis_ids.proofs.Lists.{each_weaker}
use Rattle.metis_universe.proofs.FirstSights.{each_append}
use Rattle.metis_universe.specs.Terms.{Universe}
use Rattle.metis_support.proofs.Lists.{any-append_left, any-append_right, both_each, first_passes, member, sorted_append}
use Rattle.metis_lines.specs.Terms.{AbstractPlan, IsFormed, event_cmp, events, is_among, is_event, is_go, is_return, is_start, precedes, same_event}
use Rattle.metis_lines.proofs.SameEvents.{same_events, same_itself, same_turned}
use Rattle.metis_events.proofs.AllEvents.{all_events, edges_join_events, events_ascend}
use Rattle.metis_events.specs.declared.edges.Edge.{Edge}
use Rattle.metis_events.specs.declared.edges.EdgeKind.{EdgeKind}
use Rattle.metis_events.specs.declared.edges.EdgeKind.TheVariants.{Go, Start, Return}
use Rattle.metis_events.specs.Terms.{before, edge_cmp, edge_of, edges_from, edges_into, event_at, graph_of, has_edge, is_edge, kind_cmp, kind_number, node_of}

-- ---- pieces in order

each_joined : {X Y : Type 0} (P : Y → Type 0) (f : X → List Y) (Q : X → Type 0) (xs : List X) → AllByRecursion Q xs → ((x : X) → Q x → AllByRecursion P (f x)) → AllByRecursion P (flat_map f xs)
each_joined P f Q [] all h = tt
each_joined P f Q (x ∷ xs) all h = each_append P (f x) (flat_map f xs) (h x all.0) (each_joined P f Q xs all.1 h)

sorted_joined : {X Y : Type 0} (R : X → X → Ordering) (S : Y → Y → Ordering) (from : Y → X) → ((a b : Y) → R (from a) (from b) ≡ Less → S a b ≡ Less) → (f : X → List Y) → ((x : X) → IsStrictlySortedBy S (f x)) → ((x : X) → AllByRecursion (λ y. from y ≡ x) (f x)) → (xs : List X) → IsStrictlySortedBy R xs → IsStrictlySortedBy S (flat_map f xs)
unfolding IsStrictlySortedBy
sorted_joined R S from less f sorted own [] all = tt
sorted_joined {Y = Y} R S from less f sorted own (x ∷ xs) all =
    let above : AllByRecursion (λ y. R x (from y) ≡ Less) (flat_map f xs) =
    each_joined (λ y. R x (from y) ≡ Less) f (λ z. R x z ≡ Less) xs all.0 (λ z h. each_weaker (λ y. from y ≡ z) (λ y. R x (from y) ≡ Less) (f z) (λ y e. ap (R x) e ∙ h) (own z)) in
    sorted_append S (f x) (flat_map f xs) (sorted x) (sorted_joined R S from less f sorted own xs all.1)
    (both_each (λ y. from y ≡ x) (λ z. R x (from z) ≡ Less) (f x) (flat_map f xs) (own x) above (λ y z. S y z ≡ Less) (λ y z p q. less y z (ap (λ e. R e (from z)) p ∙ q)))

sorted_kept : {X : Type 0} (S : X → X → Ordering) (t : X → Bool) (xs : List X) → IsStrictlySortedBy S xs → IsStrictlySortedBy S (filter t xs)
unfolding IsStrictlySortedBy
sorted_kept S t [] all = tt
sorted_kept {X = X} S t (x ∷ xs) all = by (t x) (each_kept (λ y. S x y ≡ Less) xs all.0) (sorted_kept S t xs all.1) where
  each_kept : (P : X → Type 0) (ys : List X) → AllByRecursion P ys → AllByRecursion P (filter t ys)
  each_kept P [] h = tt
  each_kept P (y ∷ ys) h = one (t y) h.0 (each_kept P ys h.1) where
    one : (b : Bool) → P y → AllByRecursion P (filter t ys) → AllByRecursion P (cond b (y ∷ filter t ys) (filter t ys))
    one true p rest = (p, rest)
    one false p rest = rest

  by : (b : Bool) → AllByRecursion (λ y. S x y ≡ Less) (filter t xs) → IsStrictlySortedBy S (filter t xs) → IsStrictlySortedBy S (cond b (x ∷ filter t xs) (filter t xs))
  by true one rest = (one, rest)
  by false one rest = rest

-- ---- the edges from one event

pub event_equal : (e : Event) → event_cmp e e ≡ Equal
event_equal (At l j) = ap (λ o. ordering_then o (nat_cmp j j)) (equal l) ∙ equal j where
  equal : (a : ℕ) → nat_cmp a a ≡ Equal
  equal a = grind (arith, nat_tests)
event_equal End = refl

module _ (w : AbstractPlan) (f : Event) where
  kinds_sorted : IsStrictlySortedBy kind_cmp (Go ∷ Start ∷ Return ∷ [])
  unfolding IsStrictlySortedBy
  kinds_sorted = ((refl, (refl, tt)), ((refl, tt), (tt, tt)))

  mapped_sorted : (e : Event) (ks : List EdgeKind) → IsStrictlySortedBy kind_cmp ks → IsStrictlySortedBy edge_cmp (map (edge_of e) ks)
  unfolding IsStrictlySortedBy
  mapped_sorted e [] all = tt
  mapped_sorted e (k ∷ ks) all = (each ks all.0, mapped_sorted e ks all.1) where
    each : (js : List EdgeKind) → AllByRecursion (λ j. kind_cmp k j ≡ Less) js → AllByRecursion (λ y. edge_cmp (edge_of e k) y ≡ Less) (map (edge_of e) js)
    each [] h = tt
    each (j ∷ js) h = (ap (λ o. ordering_then o (kind_cmp k j)) (event_equal e) ∙ h.0, each js h.1)

  from_sorted : (e : Event) → IsStrictlySortedBy edge_cmp (edges_from w f e)
  from_sorted e = mapped_sorted e (filter (λ k. is_edge w k e f) (Go ∷ Start ∷ Return ∷ [])) (sorted_kept kind_cmp (λ k. is_edge w k e f) (Go ∷ Start ∷ Return ∷ []) kinds_sorted)

  from_own : (e : Event) → AllByRecursion (λ (y : Edge). y.from ≡ e) (edges_from w f e)
  from_own e = each (filter (λ k. is_edge w k e f) (Go ∷ Start ∷ Return ∷ [])) where
    each : (ks : List EdgeKind) → AllByRecursion (λ (y : Edge). y.from ≡ e) (map (edge_of e) ks)
    each [] = tt
    each (k ∷ ks) = (refl, each ks)

  pub before_ascends : IsStrictlySortedBy edge_cmp (before w f)
  before_ascends = sorted_joined event_cmp edge_cmp (λ (y : Edge). y.from) (λ a b h. ap (λ o. ordering_then o (kind_cmp a.kind b.kind)) h) (edges_from w f) from_sorted from_own (events w) (events_ascend w)

-- ---- the edges that are there

any_joined : {X Y : Type 0} (t : Y → Bool) (f : X → List Y) (v : X → Bool) (xs : List X) → list_any v xs ≡ true → ((x : X) → v x ≡ true → list_any t (f x) ≡ true) → list_any t (flat_map f xs) ≡ true
any_joined t f v [] some h = absurd (false≢true some)
any_joined t f v (x ∷ xs) some h = elim (or_cases (v x) (list_any v xs) some) [
  | inl now ↦ any-append_left t (f x) (flat_map f xs) (h x now)
  | inr later ↦ any-append_right t (f x) (flat_map f xs) (any_joined t f v xs later h)
]

any_picked : {X Y : Type 0} (t : Y → Bool) (p v : X → Bool) (h : X → Y) (xs : List X) → list_any v xs ≡ true → ((x : X) → v x ≡ true → (p x ≡ true) × (t (h x) ≡ true)) → list_any t (map h (filter p xs)) ≡ true
any_picked t p v h [] some both = absurd (false≢true some)
any_picked t p v h (x ∷ xs) some both = elim (or_cases (v x) (list_any v xs) some) [
  | inl now ↦
      let at = both x now in
      ap (λ b. list_any t (map h (cond b (x ∷ filter p xs) (filter p xs)))) at.0 ∙ or_left (t (h x)) (list_any t (map h (filter p xs))) at.1
  | inr later ↦ by (p x) (any_picked t p v h xs later both)
] where
  by : (b : Bool) → list_any t (map h (filter p xs)) ≡ true → list_any t (map h (cond b (x ∷ filter p xs) (filter p xs))) ≡ true
  by true rest = or_right (t (h x)) (list_any t (map h (filter p xs))) rest
  by false rest = rest

pub same_kinds : (a b : EdgeKind) → nat_eq (kind_number a) (kind_number b) ≡ true → a ≡ b
same_kinds Go Go h = refl
same_kinds Go Start h = absurd (false≢true h)
same_kinds Go Return h = absurd (false≢true h)
same_kinds Start Go h = absurd (false≢true h)
same_kinds Start Start h = refl
same_kinds Start Return h = absurd (false≢true h)
same_kinds Return Go h = absurd (false≢true h)
same_kinds Return Start h = absurd (false≢true h)
same_kinds Return Return h = refl

all_kinds : (k : EdgeKind) → list_any (λ j. nat_eq (kind_number j) (kind_number k)) (Go ∷ Start ∷ Return ∷ []) ≡ true
all_kinds Go = refl
all_kinds Start = refl
all_kinds Return = refl

module _ (u : Universe) (w : AbstractPlan) (formed : IsFormed u w) (f : Event) where
  pub edge_precedes : (k : EdgeKind) (e : Event) → is_edge w k e f ≡ true → precedes w e f ≡ true
  edge_precedes Go e h = or_left (is_go w e f || is_start w e f) (is_return w e f) (or_left (is_go w e f) (is_start w e f) h)
  edge_precedes Start e h = or_left (is_go w e f || is_start w e f) (is_return w e f) (or_right (is_go w e f) (is_start w e f) h)
  edge_precedes Return e h = or_right (is_go w e f || is_start w e f) (is_return w e f) h

  each_passes : (e : Event) → AllByRecursion (λ (y : Edge). is_edge w y.kind y.from f ≡ true) (edges_from w f e)
  each_passes e = kept (Go ∷ Start ∷ Return ∷ []) where
    kept : (ks : List EdgeKind) → AllByRecursion (λ (y : Edge). is_edge w y.kind y.from f ≡ true) (map (edge_of e) (filter (λ k. is_edge w k e f) ks))
    kept [] = tt
    kept (k ∷ ks) = by (is_edge w k e f) refl (kept ks) where
      by : (b : Bool) → is_edge w k e f ≡ b → AllByRecursion (λ (y : Edge). is_edge w y.kind y.from f ≡ true) (map (edge_of e) (filter (λ k. is_edge w k e f) ks)) → AllByRecursion (λ (y : Edge). is_edge w y.kind y.from f ≡ true) (map (edge_of e) (cond b (k ∷ filter (λ k. is_edge w k e f) ks) (filter (λ k. is_edge w k e f) ks)))
      by true is rest = (is, rest)
      by false is rest = rest

  pub all_pass : AllByRecursion (λ (y : Edge). is_edge w y.kind y.from f ≡ true) (before w f)
  all_pass = each_joined (λ (y : Edge). is_edge w y.kind y.from f ≡ true) (edges_from w f) (λ x. Unit {0}) (events w) (units (events w)) (λ x _. each_passes x) where
    units : (xs : List Event) → AllByRecursion (λ x. Unit {0}) xs
    units [] = tt
    units (x ∷ xs) = (tt, units xs)

  edge_there : (e : Event) (k : EdgeKind) → has_edge (before w f) e k ≡ true → is_edge w k e f ≡ true
  edge_there e k h =
      let m = member (λ (y : Edge). same_event y.from e && nat_eq (kind_number y.kind) (kind_number k)) (before w f) h in
      let y = m.item in
      let both = and_parts (same_event y.from e) (nat_eq (kind_number y.kind) (kind_number k)) m.passes in
      let passes = All-contains (λ (y : Edge). is_edge w y.kind y.from f ≡ true) (before w f) y (All-from_recursion (λ (y : Edge). is_edge w y.kind y.from f ≡ true) (before w f) all_pass) m.there in
      sym (λ i. is_edge w (same_kinds y.kind k both.1 i) (same_events y.from e both.0 i) f) ∙ passes

  edge_listed : (e : Event) (k : EdgeKind) → is_edge w k e f ≡ true → has_edge (before w f) e k ≡ true
  edge_listed e k h =
      let t : Edge → Bool = λ y. same_event y.from e && nat_eq (kind_number y.kind) (kind_number k) in
      let there = all_events w e ∙ (edges_join_events u w formed e f (edge_precedes k e h)).0 in
      any_joined t (edges_from w f) (λ x. same_event x e) (events w) there (λ x same.
      any_picked t (λ j. is_edge w j x f) (λ j. nat_eq (kind_number j) (kind_number k)) (edge_of x) (Go ∷ Start ∷ Return ∷ []) (all_kinds k) (λ j is.
      ((λ i. is_edge w (same_kinds j k is i) (same_events x e same i) f) ∙ h, and_from (same_event x e) (nat_eq (kind_number j) (kind_number k)) same is)))

  pub before_has : (e : Event) (k : EdgeKind) → has_edge (before w f) e k ≡ is_edge w k e f
  before_has e k = same_bool (has_edge (before w f) e k) (is_edge w k e f) (edge_there e k) (edge_listed e k)

-- ---- nodes

any_turned : (e : Event) (xs : List Event) → list_any (same_event e) xs ≡ is_among xs e
any_turned e [] = refl
any_turned e (x ∷ xs) = λ i. same_turned x e i || any_turned e xs i

-- where the event is among them, there is a first place of it
pub place_low : (e : Event) (xs : List Event) → is_among xs e ≡ true → position_or_len (same_event e) xs < length xs
place_low e xs h = (first_passes (same_event e) xs End (any_turned e xs ∙ h)).low

module _ (w : AbstractPlan) where
  pub found : (e : Event) → is_event w e ≡ true → (position_or_len (same_event e) (events w) < length (events w)) × (get_or (events w) (position_or_len (same_event e) (events w)) End ≡ e)
  found e h =
      let f = first_passes (same_event e) (events w) End (any_turned e (events w) ∙ all_events w e ∙ h) in
      (f.low, sym (same_events e (get_or (events w) (position_or_len (same_event e) (events w)) End) f.passes))

  pub edges_into_event : (e : Event) → is_event w e ≡ true → edges_into (graph_of w) e ≡ before w e
  edges_into_event e h =
      let at = found e h in
      get_or-map (before w) (events w) (position_or_len (same_event e) (events w)) End [] at.0 ∙ ap (before w) at.1

  pub event_of_node : (e : Event) → is_event w e ≡ true → (n : ℕ) × (node_of (graph_of w) e ≡ Some n) × (n < length (events w)) × (event_at (graph_of w) n ≡ e)
  event_of_node e h =
      let at = found e h in
      (position_or_len (same_event e) (events w), cond-true (nat_lt (position_or_len (same_event e) (events w)) (length (events w))) _ _ (lt-ltb (position_or_len (same_event e) (events w)) (length (events w)) at.0), at.0, at.1)

  -- the first place of the event of a number is that number
  pub number_of_event : (n : ℕ) → n < length (events w) → position_or_len (same_event (get_or (events w) n End)) (events w) ≡ n
  number_of_event n low =
      let e = get_or (events w) n End in
      position_or_len_is (same_event e) (events w) n End (omega arith)
      (λ k before. false_from_ne_true (same_event e (get_or (events w) k End)) (λ same.
      not_less (get_or (events w) k End) (Less-from_sorted event_cmp (events w) k n End (events_ascend w) before low ∙ refl) (same_events e (get_or (events w) k End) same)))
      (λ _. same_itself e) where
        not_less : (a : Event) → event_cmp a (get_or (events w) n End) ≡ Less → get_or (events w) n End ≡ a → ⊥
        not_less a less same = clash (sym (ap (event_cmp a) same ∙ event_equal a) ∙ less) where
          clash : Equal ≡ Less → ⊥
          clash h = cc

  pub node_of_event : (n : ℕ) → n < length (events w) → node_of (graph_of w) (event_at (graph_of w) n) ≡ Some n
  node_of_event n low =
      let e = get_or (events w) n End in
      let first : position_or_len (same_event e) (events w) ≡ n = number_of_event n low in
      cond-true (nat_lt (position_or_len (same_event e) (events w)) (length (events w))) _ _ (lt-ltb (position_or_len (same_event e) (events w)) (length (events w)) (omega arith)) ∙ ap Some first
