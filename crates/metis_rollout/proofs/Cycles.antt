-- Instances that go and are bound to one another, beside a scaffold that serves them all: they are removed, and then the scaffold is.
use Rattle.std.proofs.Common.{◌&&◌, ◌≡◌, ℕ, zero, suc, ◌<◌, ◌≤◌, Bool, true, false, cond, not, ◌||◌, ◌⊎◌, List, [], ◌∷◌, ◌++◌, Option, Some, None, refl, sym, ap, ◌∙◌, subst, arith, nat_eq, map, length, inl, inr}
use Rattle.std.specs.Prelude.{IsSome, slice_get}
use Rattle.std.specs.List.{AllByRecursion}
use Rattle.std.specs.Map.{keys_of}
use Rattle.std.proofs.lemmas.Bool.{cases_eq, and_parts, eq-eqb, eqb-true, ne_eqb, not-true, false≢true, or_cases, or_left, or_right, both_ways, false_from_ne_true}
use Rattle.metis_ids.specs.declared.actions.Action.{Action}
use Rattle.metis_ids.proofs.Options.{IsSome_at}
use Rattle.metis_universe.proofs.Demands.{IsMet-slots}
use Rattle.metis_universe.specs.Terms.{Binding, Config, Correct, IsConfig, IsMet, IsUniverse, Universe, after, after_all, demand_of, has, is_bound, names, pair_of, remove}
use Rattle.metis_universe.proofs.Edits.{is_bound-remove, pair_of-remove}
use Rattle.metis_layers.proofs.Going.{after_all-append}
use Rattle.metis_layers.proofs.SlotLists.{wants_required}
use Rattle.metis_layers.proofs.Slots.{IsFilled, wants}
use Rattle.metis_rollout.specs.Terms.{among, bind, deletes, downward, members, scaffold_bindings, unbind}
use Rattle.metis_rollout.proofs.Among.{IsConfig-among, bound_from, has-among, is_bound-among, pair_from, some_among, some_from}
use Rattle.metis_rollout.proofs.Going.{Unpointed}
use Rattle.metis_rollout.proofs.Quiet.{AllBound, QuietFrom, QuietFrom-append, all_among, has-keys, is_in, keys-has, remove_correct, unbinds_bound, unbinds_pair, unbinds_quiet}
use Rattle.metis_rollout.proofs.Serving.{served_still}
use Rattle.metis_rollout.proofs.Required.{wants_within}
use Rattle.metis_rollout.proofs.Rebinding.{AllNew, AllUnlike, CanServe, all_in, binds_bound, binds_pair, binds_quiet, deletes_bound, deletes_bound_is, deletes_pair, deletes_quiet, distinct_all, each_of, in_all, sorted_unlike}

-- ---- the scaffold, last made first

module _ (u : Universe) (f : ℕ → ℕ) (apart : (k j : ℕ) → f k ≡ f j → k ≡ j) where
  -- the instances f 0 to f (n - 1) stand, and each is bound to by later ones alone
  pub record Ladder (n : ℕ) (c : Config) : Type 0 where
    pub correct : Correct u c
    pub stands : (k : ℕ) → k < n → IsSome (pair_of c (f k))
    pub down : (r x j : ℕ) → j < n → is_bound c r x (f j) ≡ true → (k : ℕ) × (k < n) × (j < k) × (f k ≡ x)

  top_free : (n : ℕ) (c : Config) → Ladder (suc n) c → Unpointed c (f n)
  top_free n c l r x = false_from_ne_true (is_bound c r x (f n)) (λ h. let d = l.down r x n (omega arith) h in too_low d.0 d.1 d.2) where
    too_low : (k : ℕ) → k < suc n → n < k → ⊥
    too_low k a b = omega arith

  lower : (n : ℕ) (c : Config) → Ladder (suc n) c → Ladder n (remove c (f n))
  lower n c l = record {
    correct = remove_correct u c (f n) (top_free n c l) l.correct;
    stands = λ k low. subst IsSome (sym (pair_of-remove c (f n) (f k) ∙ ap (λ b. cond (not b) (pair_of c (f k)) None) (ne_eqb (f k) (f n) (λ e. not_self k low (apart k n e))))) (l.stands k (omega arith));
    down = λ r x j low h.
        let parts = and_parts (not (names (f n) (r, x, f j))) (is_bound c r x (f j)) (sym (is_bound-remove c (f n) r x (f j)) ∙ h) in
        let d = l.down r x j (omega arith) parts.1 in
        (d.0, below d.0 d.1 (λ e. false≢true (sym (ap (λ b. not (b || nat_eq (f j) (f n))) (eq-eqb x (f n) (sym d.3 ∙ ap f e))) ∙ parts.0)), d.2, d.3);
  } where
    not_self : (k : ℕ) → k < n → k ≡ n → ⊥
    not_self k low e = omega arith

    below : (k : ℕ) → k < suc n → (k ≡ n → ⊥) → k < n
    below k low other = elim (cases_eq k n) [ inl e ↦ absurd (other e) | inr e ↦ omega arith ]

  pub ladder_goes : (n : ℕ) (c : Config) → Ladder n c → QuietFrom u c (deletes (map f (downward n)))
  ladder_goes zero c l = tt
  ladder_goes (suc n) c l = (l.stands n (omega arith), remove_correct u c (f n) (top_free n c l) l.correct, top_free n c l, ladder_goes n (remove c (f n)) (lower n c l))

  pub has_rung : (n k : ℕ) → k < n → has (map f (downward n)) (f k) ≡ true
  has_rung zero k low = absurd (omega arith)
  has_rung (suc n) k low = elim (cases_eq k n) [
    | inl e ↦ or_left (nat_eq (f n) (f k)) (has (map f (downward n)) (f k)) (eq-eqb (f n) (f k) (ap f (sym e)))
    | inr e ↦ or_right (nat_eq (f n) (f k)) (has (map f (downward n)) (f k)) (has_rung n k (omega arith))
  ]

  pub rung_of : (n z : ℕ) → has (map f (downward n)) z ≡ true → (k : ℕ) × (k < n) × (f k ≡ z)
  rung_of zero z h = absurd (false≢true h)
  rung_of (suc n) z h = elim (or_cases (nat_eq (f n) z) (has (map f (downward n)) z) h) [
    | inl now ↦ (n, omega arith, eqb-true (f n) z now)
    | inr later ↦ let rest = rung_of n z later in (rest.0, omega (arith, rest.1), rest.2)
  ]

-- ---- what goes beside the scaffold

module _ (u : Universe) (goes : ℕ → Bool) (all c : Config) (S : ℕ → Bool) (f : ℕ → ℕ) (holder slot : ℕ → ℕ → ℕ) (ends : List ℕ) where
  -- c has what `all` has on the one side, and on the other the scaffold, which serves all that those of `all` that go require
  pub record Scene : Type 0 where
    pub universe : IsUniverse u
    pub good : IsConfig all
    pub closed : (r z y : ℕ) → is_bound all r z y ≡ true → goes z ≡ false → goes y ≡ false
    pub correct : Correct u c
    pub olds : (z : ℕ) → IsSome (pair_of all z) → S z ≡ true
    pub names : (k : ℕ) → S (f k) ≡ false
    pub injective : (k j : ℕ) → f k ≡ f j → k ≡ j
    pub old_pairs : (z : ℕ) → S z ≡ true → pair_of c z ≡ pair_of all z
    pub old_bound : (r z y : ℕ) → S z ≡ true → is_bound c r z y ≡ is_bound all r z y
    pub new_pairs : (k : ℕ) → k < length ends → pair_of c (f k) ≡ slice_get ends k
    pub new_only : (z : ℕ) → S z ≡ false → IsSome (pair_of c z) → (k : ℕ) × (k < length ends) × (f k ≡ z)
    pub new_bound : (r x y : ℕ) → S x ≡ false → is_bound c r x y ≡ true → (k : ℕ) × (j : ℕ) × (k < length ends) × (j < k) × (f k ≡ x) × (f j ≡ y)
    pub filled : (z p r k : ℕ) → pair_of (among goes all) z ≡ Some p → wants u p r k ≡ true → IsFilled u holder slot ends r k
    pub slots_differ : (r i j : ℕ) → 1 ≤ i → 1 ≤ j → holder r i ≡ holder r j → i ≡ j

  module _ (s : Scene) where
    -- what goes
    abbrev left : Config
    left = among goes all

    left_good : IsConfig left
    left_good = IsConfig-among goes all s.good

    abbrev h : ℕ → ℕ → ℕ
    h r k = f (holder r k)

    abbrev ties : List Binding
    ties = scaffold_bindings u h left

    abbrev bound : Config
    bound = after_all u c (map bind ties)

    abbrev unbound : Config
    unbound = after_all u bound (map unbind left.bindings)

    abbrev bare : Config
    bare = after_all u unbound (deletes (members left))

    abbrev rungs : List ℕ
    rungs = map f (downward (length ends))

    abbrev clear : Config
    clear = after_all u bare (deletes rungs)

    keys : AllUnlike (keys_of left.instances)
    keys = sorted_unlike (keys_of left.instances) left_good.ascending

    -- an instance that goes
    mine : (z p : ℕ) → pair_of left z ≡ Some p → (S z ≡ true) × (pair_of c z ≡ Some p) × (goes z ≡ true)
    mine z p there =
        let was = pair_from goes all z p there in
        let old = s.olds z (IsSome_at (pair_of all z) p was.1) in
        (old, s.old_pairs z old ∙ was.1, was.0)

    -- none of these is of the scaffold
    not_rung : (z k : ℕ) → S z ≡ true → f k ≡ z → ⊥
    not_rung z k old e = both_ways (S z) (ap S (sym e) ∙ s.names k) old

    -- ---- the binds

    serve : AllByRecursion (CanServe u c) ties
    serve = each_of u h (CanServe u c) left.instances keys (λ z p r k there needs.
        let held = s.filled z p r k there needs in
        let m = mine z p there in record {
          apart = λ e. not_rung z (holder r k) m.0 (sym e);
          needer = p;
          needer_there = m.1;
          needs = wants_required u p r k needs;
          giver = held.pair;
          giver_there = s.new_pairs (holder r k) held.stands ∙ held.there;
          gives = held.gives;
        })

    -- nothing is bound to the scaffold
    not_yet : (r k z : ℕ) → is_bound all r z (f k) ≡ false
    not_yet r k z = false_from_ne_true (is_bound all r z (f k)) (λ is. not_rung (f k) k (s.olds (f k) (s.good.provider r z (f k) is)) refl)

    new : AllNew c ties
    new = each_of u h (λ b. is_bound c b.0 b.1 b.2 ≡ false) left.instances keys (λ z p r k there needs. s.old_bound r z (h r k) (mine z p there).0 ∙ not_yet r (holder r k) z)

    binds_go : QuietFrom u c (map bind ties)
    binds_go = binds_quiet u c ties s.correct serve new (distinct_all u h (λ r i j some more same. s.slots_differ r i j some more (s.injective (holder r i) (holder r j) same)) s.universe left.instances keys)

    bound_is : (r z y : ℕ) → is_bound bound r z y ≡ (is_in ties r z y || is_bound c r z y)
    bound_is r z y = binds_bound u c ties r z y

    -- a tie goes from an instance that goes to the scaffold
    tie_from : (r z y : ℕ) → is_in ties r z y ≡ true → IsSome (pair_of left z) × (k : ℕ) × (h r k ≡ y)
    tie_from r z y is = let one = in_all u h left.instances r z y is in (has-keys left.instances z one.listed, one.slot, one.to)

    no_tie : (r z y : ℕ) → (IsSome (pair_of left z) → ⊥) → is_in ties r z y ≡ false
    no_tie r z y none = false_from_ne_true (is_in ties r z y) (λ is. none (tie_from r z y is).0)

    -- ---- the unbinds

    still : (bs : List Binding) → AllByRecursion (λ b. is_bound left b.0 b.1 b.2 ≡ true) bs → AllBound bound bs
    still [] each = tt
    still (b ∷ bs) each =
        let was = (bound_from goes all b.0 b.1 b.2 each.0).2 in (
          bound_is b.0 b.1 b.2 ∙ or_right (is_in ties b.0 b.1 b.2) (is_bound c b.0 b.1 b.2) (s.old_bound b.0 b.1 b.2 (s.olds b.1 (s.good.requirer b.0 b.1 b.2 was)) ∙ was),
          still bs each.1,
        )

    unbound_pair : (z : ℕ) → pair_of unbound z ≡ pair_of c z
    unbound_pair z = unbinds_pair u bound left.bindings z ∙ binds_pair u c ties z

    unbound_is : (r z y : ℕ) → is_bound unbound r z y ≡ (not (is_bound left r z y) && (is_in ties r z y || is_bound c r z y))
    unbound_is r z y = unbinds_bound u bound left.bindings r z y ∙ ap (λ b. not (is_bound left r z y) && b) (bound_is r z y)

    -- each port that the pair of one that goes requires is met by the scaffold: each slot is bound, and no two are one instance
    met_by_scaffold : (z p r : ℕ) → pair_of left z ≡ Some p → IsMet u unbound z r (demand_of u p r)
    met_by_scaffold z p r there = IsMet-slots u unbound z r (λ k y. (1 ≤ k) × (h r k ≡ y)) (demand_of u p r)
        (λ k some few.
        let needs = wants_within u p r k some few in
        let held = s.filled z p r k there needs in
        let away : is_bound left r z (h r k) ≡ false = false_from_ne_true (is_bound left r z (h r k)) (λ is. both_ways (is_bound all r z (h r k)) (not_yet r (holder r k) z) (bound_from goes all r z (h r k) is).2) in (
          h r k,
          (some, refl),
          record {
            pair = held.pair;
            bound = unbound_is r z (h r k) ∙ (λ i. not (away i) && (all_in u h left.instances r k z p there needs i || is_bound c r z (h r k)));
            there = unbound_pair (h r k) ∙ s.new_pairs (holder r k) held.stands ∙ held.there;
            gives = held.gives;
          },
        ))
        (λ i j y one two. s.slots_differ r i j one.0 two.0 (s.injective (holder r i) (holder r j) (one.1 ∙ sym two.1)))

    -- what does not go is bound as before
    unbound_other : (r z y : ℕ) → (IsSome (pair_of left z) → ⊥) → is_bound unbound r z y ≡ is_bound c r z y
    unbound_other r z y none =
        unbound_is r z y ∙ (λ i. not (false_from_ne_true (is_bound left r z y) (λ is. none (left_good.requirer r z y is)) i) && (no_tie r z y none i || is_bound c r z y))

    unbound_correct : Correct u unbound
    unbound_correct z p r there needs =
        let was = sym (unbound_pair z) ∙ there in
        by (pair_of left z) refl (λ none. served_still u c unbound r z (demand_of u p r) (s.correct z p r was needs) (λ y q is g. (unbound_other r z y none ∙ is, unbound_pair y ∙ g))) was where
          some_same : (a b : ℕ) → Some a ≡ Some b → a ≡ b
          some_same a b h = cc

          by : (o : Option ℕ) → pair_of left z ≡ o → ((IsSome (pair_of left z) → ⊥) → IsMet u unbound z r (demand_of u p r)) → pair_of c z ≡ Some p → IsMet u unbound z r (demand_of u p r)
          by None is other was = other (λ some. false≢true (subst IsSome is some))
          by (Some q) is other was = met_by_scaffold z p r (is ∙ ap Some (some_same q p (sym (mine z q is).1 ∙ was)))

    unbinds_go : QuietFrom u bound (map unbind left.bindings)
    unbinds_go = unbinds_quiet u bound left.bindings left_good.in_order (still left.bindings (all_among left.bindings left.bindings (λ t g. g))) unbound_correct

    -- ---- the removal of what goes

    -- a binding is one to the scaffold, or it stood, and its requirer does not go
    tied_or_stood : (r x y : ℕ) → is_bound unbound r x y ≡ true → (IsSome (pair_of left x) × (k : ℕ) × (h r k ≡ y)) ⊎ ((is_bound left r x y ≡ false) × (is_bound c r x y ≡ true))
    tied_or_stood r x y is =
        let parts = and_parts (not (is_bound left r x y)) (is_in ties r x y || is_bound c r x y) (sym (unbound_is r x y) ∙ is) in
        elim (or_cases (is_in ties r x y) (is_bound c r x y) parts.1) [
          | inl now ↦ inl (tie_from r x y now)
          | inr was ↦ inr (not-true (is_bound left r x y) parts.0, was)
        ]

    none_to : (z : ℕ) → IsSome (pair_of left z) → Unpointed unbound z
    none_to z there r x = false_from_ne_true (is_bound unbound r x z) (λ is.
        let goer = some_from goes all z there in
        let old = s.olds z goer.1 in
        elim (tied_or_stood r x z is) [
          | inl tie ↦ not_rung z (holder r tie.1) old tie.2
          | inr stood ↦ elim (S x) as (λ b. S x ≡ b → ⊥) [
            | true ↦ λ one.
                let was = sym (s.old_bound r x z one) ∙ stood.1 in
                elim (goes x) as (λ b. goes x ≡ b → ⊥) [
                  | true ↦ λ go. both_ways (is_bound left r x z) stood.0 (is_bound-among goes all r x z ∙ (λ i. (go i && goer.0 i) && was i))
                  | false ↦ λ stay. both_ways (goes z) (s.closed r x z was stay) goer.0
                ] refl
            | false ↦ λ other. let d = s.new_bound r x z other stood.1 in not_rung z d.1 old d.5
          ] refl
        ])

    there_all : (zs : List ℕ) → ((z : ℕ) → has zs z ≡ true → IsSome (pair_of left z)) → AllByRecursion (λ z. IsSome (pair_of unbound z)) zs
    there_all [] each = tt
    there_all (z ∷ zs) each =
        let one = some_from goes all z (each z (or_left (nat_eq z z) (has zs z) (eq-eqb z z refl))) in
        (subst IsSome (sym (unbound_pair z ∙ s.old_pairs z (s.olds z one.1))) one.1, there_all zs (λ y g. each y (or_right (nat_eq z y) (has zs y) g)))

    none_all : (zs : List ℕ) → ((z : ℕ) → has zs z ≡ true → IsSome (pair_of left z)) → AllByRecursion (Unpointed unbound) zs
    none_all [] each = tt
    none_all (z ∷ zs) each = (none_to z (each z (or_left (nat_eq z z) (has zs z) (eq-eqb z z refl))), none_all zs (λ y g. each y (or_right (nat_eq z y) (has zs y) g)))

    removes_go : QuietFrom u unbound (deletes (members left))
    removes_go = deletes_quiet u unbound (members left) unbound_correct (there_all (members left) (λ z g. has-keys left.instances z g)) (none_all (members left) (λ z g. has-keys left.instances z g)) keys

    correct_after : (c : Config) (xs : List Action) → Correct u c → QuietFrom u c xs → Correct u (after_all u c xs)
    correct_after c [] k quiet = k
    correct_after c (a ∷ xs) k quiet = correct_after (after u c a) xs quiet.1 quiet.3

    ladder : Ladder u f s.injective (length ends) bare
    ladder = record {
      correct = correct_after unbound (deletes (members left)) unbound_correct removes_go;
      stands = λ k low. subst IsSome (sym (deletes_pair u unbound (members left) (f k) ∙ ap (λ b. cond b None (pair_of unbound (f k))) (not_old k) ∙ unbound_pair (f k) ∙ s.new_pairs k low)) (inside ends k low);
      down = λ r x j low is.
          let was = deletes_bound u unbound (members left) r x (f j) is in
          elim (tied_or_stood r x (f j) was.0) [
            | inl tie ↦ absurd (both_ways (has (members left) x) was.1 (keys-has left.instances x tie.0))
            | inr stood ↦ elim (S x) as (λ b. S x ≡ b → (k : ℕ) × (k < length ends) × (j < k) × (f k ≡ x)) [
              | true ↦ λ one. absurd (both_ways (is_bound all r x (f j)) (not_yet r j x) (sym (s.old_bound r x (f j) one) ∙ stood.1))
              | false ↦ λ other.
                  let d = s.new_bound r x (f j) other stood.1 in
                  (d.0, d.2, subst (λ i. i < d.0) (s.injective d.1 j d.5) d.3, d.4)
            ] refl
          ];
    } where
      not_old : (k : ℕ) → has (members left) (f k) ≡ false
      not_old k = false_from_ne_true (has (members left) (f k)) (λ is. not_rung (f k) k (s.olds (f k) (some_from goes all (f k) (has-keys left.instances (f k) is)).1) refl)

      inside : (xs : List ℕ) (k : ℕ) → k < length xs → IsSome (slice_get xs k)
      inside [] k low = absurd (omega arith)
      inside (x ∷ xs) zero low = refl
      inside (x ∷ xs) (suc k) low = inside xs k (omega arith)

    -- ---- the whole

    abbrev pub taken_down : List Action
    taken_down = map bind ties ++ (map unbind left.bindings ++ (deletes (members left) ++ deletes rungs))

    pub taken_down_goes : QuietFrom u c taken_down
    taken_down_goes = QuietFrom-append u c (map bind ties) (map unbind left.bindings ++ (deletes (members left) ++ deletes rungs)) binds_go
        (QuietFrom-append u bound (map unbind left.bindings) (deletes (members left) ++ deletes rungs) unbinds_go
        (QuietFrom-append u unbound (deletes (members left)) (deletes rungs) removes_go (ladder_goes u f s.injective (length ends) bare ladder)))

    taken_down_is : after_all u c taken_down ≡ clear
    taken_down_is = after_all-append u c (map bind ties) _ ∙ after_all-append u bound (map unbind left.bindings) _ ∙ after_all-append u unbound (deletes (members left)) _

    -- ---- what it leaves

    old_stays : (z : ℕ) → S z ≡ true → has rungs z ≡ false
    old_stays z old = false_from_ne_true (has rungs z) (λ is. let of = rung_of u f s.injective (length ends) z is in not_rung z of.0 old of.2)

    clear_pair : (z : ℕ) → pair_of clear z ≡ cond (has rungs z) None (cond (has (members left) z) None (pair_of c z))
    clear_pair z = deletes_pair u bare rungs z ∙ ap (λ o. cond (has rungs z) None o) (deletes_pair u unbound (members left) z ∙ ap (λ o. cond (has (members left) z) None o) (unbound_pair z))

    pub taken_down_pair : (z : ℕ) → pair_of (after_all u c taken_down) z ≡ cond (goes z) None (pair_of all z)
    taken_down_pair z = ap (λ d. pair_of d z) taken_down_is ∙ clear_pair z ∙ elim (S z) as (λ b. S z ≡ b → cond (has rungs z) None (cond (has (members left) z) None (pair_of c z)) ≡ cond (goes z) None (pair_of all z)) [
      | true ↦ λ old. (λ i. cond (old_stays z old i) None (cond (has-among goes all z i) None (s.old_pairs z old i))) ∙ by (goes z) (pair_of all z) (keys-has all.instances z)
      | false ↦ λ other. new_gone other (pair_of c z) (s.new_only z other) ∙ sym (nothing (goes z) (pair_of all z) (λ some. both_ways (S z) other (s.olds z some)))
    ] refl where
      by : (g : Bool) (o : Option ℕ) → (IsSome o → has (members all) z ≡ true) → cond (g && has (members all) z) None o ≡ cond g None o
      by true None there = same (has (members all) z) None where
        same : (b : Bool) (o : Option ℕ) → cond b o o ≡ o
        same true o = refl
        same false o = refl
      by true (Some p) there = ap (λ b. cond b None (Some p)) (there refl)
      by false o there = refl

      nothing : (g : Bool) (o : Option ℕ) → (IsSome o → ⊥) → cond g None o ≡ None
      nothing true o none = refl
      nothing false None none = refl
      nothing false (Some p) none = absurd (none refl)

      new_gone : S z ≡ false → (o : Option ℕ) → (IsSome o → (k : ℕ) × (k < length ends) × (f k ≡ z)) → cond (has rungs z) None (cond (has (members left) z) None o) ≡ None
      new_gone other None only = twice (has rungs z) (has (members left) z) None where
        twice : (a b : Bool) (o : Option ℕ) → cond a o (cond b o o) ≡ o
        twice true b o = refl
        twice false true o = refl
        twice false false o = refl
      new_gone other (Some p) only =
          let of = only refl in
          ap (λ b. cond b None (cond (has (members left) z) None (Some p))) (subst (λ x. has rungs x ≡ true) of.2 (has_rung u f s.injective (length ends) of.0 of.1))

    clear_bound : (r z y : ℕ) → is_bound clear r z y ≡ (not (has rungs z || has rungs y) && (not (has (members left) z || has (members left) y) && is_bound unbound r z y))
    clear_bound r z y = deletes_bound_is u bare rungs r z y ∙ ap (λ b. not (has rungs z || has rungs y) && b) (deletes_bound_is u unbound (members left) r z y)

    pub taken_down_bound : (r z y : ℕ) → is_bound (after_all u c taken_down) r z y ≡ (not (goes z) && is_bound all r z y)
    taken_down_bound r z y = both (is_bound (after_all u c taken_down) r z y) (not (goes z) && is_bound all r z y) into back where
      both : (a b : Bool) → (a ≡ true → b ≡ true) → (b ≡ true → a ≡ true) → a ≡ b
      both true b f g = sym (f refl)
      both false true f g = g refl
      both false false f g = refl

      into : is_bound (after_all u c taken_down) r z y ≡ true → (not (goes z) && is_bound all r z y) ≡ true
      into is =
          let parts = and_parts (not (has rungs z || has rungs y)) (not (has (members left) z || has (members left) y) && is_bound unbound r z y) (sym (clear_bound r z y) ∙ ap (λ d. is_bound d r z y) (sym taken_down_is) ∙ is) in
          let more = and_parts (not (has (members left) z || has (members left) y)) (is_bound unbound r z y) parts.1 in
          let away = neither (has rungs z) (has rungs y) parts.0 in
          let out = neither (has (members left) z) (has (members left) y) more.0 in
          elim (tied_or_stood r z y more.1) [
            | inl tie ↦ absurd (both_ways (has (members left) z) out.0 (keys-has left.instances z tie.0))
            | inr stood ↦ elim (S z) as (λ b. S z ≡ b → (not (goes z) && is_bound all r z y) ≡ true) [
              | true ↦ λ old.
                  let was = sym (s.old_bound r z y old) ∙ stood.1 in
                  let stay : goes z ≡ false = false_from_ne_true (goes z) (λ go. both_ways (has (members left) z) out.0 (keys-has left.instances z (some_among goes all z go (s.good.requirer r z y was)))) in
                  (λ i. not (stay i) && was i)
              | false ↦ λ other.
                  let d = s.new_bound r z y other stood.1 in
                  absurd (both_ways (has rungs z) away.0 (subst (λ x. has rungs x ≡ true) d.4 (has_rung u f s.injective (length ends) d.0 d.2)))
            ] refl
          ] where
            neither : (a b : Bool) → not (a || b) ≡ true → (a ≡ false) × (b ≡ false)
            neither true b e = absurd (false≢true e)
            neither false true e = absurd (false≢true e)
            neither false false e = (refl, refl)

      back : (not (goes z) && is_bound all r z y) ≡ true → is_bound (after_all u c taken_down) r z y ≡ true
      back is =
          let parts = and_parts (not (goes z)) (is_bound all r z y) is in
          let stay = not-true (goes z) parts.0 in
          let stays = s.closed r z y parts.1 stay in
          let old = s.olds z (s.good.requirer r z y parts.1) in
          let old_y = s.olds y (s.good.provider r z y parts.1) in
          let none : IsSome (pair_of left z) → ⊥ = λ some. both_ways (goes z) stay (some_from goes all z some).0 in
          ap (λ d. is_bound d r z y) taken_down_is ∙ clear_bound r z y
          ∙ (λ i. not (old_stays z old i || old_stays y old_y i) && (not ((has-among goes all z ∙ ap (λ b. b && has (members all) z) stay) i || (has-among goes all y ∙ ap (λ b. b && has (members all) y) stays) i) && (unbound_other r z y none ∙ s.old_bound r z y old ∙ parts.1) i))
