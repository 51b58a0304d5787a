-- What goes is removed, as far as no binding leads to it; and where all go, what a fresh list leaves stands alone.
use Rattle.std.proofs.Common.{◌≡◌, ℕ, zero, suc, Bool, true, false, cond, not, ◌&&◌, ◌||◌, List, [], ◌∷◌, ◌++◌, Option, Some, None, refl, sym, ap, ◌∙◌, subst, arith, nat_eq, map, length, append-nil, inl, inr}
use Rattle.std.specs.Prelude.{IsSome, IsSomeAnd, IsTrue}
use Rattle.std.specs.List.{filter, list_any}
use Rattle.std.specs.Option.{option_map_or}
use Rattle.std.proofs.lemmas.Bool.{and_from, and_parts, both_ways, eq-eqb, false≢true, false_from_ne_true, or_cases, or_right}
use Rattle.std.proofs.lemmas.List.Folds.{list_any-append}
use Rattle.metis_ids.specs.declared.actions.Action.{Action}
use Rattle.metis_ids.specs.declared.actions.Action.TheVariants.{Delete}
use Rattle.metis_ids.proofs.Options.{none_or_some}
use Rattle.metis_universe.specs.Terms.{Binding, Config, Correct, IsConfig, IsRun, IsSteadfastRun, Universe, after, after_all, empty, has, is_bound, is_empty, is_new, is_tie, pair_of, remove, requires, untie}
use Rattle.metis_universe.proofs.Kept.{IsConfig-after, IsConfig-after_all, IsConfig-empty, IsConfig-remove, IsConfig-untie}
use Rattle.metis_universe.proofs.Same.{same_config}
use Rattle.metis_universe.proofs.Places.{Correct-empty}
use Rattle.metis_layers.proofs.Going.{GoesOn, GoesOn-append, after_all-append, at, run_from_going}
use Rattle.metis_rollout.specs.Terms.{IsCleared, IsNamed, IsUntied, IsWithout, MayGo, all_go, among, cleared_by, cleared_of, cycle_removal, ends_first, first_unbinds, idle_unbinds, is_made, left_of, members, next_unreferenced, removal, renumbered, rollout, scaffold_name, unbind, unreferenced_deletes, unreferenced_deletes_within, untied_of}
use Rattle.metis_rollout.proofs.Going.{going_from_steady, steady_from_going}
use Rattle.metis_rollout.proofs.Among.{among_all, may_all, pair_of-among}
use Rattle.metis_rollout.proofs.Quiet.{QuietFrom, QuietFrom-append, crosses, first_bound, first_pair, first_quiet, idle_bound, idle_pair, is_required, keys-has, staying_bound, staying_pair, unreferenced_bound, unreferenced_ends, unreferenced_pair, unreferenced_quiet, quiet_goes, quiet_makes_none}
use Rattle.metis_rollout.proofs.Survivors.{bound_stays, held_stay}
use Rattle.metis_rollout.proofs.Together.{beside, fresh_goes, fresh_unused}
use Rattle.metis_rollout.proofs.Touching.{At, pair_touched}
use Rattle.metis_rollout.proofs.Together.{touches_own}

-- ---- what a steady list leaves

pub left_config : (u : Universe) (xs : List Action) → GoesOn u [] xs → IsConfig (at u xs)
left_config u xs go = IsConfig-after_all u empty xs IsConfig-empty (run_from_going u [] xs go)

correct_end : (u : Universe) (c : Config) (xs : List Action) → Correct u c → IsRun u c xs → Correct u (after_all u c xs)
correct_end u c [] k run = k
correct_end u c (a ∷ xs) k run = correct_end u (after u c a) xs run.1 run.2

pub left_correct : (u : Universe) (xs : List Action) → GoesOn u [] xs → Correct u (at u xs)
left_correct u xs go = correct_end u empty xs (Correct-empty u) (run_from_going u [] xs go)

pub none_bound : (c : Config) → IsConfig c → (r z y : ℕ) → pair_of c z ≡ None → is_bound c r z y ≡ false
none_bound c k r z y none = elim (is_bound c r z y) as (λ b. is_bound c r z y ≡ b → b ≡ false) [
  | true ↦ λ is. absurd (none_or_some (pair_of c z) none (k.requirer r z y is))
  | false ↦ λ _. refl
] refl

pub none_made : (u : Universe) (xs : List Action) → GoesOn u [] xs → (z : ℕ) → is_made xs z ≡ false → pair_of (at u xs) z ≡ None
none_made u xs go z off = by_value (pair_of (at u xs) z) (λ h. pair_touched (At (is_made xs)) u z xs (touches_own u xs go) h) where
  by_value : (o : Option ℕ) → (IsSome o → is_made xs z ≡ true) → o ≡ None
  by_value None f = refl
  by_value (Some p) f = absurd (false≢true (sym off ∙ f refl))

-- The second list between two parts of the first, which leaves nothing.
pub alone : (u : Universe) (xs ys rest : List Action) → GoesOn u [] (xs ++ rest) → GoesOn u [] ys → ((z : ℕ) → is_made ys z ≡ true → is_made (xs ++ rest) z ≡ false) → ((z : ℕ) → pair_of (at u (xs ++ rest)) z ≡ None)
    → IsSteadfastRun u (xs ++ (ys ++ rest)) × (at u (xs ++ (ys ++ rest)) ≡ at u ys)
alone u xs ys rest one two apart gone =
    let mine = xs ++ rest in
    let whole = xs ++ (ys ++ rest) in
    let both = beside u xs ys rest one two apart in
    let k = left_config u whole both.0 in
    let k1 = left_config u mine one in
    let k2 = left_config u ys two in
    let other : (z : ℕ) → is_made mine z ≡ true → pair_of (at u ys) z ≡ None = λ z h. none_made u ys two z (unused ys mine z (apart z) h) in (
      steady_from_going u whole both.0,
      same_config (at u whole) (at u ys) k k2
          (λ z. elim (is_made mine z) as (λ b. is_made mine z ≡ b → pair_of (at u whole) z ≡ pair_of (at u ys) z) [
            | true ↦ λ h. both.1.old_pairs z h ∙ gone z ∙ sym (other z h)
            | false ↦ λ h. both.1.new_pairs z h
          ] refl)
          (λ r z y. elim (is_made mine z) as (λ b. is_made mine z ≡ b → is_bound (at u whole) r z y ≡ is_bound (at u ys) r z y) [
            | true ↦ λ h. both.1.old_bindings r z y h ∙ none_bound (at u mine) k1 r z y (gone z) ∙ sym (none_bound (at u ys) k2 r z y (other z h))
            | false ↦ λ h. both.1.new_bindings r z y h
          ] refl),
    ) where
      unused : (ys mine : List Action) (z : ℕ) → (is_made ys z ≡ true → is_made mine z ≡ false) → is_made mine z ≡ true → is_made ys z ≡ false
      unused ys mine z f h = elim (is_made ys z) as (λ b. (b ≡ true → is_made mine z ≡ false) → b ≡ false) [
        | true ↦ λ g. absurd (false≢true (sym (g refl) ∙ h))
        | false ↦ λ _. refl
      ] f

-- ---- the two first steps

unbinds_config : (u : Universe) (c : Config) (bs : List Binding) → IsConfig c → IsConfig (after_all u c (map unbind bs))
unbinds_config u c [] k = k
unbinds_config u c (b ∷ bs) k = unbinds_config u (untie c b.0 b.1 b.2) bs (IsConfig-untie c b.0 b.1 b.2 k)

unreferenced_config : (goes : ℕ → Bool) (u : Universe) (n : ℕ) (c : Config) → IsConfig c → IsConfig (after_all u c (unreferenced_deletes_within goes n c))
unreferenced_config goes u zero c k = k
unreferenced_config goes u (suc n) c k = elim (next_unreferenced goes c) as (λ o. IsConfig (after_all u c (option_map_or (λ z. Delete z ∷ unreferenced_deletes_within goes n (remove c z)) o []))) [
  | None ↦ k
  | Some z ↦ unreferenced_config goes u n (remove c z) (IsConfig-remove c z k)
]

pub left_config_of : (u : Universe) (goes : ℕ → Bool) (c : Config) → IsConfig c → IsConfig (left_of u goes c)
left_config_of u goes c k = unreferenced_config goes u (length (members (untied_of u goes c))) (untied_of u goes c) (unbinds_config u c (filter (ends_first u goes c) c.bindings) k)

module _ (u : Universe) (goes : ℕ → Bool) (xs : List Action) where
  abbrev pub stood : Config
  stood = at u xs

  abbrev pub untied : Config
  untied = untied_of u goes stood

  abbrev pub left : Config
  left = left_of u goes stood

  abbrev pub cleared : List Action
  cleared = cleared_of u goes stood

  pub left-is : after_all u stood cleared ≡ left
  left-is = after_all-append u stood (first_unbinds u goes stood) (unreferenced_deletes goes untied)

  quiet_config : (c : Config) (ys : List Action) → IsConfig c → QuietFrom u c ys → IsConfig (after_all u c ys) × (Correct u c → Correct u (after_all u c ys))
  quiet_config c [] k quiet = (k, λ h. h)
  quiet_config c (a ∷ ys) k quiet =
      let rest = quiet_config (after u c a) ys (IsConfig-after u c a k quiet.0) quiet.3 in
      (rest.0, λ h. rest.1 quiet.1)

  -- what is left of an instance is as it was
  pub left_pair : (z p : ℕ) → pair_of left z ≡ Some p → pair_of stood z ≡ Some p
  left_pair z p h = sym (first_pair u goes stood z) ∙ unreferenced_pair goes u (length (members untied)) untied z p h

  -- a binding that is left is required, and leads from what stays to what stays
  pub left_bound : (r z y : ℕ) → is_bound left r z y ≡ true → (not (crosses goes z y) ≡ true) × (is_required u stood r z ≡ true) × (is_bound stood r z y ≡ true)
  left_bound r z y h =
      let parts = and_parts (not (crosses goes z y) && is_required u stood r z) (is_bound stood r z y) (sym (first_bound u goes stood r z y) ∙ unreferenced_bound goes u (length (members untied)) untied r z y h) in
      let both = and_parts (not (crosses goes z y)) (is_required u stood r z) parts.0 in
      (both.0, both.1, parts.1)

  pub left_closed : (r z y : ℕ) → is_bound left r z y ≡ true → goes z ≡ false → goes y ≡ false
  left_closed r z y h stay = by (goes y) (sym (ap (λ b. not (not b && goes y)) stay) ∙ (left_bound r z y h).0) where
    by : (b : Bool) → not (not false && b) ≡ true → b ≡ false
    by true e = absurd (false≢true e)
    by false e = refl

  -- what stays is left, with its bindings that are required
  pub left_staying : (z : ℕ) → goes z ≡ false → pair_of left z ≡ pair_of stood z
  left_staying z stay = staying_pair goes u (length (members untied)) untied z stay ∙ first_pair u goes stood z

  pub left_between : (r z y : ℕ) → goes z ≡ false → goes y ≡ false → is_bound left r z y ≡ (is_required u stood r z && is_bound stood r z y)
  left_between r z y stay stays =
      staying_bound goes u (length (members untied)) untied r z y stay stays ∙ first_bound u goes stood r z y
      ∙ (λ i. (not (not (goes z) && stays i) && is_required u stood r z) && is_bound stood r z y) ∙ ap (λ b. (not b && is_required u stood r z) && is_bound stood r z y) (nothing (not (goes z))) where
        nothing : (b : Bool) → (b && false) ≡ false
        nothing true = refl
        nothing false = refl

  -- what is left where all that goes is removed from what the two steps leave
  pub without_from : (e : Config) → ((z : ℕ) → pair_of e z ≡ cond (goes z) None (pair_of left z)) → ((r z y : ℕ) → is_bound e r z y ≡ (not (goes z) && is_bound left r z y)) → IsWithout u goes stood e
  without_from e pairs bindings = record {
    pairs = λ z. pairs z ∙ elim (goes z) as (λ b. goes z ≡ b → cond b None (pair_of left z) ≡ cond b None (pair_of stood z)) [
      | true ↦ λ _. refl
      | false ↦ λ stay. left_staying z stay
    ] refl;
    bindings = λ r z y. bindings r z y ∙ elim (goes z) as (λ b. goes z ≡ b → (not b && is_bound left r z y) ≡ (not b && (not (goes y) && (is_required u stood r z && is_bound stood r z y)))) [
      | true ↦ λ _. refl
      | false ↦ λ stay. elim (goes y) as (λ b. goes y ≡ b → is_bound left r z y ≡ (not b && (is_required u stood r z && is_bound stood r z y))) [
        | true ↦ λ go. false_from_ne_true (is_bound left r z y) (λ h. both_ways (goes y) (left_closed r z y h stay) go)
        | false ↦ λ stays. left_between r z y stay stays
      ] refl
    ] refl;
  }

  module _ (go : GoesOn u [] xs) (may : MayGo u goes stood) where
    first_goes : QuietFrom u stood (first_unbinds u goes stood)
    first_goes = first_quiet u goes stood (left_config u xs go) (left_correct u xs go) may

    untied_good : IsConfig untied × Correct u untied
    untied_good = let good = quiet_config stood (first_unbinds u goes stood) (left_config u xs go) first_goes in (good.0, good.1 (left_correct u xs go))

    unreferenced_goes : QuietFrom u untied (unreferenced_deletes goes untied)
    unreferenced_goes = unreferenced_quiet goes u (length (members untied)) untied untied_good.0 untied_good.1

    pub left_good : IsConfig left × Correct u left
    left_good = let good = quiet_config untied (unreferenced_deletes goes untied) untied_good.0 unreferenced_goes in (good.0, good.1 untied_good.1)

    pub cleared_quiet : QuietFrom u stood cleared
    cleared_quiet = QuietFrom-append u stood (first_unbinds u goes stood) (unreferenced_deletes goes untied) first_goes unreferenced_goes

    pub cleared_goes : GoesOn u [] (xs ++ cleared)
    cleared_goes = GoesOn-append u [] xs cleared go (quiet_goes u xs cleared cleared_quiet)

    pub cleared_leaves : at u (xs ++ cleared) ≡ left
    cleared_leaves = after_all-append u empty xs cleared ∙ left-is

    pub cleared_makes : (z : ℕ) → is_made (xs ++ cleared) z ≡ is_made xs z
    cleared_makes z = list_any-append (is_new z) xs cleared ∙ ap (λ b. is_made xs z || b) (quiet_makes_none u stood cleared z cleared_quiet) ∙ nothing (is_made xs z) where
      nothing : (b : Bool) → (b || false) ≡ b
      nothing true = refl
      nothing false = refl

    pub first_steady : IsSteadfastRun u (xs ++ first_unbinds u goes stood)
    first_steady = steady_from_going u _ (GoesOn-append u [] xs (first_unbinds u goes stood) go (quiet_goes u xs (first_unbinds u goes stood) first_goes))

-- ---- where all go

module _ (u : Universe) (old : List Action) (go : GoesOn u [] old) where
  required_and : (c : Config) (r z : ℕ) → is_required u c r z ≡ true → IsSomeAnd (pair_of c z) (λ p. IsTrue (requires u p r))
  required_and c r z h = by_value (pair_of c z) h where
    by_value : (o : Option ℕ) → option_map_or (λ p. requires u p r) o false ≡ true → IsSomeAnd o (λ p. IsTrue (requires u p r))
    by_value None e = absurd (false≢true e)
    by_value (Some p) e = e

  pub left_cleared : IsCleared u (stood u all_go old) (left u all_go old)
  left_cleared = record {
    correct = (left_good u all_go old go (may_all u (at u old))).1;
    pairs = left_pair u all_go old;
    bindings = λ r z y h. let parts = left_bound u all_go old r z y h in (parts.2, required_and (at u old) r z parts.1);
    pointed = λ z h. pointer (left u all_go old).bindings z (unreferenced_ends all_go u (length (members (untied u all_go old))) (untied u all_go old) (omega arith) z refl h);
    greatest = λ held set z in_it. held_stay held u all_go (length (members (untied u all_go old))) (untied u all_go old) (record {
      there = λ y h. subst IsSome (sym (idle_pair u (at u old) y)) (set.there y h);
      pointed = λ y h. let by = set.pointed y h in (by.0, by.1, by.2, untied_bound by.0 by.1 y by.4 by.3);
    }) z in_it;
    stay = λ r z y there bound needed. bound_stays u all_go (length (members (untied u all_go old))) (untied u all_go old) r z y there (untied_bound r z y needed bound);
  } where
    required_from : (r z : ℕ) → IsSomeAnd (pair_of (at u old) z) (λ p. IsTrue (requires u p r)) → is_required u (at u old) r z ≡ true
    required_from r z h = by_value (pair_of (at u old) z) h where
      by_value : (o : Option ℕ) → IsSomeAnd o (λ p. IsTrue (requires u p r)) → option_map_or (λ p. requires u p r) o false ≡ true
      by_value None e = absurd e
      by_value (Some p) e = e

    untied_bound : (r z y : ℕ) → IsSomeAnd (pair_of (at u old) z) (λ p. IsTrue (requires u p r)) → is_bound (at u old) r z y ≡ true → is_bound (untied u all_go old) r z y ≡ true
    untied_bound r z y needed bound = idle_bound u (at u old) r z y ∙ and_from (is_required u (at u old) r z) (is_bound (at u old) r z y) (required_from r z needed) bound

    pointer : (bs : List Binding) (z : ℕ) → list_any (λ b. nat_eq b.2 z) bs ≡ true → (r : ℕ) × (x : ℕ) × (list_any (is_tie r x z) bs ≡ true)
    pointer [] z h = absurd (false≢true h)
    pointer (b ∷ bs) z h = elim (or_cases (nat_eq b.2 z) (list_any (λ b. nat_eq b.2 z) bs) h) [
      | inl now ↦ (b.0, b.1, ap (λ v. v || list_any (is_tie b.0 b.1 z) bs) (and_from _ _ (and_from _ _ (eq-eqb b.0 b.0 refl) (eq-eqb b.1 b.1 refl)) now))
      | inr later ↦ let rest = pointer bs z later in (rest.0, rest.1, or_right (is_tie rest.0 rest.1 z b) (list_any (is_tie rest.0 rest.1 z) bs) rest.2)
    ]

pub unties : (u : Universe) (old : List Action) → IsSteadfastRun u old → IsSteadfastRun u (old ++ idle_unbinds u (after_all u empty old)) × IsUntied u (after_all u empty old) (after_all u empty (old ++ idle_unbinds u (after_all u empty old)))
unties u old s =
    let c = after_all u empty old in
    (first_steady u all_go old (going_from_steady u old s) (may_all u c), subst (IsUntied u c) (sym (after_all-append u empty old (idle_unbinds u c))) (record { pairs = idle_pair u c; bindings = idle_bound u c }))

pub clears : (u : Universe) (old : List Action) → IsSteadfastRun u old → IsSteadfastRun u (old ++ cleared_by u old) × IsCleared u (after_all u empty old) (after_all u empty (old ++ cleared_by u old))
clears u old s =
    let go = going_from_steady u old s in
    let may = may_all u (at u old) in
    (steady_from_going u _ (cleared_goes u all_go old go may), subst (IsCleared u (after_all u empty old)) (sym (cleared_leaves u all_go old go may)) (left_cleared u old go))

-- ---- the whole, where nothing that goes is left

pub empty_members : (c : Config) → is_empty (members c) ≡ true → (z : ℕ) → pair_of c z ≡ None
empty_members c none z = by_value (pair_of c z) (λ h. keys-has c.instances z h) where
  nothing : (xs : List ℕ) → is_empty xs ≡ true → has xs z ≡ true → ⊥
  nothing [] e h = false≢true h
  nothing (x ∷ xs) e h = false≢true e

  by_value : (o : Option ℕ) → (IsSome o → has (members c) z ≡ true) → o ≡ None
  by_value None f = refl
  by_value (Some p) f = absurd (nothing (members c) none (f refl))

-- what is to be shown of a removal: it goes on after xs, makes none but the scaffold's, and leaves what stays
pub record Removed (u : Universe) (goes : ℕ → Bool) (name : ℕ → ℕ) (xs rest : List Action) : Type 0 where
  pub goes_on : GoesOn u [] (xs ++ rest)
  pub makes : (z : ℕ) → is_made rest z ≡ true → IsNamed name z
  pub without : IsWithout u goes (at u xs) (at u (xs ++ rest))

module _ (u : Universe) (goes : ℕ → Bool) (name : ℕ → ℕ) (xs : List Action) (none : is_empty (members (among goes (left u goes xs))) ≡ true) where
  -- the list
  pub short : removal u goes name (after_all u empty xs) ≡ cleared u goes xs
  short = ap (λ b. first_unbinds u goes (at u xs) ++ (unreferenced_deletes goes (untied u goes xs) ++ cond b [] (cycle_removal u name (among goes (left u goes xs))))) none
      ∙ ap (λ l. first_unbinds u goes (at u xs) ++ l) (append-nil (unreferenced_deletes goes (untied u goes xs)))

  module _ (go : GoesOn u [] xs) (may : MayGo u goes (at u xs)) where
    none_goes : (z : ℕ) → goes z ≡ true → pair_of (left u goes xs) z ≡ None
    none_goes z is = sym (ap (λ b. cond b (pair_of (left u goes xs) z) None) is) ∙ sym (pair_of-among goes (left u goes xs) z) ∙ empty_members (among goes (left u goes xs)) none z

    pub short_removed : Removed u goes name xs (cleared u goes xs)
    short_removed = record {
      goes_on = cleared_goes u goes xs go may;
      makes = λ z h. absurd (false≢true (sym (quiet_makes_none u (at u xs) (cleared u goes xs) z (cleared_quiet u goes xs go may)) ∙ h));
      without = subst (IsWithout u goes (at u xs)) (sym (cleared_leaves u goes xs go may)) (without_from u goes xs (left u goes xs)
          (λ z. elim (goes z) as (λ b. goes z ≡ b → pair_of (left u goes xs) z ≡ cond b None (pair_of (left u goes xs) z)) [
            | true ↦ λ is. none_goes z is
            | false ↦ λ _. refl
          ] refl)
          (λ r z y. elim (goes z) as (λ b. goes z ≡ b → is_bound (left u goes xs) r z y ≡ (not b && is_bound (left u goes xs) r z y)) [
            | true ↦ λ is. none_bound (left u goes xs) (left_good u goes xs go may).0 r z y (none_goes z is)
            | false ↦ λ _. refl
          ] refl));
    }

-- ---- a fresh list beside it, where all go

-- where the removal makes nothing that the fresh list makes
module _ (u : Universe) (name : ℕ → ℕ) (old fresh rest : List Action) (t : IsSteadfastRun u fresh) (r : Removed u all_go name old rest) (apart : (z : ℕ) → is_made (renumbered old fresh) z ≡ true → is_made rest z ≡ false) where
  pub rest_apart : (z : ℕ) → is_made (renumbered old fresh) z ≡ true → is_made (old ++ rest) z ≡ false
  rest_apart z h = list_any-append (is_new z) old rest ∙ (λ i. fresh_unused u old fresh (going_from_steady u fresh t) z h i || apart z h i)

  pub replaces : IsSteadfastRun u (old ++ (renumbered old fresh ++ rest)) × (after_all u empty (old ++ (renumbered old fresh ++ rest)) ≡ after_all u empty (renumbered old fresh))
  replaces = alone u old (renumbered old fresh) rest r.goes_on (fresh_goes u old fresh (going_from_steady u fresh t)) rest_apart r.without.pairs

-- the list, where the two first steps leave nothing
pub short_rollout : (u : Universe) (old fresh : List Action) → IsSteadfastRun u old → IsSteadfastRun u fresh → is_empty (members (after_all u empty (old ++ cleared_by u old))) ≡ true
    → (rollout u old fresh ≡ old ++ (renumbered old fresh ++ cleared_by u old)) × IsSteadfastRun u (rollout u old fresh) × (after_all u empty (rollout u old fresh) ≡ after_all u empty (renumbered old fresh))
short_rollout u old fresh s t none =
    let go = going_from_steady u old s in
    let may = may_all u (at u old) in
    let name = scaffold_name old fresh in
    let nothing : is_empty (members (among all_go (left u all_go old))) ≡ true = subst (λ c. is_empty (members c) ≡ true) (cleared_leaves u all_go old go may ∙ sym (among_all (left u all_go old))) none in
    let both = replaces u name old fresh (cleared_by u old) t (short_removed u all_go name old nothing go may) (λ z h. quiet_makes_none u (at u old) (cleared_by u old) z (cleared_quiet u all_go old go may)) in
    let e : rollout u old fresh ≡ old ++ (renumbered old fresh ++ cleared_by u old) = ap (λ l. old ++ (renumbered old fresh ++ l)) (short u all_go name old nothing) in
    (e, subst (IsSteadfastRun u) (sym e) both.0, ap (after_all u empty) e ∙ both.1)
