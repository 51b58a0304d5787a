-- Where all stays and each binding is required, nothing is removed.
use Rattle.std.proofs.Common.{◌≡◌, ℕ, zero, suc, Bool, true, false, cond, not, ◌&&◌, ◌||◌, List, [], ◌∷◌, ◌++◌, None, length, map, refl, sym, ap, ◌∙◌, subst, nat_eq, inl, inr}
use Rattle.std.specs.Prelude.{IsFalse, IsSome, IsTrue}
use Rattle.std.specs.List.{filter, list_any}
use Rattle.std.specs.Option.{option_map_or}
use Rattle.std.proofs.lemmas.Bool.{and_from, and_parts, both_ways, eq-eqb, false_from_ne_true, false≢true, or_cases, or_from, or_left, or_right}
use Rattle.std.proofs.lemmas.List.{append-nil}
use Rattle.metis_ids.proofs.Finding.{find_none}
use Rattle.metis_ids.specs.declared.actions.Action.{Action}
use Rattle.metis_ids.specs.declared.actions.Action.TheVariants.{Delete}
use Rattle.metis_ids.specs.declared.goals.Goal.{Goal}
use Rattle.metis_rollout.proofs.Among.{has-among}
use Rattle.metis_rollout.proofs.Quiet.{has-keys}
use Rattle.metis_rollout.specs.Terms.{all_but, among, cycle_removal, ends_first, first_unbinds, is_idle, is_referenced, left_of, members, next_unreferenced, removal, scaffold_name, unbind, unreferenced_deletes, unreferenced_deletes_within, untied_of}
use Rattle.metis_universe.specs.Terms.{Binding, Config, HoldsGoals, IsConfig, IsSteadfastRun, Universe, after_all, has, is_bound, is_empty, is_tie, pair_of, remove, requires}
use Rattle.metis_wishes.specs.declared.wish.Wish.{Wish}
use Rattle.metis_reconfigure.specs.Terms.{Reconfiguration, before_removal, left_by, reconfigured}
use Rattle.metis_rollout.proofs.Going.{going_from_steady}
use Rattle.metis_rollout.proofs.Removal.{left_config}
use Rattle.metis_reconfigure.proofs.InTheEnd.{nothing_for_nothing}

-- a binding that passes
record PassingBinding (t : Binding → Bool) (bs : List Binding) : Type 0 where
  binding : Binding
  there : list_any (is_tie binding.0 binding.1 binding.2) bs ≡ true
  passes : t binding ≡ true

some_binding : (t : Binding → Bool) (bs : List Binding) → list_any t bs ≡ true → PassingBinding t bs
some_binding t [] h = absurd (false≢true h)
some_binding t (b ∷ bs) h = elim (or_cases (t b) (list_any t bs) h) [
  | inl now ↦ record {
    binding = b;
    there = or_left (is_tie b.0 b.1 b.2 b) (list_any (is_tie b.0 b.1 b.2) bs)
        (and_from (nat_eq b.0 b.0 && nat_eq b.1 b.1) (nat_eq b.2 b.2) (and_from (nat_eq b.0 b.0) (nat_eq b.1 b.1) (eq-eqb b.0 b.0 refl) (eq-eqb b.1 b.1 refl)) (eq-eqb b.2 b.2 refl));
    passes = now;
  }
  | inr later ↦
      let rest = some_binding t bs later in
      record { binding = rest.binding; there = or_right (is_tie rest.binding.0 rest.binding.1 rest.binding.2 b) (list_any (is_tie rest.binding.0 rest.binding.1 rest.binding.2) bs) rest.there; passes = rest.passes }
]

none_filtered : (t : Binding → Bool) (bs : List Binding) → list_any t bs ≡ false → filter t bs ≡ []
none_filtered t [] none = refl
none_filtered t (b ∷ bs) none = by (t b) none (none_filtered t bs) where
  by : (v : Bool) → (v || list_any t bs) ≡ false → (list_any t bs ≡ false → filter t bs ≡ []) → cond v (b ∷ filter t bs) (filter t bs) ≡ []
  by true none rest = absurd (false≢true (sym none))
  by false none rest = rest none

empty_where_none : (xs : List ℕ) → ((x : ℕ) → has xs x ≡ true → ⊥) → is_empty xs ≡ true
empty_where_none [] none = refl
empty_where_none (x ∷ xs) none = absurd (none x (or_left (nat_eq x x) (has xs x) (eq-eqb x x refl)))

module _ (u : Universe) (goes : ℕ → Bool) (name : ℕ → ℕ) (c : Config) (k : IsConfig c) (stays : (z : ℕ) → IsSome (pair_of c z) → goes z ≡ false)
    (required : (r z y : ℕ) → IsTrue (is_bound c r z y) → IsTrue (option_map_or (λ p. requires u p r) (pair_of c z) false)) where
  none_first : first_unbinds u goes c ≡ []
  none_first = ap (map unbind) (none_filtered (ends_first u goes c) c.bindings (false_from_ne_true (list_any (ends_first u goes c) c.bindings) (λ some.
      let b = some_binding (ends_first u goes c) c.bindings some in
      let r = b.binding.0 in let z = b.binding.1 in let y = b.binding.2 in
      let last : goes y ≡ false = stays y (k.provider r z y b.there) in
      let used : is_idle u c b.binding ≡ false = ap not (required r z y b.there) in
      both_ways (ends_first u goes c b.binding) (or_from (not (goes z) && goes y) (is_idle u c b.binding) (never (not (goes z)) (goes y) last) used) b.passes))) where
        never : (a b : Bool) → b ≡ false → (a && b) ≡ false
        never true b off = off
        never false b off = refl

  untied_same : untied_of u goes c ≡ c
  untied_same = ap (after_all u c) none_first

  none_next : next_unreferenced goes c ≡ None
  none_next = find_none (λ z. goes z && not (is_referenced c z)) (members c) (λ z there. ap (λ b. b && not (is_referenced c z)) (stays z (has-keys c.instances z there)))

  none_deleted : (n : ℕ) → unreferenced_deletes_within goes n c ≡ []
  none_deleted zero = refl
  none_deleted (suc n) = ap (λ o. option_map_or (λ z. Delete z ∷ unreferenced_deletes_within goes n (remove c z)) o []) none_next

  left_same : left_of u goes c ≡ c
  left_same = ap (λ d. after_all u d (unreferenced_deletes goes d)) untied_same ∙ ap (after_all u c) (none_deleted (length (members c)))

  none_among : is_empty (members (among goes c)) ≡ true
  none_among = empty_where_none (members (among goes c)) (λ z there.
      let parts = and_parts (goes z) (has (members c) z) (sym (has-among goes c z) ∙ there) in
      both_ways (goes z) (stays z (has-keys c.instances z parts.1)) parts.0)

  abbrev last_part : List Action
  last_part = cond (is_empty (members (among goes (left_of u goes c)))) [] (cycle_removal u name (among goes (left_of u goes c)))

  none_last : last_part ≡ []
  none_last = ap (λ b. cond b [] (cycle_removal u name (among goes (left_of u goes c)))) (subst (λ d. is_empty (members (among goes d)) ≡ true) (sym left_same) none_among)

  pub nothing_removed : removal u goes name c ≡ []
  nothing_removed =
      ap (λ xs. xs ++ (unreferenced_deletes goes (untied_of u goes c) ++ last_part)) none_first
      ∙ (ap (λ d. unreferenced_deletes goes d ++ last_part) untied_same
      ∙ (ap (λ xs. xs ++ last_part) (none_deleted (length (members c))) ∙ none_last))

-- where nothing leaves, the goals are held, all stays and each binding is required, nothing is done
pub nothing_done : (u : Universe) (wishes : List Wish) (old : List Action) (goals : List Goal) (r : Reconfiguration u wishes old goals) → IsSteadfastRun u old
    → ((z : ℕ) → IsFalse (has r.leaving z)) → HoldsGoals u (left_by u old) goals → ((z : ℕ) → IsSome (pair_of (left_by u old) z) → IsTrue (has r.staying z))
    → ((s z y : ℕ) → IsTrue (is_bound (left_by u old) s z y) → IsTrue (option_map_or (λ p. requires u p s) (pair_of (left_by u old) z) false))
    → reconfigured r ≡ old
nothing_done u wishes old goals r steady none held stay required =
    let before = nothing_for_nothing u wishes old goals r steady none held in
    let gone : removal u (all_but r.staying) (scaffold_name old r.plan.actions) (left_by u (before_removal r)) ≡ [] =
    ap (λ xs. removal u (all_but r.staying) (scaffold_name old r.plan.actions) (left_by u xs)) before
    ∙ nothing_removed u (all_but r.staying) (scaffold_name old r.plan.actions) (left_by u old) (left_config u old (going_from_steady u old steady)) (λ z there. ap not (stay z there)) required in
    ap (λ xs. before_removal r ++ xs) gone ∙ (append-nil (before_removal r) ∙ before)
