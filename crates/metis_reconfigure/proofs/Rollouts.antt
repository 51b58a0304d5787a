-- Without goals and wishes, and where all that stands leaves, a reconfiguration is a rollout.
use Rattle.std.proofs.Common.{◌≡◌, ℕ, Bool, true, false, cond, not, ◌&&◌, List, [], ◌∷◌, ◌++◌, Option, Some, None, length, append_assoc, refl, sym, ap, ◌∙◌, subst, arith, nat_eq}
use Rattle.std.specs.Prelude.{nat_le, IsFalse, IsSome, IsSomeAnd, IsTrue}
use Rattle.std.specs.List.{All, cons_option, filter, filter_map, find, flat_map}
use Rattle.std.specs.Option.{option_map_or}
use Rattle.std.proofs.lemmas.Bool.{and_from, and_parts, both_ways, eq-eqb, false_from_ne_true, false≢true, le-leb, not-false, not-true, not_from_false, or_left, or_right}
use Rattle.std.proofs.lemmas.List.{append-nil}
use Rattle.std.proofs.lemmas.List.Elements.{All-head, All-tail}
use Rattle.metis_ids.specs.declared.actions.Action.{Action}
use Rattle.metis_ids.specs.declared.goals.Goal.{Goal}
use Rattle.metis_ids.specs.declared.goals.Goal.TheVariants.{Pair, Port}
use Rattle.metis_choice.proofs.Resolving.{attained_where_none}
use Rattle.metis_choice.specs.Terms.{ArePairsFor}
use Rattle.metis_completion.proofs.Nothing.{completed_none, residual_none}
use Rattle.metis_completion.specs.Terms.{completed}
use Rattle.metis_ids.proofs.Lists.{has-append, has-filter, some_member}
use Rattle.metis_planner.specs.Terms.{IsPlanFor}
use Rattle.metis_rollout.proofs.Alone.{removal_alone}
use Rattle.metis_rollout.proofs.Among.{IsConfig-among, is_bound-among, pair_of-among}
use Rattle.metis_layers.specs.Terms.{attained_pairs, place_of}
use Rattle.metis_rollout.proofs.Unused.{free_number-free}
use Rattle.metis_rollout.proofs.Going.{going_from_steady}
use Rattle.metis_rollout.proofs.Quiet.{has-keys, keys-has}
use Rattle.metis_rollout.proofs.Removal.{left_config, left_correct}
use Rattle.metis_rollout.proofs.Together.{fresh_goes, has-news, together, touches_own}
use Rattle.metis_rollout.proofs.Touching.{At, pair_touched}
use Rattle.metis_rollout.specs.Terms.{AreTogether, GoesApart, IsRenamed, all_but, all_go, among, fresh_name, is_idle, is_made, members, news_of, removal, renumbered, rollout, scaffold_name}
use Rattle.metis_universe.proofs.Same.{same_config}
use Rattle.metis_universe.specs.Terms.{AttainsGoals, Config, HoldsGoals, IsConfig, IsSteadfastRun, IsUniverse, Universe, after_all, empty, has, is_bound, is_provided, lacks, pair_of, places_of, provider_of, provides, requires, residual, serves}
use Rattle.metis_wishes.specs.Terms.{avoided, keeps_all, kept, rebound}
use Rattle.metis_wishes.specs.declared.wish.Wish.{Wish}
use Rattle.metis_reconfigure.specs.Terms.{AreStaying, IsReached, Reconfiguration, StayFor, StaysToo, before_removal, fresh_actions, fresh_in, given, gives, holds_up, left_by, left_to_plan, missing, missing_behind, next, next_serving, pair_for, rebinds_of, rebound_actions, reconfigured, serving_among, settled, start, targets, those_in, wished}
use Rattle.metis_reconfigure.proofs.Answering.{none_rebound, targets_for_goals}
use Rattle.metis_reconfigure.proofs.Given.{edge_from}
use Rattle.metis_reconfigure.proofs.InTheEnd.{no_root, none_leaves, nothing_for_nothing}
use Rattle.metis_reconfigure.proofs.Lists.{by_case}
use Rattle.metis_reconfigure.proofs.NothingMissing.{no_actions}
use Rattle.metis_reconfigure.proofs.Stays.{in_members}
use Rattle.metis_reconfigure.proofs.Unavoided.{attained_provider}

filter_here : (t : ℕ → Bool) (xs : List ℕ) → ((x : ℕ) → has xs x ≡ true → t x ≡ false) → filter t xs ≡ []
filter_here t [] none = refl
filter_here t (x ∷ xs) none =
    ap (λ b. cond b (x ∷ filter t xs) (filter t xs)) (none x (or_left (nat_eq x x) (has xs x) (eq-eqb x x refl)))
    ∙ filter_here t xs (λ y h. none y (or_right (nat_eq x y) (has xs y) h))

is_fresh : (c d : Config) (z : ℕ) → has (members c) z ≡ false → has (members d) z ≡ true → has (fresh_in c d) z ≡ true
is_fresh c d z new there = has-filter (λ x. not (has (members c) x)) z (members d) ∙ and_from (not (has (members c) z)) (has (members d) z) (not_from_false (has (members c) z) new) there

fresh_is : (c d : Config) (z : ℕ) → has (fresh_in c d) z ≡ true → (has (members c) z ≡ false) × (has (members d) z ≡ true)
fresh_is c d z h =
    let parts = and_parts (not (has (members c) z)) (has (members d) z) (sym (has-filter (λ x. not (has (members c) x)) z (members d)) ∙ h) in
    (not-true (has (members c) z) parts.0, parts.1)

none_either : (b : Bool) → cond {A = Option ℕ} b None None ≡ None
none_either true = refl
none_either false = refl

-- ---- without goals and wishes

module _ (u : Universe) (old : List Action) (r : Reconfiguration u [] old []) (s : IsSteadfastRun u old) where
  abbrev stood : Config
  stood = left_by u old

  no_one_leaves : (z : ℕ) → IsFalse (has r.leaving z)
  no_one_leaves = none_leaves u [] stood r.leaving r.leave (no_root u stood)

  none_held : HoldsGoals u stood []
  none_held g = omega arith

  as_before : before_removal r ≡ old
  as_before = nothing_for_nothing u [] old [] r s no_one_leaves none_held

  no_plan : r.plan.actions ≡ []
  no_plan = no_actions u [] old [] r (record {
    none = no_one_leaves;
    config = left_config u old (going_from_steady u old s);
    correct = left_correct u old (going_from_steady u old s);
    held = none_held;
  })

  none_begun : (x : ℕ) → IsReached (wished [] stood r.leaving ++ fresh_in stood (left_by u (before_removal r))) (holds_up u (left_by u (before_removal r)) r.leaving) x → ⊥
  none_begun x (start _ is) =
      let fresh = fresh_is stood (left_by u (before_removal r)) x is in
      both_ways (has (members stood) x) fresh.0 (ap (λ xs. has (members (left_by u xs)) x) (sym as_before) ∙ fresh.1)
  none_begun x (next y _ from edge) = none_begun y from

  all_gone : (z : ℕ) → all_but r.staying z ≡ all_go z
  all_gone z = ap not (false_from_ne_true (has r.staying z) (λ h. none_begun z ((r.stay.first z).0 (ap (λ zs. has zs z) (sym r.stay.rest) ∙ h))))

  -- it is the teardown
  pub teardown : reconfigured r ≡ rollout u old []
  teardown = λ i. as_before i ++ removal u (λ z. all_gone z i) (scaffold_name old (no_plan i)) (left_by u (as_before i))

-- ---- where no settled instance can be added

stays_begun : (u : Universe) (c d : Config) (leaving : List ℕ) → settled c leaving ≡ [] → (earlier goals : List Goal) (from to : List ℕ) → StayFor u c d leaving earlier goals from to → to ≡ from
stays_begun u c d leaving none earlier [] from to stays = stays
stays_begun u c d leaving none earlier (g ∷ goals) from to stays =
    stays_begun u c d leaving none (earlier ++ g ∷ []) goals (stays.0) to stays.2 ∙ one (nat_le (serving_among u d (those_in d from) g) (places_of earlier g)) stays.1 where
      one : (b : Bool) → StaysToo u d leaving from (cond b (next_serving u c leaving from g) None) (stays.0) → stays.0 ≡ from
      one true same =
          let none_next : next_serving u c leaving from g ≡ None = ap (find (λ z. option_map_or (λ p. serves u p g) (pair_of c z) false && not (has from z))) none in
          subst (λ o. StaysToo u d leaving from o (stays.0)) none_next same
      one false same = same

-- ---- where all leaves

module _ (u : Universe) (k : IsUniverse u) (wishes : List Wish) (old : List Action) (s : IsSteadfastRun u old) (goals : List Goal) (r : Reconfiguration u wishes old goals)
    (none_avoided : avoided u wishes ≡ []) (no_kept : kept wishes ≡ []) (no_rebound : rebound wishes ≡ []) (all : (z : ℕ) → has (members (left_by u old)) z ≡ true → has r.leaving z ≡ true) where
  abbrev c : Config
  c = left_by u old

  abbrev ts : List ℕ
  ts = targets u wishes c r.leaving goals

  abbrev new : List Action
  new = renumbered old r.plan.actions

  abbrev name : ℕ → ℕ
  name = fresh_name old r.plan.actions

  none_settled : settled c r.leaving ≡ []
  none_settled = filter_here (λ z. not (has r.leaving z)) (members c) (λ z h. ap not (all z h))

  none_given : given u c r.leaving ≡ (λ q. [])
  none_given = λ i q. filter (gives u c q) (none_settled i)

  all_left : left_to_plan u wishes c r.leaving ≡ u
  all_left = (λ i. residual u (λ q. length (none_given i q)) (none_avoided i)) ∙ residual_none u k

  missing_from : (earlier gs : List Goal) → missing_behind u c [] earlier gs ≡ gs
  missing_from earlier [] = refl
  missing_from earlier (g ∷ gs) =
      ap (λ b. cond b (g ∷ missing_behind u c [] (earlier ++ g ∷ []) gs) (missing_behind u c [] (earlier ++ g ∷ []) gs)) (le-leb (serving_among u c [] g) (places_of earlier g) (omega arith))
      ∙ ap (λ xs. g ∷ xs) (missing_from (earlier ++ g ∷ []) gs)

  missing_all : missing u c r.leaving goals ≡ goals
  missing_all = ap (λ zs. missing_behind u c zs [] goals) none_settled ∙ missing_from [] goals

  pub targets_are : ts ≡ filter_map (pair_for u) goals
  targets_are = targets_for_goals u wishes c r.leaving goals no_rebound ∙ (λ i. filter_map (pair_for (all_left i)) (missing_all i))

  -- the plan is one over the universe, for the pairs of the goals
  pub planned_over_all : IsPlanFor u (filter_map (pair_for u) goals) r.plan
  planned_over_all = subst (λ xs. IsPlanFor u xs r.plan) targets_are (subst (λ w. IsPlanFor w ts r.plan) all_left r.planned)

  fresh_alone : fresh_actions u old r.leaving r.plan ≡ new
  fresh_alone = (λ i. completed u (none_given i) new) ∙ completed_none u new

  none_rebinds : rebound_actions u wishes old r.leaving ts r.plan ≡ []
  none_rebinds = ap (flat_map (rebinds_of u c r.leaving ts name)) (none_rebound wishes c no_rebound)

  before : before_removal r ≡ old ++ new
  before = (λ i. old ++ (fresh_alone i ++ none_rebinds i)) ∙ ap (λ xs. old ++ xs) (append-nil new)

  -- ---- what stands then

  abbrev d : Config
  d = left_by u (old ++ new)

  abbrev n : Config
  n = after_all u empty new

  both : IsSteadfastRun u (old ++ new) × AreTogether u old new d × IsRenamed name r.plan.actions (after_all u empty r.plan.actions) n
  both = together u old r.plan.actions s planned_over_all.run

  c_config : IsConfig c
  c_config = left_config u old (going_from_steady u old s)

  d_config : IsConfig d
  d_config = left_config u (old ++ new) (going_from_steady u (old ++ new) both.0)

  stay : AreStaying u wishes c d r.leaving goals r.staying
  stay = subst (λ e. AreStaying u wishes c e r.leaving goals r.staying) (ap (left_by u) before) r.stay

  staying_begun : r.staying ≡ stay.begun
  staying_begun = stays_begun u c d r.leaving none_settled [] goals stay.begun r.staying stay.rest

  none_wished : wished wishes c r.leaving ≡ []
  none_wished = (λ i. no_kept i ++ (no_rebound i ++ cond (keeps_all wishes) (none_settled i) [])) ∙ either (keeps_all wishes) where
    either : (b : Bool) → cond {A = List ℕ} b [] [] ≡ []
    either true = refl
    either false = refl

  old_gone : (z : ℕ) → has r.leaving z ≡ false → has (members c) z ≡ false
  old_gone z off = false_from_ne_true (has (members c) z) (λ h. both_ways (has r.leaving z) off (all z h))

  reached_fresh : (x : ℕ) → IsReached (wished wishes c r.leaving ++ fresh_in c d) (holds_up u d r.leaving) x → has (fresh_in c d) x ≡ true
  reached_fresh x (start _ is) = ap (λ xs. has (xs ++ fresh_in c d) x) (sym none_wished) ∙ is
  reached_fresh x (next y _ from edge) =
      let e = edge_from (λ b. (b.1, b.2, b.0)) (λ b. not (is_idle u d b) && not (has r.leaving b.2)) d.bindings y x edge in
      let b = e.binding in
      let off : has r.leaving x ≡ false = ap (has r.leaving) (sym e.to) ∙ not-true (has r.leaving b.2) (and_parts (not (is_idle u d b)) (not (has r.leaving b.2)) e.passes).1 in
      is_fresh c d x (old_gone x off) (ap (has (members d)) (sym e.to) ∙ keys-has d.instances b.2 (d_config.provider b.0 b.1 b.2 e.among))

  abbrev goes : ℕ → Bool
  goes = all_but r.staying

  -- what stood goes, and nothing else that stands
  goes_is : (z : ℕ) → IsSome (pair_of d z) → goes z ≡ has (members c) z
  goes_is z there = by_case (has (members c) z) (goes z ≡ has (members c) z)
      (λ old_one. ap not (false_from_ne_true (has r.staying z) (λ h.
      both_ways (has (members c) z) (fresh_is c d z (reached_fresh z ((stay.first z).0 (ap (λ zs. has zs z) (sym staying_begun) ∙ h)))).0 old_one)) ∙ sym old_one)
      (λ fresh_one. ap not (ap (λ zs. has zs z) staying_begun ∙ (stay.first z).1 (start z
      (has-append (wished wishes c r.leaving) (fresh_in c d) z ∙ or_right (has (wished wishes c r.leaving) z) (has (fresh_in c d) z) (is_fresh c d z fresh_one (keys-has d.instances z there))))) ∙ sym fresh_one)

  made_old : (z : ℕ) → has (members c) z ≡ true → is_made old z ≡ true
  made_old z h = pair_touched (At (is_made old)) u z old (touches_own u old (going_from_steady u old s)) (has-keys c.instances z h)

  not_old : (z : ℕ) → is_made old z ≡ false → has (members c) z ≡ false
  not_old z off = false_from_ne_true (has (members c) z) (λ h. both_ways (is_made old z) off (made_old z h))

  n_config : IsConfig n
  n_config = left_config u new (fresh_goes u old r.plan.actions (going_from_steady u r.plan.actions planned_over_all.run))

  -- what the plan leaves has a name that old does not use
  named_anew : (z : ℕ) → IsSome (pair_of n z) → is_made old z ≡ false
  named_anew z there =
      let of = both.2.only z there in
      ap (is_made old) (sym of.2) ∙ (sym (has-news old (name of.0)) ∙ free_number-free (news_of old) (place_of (news_of r.plan.actions) of.0))

  -- both ends of a binding stood, or neither
  ends_alike : (q z y : ℕ) → is_bound d q z y ≡ true → has (members c) z ≡ has (members c) y
  ends_alike q z y bound = by_case (is_made old z) (has (members c) z ≡ has (members c) y)
      (λ made.
      let at : is_bound c q z y ≡ true = sym (both.1.old_bindings q z y made) ∙ bound in
      keys-has c.instances z (c_config.requirer q z y at) ∙ sym (keys-has c.instances y (c_config.provider q z y at)))
      (λ off.
      let at : is_bound n q z y ≡ true = sym (both.1.new_bindings q z y off) ∙ bound in
      not_old z off ∙ sym (not_old y (named_anew y (n_config.provider q z y at))))

  -- each binding of a fresh instance is required
  plan_required : (q z y : ℕ) → is_bound n q z y ≡ true → option_map_or (λ p. requires u p q) (pair_of n z) false ≡ true
  plan_required q z y bound =
      let from = both.2.only z (n_config.requirer q z y bound) in
      let to = both.2.only y (n_config.provider q z y bound) in
      let named : is_bound n q (name from.0) (name to.0) ≡ true = subst (λ w. is_bound n q (name from.0) w ≡ true) (sym to.2) (subst (λ w. is_bound n q w y ≡ true) (sym from.2) bound) in
      let at : is_bound (after_all u empty r.plan.actions) q from.0 to.0 ≡ true = sym (both.2.bindings q from.0 to.0 from.1 to.1) ∙ named in
      let same : pair_of n z ≡ pair_of (after_all u empty r.plan.actions) from.0 = ap (pair_of n) (sym from.2) ∙ both.2.pairs from.0 from.1 in
      ap (λ o. option_map_or (λ p. requires u p q) o false) same ∙ by (pair_of (after_all u empty r.plan.actions) from.0) (planned_over_all.tidy.bindings q from.0 to.0 at) where
        by : (o : Option ℕ) → IsSomeAnd o (λ p. IsTrue (requires u p q)) → option_map_or (λ p. requires u p q) o false ≡ true
        by None h = absurd h
        by (Some p) h = h

  stands_apart : GoesApart u goes d
  stands_apart = record {
    apart = λ q z y bound. goes_is z (d_config.requirer q z y bound) ∙ (ends_alike q z y bound ∙ sym (goes_is y (d_config.provider q z y bound)));
    required = λ q z y bound stays. by_case (is_made old z) (option_map_or (λ p. requires u p q) (pair_of d z) false ≡ true)
        (λ made.
        let at : is_bound c q z y ≡ true = sym (both.1.old_bindings q z y made) ∙ bound in
        absurd (both_ways (has (members c) z) (sym (goes_is z (d_config.requirer q z y bound)) ∙ stays) (keys-has c.instances z (c_config.requirer q z y at))))
        (λ off. ap (λ o. option_map_or (λ p. requires u p q) o false) (both.1.new_pairs z off) ∙ plan_required q z y (sym (both.1.new_bindings q z y off) ∙ bound));
  }

  -- what goes is what stood
  gone_pair : (z : ℕ) → pair_of (among goes d) z ≡ pair_of c z
  gone_pair z = pair_of-among goes d z ∙ by_case (is_made old z) (cond (goes z) (pair_of d z) None ≡ pair_of c z)
      (λ made. old_pair (pair_of d z) refl (both.1.old_pairs z made))
      (λ off. new_pair (pair_of d z) refl (not_old z off) (pair_of c z) refl) where
        old_pair : (o : Option ℕ) → pair_of d z ≡ o → pair_of d z ≡ pair_of c z → cond (goes z) o None ≡ pair_of c z
        old_pair None is same = none_either (goes z) ∙ (sym is ∙ same)
        old_pair (Some p) is same =
            let goes_now = goes_is z (subst IsSome (sym is) refl) ∙ in_members c z p (sym same ∙ is) in
            ap (λ b. cond b (Some p) None) goes_now ∙ (sym is ∙ same)

        new_pair : (o : Option ℕ) → pair_of d z ≡ o → has (members c) z ≡ false → (w : Option ℕ) → pair_of c z ≡ w → cond (goes z) o None ≡ w
        new_pair o is out (Some p) was = absurd (both_ways (has (members c) z) out (in_members c z p was))
        new_pair None is out None was = none_either (goes z)
        new_pair (Some p) is out None was = ap (λ b. cond b (Some p) None) (goes_is z (subst IsSome (sym is) refl) ∙ out)

  gone_bound : (q z y : ℕ) → is_bound (among goes d) q z y ≡ is_bound c q z y
  gone_bound q z y = is_bound-among goes d q z y ∙ by_case (is_bound d q z y) (((goes z && goes y) && is_bound d q z y) ≡ is_bound c q z y)
      (λ bound. by_case (is_made old z) (((goes z && goes y) && is_bound d q z y) ≡ is_bound c q z y)
      (λ made.
      let same = both.1.old_bindings q z y made in
      let at : is_bound c q z y ≡ true = sym same ∙ bound in
      let first = goes_is z (d_config.requirer q z y bound) ∙ keys-has c.instances z (c_config.requirer q z y at) in
      let second = goes_is y (d_config.provider q z y bound) ∙ keys-has c.instances y (c_config.provider q z y at) in
      and_from (goes z && goes y) (is_bound d q z y) (and_from (goes z) (goes y) first second) bound ∙ sym at)
      (λ off. ap (λ b. (b && goes y) && is_bound d q z y) (goes_is z (d_config.requirer q z y bound) ∙ not_old z off)
      ∙ sym (false_from_ne_true (is_bound c q z y) (λ was. both_ways (is_made old z) off (made_old z (keys-has c.instances z (c_config.requirer q z y was)))))))
      (λ unbound. ap (λ b. (goes z && goes y) && b) unbound ∙ (never (goes z && goes y)
      ∙ sym (false_from_ne_true (is_bound c q z y) (λ was. both_ways (is_bound d q z y) unbound
      (both.1.old_bindings q z y (made_old z (keys-has c.instances z (c_config.requirer q z y was))) ∙ was))))) where
        never : (b : Bool) → (b && false) ≡ false
        never true = refl
        never false = refl

  gone : among goes d ≡ c
  gone = same_config (among goes d) c (IsConfig-among goes d d_config) c_config gone_pair gone_bound

  -- it is the rollout of the plan
  pub is_rollout : reconfigured r ≡ rollout u old r.plan.actions
  is_rollout =
      (λ i. before i ++ removal u goes (scaffold_name old r.plan.actions) (left_by u (before i)))
      ∙ (ap (λ xs. (old ++ new) ++ xs) (removal_alone u goes (scaffold_name old r.plan.actions) d stands_apart ∙ ap (removal u all_go (scaffold_name old r.plan.actions)) gone)
      ∙ append_assoc old new (removal u all_go (scaffold_name old r.plan.actions) c))

-- ---- the pairs of the goals

-- where the goals are attained, these are the pairs for them
pub pairs_for : (u : Universe) → IsUniverse u → (goals : List Goal) → AttainsGoals u goals → ArePairsFor u goals (filter_map (pair_for u) goals)
pairs_for u k goals attained = each goals ((attained_where_none u k goals).0 attained) where
  port : (r : ℕ) (gs : List Goal) → IsSome (provider_of u r) → ArePairsFor u gs (filter_map (pair_for u) gs) → (o : Option ℕ) → provider_of u r ≡ o → ArePairsFor u (Port r ∷ gs) (cons_option o (filter_map (pair_for u) gs))
  port r gs there rest None is = absurd (false≢true (subst IsSome is there))
  port r gs there rest (Some p) is = (is, rest)

  each : (gs : List Goal) → All (λ g. IsFalse (lacks u (attained_pairs u) g)) gs → ArePairsFor u gs (filter_map (pair_for u) gs)
  each [] all = tt
  each (Pair p ∷ gs) all = (refl, each gs (All-tail (λ g. IsFalse (lacks u (attained_pairs u) g)) (Pair p) gs all))
  each (Port r ∷ gs) all =
      let rest = each gs (All-tail (λ g. IsFalse (lacks u (attained_pairs u) g)) (Port r) gs all) in
      let off = All-head (λ g. IsFalse (lacks u (attained_pairs u) g)) (Port r) gs all in
      let at = some_member (λ y. provides u y r) (attained_pairs u) (not-false (is_provided u (attained_pairs u) r) off) in
      port r gs (attained_provider u r at.0 at.1 at.2) rest (provider_of u r) refl
