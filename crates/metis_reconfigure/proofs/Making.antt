-- What is made beside the old actions: a plan under new numbers, and the names of its targets.
use Rattle.std.proofs.Common.{◌≡◌, ℕ, zero, suc, ◌+◌, ◌-◌, ◌<◌, ◌≤◌, ◌^◌, true, List, [], ◌∷◌, ◌++◌, Option, Some, None, length, map, refl, sym, ap, ◌∙◌, subst, arith, nat_eq}
use Rattle.std.specs.List.{All, AllByRecursion, cons_option, flat_map, range_with_len, slice_index_or}
use Rattle.std.specs.Map.{lookup}
use Rattle.std.specs.Option.{option_map_or}
use Rattle.std.proofs.lemmas.List.Elements.{All-append, All-from_recursion, recursion_from_All}
use Rattle.metis_completion.proofs.Keeping.{completed_of}
use Rattle.metis_completion.proofs.ResidualRows.{residual_pairs}
use Rattle.metis_completion.specs.Terms.{completed, given_in}
use Rattle.metis_ids.specs.Terms.{Plan}
use Rattle.metis_ids.specs.declared.actions.Action.{Action}
use Rattle.metis_ids.specs.declared.actions.Action.TheVariants.{New, Delete, Bind, Unbind, Move}
use Rattle.metis_ids.specs.declared.goals.Goal.{Goal}
use Rattle.metis_layers.specs.Terms.{Layers, place_of}
use Rattle.metis_planner.specs.Terms.{IsPlanFor}
use Rattle.metis_rollout.proofs.Unused.{free_number-alike}
use Rattle.metis_rollout.proofs.Together.{has-news}
use Rattle.metis_rollout.specs.Terms.{all_but, free_number, fresh_name, named, news_of, removal, renumber, renumbered}
use Rattle.metis_universe.specs.Terms.{Config, IsOf, IsRun, IsSteadfastRun, IsTable, IsUniverse, Universe, empty, has, residual}
use Rattle.metis_wishes.specs.Terms.{avoided, rebound, rebound_of}
use Rattle.metis_wishes.specs.declared.wish.Wish.{Wish}
use Rattle.metis_reconfigure.specs.Terms.{AreAims, AreLeaving, AreStaying, IsAnswerable, IsAnswered, IsGround, IsList, IsMadeBeside, fresh_actions, given, joined, left_by, left_to_plan, named_targets, rebinds_of, rebound_actions, rebound_in, targets}
use Rattle.metis_reconfigure.proofs.Aiming.{aims_planned}
use Rattle.metis_reconfigure.proofs.Alone.{run_rest}
use Rattle.metis_reconfigure.proofs.Keeping.{every_bind}
use Rattle.metis_reconfigure.proofs.Joined.{joined_steady, target_made}
use Rattle.metis_reconfigure.proofs.Rebound.{in_rebinds, rebind_ties, rebinds_are}
use Rattle.metis_reconfigure.proofs.Served.{required_low}
use Rattle.metis_reconfigure.proofs.Short.{reconfigured_of, reconfigured_short}

-- ---- names

pub name_found : (old fresh : List Action) (used : List ℕ) (table : List (ℕ × ℕ)) (z : ℕ) → ((w : ℕ) → has used w ≡ has (news_of old) w)
    → lookup (nat_eq z) table ≡ Some (free_number used (place_of (news_of fresh) z)) → named table z ≡ fresh_name old fresh z
name_found old fresh used table z same is = ap (λ o. option_map_or (λ n. n) o z) is ∙ free_number-alike used (news_of old) same (place_of (news_of fresh) z)

range_same : {X : Type 0} (f g : ℕ → X) (a n : ℕ) → ((i : ℕ) → i < a + n → f i ≡ g i) → map f (range_with_len a n) ≡ map g (range_with_len a n)
range_same f g a zero same = refl
range_same f g a (suc n) same = λ i. same a (omega arith) i ∷ range_same f g (a + 1) n (λ j low. same j (omega arith)) i

-- the instances of the targets are named as the plan's are
pub targets_named : (u : Universe) (k : IsUniverse u) (wishes : List Wish) (old : List Action) (s : IsSteadfastRun u old) (leaving : List ℕ) (leave : AreLeaving u wishes (left_by u old) leaving) (ts : List ℕ) (plan : Plan)
    → IsPlanFor (left_to_plan u wishes (left_by u old) leaving) ts plan → (name : ℕ → ℕ) → ((z : ℕ) → has (news_of plan.actions) z ≡ true → name z ≡ fresh_name old plan.actions z)
    → named_targets name ts ≡ named_targets (fresh_name old plan.actions) ts
targets_named u k wishes old s leaving leave ts plan planned name same =
    range_same (λ n. (name n, slice_index_or ts n 0)) (λ n. (fresh_name old plan.actions n, slice_index_or ts n 0)) 0 (length ts)
    (λ n low. ap (λ m. (m, slice_index_or ts n 0)) (same n (has-news plan.actions n ∙ target_made u k wishes old s leaving leave ts plan planned n (omega arith))))

-- ---- numbers

module _ (u : Universe) (given : ℕ → ℕ) (avoided : List ℕ) where
  abbrev v : Universe
  v = residual u given avoided

  renumbered_of : (f : ℕ → ℕ) (a : Action) → IsOf v a → IsOf u (renumber f a)
  renumbered_of f (New z t) of = of
  renumbered_of f (Delete z) of = of
  renumbered_of f (Bind q z y) of = of
  renumbered_of f (Unbind q z y) of = of
  renumbered_of f (Move z p q) of =
      let same = residual_pairs u given avoided in
      (subst (λ n. p < n) same of.0, subst (λ n. q < n) same of.1)

  each_of : (f : ℕ → ℕ) (xs : List Action) → AllByRecursion (IsOf v) xs → AllByRecursion (IsOf u) (map (renumber f) xs)
  each_of f [] all = tt
  each_of f (a ∷ xs) all = (renumbered_of f a all.0, each_of f xs all.1)

  pub all_of : (f : ℕ → ℕ) (xs : List Action) → All (IsOf v) xs → All (IsOf u) (map (renumber f) xs)
  all_of f xs all = All-from_recursion (IsOf u) (map (renumber f) xs) (each_of f xs (recursion_from_All (IsOf v) xs all))

-- ---- all that is made beside

pub made_beside : (u : Universe) → IsUniverse u → (wishes : List Wish) (old : List Action) → IsSteadfastRun u old → (goals : List Goal) (c : Config) → c ≡ left_by u old
    → (avoids free leaving : List ℕ) (rows : List (List ℕ)) (left : Universe) (l : Layers) (ts zs : List ℕ) (plan : Plan) (table : List (ℕ × ℕ)) (fresh first whole : List Action) (used : List ℕ) (next : ℕ)
    → IsGround u wishes c avoids free leaving rows → AreAims u wishes c leaving goals left l ts zs → IsPlanFor left ts plan
    → fresh ≡ renumbered old plan.actions → first ≡ completed u (given_in rows) fresh
    → ((z : ℕ) → has (news_of plan.actions) z ≡ true → named table z ≡ fresh_name old plan.actions z)
    → ((gone targets : List ℕ) (name : ℕ → ℕ) → ((r : ℕ) → given_in rows r ≡ given u c gone r) → named_targets (named table) ts ≡ named_targets name targets
    → whole ≡ first ++ flat_map (rebinds_of u c gone targets name) zs)
    → ((z : ℕ) → has used z ≡ has (news_of old) z) → length used ≤ length old → next ≡ free_number used (length (news_of plan.actions))
    → IsMadeBeside u wishes old leaving goals whole plan used next
made_beside u k wishes old s goals c is avoids free leaving rows left l ts zs plan table fresh first whole used next g a p fresh_is first_is names rebound_is same few next_is =
    let d = left_by u old in
    let leave : AreLeaving u wishes d leaving = subst (λ e. AreLeaving u wishes e leaving) is g.there.leave in
    let planned : IsPlanFor (left_to_plan u wishes d leaving) (targets u wishes d leaving goals) plan =
    subst (λ e. IsPlanFor (left_to_plan u wishes e leaving) (targets u wishes e leaving goals) plan) is (aims_planned u wishes c leaving goals left l ts zs a plan p) in
    let wanted : ts ≡ targets u wishes d leaving goals = a.targets_are ∙ ap (λ e. targets u wishes e leaving goals) is in
    let name = fresh_name old plan.actions in
    let named_same : named_targets (named table) ts ≡ named_targets name (targets u wishes d leaving goals) =
    ap (named_targets (named table)) wanted ∙ targets_named u k wishes old s leaving leave (targets u wishes d leaving goals) plan planned (named table) names in
    let made : first ≡ fresh_actions u old leaving plan = first_is ∙ (λ i. completed u (λ r. (g.gives r ∙ ap (λ e. given u e leaving r) is) i) (fresh_is i)) in
    let anew : flat_map (rebinds_of u c leaving (targets u wishes d leaving goals) name) zs ≡ rebound_actions u wishes old leaving (targets u wishes d leaving goals) plan =
    (λ i. flat_map (rebinds_of u (is i) leaving (targets u wishes d leaving goals) name) ((a.free_are ∙ ap (rebound_in wishes) is) i)) in
    record {
      planned = planned;
      actions_are = rebound_is leaving (targets u wishes d leaving goals) name g.gives named_same ∙ (λ i. made i ++ anew i);
      used_are = same;
      few = few;
      next_is = next_is;
    }

-- ---- the list, where it is made from these

module _ (u : Universe) (k : IsUniverse u) (wishes : List Wish) (old : List Action) (s : IsSteadfastRun u old) (goals : List Goal) (leaving : List ℕ) (leave : AreLeaving u wishes (left_by u old) leaving)
    (acts : List Action) (plan : Plan) (used : List ℕ) (next : ℕ) (m : IsMadeBeside u wishes old leaving goals acts plan used next) where
  abbrev c : Config
  c = left_by u old

  abbrev ts : List ℕ
  ts = targets u wishes c leaving goals

  joined_is : old ++ acts ≡ joined u wishes old leaving ts plan
  joined_is = ap (λ l. old ++ l) m.actions_are

  pub both_steady : IsSteadfastRun u (old ++ acts)
  both_steady = subst (IsSteadfastRun u) (sym joined_is) (joined_steady u k wishes old s leaving leave ts plan m.planned)

  pub acts_run : IsRun u c acts
  acts_run = run_rest u empty old acts both_steady.run

  pub both_of : All (IsOf u) old → All (IsOf u) (old ++ acts)
  both_of of =
      let name = fresh_name old plan.actions in
      let fresh = fresh_actions u old leaving plan in
      let anew = rebound_actions u wishes old leaving ts plan in
      let bs = rebind_ties u wishes c leaving ts name in
      let first : All (IsOf u) fresh = completed_of u (given u c leaving) k (renumbered old plan.actions) (all_of u (λ r. length (given u c leaving r)) (avoided u wishes) name plan.actions m.planned.numbers) in
      let second : All (IsOf u) anew = subst (All (IsOf u)) (sym (rebinds_are u wishes c leaving ts name)) (every_bind (IsOf u) bs (λ b h.
      let at = in_rebinds u wishes c leaving ts name b.0 b.1 b.2 h in
      required_low u k at.pair b.0 at.needed)) in
      subst (λ l. All (IsOf u) (old ++ l)) (sym m.actions_are) (All-append (IsOf u) old (fresh ++ anew) of (All-append (IsOf u) fresh anew first second))

  pub is_list : (staying : List ℕ) → AreStaying u wishes c (left_by u (old ++ acts)) leaving goals staying → IsAnswerable u wishes old goals leaving → (whole : List Action)
      → whole ≡ (old ++ acts) ++ removal u (all_but staying) (λ n. free_number used (length (news_of plan.actions) + n)) (left_by u (old ++ acts)) → IsList u wishes old goals whole
  is_list staying stay ans whole is = (
    record {
      leaving = leaving;
      leave = leave;
      plan = plan;
      planned = m.planned;
      staying = staying;
      stay = subst (λ l. AreStaying u wishes c (left_by u l) leaving goals staying) joined_is stay;
    },
    ans,
    is ∙ (λ i. joined_is i ++ removal u (all_but staying) (λ n. free_number-alike used (news_of old) m.used_are (length (news_of plan.actions) + n) i) (left_by u (joined_is i))),
  )

-- ---- it is short, and of the universe

rebound_most : (wishes : List Wish) → length (rebound wishes) ≤ length wishes
rebound_most [] = omega arith
rebound_most (w ∷ ws) = by (rebound_of w) (rebound_most ws) where
  by : (o : Option ℕ) → length (rebound ws) ≤ length ws → length (cons_option o (rebound ws)) ≤ suc (length ws)
  by None h = omega (arith, h)
  by (Some z) h = omega (arith, h)

pub list_told : (u : Universe) → IsTable u → (wishes : List Wish) (old : List Action) (goals : List Goal) → IsSteadfastRun u old → All (IsOf u) old → length old < 2 ^ 28 → length wishes ≤ 65536
    → (whole : List Action) → IsList u wishes old goals whole → All (IsOf u) whole × (length whole < 2 ^ 32 - 1)
list_told u table wishes old goals s of few lines whole l =
    let r = l.0 in
    let ans : IsAnswered u wishes old goals r = record { steady = s; answerable = l.1 } in (
      subst (All (IsOf u)) (sym l.2) (reconfigured_of u table.universe wishes old s goals r of),
      subst (λ xs. length xs < 2 ^ 32 - 1) (sym l.2) (reconfigured_short u table wishes old goals r ans few (omega (arith, lines, rebound_most wishes))),
    )
