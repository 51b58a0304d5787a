-- Goals have a plan or a refusal, and from a steadfast run a rollout or a refusal.
use Rattle.std.proofs.Common.{◌≡◌, ◌⊎◌, ◌≤◌, ℕ, true, false, List, [], ◌∷◌, Option, Some, None, find, length, refl, sym, ◌∙◌, subst, arith, inl, inr}
use Rattle.std.specs.Prelude.{IsFalse, IsSome}
use Rattle.std.specs.List.{All, AllZip}
use Rattle.std.proofs.lemmas.Bool.{both_ways, not-false}
use Rattle.std.proofs.lemmas.List.{length-map}
use Rattle.std.proofs.lemmas.List.Elements.{All-head, All-tail}
use Rattle.metis_choice.proofs.Resolving.{IsChosen, first_refused, pairs_attain, pairs_attained, pairs_chosen, pairs_count, pairs_hold}
use Rattle.metis_choice.specs.Terms.{ArePairsFor}
use Rattle.metis_ids.proofs.Finding.{none_passes}
use Rattle.metis_ids.proofs.Lists.{some_member}
use Rattle.metis_ids.specs.Terms.{Plan}
use Rattle.metis_ids.specs.declared.actions.Action.{Action}
use Rattle.metis_ids.specs.declared.goals.Goal.{Goal}
use Rattle.metis_ids.specs.declared.goals.Goal.TheVariants.{Pair, Port}
use Rattle.metis_layers.proofs.Order.{attained_set}
use Rattle.metis_layers.specs.Terms.{attained_pairs}
use Rattle.metis_output.specs.declared.status.Status.TheVariants.{Done, No}
use Rattle.metis_planner.proofs.Ending.{attained_layered, come_to_a_plan}
use Rattle.metis_planner.proofs.Forced.{all_justified, cycles_of_two, events_low, pairs_low}
use Rattle.metis_planner.proofs.NoTargets.{empty_for_none}
use Rattle.metis_planner.proofs.Planning.{has_layer}
use Rattle.metis_planner.proofs.Rounded.{bounded, dups_at_most, holds, instances_counted, lean, named, realizes, short_enough, tidy}
use Rattle.metis_planner.proofs.Unique.{none_doubled}
use Rattle.metis_planner.specs.Terms.{IsByRounds, IsPlanFor}
use Rattle.metis_plan_commands.proofs.PlanAnswers.{answer_by_plan, answer_by_refusal, answer_for_goals}
use Rattle.metis_plan_commands.specs.Terms.{PlanAnswer, PlansPairs, PutsRollout, Refuses, RolledOut, RollsOutPairs, plan_text, rollout_text}
use Rattle.metis_plan_commands.proofs.Formed.{rollout_formed}
use Rattle.metis_rollout.proofs.Guarding.{goes_on}
use Rattle.metis_rollout.proofs.Rolling.{never_lack}
use Rattle.metis_rollout.proofs.Whole.{replaced, taken_apart}
use Rattle.metis_rollout.specs.Terms.{GoesOnGuarded, all_go, fresh_name, removal, renumber, renumbered, rollout, scaffold_name}
use Rattle.metis_text.specs.Terms.{refusal_lines}
use Rattle.metis_universe.proofs.FirstPairs.{provider-none, provider-provides}
use Rattle.metis_universe.specs.Terms.{Attains, IsOf, IsSteadfastRun, IsTable, Universe, after_all, empty, has, lacks, layer_of, provider_of, provides}
use Rattle.metis_uniqueness.proofs.AnswersThere.{steady_or_there}
use Rattle.metis_uniqueness.specs.Terms.{HasAnAnswer}

module _ (u : Universe) (table : IsTable u) where
  -- ---- the pairs for goals of which none is lacking

  layered_by : (p : ℕ) → has (attained_pairs u) p ≡ true → IsSome (layer_of u p)
  layered_by p there = has_layer u p ∙ there

  chosen_one : (g : Goal) → lacks u (attained_pairs u) g ≡ false → (p : ℕ) × IsChosen u g p
  chosen_one (Pair p) there = (p, record { pair = refl; layered = layered_by p (not-false (has (attained_pairs u) p) there) })
  chosen_one (Port r) there = by (provider_of u r) refl where
    y : (q : ℕ) × (has (attained_pairs u) q ≡ true) × (provides u q r ≡ true)
    y = some_member (λ x. provides u x r) (attained_pairs u) (not-false _ there)

    none : (o : Option ℕ) → layer_of u y.0 ≡ o → IsSome o → provider_of u r ≡ None → ⊥
    none None is some without = absurd (both_ways _ refl some)
    none (Some l) is some without = both_ways _ (provider-none u r y.0 l without is) y.2

    by : (o : Option ℕ) → provider_of u r ≡ o → (p : ℕ) × IsChosen u (Port r) p
    by None is = absurd (none (layer_of u y.0) refl (layered_by y.0 y.1) is)
    by (Some p) is = (p, record { pair = is; layered = (provider-provides u r p is).0 })

  pub chosen_all : (goals : List Goal) → All (λ g. IsFalse (lacks u (attained_pairs u) g)) goals → (pairs : List ℕ) × AllZip (IsChosen u) goals pairs
  chosen_all [] none = ([], tt)
  chosen_all (g ∷ goals) none =
      let one = chosen_one g (All-head (λ x. IsFalse (lacks u (attained_pairs u) x)) g goals none) in
      let rest = chosen_all goals (All-tail (λ x. IsFalse (lacks u (attained_pairs u) x)) g goals none) in
      (one.0 ∷ rest.0, (one.1, rest.1))

  -- ---- the plan for pairs

  module _ (g : List ℕ) (small : length g ≤ 256) (attains : Attains u g) where
    pub each : (p : ℕ) → has g p ≡ true → IsSome (layer_of u p)
    each = attained_layered u table.universe g attains

    pub plan_for : (plan : Plan) → IsByRounds u g plan → IsPlanFor u g plan
    plan_for plan by =
        let real = realizes u table g each plan by in
        record {
          run = real.run;
          holds = holds u table g each plan by;
          numbers = real.numbers;
          named = named u table g each plan by small;
          tidy = tidy u table g each plan by;
          instances = instances_counted u table g each plan by;
          lean = lean u table g each plan by;
          bounded = bounded u table g each plan by small;
          short = short_enough u table g each plan by;
          lines = real.paths;
          justified = all_justified u table g each plan.dups by.forced;
          dups = dups_at_most u table g each plan by;
          doubled = pairs_low u table g each plan.dups by.forced;
          cycles = cycles_of_two u table g each plan.dups by.forced;
          events = events_low u table g each plan.dups by.forced small;
          rounds = by;
        }

    planned_there : (lines : List (List ℕ)) × PlansPairs u g lines
    planned_there =
        let plan = come_to_a_plan u table g each in
        (plan_text u plan.0, answer_by_plan u g plan.0 (record { table = table; known = plan_for plan.0 plan.1; without_cycle = none_doubled u g plan.0 plan.1 }))

  -- ---- what goals come to

  -- the pairs for goals that some actions attain
  pub record AreAimed (goals : List Goal) (pairs : List ℕ) : Type 0 where
    pub resolved : ArePairsFor u goals pairs
    pub small : length pairs ≤ 256
    pub attained : Attains u pairs

  -- goals have such pairs, or are refused
  pub aims : (goals : List Goal) → length goals ≤ 256 → ((pairs : List ℕ) × AreAimed goals pairs) ⊎ ((lines : List (List ℕ)) × Refuses u goals lines)
  aims goals few = by (find (lacks u (attained_pairs u)) goals) refl where
    by : (o : Option Goal) → find (lacks u (attained_pairs u)) goals ≡ o → ((pairs : List ℕ) × AreAimed goals pairs) ⊎ ((lines : List (List ℕ)) × Refuses u goals lines)
    by None is =
        let pairs = chosen_all goals (none_passes (lacks u (attained_pairs u)) goals is) in
        let resolved : ArePairsFor u goals pairs.0 = pairs_chosen u goals pairs.0 pairs.1 in
        let many = pairs_count u goals pairs.0 resolved in
        inl (pairs.0, record { resolved = resolved; small = omega arith; attained = pairs_attained u table.universe goals pairs.0 pairs.1 })
    by (Some g) is =
        inr (refusal_lines u (attained_pairs u) g, answer_by_refusal u goals (attained_pairs u) g (attained_set u table.universe) (first_refused u table.universe goals g is))

  pub plan_there : (goals : List Goal) → length goals ≤ 256 → HasAnAnswer (PlanAnswer u goals)
  plan_there goals few = elim (aims goals few) [
    | inl aim ↦
        let planned = planned_there aim.0 aim.1.small aim.1.attained in
        (planned.0, Done, inl (refl, answer_for_goals u goals aim.0 aim.1.resolved (pairs_attain u goals aim.0 aim.1.resolved) planned.0 planned.1))
    | inr refusal ↦ (refusal.0, No, inr (refl, refusal.1))
  ]

  -- ---- rollouts

  module _ (old : List Action) (run : IsSteadfastRun u old) where
    goes_on_guarded : (fresh : List Action) → GoesOnGuarded u old fresh
    goes_on_guarded fresh ks kept =
        let new = renumbered old fresh in
        let size : length new ≡ length fresh = length-map fresh (renumber (fresh_name old fresh)) in
        let on = goes_on old new (removal u all_go (scaffold_name old fresh) (after_all u empty old)) ks kept in
        (on.0, on.1, on.2, λ front later k e above m low high. on.3 front later k e (omega (arith, size)) m (omega arith) (omega (arith, size)))

    rolled_there : (g : List ℕ) (small : length g ≤ 256) (attains : Attains u g) → (lines : List (List ℕ)) × RollsOutPairs u old g lines
    rolled_there g small attains =
        let plan = come_to_a_plan u table g (each g small attains) in
        let known = plan_for g small attains plan.0 plan.1 in
        let fresh = plan.0.actions in
        let done = replaced u old fresh table.universe run known.run in (
          rollout_text u old fresh,
          record {
            attains = attains;
            fresh = plan.0;
            rounds = plan.1;
            steady = done.0;
            ends = done.1;
            holds = done.2 g known.holds;
            none = λ is. subst (λ (xs : List Action). after_all u empty (rollout u old xs) ≡ empty) (sym (empty_for_none u plan.0 (subst (λ (h : List ℕ). IsByRounds u h plan.0) is plan.1)).0) (taken_apart u old table.universe run).1;
            never_lacks = λ front later kept guarded all. never_lack u table.universe old fresh run known.run front later kept guarded all;
            goes_on = goes_on_guarded fresh;
            formed = λ _ numbered. rollout_formed u table old run numbered.numbers numbered.named numbered.short g plan.0 known;
            told = refl;
          },
        )

    no_pairs : (goals : List Goal) (pairs : List ℕ) → ArePairsFor u goals pairs → goals ≡ [] → pairs ≡ []
    no_pairs [] [] them none = refl
    no_pairs [] (p ∷ pairs) them none = absurd them
    no_pairs (g ∷ goals) pairs them none = absurd (some none) where
      some : g ∷ goals ≡ [] → ⊥
      some e = cc

    puts_there : (goals : List Goal) → length goals ≤ 256 → HasAnAnswer (PutsRollout u goals old)
    puts_there goals few = elim (aims goals few) [
      | inl aim ↦
          let rolls = rolled_there aim.0 aim.1.small aim.1.attained in
          let last = after_all u empty (rollout u old rolls.1.fresh.actions) in (
            rolls.0,
            Done,
            record {
              steady = run;
              answer = inl (
                refl,
                record {
                  attains = pairs_attain u goals aim.0 aim.1.resolved aim.1.attained;
                  pairs = aim.0;
                  resolved = aim.1.resolved;
                  for_pairs = rolls.1;
                  holds = pairs_hold u last goals aim.0 aim.1.resolved rolls.1.holds;
                  none = λ is. rolls.1.none (no_pairs goals aim.0 aim.1.resolved is);
                },
              );
            },
          )
      | inr refusal ↦ (refusal.0, No, record { steady = run; answer = inr (refl, refusal.1) })
    ]

  pub rollout_there : (goals : List Goal) (old : List Action) → length goals ≤ 256 → All (IsOf u) old → HasAnAnswer (RolledOut u goals old)
  rollout_there goals old few of = steady_or_there u table.universe old of (PutsRollout u goals old) (λ run. puts_there old run goals few)
