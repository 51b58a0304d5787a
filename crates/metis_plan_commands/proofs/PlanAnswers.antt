-- What is known of a plan, and of a refusal.
use Rattle.std.proofs.Common.{◌≡◌, ℕ, ◌+◌, ◌*◌, ◌≤◌, ◌^◌, List, [], length, get_or, refl, sym, ◌∙◌, subst, arith}
use Rattle.std.specs.List.{All, count_by}
use Rattle.metis_ids.specs.declared.actions.Action.{Action}
use Rattle.metis_ids.specs.Terms.{HasCycle, Plan, makes}
use Rattle.metis_ids.specs.declared.events.Event.{Event}
use Rattle.metis_ids.specs.declared.events.Event.TheVariants.{At, End}
use Rattle.metis_layers.specs.Terms.{attained_pairs, instances_of}
use Rattle.metis_lines.specs.Terms.{graph_for}
use Rattle.metis_text.proofs.WrittenRun.{run_formed}
use Rattle.std.proofs.lemmas.List.Sums.{length-filter}
use Rattle.metis_choice.proofs.GoalLists.{found_among}
use Rattle.metis_choice.specs.Terms.{ArePairsFor}
use Rattle.metis_layers.proofs.Order.{attained_set}
use Rattle.metis_ids.specs.declared.goals.Goal.{Goal}
use Rattle.metis_universe.proofs.Served.{goals_refused}
use Rattle.metis_universe.specs.Terms.{Attains, AttainsGoals, GoalRefusal, IsAttainedSet, IsTable, IsUniverse, IsWordable, Universe, greatest_demand, lacks}
use Rattle.metis_planner.specs.Terms.{EventBelow, IsPlanFor, numbered}
use Rattle.metis_text.specs.Terms.{IsEventInRange, IsWellFormed, refusal_lines}
use Rattle.metis_plan_commands.specs.Terms.{IsDoubledByNeed, IsPlan, Plans, PlansPairs, Refuses, others, plan_text}
use Rattle.metis_text.specs.declared.refusal_text.Refusal.{Refusal}

-- the instances that actions make, counted in two ways
pub counts_as_made : (actions : List Action) → instances_of actions ≡ count_by makes actions
counts_as_made actions = length-filter makes actions

-- what is known of a plan that rounds come to
pub record IsKnown (u : Universe) (g : List ℕ) (p : Plan) : Type 0 where
  pub table : IsTable u
  pub known : IsPlanFor u g p
  pub without_cycle : (HasCycle (numbered (graph_for u g [])) → ⊥) → p.dups ≡ []

event_in_range : (e : Event) → EventBelow (2 ^ 32) e → IsEventInRange e
event_in_range (At l j) h = h
event_in_range End h = tt

-- the lines of a plan answer
pub answer_by_plan : (u : Universe) (g : List ℕ) (p : Plan) → IsKnown u g p → PlansPairs u g (plan_text u p)
answer_by_plan u g p planned =
    let k = planned.known in
    let counted : p.instances ≡ count_by makes p.actions = k.instances ∙ counts_as_made p.actions in
    let lean = k.lean.few in
    let few = k.short in
    let bounded = k.bounded in
    let few_dups = k.dups in
    let is : IsPlan u g p.actions = record { run = k.run; holds = k.holds; attained = k.lean.attained; all = k.lean.all; few = subst (λ n. n ≤ length k.lean.attained * greatest_demand u + length g) counted lean } in
    let formed : IsWellFormed u p (others p.actions) = run_formed u p planned.table k.run.run k.numbers k.doubled k.cycles (record { actions = k.named; events = λ i d low j e short. event_in_range (get_or (get_or p.dups i d).cycle j e) (k.events i d low j e short) }) counted (omega arith) (omega arith) in
    let needed : IsDoubledByNeed u g p = record { counted = sym counted ∙ k.rounds.instances; lines = k.lines; justified = k.justified; without_cycle = planned.without_cycle } in
    record { attains = (p.actions, k.run.run, k.holds); plan = p; is = is; rounds = k.rounds; needed = needed; tidy = k.tidy; counted = counted; formed = formed; told = refl }

-- what answers the pairs for goals answers the goals
pub answer_for_goals : (u : Universe) (goals : List Goal) (pairs : List ℕ) → ArePairsFor u goals pairs → (Attains u pairs → AttainsGoals u goals)
    → (lines : List (List ℕ)) → PlansPairs u pairs lines → Plans u goals lines
answer_for_goals u goals pairs resolved attains lines p = record { attains = attains p.attains; pairs = pairs; resolved = resolved; for_pairs = p }

-- the lines of a refusal answer
pub answer_by_refusal : (u : Universe) (goals : List Goal) (s : List ℕ) (g : Goal) → IsAttainedSet u s → GoalRefusal u goals s g → Refuses u goals (refusal_lines u s g)
answer_by_refusal u goals s g all refusal = record { unattained = goals_refused u goals s g refusal; set = s; lacking = g; refusal = record { refusal = refusal; all = all }; told = refl }

-- such a refusal as the planner makes
pub refuses : (u : Universe) (goals : List Goal) (r : Refusal) (g : Goal) → IsUniverse u → r.lacks ≡ g → r.pairs.members ≡ attained_pairs u → GoalRefusal u goals (attained_pairs u) g
    → Refuses u goals (refusal_lines u r.pairs.members r.lacks)
refuses u goals r g universe lacks pairs refusal = rw (lacks, pairs) (answer_by_refusal u goals (attained_pairs u) g (attained_set u universe) refusal)

-- the goal that it names has words, if all goals have
pub refused_in_words : (u : Universe) (goals : List Goal) (r : Refusal) (g : Goal) → r.lacks ≡ g → GoalRefusal u goals (attained_pairs u) g → All (IsWordable u) goals → IsWordable u r.lacks
refused_in_words u goals r g is refusal all = subst (IsWordable u) (sym is) (found_among (IsWordable u) (lacks u (attained_pairs u)) goals g all refusal.1)
