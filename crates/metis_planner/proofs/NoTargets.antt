-- The plan that rounds come to for no targets.
use Rattle.std.proofs.Common.{◌≡◌, ℕ, zero, suc, Bool, false, cond, List, [], ◌∷◌, Some, refl, sym, ap, ◌∙◌, subst}
use Rattle.std.specs.List.{filter, slice_get}
use Rattle.std.proofs.lemmas.Bool.{false≢true}
use Rattle.metis_ids.specs.Terms.{Dup, HasCycle, Plan}
use Rattle.metis_universe.specs.Terms.{Universe, all_pairs, pair_count, selected_within}
use Rattle.metis_support.specs.Terms.{support_by}
use Rattle.metis_lines.specs.Terms.{AbstractPlan, graph_for, line_count, lines_of, plan_of}
use Rattle.metis_emit.specs.Terms.{emission}
use Rattle.metis_planner.proofs.Unique.{one_plan}
use Rattle.metis_planner.specs.Terms.{IsByRounds, numbered, ordered_events}

none_pass : (t : ℕ → Bool) → ((x : ℕ) → t x ≡ false) → (xs : List ℕ) → filter t xs ≡ []
none_pass t none [] = refl
none_pass t none (x ∷ xs) = ap (λ b. cond b (x ∷ filter t xs) (filter t xs)) (none x) ∙ none_pass t none xs

none_selected : (u : Universe) (n : ℕ) → selected_within u [] n ≡ []
none_selected u zero = none_pass _ (λ x. refl) (all_pairs u)
none_selected u (suc n) = rw (none_selected u n) (none_pass _ (λ x. refl) (all_pairs u))

-- no line, and so no event but the end
abbrev nothing : AbstractPlan
nothing = record { lines = []; targets = 0; supplies = [] }

graph_of_none : (u : Universe) → graph_for u [] [] ≡ nothing
graph_of_none u = ap (λ s. plan_of u (support_by u s) (lines_of u (support_by u s) [] [])) (none_selected u (pair_count u))

no_cycle : HasCycle (numbered nothing) → ⊥
no_cycle h = false≢true h.1.closed

abbrev empty_plan : Plan
empty_plan = record { actions = []; dups = []; instances = 0 }

no_dup : (k : ℕ) (d : Dup) → slice_get empty_plan.dups k ≡ Some d → ⊥
no_dup k d h = cc

by_rounds : (u : Universe) → IsByRounds u [] empty_plan
by_rounds u = record {
  forced = λ k d is. absurd (no_dup k d is);
  ended = λ h. no_cycle (subst (λ w. HasCycle (numbered w)) (graph_of_none u) h);
  actions = sym (ap (λ w. emission u w (ordered_events w)) (graph_of_none u));
  instances = sym (ap line_count (graph_of_none u));
}

pub empty_for_none : (u : Universe) (p : Plan) → IsByRounds u [] p → (p.actions ≡ []) × (p.dups ≡ []) × (p.instances ≡ 0)
empty_for_none u p is =
    let same = one_plan u [] p empty_plan is (by_rounds u) in
    (ap (λ (q : Plan). q.actions) same, ap (λ (q : Plan). q.dups) same, ap (λ (q : Plan). q.instances) same)
