-- The plan that is printed is justified.
use Rattle.std.proofs.Common.{◌≡◌, ℕ, zero, suc, ◌+◌, ◌≤◌, Bool, true, not, List, [], length, get_or, Option, Some, None, refl, ap, ◌∙◌, arith}
use Rattle.std.specs.List.{find, list_any}
use Rattle.std.specs.Prelude.{IsSome}
use Rattle.std.proofs.lemmas.Bool.{both_ways, true_from_ne_false}
use Rattle.std.proofs.lemmas.List.{get_or-map}
use Rattle.std.proofs.lemmas.List.Elements.{All-from_get_or}
use Rattle.std.proofs.lemmas.List.FromFn.{get_or-range_with_len, length-range_with_len}
use Rattle.metis_ids.specs.declared.actions.Action.{Action}
use Rattle.metis_ids.specs.declared.goals.Goal.{Goal}
use Rattle.metis_ids.proofs.Lists.{any_at, has_at}
use Rattle.metis_universe.proofs.Attained.{Closed-layers}
use Rattle.metis_universe.proofs.Inside.{refused}
use Rattle.metis_universe.specs.Terms.{Attains, IsUniverse, Universe, has, layer_of, numbers}
use Rattle.metis_layers.specs.Terms.{attained_pairs}
use Rattle.metis_audit.specs.Terms.{IsAnswer, IsAttained}
use Rattle.metis_audit.specs.declared.answers.Answer.TheVariants.{Justified}
use Rattle.metis_rounds.proofs.Leads.{not_found}
use Rattle.metis_planner.proofs.Planning.{has_layer}
use Rattle.metis_text.specs.Terms.{after_of}
use Rattle.metis_waits.specs.Terms.{waits_on_others}
use Rattle.metis_plan_commands.specs.Terms.{Plans, PlansPairs, others}

module _ (u : Universe) (universe : IsUniverse u) (g : List ℕ) (attains : Attains u g) where
  abbrev lacks : ℕ → Bool
  lacks q = not (has (attained_pairs u) q)

  none_lacks : find lacks g ≡ None
  none_lacks = by (find lacks g) refl where
    by : (o : Option ℕ) → find lacks g ≡ o → o ≡ None
    by None is = refl
    by (Some q) is = absurd (refused u g (attained_pairs u) q (Closed-layers u universe, is) attains)

  layered : (p : ℕ) → has g p ≡ true → IsSome (layer_of u p)
  layered p there = has_layer u p ∙ true_from_ne_false (has (attained_pairs u) p) (λ none. both_ways (list_any lacks g) (not_found lacks g none_lacks) (any_at lacks p g there (ap not none)))

  all_layered : IsAttained u g
  all_layered = All-from_get_or (λ q. IsSome (layer_of u q)) g 0 (λ i low. layered (get_or g i 0) (has_at g i 0 low))

after_its_waits : (actions : List Action) (k : ℕ) → 1 ≤ k → k ≤ length actions → after_of (others actions) k ≡ waits_on_others actions k
after_its_waits actions zero first last = absurd (omega arith)
after_its_waits actions (suc i) first last =
    let count = length-range_with_len 1 (length actions) in
    let number = get_or-range_with_len 1 (length actions) i 0 (omega arith) in
    let next : 1 + i ≡ suc i = omega arith in
    get_or-map (waits_on_others actions) (numbers actions) i 0 [] (omega arith) ∙ ap (waits_on_others actions) (number ∙ next)

for_pairs : (u : Universe) (g : List ℕ) (lines : List (List ℕ)) → IsUniverse u → (p : PlansPairs u g lines) → IsAnswer u g p.plan (others p.plan.actions) Justified
for_pairs u g lines universe p = record {
  steady = record {
    followed = record {
      counted = record { forced = record { attained = all_layered u universe g p.attains; justified = p.needed.justified }; count = p.needed.counted };
      each = λ l low. p.needed.lines l;
    };
    steadfast = p.is.run.steadfast;
  };
  printed = after_its_waits p.plan.actions;
}

pub printed_is_justified : (u : Universe) (goals : List Goal) (lines : List (List ℕ)) → IsUniverse u → (p : Plans u goals lines) → IsAnswer u p.pairs p.for_pairs.plan (others p.for_pairs.plan.actions) Justified
printed_is_justified u goals lines universe p = for_pairs u p.pairs lines universe p.for_pairs
