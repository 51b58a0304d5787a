-- Rounds come to one plan alone.
use Rattle.std.proofs.Common.{◌≡◌, ℕ, zero, suc, ◌<◌, ◌≤◌, List, [], ◌∷◌, ◌++◌, Some, length, refl, sym, ap, ◌∙◌, subst, arith, inl, inr}
use Rattle.std.specs.List.{slice_get}
use Rattle.std.specs.Prelude.{take}
use Rattle.std.proofs.lemmas.Bool.{cases_lt}
use Rattle.std.proofs.lemmas.Option.{same_Some}
use Rattle.std.proofs.Math.Seq.{take-length}
use Rattle.metis_ids.specs.Terms.{Dup, HasCycle, Plan}
use Rattle.metis_ids.proofs.Lists.{take_one_more}
use Rattle.metis_universe.specs.Terms.{Universe}
use Rattle.metis_lines.specs.Terms.{graph_for, line_count}
use Rattle.metis_emit.specs.Terms.{emission}
use Rattle.metis_planner.proofs.Lists.{some_at}
use Rattle.metis_rounds.specs.Terms.{IsForced, doubled_by}
use Rattle.metis_planner.specs.Terms.{IsByRounds, graph_after, numbered, ordered_events}

module _ (u : Universe) (g : List ℕ) where
  -- over the same pairs before it, a dup that is forced is one
  forced_same : (ds : List Dup) (d e : Dup) → IsForced (graph_after u g ds) d → IsForced (graph_after u g ds) e → d ≡ e
  forced_same ds d e f h =
      let cycle : d.cycle ≡ e.cycle = f.cycle ∙ sym h.cycle in
      let pair : d.pair ≡ e.pair = same_Some d.pair e.pair (sym f.pair ∙ ap (λ es. doubled_by (graph_after u g ds) es) cycle ∙ h.pair) in
      λ i. record { pair = pair i; cycle = cycle i }

  module _ (p q : Plan) (one : IsByRounds u g p) (two : IsByRounds u g q) where
    same_front : (k : ℕ) → k ≤ length p.dups → k ≤ length q.dups → take k p.dups ≡ take k q.dups
    same_front zero low high = refl
    same_front (suc k) low high =
        let front = same_front k (omega arith) (omega arith) in
        let d = some_at p.dups k (omega arith) in
        let e = some_at q.dups k (omega arith) in
        let same = forced_same (take k p.dups) d.0 e.0 (one.forced k d.0 d.1) (subst (λ ds. IsForced (graph_after u g ds) e.0) (sym front) (two.forced k e.0 e.1)) in
        take_one_more p.dups k d.0 d.1 ∙ (λ i. front i ++ same i ∷ []) ∙ sym (take_one_more q.dups k e.0 e.1)

  -- no rounds go on where others ended
  no_shorter : (p q : Plan) → IsByRounds u g p → IsByRounds u g q → length p.dups < length q.dups → ⊥
  no_shorter p q one two less =
      let e = some_at q.dups (length p.dups) less in
      let front = same_front p q one two (length p.dups) (omega arith) (omega arith) in
      let same : p.dups ≡ take (length p.dups) q.dups = sym (take-length p.dups) ∙ front in
      one.ended (subst (λ ds. HasCycle (numbered (graph_after u g ds))) (sym same) (two.forced (length p.dups) e.0 e.1).stuck)

  pub one_plan : (p q : Plan) → IsByRounds u g p → IsByRounds u g q → p ≡ q
  one_plan p q one two = elim (cases_lt (length p.dups) (length q.dups)) [
    | inl less ↦ absurd (no_shorter p q one two less)
    | inr more ↦ elim (cases_lt (length q.dups) (length p.dups)) [
      | inl less ↦ absurd (no_shorter q p two one less)
      | inr least ↦
          let long : length p.dups ≡ length q.dups = omega arith in
          let dups : p.dups ≡ q.dups = sym (take-length p.dups) ∙ same_front p q one two (length p.dups) (omega arith) (omega arith) ∙ ap (λ k. take k q.dups) long ∙ take-length q.dups in
          let actions : p.actions ≡ q.actions = one.actions ∙ ap (λ ds. emission u (graph_after u g ds) (ordered_events (graph_after u g ds))) dups ∙ sym two.actions in
          let instances : p.instances ≡ q.instances = one.instances ∙ ap (λ ds. line_count (graph_after u g ds)) dups ∙ sym two.instances in
          λ i. record { actions = actions i; dups = dups i; instances = instances i }
    ]
  ]

  pub none_doubled : (p : Plan) → IsByRounds u g p → (HasCycle (numbered (graph_for u g [])) → ⊥) → p.dups ≡ []
  none_doubled p one none = by p.dups one.forced where
    by : (ds : List Dup) → ((k : ℕ) (d : Dup) → slice_get ds k ≡ Some d → IsForced (graph_after u g (take k ds)) d) → ds ≡ []
    by [] forced = refl
    by (d ∷ ds) forced = absurd (none (forced 0 d refl).stuck)
