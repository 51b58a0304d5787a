-- From one round to the next.
use Rattle.std.proofs.Common.{◌≡◌, ℕ, true, List, [], ◌∷◌, ◌++◌, length, Some, sym, ap, ◌∙◌, subst, arith, inl, inr}
use Rattle.std.specs.List.{slice_get}
use Rattle.std.specs.Prelude.{IsSome, take}
use Rattle.std.proofs.lemmas.Bool.{cases_lt}
use Rattle.std.proofs.lemmas.List.{length-append, map-append}
use Rattle.std.proofs.Math.Seq.{take-length}
use Rattle.std.proofs.lemmas.Option.{slice_get_within}
use Rattle.metis_ids.specs.Terms.{Dup}
use Rattle.metis_universe.specs.Terms.{IsTable, Universe, has, layer_of}
use Rattle.metis_support.specs.Terms.{Support, support_of}
use Rattle.metis_lines.specs.Terms.{AreLines, LifeLines, lines_for, lines_of, own_pairs, plan_of}
use Rattle.metis_planner.proofs.Forced.{lines_for_own, providers}
use Rattle.metis_planner.proofs.Lists.{get_behind, get_front, take_front}
use Rattle.metis_rounds.specs.Terms.{IsForced}
use Rattle.metis_planner.specs.Terms.{AreForced, IsUnderWay, graph_after}

module _ (u : Universe) (g : List ℕ) where
  -- one more that is forced over those before it
  pub forced_push : (ds : List Dup) (d : Dup) → AreForced u g ds → IsForced (graph_after u g ds) d → AreForced u g (ds ++ d ∷ [])
  forced_push ds d forced last k e is = elim (cases_lt k (length ds)) [
    | inl low ↦ subst (λ es. IsForced (graph_after u g es) e) (sym (take_front ds (d ∷ []) k (omega arith))) (forced k e (sym (get_front ds (d ∷ []) k low) ∙ is))
    | inr high ↦
        let short = slice_get_within (ds ++ d ∷ []) k e is in
        let at : k ≡ length ds = omega (arith, length-append ds (d ∷ [])) in
        let same : d ≡ e = some_same d e (sym (get_behind ds d) ∙ ap (slice_get (ds ++ d ∷ [])) (sym at) ∙ is) in
        let front : take k (ds ++ d ∷ []) ≡ ds = ap (λ n. take n (ds ++ d ∷ [])) at ∙ take_front ds (d ∷ []) (length ds) (omega arith) ∙ take-length ds in
        subst (λ x. IsForced (graph_after u g (take k (ds ++ d ∷ []))) x) same (subst (λ es. IsForced (graph_after u g es) d) (sym front) last)
  ] where
    some_same : (a b : Dup) → Some a ≡ Some b → a ≡ b
    some_same a b e = cc

  pub pairs_push : (ds : List Dup) (d : Dup) → own_pairs (ds ++ d ∷ []) ≡ own_pairs ds ++ d.pair ∷ []
  pairs_push ds d = map-append (λ (e : Dup). e.pair) ds (d ∷ [])

  -- the graph of the lines so far
  pub graph_over : (v : Universe) (s : Support) (x : LifeLines) (ds : List Dup) → v ≡ u → s ≡ support_of u g → x ≡ lines_for u g (own_pairs ds) → plan_of v s x ≡ graph_after u g ds
  graph_over v s x ds universe support lines = λ i. plan_of (universe i) (support i) (lines i)

  module _ (table : IsTable u) (layered : (p : ℕ) → has g p ≡ true → IsSome (layer_of u p)) (x : LifeLines) (ds : List Dup) (way : IsUnderWay u g x ds) where
    pub lines_now : AreLines u (support_of u g) x
    lines_now = subst (AreLines u (support_of u g)) (sym way.lines) (lines_for_own u table g layered (own_pairs ds) (providers u table g layered ds way.forced))

    pub with_dup : (d : Dup) → IsForced (graph_after u g ds) d → (y : LifeLines) → y ≡ lines_of u (support_of u g) x.targets (x.own ++ d.pair ∷ []) → IsUnderWay u g y (ds ++ d ∷ [])
    with_dup d forced y is = record {
      lines = is ∙ (λ i. lines_of u (support_of u g) (way.lines i).targets ((way.lines i).own ++ d.pair ∷ [])) ∙ ap (lines_for u g) (sym (pairs_push ds d));
      forced = forced_push ds d way.forced forced;
    }
