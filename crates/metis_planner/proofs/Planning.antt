-- A refusal comes where some target has no layer.
use Rattle.std.proofs.Common.{◌≡◌, ℕ, ◌+◌, ◌-◌, ◌<◌, Bool, true, false, not, List, length, get_or, Option, Some, None, refl, sym, ap, ◌∙◌, subst, arith}
use Rattle.std.specs.List.{All}
use Rattle.std.specs.Prelude.{IsSome, is_some, take}
use Rattle.std.proofs.lemmas.List.{get_or-take, length-take-le}
use Rattle.std.proofs.lemmas.Option.{get_or_from_slice_get, slice_get_within}
use Rattle.metis_universe.proofs.Attained.{Closed-layers}
use Rattle.metis_universe.proofs.Rounds.{grows_to, layers_grow}
use Rattle.metis_universe.specs.Terms.{IsUniverse, Refusal, Universe, has, layer_of, layer_set, pair_count}
use Rattle.metis_layers.proofs.LayerFacts.{layer_below, layer_by, layer_has}
use Rattle.metis_layers.proofs.Ways.{all_has}
use Rattle.metis_layers.specs.Terms.{attained_pairs}
use Rattle.metis_choice.specs.Terms.{IsFirstWithout}
use Rattle.metis_rounds.proofs.Searches.{find_at}

module _ (u : Universe) where
  pub has_layer : (p : ℕ) → is_some (layer_of u p) ≡ has (attained_pairs u) p
  has_layer p = by (layer_of u p) refl where
    none_some : (l : ℕ) → None ≡ Some l → ⊥
    none_some l e = cc

    by : (o : Option ℕ) → layer_of u p ≡ o → is_some (layer_of u p) ≡ has (attained_pairs u) p
    by None is = ap is_some is ∙ (elim (has (attained_pairs u) p) as (λ b. has (attained_pairs u) p ≡ b → false ≡ b) [
      | true ↦ λ h. let at = layer_by u p (pair_count u) h in absurd (none_some at.layer (sym is ∙ at.is))
      | false ↦ λ h. refl
    ] refl)
    by (Some l) is =
        let below = layer_below u p l is in
        let whole : l + (pair_count u - l) ≡ pair_count u = omega (arith, below) in
        ap is_some is ∙ sym (subst (λ k. has (layer_set u k) p ≡ true) whole (grows_to (layers_grow u) l (pair_count u - l) p (layer_has u p l is)))

  -- the first target without a layer is the first that the attainable pairs lack
  pub refuses : IsUniverse u → (g : List ℕ) (p : ℕ) → IsFirstWithout u g p → Refusal u g (attained_pairs u) p
  refuses table g p first = (Closed-layers u table, find_at lacks g 0 first.place low passes before ∙ ap Some is) where
    lacks : ℕ → Bool
    lacks q = not (has (attained_pairs u) q)

    low : first.place < length g
    low = slice_get_within g first.place p first.there

    is : get_or g first.place 0 ≡ p
    is = get_or_from_slice_get g first.place p 0 first.there

    passes : lacks (get_or g first.place 0) ≡ true
    passes = ap lacks is ∙ ap not (sym (has_layer p) ∙ ap is_some first.without)

    before : (i : ℕ) → i < first.place → lacks (get_or g i 0) ≡ false
    before i below =
        let long : length (take first.place g) ≡ first.place = length-take-le first.place g (omega (arith, low)) in
        let layered = first.before i 0 (omega (arith, below, long)) in
        ap lacks (sym (get_or-take first.place g i 0 below)) ∙ ap not (sym (has_layer (get_or (take first.place g) i 0)) ∙ layered)

-- targets that have a layer, one by one
pub layered_each : (u : Universe) (g : List ℕ) → All (λ p. IsSome (layer_of u p)) g → (p : ℕ) → has g p ≡ true → IsSome (layer_of u p)
layered_each u g all p there = all_has (λ q. IsSome (layer_of u q)) g p all there
