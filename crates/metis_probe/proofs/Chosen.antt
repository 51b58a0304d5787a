-- Targets are selected, so the lines are well formed.
use Rattle.std.proofs.Common.{◌≡◌, ℕ, true, sym, subst, List, nat_eq}
use Rattle.std.specs.Prelude.{IsSome, Result, Ok, Err}
use Rattle.std.specs.List.{All}
use Rattle.std.proofs.lemmas.Bool.{eqb-true}
use Rattle.std.proofs.lemmas.List.Elements.{All-contains}
use Rattle.metis_ids.specs.declared.no_memory.NoMemory.{NoMemory}
use Rattle.metis_choice.specs.Terms.{IfSupport}
use Rattle.metis_choice.specs.declared.choice.Choice.{Choice}
use Rattle.metis_choice.specs.declared.choice.Choice.TheVariants as choice
use Rattle.metis_universe.specs.Terms.{IsUniverse, Universe, has, layer_of}
use Rattle.metis_support.proofs.Lists.{member}
use Rattle.metis_support.proofs.Selections.{targets_selected}
use Rattle.metis_support.specs.Terms.{Support, is_selected, support_of}

pub targets_chosen : (u : Universe) (g : List ℕ) (s : Support) → IsUniverse u → All (λ p. IsSome (layer_of u p)) g → s ≡ support_of u g → (p : ℕ) → has g p ≡ true → is_selected s p ≡ true
targets_chosen u g s universe layered is p h = subst (λ x. is_selected x p ≡ true) (sym is) (targets_selected u universe g each p h) where
  each : (q : ℕ) → has g q ≡ true → IsSome (layer_of u q)
  each q there =
      let m = member (λ x. nat_eq x q) g there in
      subst (λ x. IsSome (layer_of u x)) (eqb-true m.item q m.passes) (All-contains (λ x. IsSome (layer_of u x)) g m.item layered m.there)

-- So they are in what is chosen for them.
pub choice_has_targets : (u : Universe) (g : List ℕ) (r : Result Choice NoMemory) → IsUniverse u → IfSupport r (λ _. All (λ p. IsSome (layer_of u p)) g) → IfSupport r (λ s. s ≡ support_of u g) → IfSupport r (λ s. (p : ℕ) → has g p ≡ true → is_selected s p ≡ true)
choice_has_targets u g (Ok (choice.Support s)) universe layered is = targets_chosen u g s universe layered is
choice_has_targets u g (Ok (choice.Lacks p)) universe layered is = tt
choice_has_targets u g (Err NoMemory) universe layered is = tt
