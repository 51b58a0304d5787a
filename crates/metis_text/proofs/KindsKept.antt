-- The types of instances after one more action.
use Rattle.std.proofs.Common.{◌≡◌, ℕ, cond, List, [], ◌∷◌, ◌++◌, Option, Some, None, refl, sym, ap, ◌∙◌, nat_eq, nat_cmp}
use Rattle.std.specs.BTreeMap.{insert_entry}
use Rattle.std.specs.Map.{lookup}
use Rattle.metis_ids.specs.declared.actions.Action.{Action}
use Rattle.metis_ids.specs.declared.actions.Action.TheVariants.{New}
use Rattle.metis_ids.proofs.Tests.{eq_comm}
use Rattle.metis_universe.proofs.Edits.{pair_of-put}
use Rattle.metis_text.specs.Terms.{AreKinds, kind_after, kind_from}

kind_from_push : (z : ℕ) (kind : Option ℕ) (xs : List Action) (a : Action) → kind_from z kind (xs ++ a ∷ []) ≡ kind_after z (kind_from z kind xs) a
kind_from_push z kind [] a = refl
kind_from_push z kind (x ∷ xs) a = kind_from_push z (kind_after z kind x) xs a

module _ (earlier : List Action) (es : List (ℕ × ℕ)) (old : AreKinds earlier es) where
  pub kinds_new : (z t : ℕ) (es' : List (ℕ × ℕ)) → es' ≡ insert_entry nat_cmp es z t → AreKinds (earlier ++ New z t ∷ []) es'
  kinds_new z t es' is y =
      ap (lookup (nat_eq y)) is
      ∙ pair_of-put (record { instances = es; bindings = [] }) z t y
      ∙ ap (λ b. cond b (Some t) (lookup (nat_eq y) es)) (eq_comm y z)
      ∙ ap (λ o. cond (nat_eq z y) (Some t) o) (old y)
      ∙ sym (kind_from_push y None earlier (New z t))

  -- an action that makes no instance
  pub kinds_stay : (a : Action) → ((z : ℕ) (kind : Option ℕ) → kind_after z kind a ≡ kind) → AreKinds (earlier ++ a ∷ []) es
  kinds_stay a same z = old z ∙ sym (same z _) ∙ sym (kind_from_push z None earlier a)
