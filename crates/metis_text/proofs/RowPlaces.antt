-- What holds of all actions with their lists, by their places.
use Rattle.std.proofs.Common.{◌≡◌, ℕ, zero, suc, ◌<◌, List, [], ◌∷◌, ◌++◌, length, get_or, take, refl, sym, ap, subst, append_assoc, append-nil, arith}
use Rattle.metis_ids.specs.declared.actions.Action.{Action}
use Rattle.metis_universe.specs.Terms.{Universe}
use Rattle.metis_text.proofs.RowLine.{IsRow}
use Rattle.metis_text.proofs.RowsRead.{AreRows}

module _ (u : Universe) where
  pub rows_long : (earlier actions : List Action) (after : List (List ℕ)) → AreRows u earlier actions after → length after ≡ length actions
  rows_long earlier [] [] are = refl
  rows_long earlier [] (ks ∷ after) are = absurd are
  rows_long earlier (a ∷ actions) [] are = absurd are
  rows_long earlier (a ∷ actions) (ks ∷ after) are = ap suc (rows_long (earlier ++ a ∷ []) actions after are.1)

  -- the action with its list at each place, behind those before it
  pub row_at : (earlier actions : List Action) (after : List (List ℕ)) → AreRows u earlier actions after → (i : ℕ) (d : Action) → i < length actions → IsRow u (earlier ++ take i actions) (get_or actions i d, get_or after i [])
  row_at earlier [] after are i d l = absurd (omega arith)
  row_at earlier (a ∷ actions) [] are i d l = absurd are
  row_at earlier (a ∷ actions) (ks ∷ after) are zero d l = subst (λ e. IsRow u e (a, ks)) (sym (append-nil earlier)) are.0
  row_at earlier (a ∷ actions) (ks ∷ after) are (suc i) d l =
      subst (λ e. IsRow u e (get_or actions i d, get_or after i [])) (append_assoc earlier (a ∷ []) (take i actions)) (row_at (earlier ++ a ∷ []) actions after are.1 i d (omega arith))

  pub rows_from_places : (earlier actions : List Action) (after : List (List ℕ)) → length after ≡ length actions
      → ((i : ℕ) (d : Action) → i < length actions → IsRow u (earlier ++ take i actions) (get_or actions i d, get_or after i [])) → AreRows u earlier actions after
  rows_from_places earlier [] [] long each = tt
  rows_from_places earlier [] (ks ∷ after) long each = absurd (omega arith)
  rows_from_places earlier (a ∷ actions) [] long each = absurd (omega arith)
  rows_from_places earlier (a ∷ actions) (ks ∷ after) long each = (
    subst (λ e. IsRow u e (a, ks)) (append-nil earlier) (each 0 a (omega arith)),
    rows_from_places (earlier ++ a ∷ []) actions after (omega arith)
        (λ i d l. subst (λ e. IsRow u e (get_or actions i d, get_or after i [])) (sym (append_assoc earlier (a ∷ []) (take i actions))) (each (suc i) d (omega arith))),
  )
