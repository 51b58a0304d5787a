-- The document of rows is read as these rows.
use Rattle.std.proofs.Common.{◌≡◌, ◌⊎◌, ℕ, ◌+◌, ◌||◌, true, false, cond, nat_eq, List, [], ◌∷◌, map, Some, None, Ok, refl, sym, ap, ◌∙◌, inl, inr}
use Rattle.std.specs.List.{AllByRecursion}
use Rattle.std.proofs.lemmas.Bool.{both_ways, eq-eqb, eqb-true}
use Rattle.serde_json.specs.Data.{string}
use Rattle.serde_json.specs.View.{items_of}
use Rattle.metis_universe.specs.Terms.{NeedRow, StateRow, TypeRow}
use Rattle.metis_ujson.specs.Terms.{counted_value, document_of, need_in, need_value, needs_in, one_or_two, rows_of, spelled, state_in, state_value, states_from, texts_in, type_in, type_value, types_from, types_with, with_first}
use Rattle.metis_ujson.proofs.Fitting.{FitRows, FitsNeed, FitsState, FitsType}

texts_back : (xs : List (List ℕ)) → texts_in (items_of (map string xs)) ≡ Some xs
texts_back [] = refl
texts_back (x ∷ xs) = ap (with_first (Some x)) (texts_back xs)

module _ (v : ℕ) (of : (v ≡ 1) ⊎ (v ≡ 2)) where
  need_back : (n : NeedRow) → FitsNeed v n → need_in v (need_value n) ≡ Some n
  need_back n h =
      elim (nat_eq n.count 1) as (λ b. nat_eq n.count 1 ≡ b → need_in v (cond b (string n.port) (counted_value n)) ≡ Some n) [
        | true ↦ λ e. let one = sym (eqb-true n.count 1 e) in (λ i. Some (record { port = n.port; count = one i }))
        | false ↦ λ e. elim of [
          | inl single ↦ absurd (both_ways (nat_eq n.count 1) e (eq-eqb n.count 1 (h.0 single)))
          | inr two ↦ ap (λ w. need_in w (counted_value n)) two
        ]
      ] refl

  needs_back : (ns : List NeedRow) → AllByRecursion (FitsNeed v) ns → needs_in v (items_of (map need_value ns)) ≡ Some ns
  needs_back [] h = refl
  needs_back (n ∷ ns) h = rw (need_back n h.0, needs_back ns h.1) refl

  state_back : (row : StateRow) → FitsState v row → state_in v (state_value row) ≡ Some row
  state_back row h = rw (texts_back row.provide, needs_back row.require h, texts_back row.next) refl

  states_back : (t s : ℕ) (rows : List StateRow) → AllByRecursion (FitsState v) rows → states_from v t s (items_of (map state_value rows)) ≡ Ok rows
  states_back t s [] h = refl
  states_back t s (row ∷ rows) h = rw (state_back row h.0, states_back t (s + 1) rows h.1) refl

  type_back : (t : ℕ) (row : TypeRow) → FitsType v row → type_in v t (type_value row) ≡ Ok row
  type_back t row h = rw (states_back t 0 row.states h) refl

  types_back : (t : ℕ) (rows : List TypeRow) → FitRows v rows → types_from v t (items_of (map type_value rows)) ≡ Ok rows
  types_back t [] h = refl
  types_back t (row ∷ rows) h = rw (type_back t row h.0, types_back (t + 1) rows h.1) refl

  version_back : one_or_two (Some v) ≡ Some v
  version_back = elim of [
    | inl one ↦ ap (λ b. cond (b || nat_eq v 2) (Some v) None) (eq-eqb v 1 one)
    | inr two ↦ ap (λ w. one_or_two (Some w)) two ∙ ap Some (sym two)
  ]

  pub rows_back : (rows : List TypeRow) → FitRows v rows → rows_of (document_of v rows) ≡ Ok (record { version = v; types = rows })
  rows_back rows h = ap (λ o. types_with o (Some (items_of (map type_value rows)))) version_back ∙ ap (spelled v) (types_back 0 rows h)
