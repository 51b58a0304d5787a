-- The rows of a universe have entries that a document of its version may have.
use Rattle.std.proofs.Common.{◌≡◌, ℕ, zero, suc, ◌+◌, ◌<◌, ◌≤◌, List, [], ◌∷◌, ◌∙◌, subst}
use Rattle.std.specs.List.{AllByRecursion, range_with_len}
use Rattle.std.proofs.lemmas.List.{get_or_default}
use Rattle.std.proofs.lemmas.List.Elements.{recursion_from_All}
use Rattle.metis_universe.specs.Terms.{IsUniverse, NeedRow, Pair, StateRow, TypeRow, Universe, demand_in, no_pair, pair_at, pair_count, type_count}
use Rattle.metis_universe.proofs.Ascending.{each_map}
use Rattle.metis_ujson.specs.Terms.{need_row, rows_of_universe, state_row, type_row}
use Rattle.metis_universe.proofs.Demanded.{demands_between, demands_one}
use Rattle.metis_ujson.proofs.Rebuilt.{first, own, own_is, own_within}

-- in version 1 an entry asks for one provider
abbrev pub FitsNeed : ℕ → NeedRow → Type 0
FitsNeed v n = (v ≡ 1 → n.count ≡ 1) × (n.count ≤ 16)

abbrev pub FitsState : ℕ → StateRow → Type 0
FitsState v state = AllByRecursion (FitsNeed v) state.require

abbrev pub FitsType : ℕ → TypeRow → Type 0
FitsType v row = AllByRecursion (FitsState v) row.states

abbrev pub FitRows : ℕ → List TypeRow → Type 0
FitRows v rows = AllByRecursion (FitsType v) rows

both : (v : ℕ) (d : ℕ → ℕ) (rs : List ℕ) → (v ≡ 1 → AllByRecursion (λ r. d r ≡ 1) rs) → AllByRecursion (λ r. (1 ≤ d r) × (d r ≤ 16)) rs → AllByRecursion (λ r. (v ≡ 1 → d r ≡ 1) × (d r ≤ 16)) rs
both v d [] one between = tt
both v d (r ∷ rs) one between = ((λ e. (one e).0, between.0.1), both v d rs (λ e. (one e).1) between.1)

module _ (u : Universe) (is : IsUniverse u) where
  state_fits : (q : ℕ) → q < pair_count u → FitsState u.version (state_row u (pair_at u q))
  state_fits q l =
      let p = pair_at u q in
      let up = (is.required q l).0 in
      let same = (is.demands q l).0 in
      each_map (FitsNeed u.version) (need_row u p) p.required
      (both u.version (demand_in p) p.required
      (λ e. demands_one p up same (recursion_from_All (λ n. n ≡ 0) p.further (is.single e q l)))
      (demands_between p up same (recursion_from_All (λ n. n < 16) p.further (is.demands q l).1)))

  type_fits : (t : ℕ) → FitsType u.version (type_row u t)
  type_fits t =
      let T : Pair → Type 0 = λ p. FitsState u.version (state_row u p) in
      each_map (FitsState u.version) (state_row u) (own u is t)
      (recursion_from_All T (own u is t) (λ k d m. subst T (own_is u is t k m ∙ get_or_default (own u is t) k no_pair d m) (state_fits (first u is t + k) (own_within u is t k m))))

  types_fit : (n t : ℕ) → AllByRecursion (λ k. FitsType u.version (type_row u k)) (range_with_len t n)
  types_fit zero t = tt
  types_fit (suc n) t = (type_fits t, types_fit n (t + 1))

  pub rows_fit : FitRows u.version (rows_of_universe u)
  rows_fit = each_map (FitsType u.version) (type_row u) (range_with_len 0 (type_count u)) (types_fit (type_count u) 0)
