-- The supplies of lines over a support, by line and by station.
use Rattle.std.proofs.Common.{◌≡◌, ℕ, Bool, [], get_or, length, map, Option, Some, None, refl, sym, ◌∙◌, subst}
use Rattle.std.specs.Option.{option_map_or}
use Rattle.std.specs.List.{AllByRecursion, Contains, list_any, range_with_len}
use Rattle.metis_ids.proofs.Lists.{any_alike, each_weaker, list_any-flat_map, list_any-map}
use Rattle.metis_universe.specs.Terms.{Universe, demand_of, required_of}
use Rattle.metis_support.specs.Terms.{IsSupport, Support, provider_at}
use Rattle.metis_support.proofs.Lists.{each_in_row}
use Rattle.metis_lines.proofs.Joins.{each_counted, each_joined}
use Rattle.metis_lines.proofs.Sound as sound
use Rattle.metis_lines.specs.Terms.{AreLines, LifeLines, Supply, line_at, line_supplies, lines_of, port_supplies, slot_holding, slot_supplies, station_supplies, supplies_of, supply_from}
use Rattle.metis_lines.proofs.Formed.{own_selected}
use Rattle.metis_rounds.specs.Terms.{port_uses, uses_of}

module _ (u : Universe) (s : Support) (x : LifeLines) where
  abbrev pub pair_at : ℕ → ℕ → ℕ
  pair_at l j = get_or (line_at x l) j 0

  pub of_station : (l j : ℕ) → AllByRecursion (λ t. (t.line ≡ l) × (t.station ≡ j)) (station_supplies u s x l j)
  of_station l j = each_joined (λ t. (t.line ≡ l) × (t.station ≡ j)) (port_supplies u s x l j (pair_at l j)) (required_of u (pair_at l j)) (λ r _. by r (provider_at s r)) where
    by : (r : ℕ) (o : Option ℕ) → AllByRecursion (λ (t : Supply). (t.line ≡ l) × (t.station ≡ j)) (option_map_or (slot_supplies u x l j (pair_at l j) r) o [])
    by r None = tt
    by r (Some p) = each_counted (λ (t : Supply). (t.line ≡ l) × (t.station ≡ j)) (λ n. supply_from l j r n (slot_holding x p n)) 1 (demand_of u (pair_at l j) r) (λ n _ _. (refl, refl))

  pub of_line : (l : ℕ) → AllByRecursion (λ t. t.line ≡ l) (line_supplies u s x l)
  of_line l = each_in_row (λ (t : Supply). t.line ≡ l) (station_supplies u s x l) 0 (length (line_at x l)) (λ j _ _.
      each_weaker (λ (t : Supply). (t.line ≡ l) × (t.station ≡ j)) (λ (t : Supply). t.line ≡ l) (station_supplies u s x l j) (λ t p. p.0) (of_station l j))

  -- a test that looks only at the slot finds what it finds among the slots that the pair takes
  pub station_any : (l j : ℕ) (t : Supply → Bool) (v : ℕ × ℕ → Bool) → ((r p k : ℕ) → t (supply_from l j r k (slot_holding x p k)) ≡ v (p, k)) → list_any t (station_supplies u s x l j) ≡ list_any v (uses_of u s (pair_at l j))
  station_any l j t v same =
      let q = pair_at l j in
      list_any-flat_map t (port_supplies u s x l j q) (required_of u q)
      ∙ any_alike (λ r. list_any t (port_supplies u s x l j q r)) (λ r. list_any v (port_uses u s q r)) (required_of u q) (λ r. by r (provider_at s r))
      ∙ sym (list_any-flat_map v (port_uses u s q) (required_of u q)) where
        by : (r : ℕ) (o : Option ℕ) → list_any t (option_map_or (slot_supplies u x l j (pair_at l j) r) o []) ≡ list_any v (option_map_or (λ p. map (λ k. (p, k)) (range_with_len 1 (demand_of u (pair_at l j) r))) o [])
        by r None = refl
        by r (Some p) =
            let ks = range_with_len 1 (demand_of u (pair_at l j) r) in
            list_any-map t (λ k. supply_from l j r k (slot_holding x p k)) ks
            ∙ any_alike (λ k. t (supply_from l j r k (slot_holding x p k))) (λ k. v (p, k)) ks (λ k. same r p k)
            ∙ sym (list_any-map v (λ (k : ℕ). (p, k)) ks)

  -- a port's slot has one line
  module _ (k : IsSupport u s) (are : AreLines u s x) where
    pub one_holder : (t v : Supply) → Contains (supplies_of u s x) t → Contains (supplies_of u s x) v → t.port ≡ v.port → t.slot ≡ v.slot → t.holder ≡ v.holder
    one_holder t v there also port slot =
        let z = lines_of u s x.targets x.own in
        let own = own_selected u s k x are in
        let a = sound.supplied u s k x.targets x.own are.targets own t (subst (λ y. Contains (supplies_of u s y) t) are.are there) in
        let b = sound.supplied u s k x.targets x.own are.targets own v (subst (λ y. Contains (supplies_of u s y) v) are.are also) in
        let provider = sound.provider_of_both u s k x.targets x.own are.targets own t v a b port in
        a.holder ∙ (λ i. (slot_holding z (provider i) (slot i)).0) ∙ sym b.holder
