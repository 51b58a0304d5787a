-- Who is unmet wants more providers than there are, and nothing new provides the port.
use Rattle.std.proofs.Common.{◌≡◌, ℕ, ◌+◌, ◌-◌, ◌<◌, ◌≤◌, Bool, true, false, cond, not, ◌&&◌, List, [], ◌∷◌, Some, length, nat_eq, nat_lt, refl, sym, ap, ◌∙◌, arith, inl, inr, take}
use Rattle.std.specs.Prelude.{is_some}
use Rattle.std.specs.List.{count_by, find, range_with_len}
use Rattle.std.specs.List.Sorted.{IsStrictlySortedBy}
use Rattle.std.specs.Ordering.{nat_cmp}
use Rattle.std.proofs.lemmas.Bool.{and_from, and_parts, eqb-true, lt-ltb, or_cases}
use Rattle.std.proofs.lemmas.List.Kept.{IsStrictlySortedBy-filter}
use Rattle.metis_ids.proofs.Lists.{above_head, has-filter}
use Rattle.metis_ids.proofs.Options.{IsSome_at}
use Rattle.metis_ids.specs.declared.actions.Action.{Action}
use Rattle.metis_ids.specs.declared.goals.Goal.TheVariants.{Port}
use Rattle.metis_rollout.proofs.Quiet.{keys-has}
use Rattle.metis_rollout.specs.Terms.{members}
use Rattle.metis_universe.specs.Terms.{Config, IsConfig, IsRun, IsUniverse, Universe, after_all, has, pair_of, provides}
use Rattle.metis_wishes.specs.Terms.{is_avoided, rebound}
use Rattle.metis_wishes.specs.declared.wish.Wish.{Wish}
use Rattle.metis_reconfigure.specs.Terms.{IsNew, IsUnmet, NewOnesAct, given, is_unserved, lack, left_to_plan, rebound_in, targets_behind, wants}
use Rattle.metis_reconfigure.proofs.NewOnes.{unavoidable_unserved}
use Rattle.metis_reconfigure.proofs.Tables.{IsUnserved, wants_low, who_is_unserved}

-- none before the first that passes does
before_found : (t : ℕ → Bool) (xs : List ℕ) (z x : ℕ) → IsStrictlySortedBy nat_cmp xs → find t xs ≡ Some z → x < z → has xs x ≡ true → t x ≡ false
unfolding IsStrictlySortedBy
before_found t [] z x s is low h = absurd (cc)
before_found t (y ∷ xs) z x s is low h = elim (t y) as (λ b. t y ≡ b → cond b (Some y) (find t xs) ≡ Some z → t x ≡ false) [
  | true ↦ λ now e. let same : y ≡ z = cc in elim (or_cases (nat_eq y x) (has xs x) h) [
    | inl here ↦ absurd (let at = eqb-true y x here in omega arith)
    | inr later ↦ absurd (let above = above_head y x xs s.0 later in omega arith)
  ]
  | false ↦ λ now e. elim (or_cases (nat_eq y x) (has xs x) h) [
    | inl here ↦ sym (ap t (eqb-true y x here)) ∙ now
    | inr later ↦ before_found t xs z x s.1 e low later
  ]
] refl is

module _ (u : Universe) (wishes : List Wish) (c : Config) (leaving ts : List ℕ) (z s : ℕ) (unmet : IsUnmet u (left_to_plan u wishes c leaving) c leaving (rebound_in wishes c) ts z s) where
  abbrev v : Universe
  v = left_to_plan u wishes c leaving

  abbrev zs : List ℕ
  zs = rebound_in wishes c

  abbrev so_far : List ℕ
  so_far = targets_behind u v c leaving zs ts (range_with_len 0 s)

  abbrev more : ℕ
  more = count_by (λ p. provides u p s) so_far

  who : IsUnserved u c leaving so_far s zs z
  who = who_is_unserved u c leaving so_far s zs z unmet.unserved

  pub unmet_wants : (has (rebound wishes) z ≡ true) × (0 < lack u c leaving z s) × (length (given u c leaving s) + more < wants u c s z)
  unmet_wants = ((and_parts (has (rebound wishes) z) (has (members c) z) (sym (has-filter (has (rebound wishes)) z (members c)) ∙ who.among)).0, who.lacking, who.more)

  pub lesser_want_less : (x p : ℕ) → IsConfig c → x < z → has (rebound wishes) x ≡ true → pair_of c x ≡ Some p → 0 < lack u c leaving x s → wants u c s x ≤ length (given u c leaving s) + more
  lesser_want_less x p k low line there lacks =
      let among : has zs x ≡ true = has-filter (has (rebound wishes)) x (members c) ∙ and_from _ _ line (keys-has c.instances x (IsSome_at (pair_of c x) p there)) in
      let sorted = IsStrictlySortedBy-filter nat_cmp (has (rebound wishes)) (members c) k.ascending in
      let off = before_found (is_unserved u c leaving so_far s) zs z x sorted unmet.unserved low among in
      wants_low u c leaving so_far s x (sym (ap (λ b. b && nat_lt more (wants u c s x - length (given u c leaving s))) (lt-ltb 0 (lack u c leaving x s) lacks)) ∙ off)

  pub nothing_new_provides : IsUniverse u → IsConfig c → (xs : List Action) → IsRun u c xs → NewOnesAct u wishes c leaving c xs
      → (k x p : ℕ) → IsNew c x → pair_of (after_all u c (take k xs)) x ≡ Some p → is_avoided u wishes p ≡ false → provides u p s ≡ false
  nothing_new_provides is kc xs run acts k x p =
      unavoidable_unserved u wishes c leaving is kc xs run acts (Port s) (ap (λ o. not (is_some o)) unmet.without) k x p
