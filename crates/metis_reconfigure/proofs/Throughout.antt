-- What stands in each order of the actions that keeps the waits.
use Rattle.std.proofs.Common.{◌≡◌, ◌⊎◌, ℕ, ◌+◌, Bool, List, ◌++◌, length, length-append, sym, subst}
use Rattle.std.specs.Prelude.{IsTrue}
use Rattle.metis_ids.specs.declared.actions.Action.{Action}
use Rattle.metis_ids.specs.declared.goals.Goal.{Goal}
use Rattle.metis_universe.specs.Terms.{Holds, IsKept, IsUniverse, Universe, is_complete, picked}
use Rattle.metis_rollout.proofs.Guarding.{goes_on, kept_stands, removal_never_lacks, removal_never_lacks_goals}
use Rattle.metis_rollout.specs.Terms.{CanTake, HasEach, IsBeside, IsGuardedAt, KeepsStanding, StandsIn, TakesLate, all_but, scaffold_name}
use Rattle.metis_wishes.specs.declared.wish.Wish.{Wish}
use Rattle.metis_reconfigure.specs.Terms.{IsAnswered, Reconfiguration, TakesOldLate, at_end, before_removal, fresh_actions, left_by, rebinds_in, reconfigured, taken_away}
use Rattle.metis_reconfigure.proofs.Keeping.{is_beside, whole_is}
use Rattle.metis_reconfigure.proofs.Lawful.{labels_free, may_go_all, steady_before}

module _ (u : Universe) (wishes : List Wish) (old : List Action) (goals : List Goal) (r : Reconfiguration u wishes old goals) (k : IsUniverse u) (ans : IsAnswered u wishes old goals r) where
  abbrev more : List Action
  more = fresh_actions u old r.leaving r.plan ++ rebinds_in r

  abbrev goes : ℕ → Bool
  goes = all_but r.staying

  abbrev label : ℕ → ℕ
  label = scaffold_name old r.plan.actions

  abbrev parts : List Action
  parts = old ++ (more ++ taken_away r)

  same : parts ≡ reconfigured r
  same = sym (whole_is u wishes old goals r)

  besides_old : IsBeside u old more
  besides_old = is_beside u k wishes old ans.steady goals r

  can : CanTake u goes label (old ++ more)
  can = record { steady = steady_before u k wishes old ans.steady goals r; may = may_go_all u k wishes old ans.steady goals r ans.answerable; free = labels_free u k wishes old ans.steady goals r }

  long : length old + length more ≡ length (before_removal r)
  long = sym (length-append old more)

  pub kept_never_fall : (ks : List ℕ) → IsKept (reconfigured r) ks → HasEach 0 (length old) ks → KeepsStanding goes (left_by u old) (at_end r) (left_by u (picked (reconfigured r) ks))
  kept_never_fall ks = subst (λ l. IsKept l ks → HasEach 0 (length old) ks → KeepsStanding goes (left_by u old) (left_by u l) (left_by u (picked l ks))) same
      (λ kept each. kept_stands u k goes label old more besides_old can ks kept each)

  pub never_lacks_any : (front rest : List ℕ) → IsKept (reconfigured r) (front ++ rest) → TakesOldLate r (front ++ rest) → HasEach 0 (length old) front
      → StandsIn (left_by u old) (left_by u (picked (reconfigured r) front)) ⊎ StandsIn (at_end r) (left_by u (picked (reconfigured r) front))
  never_lacks_any front rest = subst (λ n. IsKept (reconfigured r) (front ++ rest) → TakesLate (left_by u old) (reconfigured r) (length old) n (front ++ rest) → HasEach 0 (length old) front
      → StandsIn (left_by u old) (left_by u (picked (reconfigured r) front)) ⊎ StandsIn (at_end r) (left_by u (picked (reconfigured r) front))) long
      (subst (λ l. IsKept l (front ++ rest) → TakesLate (left_by u old) l (length old) (length old + length more) (front ++ rest) → HasEach 0 (length old) front
      → StandsIn (left_by u old) (left_by u (picked l front)) ⊎ StandsIn (left_by u l) (left_by u (picked l front))) same
      (λ kept late each. removal_never_lacks u k goes label old more besides_old can front rest kept late each))

  pub never_lacks_goals : (front rest g h : List ℕ) → IsKept (reconfigured r) (front ++ rest) → TakesOldLate r (front ++ rest) → HasEach 0 (length old) front
      → Holds (left_by u old) g → Holds (at_end r) h → Holds (left_by u (picked (reconfigured r) front)) g ⊎ Holds (left_by u (picked (reconfigured r) front)) h
  never_lacks_goals front rest g h = subst (λ n. IsKept (reconfigured r) (front ++ rest) → TakesLate (left_by u old) (reconfigured r) (length old) n (front ++ rest) → HasEach 0 (length old) front
      → Holds (left_by u old) g → Holds (at_end r) h → Holds (left_by u (picked (reconfigured r) front)) g ⊎ Holds (left_by u (picked (reconfigured r) front)) h) long
      (subst (λ l. IsKept l (front ++ rest) → TakesLate (left_by u old) l (length old) (length old + length more) (front ++ rest) → HasEach 0 (length old) front
      → Holds (left_by u old) g → Holds (left_by u l) h → Holds (left_by u (picked l front)) g ⊎ Holds (left_by u (picked l front)) h) same
      (λ kept late each. removal_never_lacks_goals u k goes label old more besides_old can front rest kept late each g h))

pub goes_on_guarded : (u : Universe) (wishes : List Wish) (old : List Action) (goals : List Goal) (r : Reconfiguration u wishes old goals) (ks : List ℕ) → IsKept old ks
    → (rest : List ℕ) × IsKept (reconfigured r) (ks ++ rest) × IsTrue (is_complete (reconfigured r) (ks ++ rest)) × IsGuardedAt 0 (length (before_removal r)) (ks ++ rest)
goes_on_guarded u wishes old goals r ks kept =
    let more = fresh_actions u old r.leaving r.plan ++ rebinds_in r in
    subst (λ n. (rest : List ℕ) × IsKept (reconfigured r) (ks ++ rest) × IsTrue (is_complete (reconfigured r) (ks ++ rest)) × IsGuardedAt 0 n (ks ++ rest)) (sym (length-append old more))
    (subst (λ l. (rest : List ℕ) × IsKept l (ks ++ rest) × IsTrue (is_complete l (ks ++ rest)) × IsGuardedAt 0 (length old + length more) (ks ++ rest)) (sym (whole_is u wishes old goals r))
    (goes_on old more (taken_away r) ks kept))
