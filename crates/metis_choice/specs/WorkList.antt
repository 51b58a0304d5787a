-- The work list of a selection.
--     WorkList      the pairs that are selected so far, and those of them whose needs are still to be looked at
--     work_left w      how many pairs may still be taken from the list, at most
--     Adds ps old new      the pairs are selected as well, and those that were not before wait
use Rattle.std.specs.Prelude.{◌≡◌, ◌≤◌, ℕ, ◌+◌, ◌-◌, ◌&&◌, ◌||◌, not, List, length}
use Rattle.metis_ids.specs.Terms.{PairSet}
use Rattle.metis_universe.specs.Terms.{has}

pub record WorkList : Type 0 where
  pub selected : PairSet
  pub waiting : List ℕ

-- those that wait, and those that are not selected yet
abbrev pub work_left : WorkList → ℕ
work_left w = length w.waiting + (w.selected.size - length w.selected.members)

pub record Adds (ps : List ℕ) (old new : WorkList) : Type 0 where
  pub size : new.selected.size ≡ old.selected.size
  pub selected : (q : ℕ) → has new.selected.members q ≡ (has ps q || has old.selected.members q)
  pub waiting : (q : ℕ) → has new.waiting q ≡ ((has ps q && not (has old.selected.members q)) || has old.waiting q)
  pub less : work_left new ≤ work_left old
