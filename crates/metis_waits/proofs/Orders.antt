-- Orders that keep the waits: what is done of an instance is a beginning of its own actions.
use Rattle.std.proofs.Common.{◌≡◌, ℕ, zero, suc, ◌<◌, ◌≤◌, Bool, true, false, not, ◌&&◌, List, Some, refl, sym, ap, ◌∙◌, arith, inl, inr, take, length}
use Rattle.std.specs.Prelude.{slice_get}
use Rattle.std.proofs.lemmas.Bool.{false≢true, and_parts, eqb-true, cases_lt, cases_eq, both_ways, not-true}
use Rattle.metis_ids.specs.Terms.{actor_of}
use Rattle.metis_ids.specs.declared.actions.Action.{Action}
use Rattle.metis_universe.specs.Terms.{has, last_number, waits}
use Rattle.metis_universe.proofs.Places.{least_place, passes_at, place_below, wait_has}
use Rattle.metis_waits.proofs.LastPlaces.{IsLast, last_place, own_is_wait, passes_some}
use Rattle.metis_waits.specs.Terms.{is_by}

-- the waits of what is done are done
abbrev pub IsClosedUnderWaits : List Action → List ℕ → Type 0
IsClosedUnderWaits A done = (k m : ℕ) → has done k ≡ true → has (waits A k) m ≡ true → has done m ≡ true

-- the own place before one whose waits are done is done
pub last_own_done : (A : List Action) (done : List ℕ) (i l : ℕ) (a : Action) (z : ℕ) → slice_get A i ≡ Some a → is_by z a ≡ true → IsLast (is_by z) A i l →
    ((m : ℕ) → has (waits A (suc i)) m ≡ true → has done m ≡ true) → has done (suc l) ≡ true
last_own_done A done i l a z at mine last waits_done =
    let who = eqb-true (actor_of a) z mine in
    waits_done (suc l) (wait_has A i l a at last.below (own_is_wait (take i A) a (suc l) (ap (λ x. last_number (is_by x) (take i A)) who ∙ last.number)))

-- what is done of an instance has all its own actions before
own_within : (A : List Action) (done : List ℕ) → IsClosedUnderWaits A done → (n i m z : ℕ) → i ≤ n → has done (suc i) ≡ true → passes_at (is_by z) A i ≡ true → passes_at (is_by z) A m ≡ true → m < i → has done (suc m) ≡ true
own_within A done closed zero i m z fuel d at earlier less = absurd (omega arith)
own_within A done closed (suc n) i m z fuel d at earlier less =
    let here = passes_some (is_by z) A i at in
    elim (last_place (is_by z) A i (omega (arith, place_below A i here.0 here.1))) [
      | inr none ↦ absurd (both_ways _ (none.0 m less) earlier)
      | inl last ↦
          let l = last.0 in
          let done_l = last_own_done A done i l here.0 z here.1 here.2 last.1 (λ k w. closed (suc i) k d w) in
          elim (cases_eq m l) [
            | inl same ↦ ap (λ x. has done (suc x)) same ∙ done_l
            | inr other ↦ elim (cases_lt m l) [
              | inl before ↦ own_within A done closed n l m z (omega (arith, last.1.below)) done_l last.1.passes earlier before
              | inr behind ↦ absurd (both_ways _ (last.1.later m (omega arith) less) earlier)
            ]
          ]
    ]

pub own_done : (A : List Action) (done : List ℕ) → IsClosedUnderWaits A done → (i m z : ℕ) → has done (suc i) ≡ true → passes_at (is_by z) A i ≡ true → passes_at (is_by z) A m ≡ true → m < i → has done (suc m) ≡ true
own_done A done closed i m z = own_within A done closed i i m z (omega arith)

-- the own actions of z that are done are those before place i
pub record IsAt (A : List Action) (done : List ℕ) (z i : ℕ) : Type 0 where
  pub before : (m : ℕ) → passes_at (is_by z) A m ≡ true → m < i → has done (suc m) ≡ true
  pub only : (m : ℕ) → passes_at (is_by z) A m ≡ true → has done (suc m) ≡ true → m < i

pub place_of : (A : List Action) (done : List ℕ) → IsClosedUnderWaits A done → (z : ℕ) → (i : ℕ) × IsAt A done z i
place_of A done closed z =
    let waiting = λ (m : ℕ). passes_at (is_by z) A m && not (has done (suc m)) in
    let no_wait = λ (m : ℕ) (mine : passes_at (is_by z) A m ≡ true) (h : waiting m ≡ false). settled (passes_at (is_by z) A m) (has done (suc m)) mine h in
    elim (least_place waiting 0 (length A)) [
      | inl found ↦
          let i = found.0 in
          let parts = and_parts _ _ found.3 in (
            i,
            record {
              before = λ m mine less. no_wait m mine (found.4 m (omega arith) less);
              only = λ m mine d. elim (cases_lt m i) [
                | inl less ↦ less
                | inr behind ↦ elim (cases_eq m i) [
                  | inl same ↦ absurd (both_ways _ (ap (λ x. has done (suc x)) same ∙ not-true _ parts.1) d)
                  | inr other ↦ absurd (both_ways _ (not-true _ parts.1) (own_done A done closed m i z d mine parts.0 (omega arith)))
                ]
              ];
            },
          )
      | inr none ↦ (
        length A,
        record {
          before = λ m mine less. no_wait m mine (none m (omega arith) less);
          only = λ m mine d. let here = passes_some (is_by z) A m mine in place_below A m here.0 here.1;
        },
      )
    ] where
      settled : (a b : Bool) → a ≡ true → (a && not b) ≡ false → b ≡ true
      settled a true h e = refl
      settled true false h e = absurd (false≢true (sym e))
      settled false false h e = absurd (false≢true h)
