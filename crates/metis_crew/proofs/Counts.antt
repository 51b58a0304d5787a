-- What is done by the counts.
use Rattle.std.proofs.Common.{◌≡◌, ℕ, suc, Bool, true, false, cond, ◌||◌, ◌&&◌, List, [], ◌∷◌, Some, None, refl, sym, ap, ◌∙◌, subst, arith, inl, inr, nat_eq, nat_lt, nat_cmp, take}
use Rattle.std.specs.BTreeMap.{insert_entry}
use Rattle.std.specs.Map.{lookup}
use Rattle.std.specs.Prelude.{unwrap_or}
use Rattle.std.proofs.lemmas.Bool.{eq-eqb, eqb-true, cases_eq, cases_Bool, false_from_ne_true}
use Rattle.std.proofs.lemmas.Option.{none-some}
use Rattle.metis_ids.specs.Terms.{actor_of}
use Rattle.metis_ids.specs.declared.actions.Action.{Action}
use Rattle.metis_universe.specs.Terms.{config_of, has}
use Rattle.metis_universe.proofs.Edits.{pair_of-put}
use Rattle.metis_crew.proofs.Fronts.{front_end, front_has, front_low, front_next, none_taken}
use Rattle.metis_crew.proofs.OwnActions.{own_actor, own_listed, own_next, rising}
use Rattle.metis_crew.specs.Terms.{actor_at, count_of, is_done, is_own, next_of, none_done, one_more, own_done, own_numbers, start}

-- the counts and the list have the same actions done
abbrev pub AreDone : List Action → List (ℕ × ℕ) → List ℕ → Type 0
AreDone A counts done = (k : ℕ) → is_done A counts k ≡ has done k

pub count-insert : (es : List (ℕ × ℕ)) (z v q : ℕ) → count_of (insert_entry nat_cmp es z v) q ≡ cond (nat_eq q z) v (count_of es q)
count-insert es z v q =
    ap (λ o. unwrap_or o 0) (pair_of-put (config_of es []) z v q)
    ∙ elim (nat_eq q z) as (λ b. unwrap_or (cond b (Some v) (lookup (nat_eq q) es)) 0 ≡ cond b v (unwrap_or (lookup (nat_eq q) es) 0)) [ true ↦ refl | false ↦ refl ]

-- ---- a crew that begins

none_count : (A : List Action) (es : List (ℕ × ℕ)) (z : ℕ) → count_of es z ≡ 0 → count_of (none_done A es) z ≡ 0
none_count [] es z h = h
none_count (a ∷ A) es z h = none_count A (insert_entry nat_cmp es (actor_of a) 0) z (count-insert es (actor_of a) 0 z ∙ ap (cond (nat_eq z (actor_of a)) 0) h ∙ same (nat_eq z (actor_of a))) where
  same : (b : Bool) → cond {A = ℕ} b 0 0 ≡ 0
  same true = refl
  same false = refl

pub start_count : (A : List Action) (z : ℕ) → count_of (start A) z ≡ 0
start_count A z = none_count A [] z refl

pub none_are_done : (A : List Action) → AreDone A (start A) []
none_are_done A k = ap (λ n. has (take n (own_numbers A (actor_at A k))) k) (start_count A (actor_at A k)) ∙ none_taken (own_numbers A (actor_at A k)) k

-- ---- an instance's next action

module _ (A : List Action) (counts : List (ℕ × ℕ)) (z k : ℕ) (next : next_of A counts z ≡ Some k) where
  pub next_left : is_done A counts k ≡ false
  next_left =
      ap (λ y. has (own_done A counts y) k) (own_actor A z k (own_next A z (count_of counts z) k next).0)
      ∙ false_from_ne_true _ (λ h. let low = front_low 0 (own_numbers A z) (count_of counts z) k k (rising A z) next h in absurd (omega (arith, low)))

  -- those of the instance that are done are those before it
  pub done_before : (j : ℕ) → is_own A z j ≡ true → is_done A counts j ≡ nat_lt j k
  done_before j mine =
      ap (λ y. has (own_done A counts y) j) (own_actor A z j mine)
      ∙ front_has 0 (own_numbers A z) (count_of counts z) k j (rising A z) next
      ∙ ap (λ b. b && nat_lt j k) (own_listed A z j mine)

  -- once it is done, it is done beside those that were
  pub done_next : (j : ℕ) → is_done A (one_more counts z) j ≡ (nat_eq k j || is_done A counts j)
  done_next j =
      elim (cases_eq (actor_at A j) z) [
        | inl same ↦ subst (λ y. has (own_done A (one_more counts z) y) j ≡ (nat_eq k j || has (own_done A counts y) j)) (sym same) at_z
        | inr other ↦
            ap (λ n. has (take n (own_numbers A (actor_at A j))) j) (count-insert counts z (suc (count_of counts z)) (actor_at A j) ∙ ap (λ b. cond b (suc (count_of counts z)) (count_of counts (actor_at A j))) (false_from_ne_true _ (λ e. absurd (other (eqb-true (actor_at A j) z e)))))
            ∙ sym (ap (λ b. b || is_done A counts j) (false_from_ne_true _ (λ e. absurd (other (ap (actor_at A) (sym (eqb-true k j e)) ∙ own_actor A z k (own_next A z (count_of counts z) k next).0)))))
      ] where
        at_z : has (own_done A (one_more counts z) z) j ≡ (nat_eq k j || has (own_done A counts z) j)
        at_z =
            ap (λ n. has (take n (own_numbers A z)) j) (count-insert counts z (suc (count_of counts z)) z ∙ ap (λ b. cond b (suc (count_of counts z)) (count_of counts z)) (eq-eqb z z refl))
            ∙ front_next (own_numbers A z) (count_of counts z) k j next

pub one_more_done : (A : List Action) (counts : List (ℕ × ℕ)) (done : List ℕ) (z k : ℕ) → AreDone A counts done → next_of A counts z ≡ Some k → AreDone A (one_more counts z) (k ∷ done)
one_more_done A counts done z k agree next j = done_next A counts z k next j ∙ ap (λ b. nat_eq k j || b) (agree j)

-- where no action is next, all of the instance are done
pub done_all : (A : List Action) (counts : List (ℕ × ℕ)) (z k : ℕ) → next_of A counts z ≡ None → is_own A z k ≡ true → is_done A counts k ≡ true
done_all A counts z k next mine = elim (cases_Bool (is_done A counts k)) [
  | inl at ↦ at
  | inr left ↦
      let found = front_end (own_numbers A z) (count_of counts z) k (own_listed A z k mine) (sym (ap (λ y. has (own_done A counts y) k) (own_actor A z k mine)) ∙ left) in
      absurd (none-some found.0 (sym next ∙ found.1))
]
