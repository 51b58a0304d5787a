-- How many actions are done.
use Rattle.std.proofs.Common.{◌≡◌, ℕ, zero, suc, ◌+◌, ◌<◌, ◌≤◌, Bool, true, false, cond, ◌||◌, ◌&&◌, List, [], ◌∷◌, refl, sym, ap, ◌∙◌, arith, inl, inr, nat_eq, length, Some}
use Rattle.std.specs.List.{cons_option, filter, list_all, range_with_len}
use Rattle.std.proofs.lemmas.Bool.{cases_eq, eq-eqb, ne_eqb, false_from_ne_true}
use Rattle.std.proofs.lemmas.List.FromFn.{length-range_with_len}
use Rattle.metis_ids.specs.declared.actions.Action.{Action}
use Rattle.metis_ids.proofs.Lists.{filter_short}
use Rattle.metis_universe.proofs.Ranges.{in_range}
use Rattle.metis_universe.specs.Terms.{IsRun, Universe, after_all, empty, is_complete, is_steadfast, numbers, picked}
use Rattle.metis_waits.proofs.KeptRuns.{complete_end, kept_end}
use Rattle.metis_crew.proofs.Counts.{count-insert, done_next, next_left, none_are_done, start_count}
use Rattle.metis_crew.proofs.OwnActions.{own_actor, own_next}
use Rattle.metis_crew.proofs.Turns.{IsKept-did, all_did, turn_did}
use Rattle.metis_crew.specs.Terms.{after_turns, count_of, counts_after, did, done_count, is_done, is_own, next_of, number_done, one_more, start, turn, turns}
use Rattle.metis_crew.specs.declared.turn.Turn.{Turn}
use Rattle.metis_crew.specs.declared.turn.Turn.TheVariants.{Did, WaitsFor, Done, Nobody}

length-cond : (b : Bool) (x : ℕ) (xs : List ℕ) → length (cond b (x ∷ xs) xs) ≡ cond b 1 0 + length xs
length-cond true x xs = omega arith
length-cond false x xs = omega arith

-- ---- one more number passes a test

module _ (t t' : ℕ → Bool) (k : ℕ) (more : (j : ℕ) → t' j ≡ (nat_eq k j || t j)) where
  other : (j : ℕ) → (k ≡ j → ⊥) → t' j ≡ t j
  other j apart = more j ∙ ap (λ b. b || t j) (ne_eqb k j apart)

  same_past : (a n : ℕ) → k < a → length (filter t' (range_with_len a n)) ≡ length (filter t (range_with_len a n))
  same_past a zero past = refl
  same_past a (suc n) past =
      let rest = same_past (a + 1) n (omega arith) in
      length-cond (t' a) a (filter t' (range_with_len (a + 1) n)) ∙ (λ i. cond (other a (omega arith) i) 1 0 + rest i) ∙ sym (length-cond (t a) a (filter t (range_with_len (a + 1) n)))

  pub one_longer : (a n : ℕ) → t k ≡ false → a ≤ k → k < a + n → length (filter t' (range_with_len a n)) ≡ suc (length (filter t (range_with_len a n)))
  one_longer a zero new low high = absurd (omega arith)
  one_longer a (suc n) new low high =
      let first' = length-cond (t' a) a (filter t' (range_with_len (a + 1) n)) in
      let first = length-cond (t a) a (filter t (range_with_len (a + 1) n)) in
      elim (cases_eq k a) [
        | inl same ↦
            let rest = same_past (a + 1) n (omega arith) in
            let now : cond {A = ℕ} (t' a) 1 0 ≡ 1 = ap (λ b. cond {A = ℕ} b 1 0) (more a ∙ ap (λ b. b || t a) (eq-eqb k a same)) in
            let was : cond {A = ℕ} (t a) 1 0 ≡ 0 = ap (λ b. cond {A = ℕ} b 1 0) (ap t (sym same) ∙ new) in
            omega arith
        | inr apart ↦
            let rest = one_longer (a + 1) n new (omega arith) (omega arith) in
            let now : cond {A = ℕ} (t' a) 1 0 ≡ cond (t a) 1 0 = ap (λ b. cond {A = ℕ} b 1 0) (other a apart) in
            omega arith
      ]

pub done_count-next : (A : List Action) (counts : List (ℕ × ℕ)) (z k : ℕ) → next_of A counts z ≡ Some k → done_count A (one_more counts z) ≡ suc (done_count A counts)
done_count-next A counts z k next =
    let range = in_range 1 (length A) k (own_next A z (count_of counts z) k next).1 in
    one_longer (is_done A counts) (is_done A (one_more counts z)) k (done_next A counts z k next) 1 (length A) (next_left A counts z k next) range.0 range.1

-- where an action is next, not all are done
pub done_count-low : (A : List Action) (counts : List (ℕ × ℕ)) (z k : ℕ) → next_of A counts z ≡ Some k → done_count A counts < length A
done_count-low A counts z k next =
    let more = done_count-next A counts z k next in
    let short = filter_short (is_done A (one_more counts z)) (numbers A) in
    let long = length-range_with_len 1 (length A) in
    omega arith

none_pass : (t : ℕ → Bool) (xs : List ℕ) → ((k : ℕ) → t k ≡ false) → length (filter t xs) ≡ 0
none_pass t [] none = refl
none_pass t (x ∷ xs) none = ap (λ b. length (cond b (x ∷ filter t xs) (filter t xs))) (none x) ∙ none_pass t xs none

pub done_count-start : (A : List Action) → done_count A (start A) ≡ 0
done_count-start A = none_pass (is_done A (start A)) (numbers A) (none_are_done A)

-- ---- many turns

done_count-from : (A : List Action) (counts : List (ℕ × ℕ)) (zs : List ℕ) → done_count A (after_turns A counts zs) ≡ length (did (turns A counts zs)) + done_count A counts
done_count-from A counts [] = omega arith
done_count-from A counts (z ∷ zs) = by_turn (turn A counts z) refl (λ counts'. done_count-from A counts' zs) where
  by_turn : (t : Turn) → turn A counts z ≡ t → ((counts' : List (ℕ × ℕ)) → done_count A (after_turns A counts' zs) ≡ length (did (turns A counts' zs)) + done_count A counts') →
      done_count A (after_turns A (counts_after counts z t) zs) ≡ length (cons_option (number_done t) (did (turns A (counts_after counts z t) zs))) + done_count A counts
  by_turn (Did k) e rest =
      let all = rest (one_more counts z) in
      let next = done_count-next A counts z k (turn_did A counts z k e).0 in
      omega arith
  by_turn (WaitsFor k m) e rest = rest counts
  by_turn Done e rest = rest counts
  by_turn Nobody e rest = rest counts

pub done_count-did : (A : List Action) (zs : List ℕ) → done_count A (after_turns A (start A) zs) ≡ length (did (turns A (start A) zs))
done_count-did A zs = let all = done_count-from A (start A) zs in let none = done_count-start A in omega arith

count-from : (A : List Action) (counts : List (ℕ × ℕ)) (zs : List ℕ) (y : ℕ) → count_of (after_turns A counts zs) y ≡ length (filter (is_own A y) (did (turns A counts zs))) + count_of counts y
count-from A counts [] y = omega arith
count-from A counts (z ∷ zs) y = by_turn (turn A counts z) refl (λ counts'. count-from A counts' zs y) where
  by_turn : (t : Turn) → turn A counts z ≡ t → ((counts' : List (ℕ × ℕ)) → count_of (after_turns A counts' zs) y ≡ length (filter (is_own A y) (did (turns A counts' zs))) + count_of counts' y) →
      count_of (after_turns A (counts_after counts z t) zs) y ≡ length (filter (is_own A y) (cons_option (number_done t) (did (turns A (counts_after counts z t) zs)))) + count_of counts y
  by_turn (Did k) e rest =
      let all = rest (one_more counts z) in
      let mine = (own_next A z (count_of counts z) k (turn_did A counts z k e).0).0 in
      let first = length-cond (is_own A y k) k (filter (is_own A y) (did (turns A (one_more counts z) zs))) in
      let put = count-insert counts z (suc (count_of counts z)) y in
      elim (cases_eq y z) [
        | inl same ↦
            let own : cond {A = ℕ} (is_own A y k) 1 0 ≡ 1 = ap (λ b. cond {A = ℕ} b 1 0) (ap (λ x. is_own A x k) same ∙ mine) in
            let count : count_of (one_more counts z) y ≡ suc (count_of counts y) = put ∙ ap (λ b. cond b (suc (count_of counts z)) (count_of counts y)) (eq-eqb y z same) ∙ ap (λ x. suc (count_of counts x)) (sym same) in
            omega arith
        | inr apart ↦
            let own : cond {A = ℕ} (is_own A y k) 1 0 ≡ 0 = ap (λ b. cond {A = ℕ} b 1 0) (false_from_ne_true _ (λ h. apart (sym (own_actor A y k h) ∙ own_actor A z k mine))) in
            let count : count_of (one_more counts z) y ≡ count_of counts y = put ∙ ap (λ b. cond b (suc (count_of counts z)) (count_of counts y)) (ne_eqb y z apart) in
            omega arith
      ]
  by_turn (WaitsFor k m) e rest = rest counts
  by_turn Done e rest = rest counts
  by_turn Nobody e rest = rest counts

pub count-did : (A : List Action) (zs : List ℕ) (z : ℕ) → count_of (after_turns A (start A) zs) z ≡ length (filter (is_own A z) (did (turns A (start A) zs)))
count-did A zs z = let all = count-from A (start A) zs z in let none = start_count A z in omega arith

-- ---- once all is done

all_pass : (t : ℕ → Bool) (xs : List ℕ) → length (filter t xs) ≡ length xs → list_all t xs ≡ true
all_pass t [] h = refl
all_pass t (x ∷ xs) h =
    let short = filter_short t xs in
    elim (t x) as (λ b. length (cond b (x ∷ filter t xs) (filter t xs)) ≡ length (x ∷ xs) → (b && list_all t xs) ≡ true) [
      | true ↦ λ e. all_pass t xs (omega arith)
      | false ↦ λ e. absurd (omega arith)
    ] h

complete_did : (A : List Action) (zs : List ℕ) → done_count A (after_turns A (start A) zs) ≡ length A → is_complete A (did (turns A (start A) zs)) ≡ true
complete_did A zs all = sym (all_did A zs (numbers A)) ∙ all_pass (is_done A (after_turns A (start A) zs)) (numbers A) (all ∙ sym (length-range_with_len 1 (length A)))

pub did_run : (u : Universe) (A : List Action) (zs : List ℕ) → IsRun u empty A → is_steadfast u A ≡ true → IsRun u empty (picked A (did (turns A (start A) zs)))
did_run u A zs run steady = (kept_end u A run steady (did (turns A (start A) zs)) (IsKept-did A zs)).run

pub did_end : (u : Universe) (A : List Action) (zs : List ℕ) → IsRun u empty A → is_steadfast u A ≡ true → done_count A (after_turns A (start A) zs) ≡ length A →
    after_all u empty (picked A (did (turns A (start A) zs))) ≡ after_all u empty A
did_end u A zs run steady all = complete_end u A run steady (did (turns A (start A) zs)) (IsKept-did A zs) (complete_did A zs all)
