-- Lines from any source.
use Rattle.std.proofs.Common.{◌≡◌, ℕ, ◌+◌, ◌<◌, ◌≤◌, Bool, true, false, cond, not, List, [], ◌∷◌, Option, Some, None, refl, sym, ap, ◌∙◌, subst, arith, inl, inr, nat_eq, get_or, length}
use Rattle.std.specs.Prelude.{position, nat_lt}
use Rattle.std.specs.List.{All, filter, find, list_all, position_or_len, range_with_len}
use Rattle.std.proofs.lemmas.Bool.{and_from, and_parts, both_ways, eqb-true, false_from_ne_true, false≢true, ltb-false, not-false, or_cases}
use Rattle.std.proofs.lemmas.List.Elements.{All-head, All-tail}
use Rattle.std.proofs.lemmas.List.Folds.{list_all-append}
use Rattle.std.proofs.lemmas.List.Sums.{fails_before_first}
use Rattle.metis_ids.proofs.Lists.{filter_more}
use Rattle.metis_ids.specs.declared.goals.Goal.{Goal}
use Rattle.metis_universe.proofs.Correctness.{all_has}
use Rattle.metis_universe.proofs.Served.{count-cons, same_itself}
use Rattle.metis_universe.specs.Terms.{AttainsGoals, IsUniverse, Universe, has, is_free, next_of, pair_count, places_of, same_goal}
use Rattle.metis_why.proofs.Soundness.{kept_by, unattained}
use Rattle.metis_why.specs.Terms.{IsLineOf, IsOwn, IsReason, before_of, covered, first_bad, line_holds, listed, named_by, own_holds, verdict_by, wanted_by}
use Rattle.metis_why.specs.declared.confirming.Confirmation.TheVariants.{Confirmed}
use Rattle.metis_why.specs.declared.reason.Line.{Line}
use Rattle.metis_why.specs.declared.reason.Reason.{Reason}
use Rattle.metis_why.specs.declared.reason.Reason.TheVariants.{Needs, Comes}

-- ---- the pairs from which a move leads

pub one_away : (u : Universe) (x : ℕ → Bool) (q n : ℕ) → n < pair_count u → has (next_of u n) q ≡ true → x n ≡ false → false ≡ list_all x (before_of u q)
one_away u x q n low leads away =
    sym (false_from_ne_true (list_all x (before_of u q)) (λ all. both_ways (x n) away (all_has x n (before_of u q) all (kept_by u (λ p. has (next_of u p) q) n low leads))))

pub none_away : (t x : ℕ → Bool) (n : ℕ) → list_all x (filter t (range_with_len 0 n)) ≡ true → (t n ≡ true → x n ≡ true) → list_all x (filter t (range_with_len 0 (n + 1))) ≡ true
none_away t x n before here =
    ap (list_all x) (filter_more t n) ∙ list_all-append x (filter t (range_with_len 0 n)) (cond (t n) (n ∷ []) [])
    ∙ and_from (list_all x (filter t (range_with_len 0 n))) (list_all x (cond (t n) (n ∷ []) [])) before (by (t n) refl) where
      by : (b : Bool) → t n ≡ b → list_all x (cond b (n ∷ []) []) ≡ true
      by true on = and_from (x n) true (here on) refl
      by false off = refl

-- ---- the lines

pub listed_low : (u : Universe) (lines : List Line) (p : ℕ) → All (IsLineOf u) lines → listed lines p ≡ true → p < pair_count u
listed_low u [] p all there = absurd (false≢true there)
listed_low u (l ∷ lines) p all there = elim (or_cases (nat_eq l.pair p) (listed lines p) there) [
  | inl here ↦ subst (λ q. q < pair_count u) (eqb-true l.pair p here) (All-head (IsLineOf u) l lines all).pair
  | inr later ↦ listed_low u lines p (All-tail (IsLineOf u) l lines all) later
]

none_bad : (t : Line → Bool) (lines : List Line) → position (λ l. not (t l)) lines ≡ None → All (λ l. t l ≡ true) lines
none_bad t lines none = λ k d low. not-false (t (get_or lines k d)) (fails_before_first (λ l. not (t l)) lines k d (omega (arith, past, low))) where
  first : ℕ
  first = position_or_len (λ l. not (t l)) lines

  by : (b : Bool) → cond b (Some first) None ≡ None → b ≡ false
  by true e = cc
  by false e = refl

  past : length lines ≤ position_or_len (λ l. not (t l)) lines
  past = ltb-false first (length lines) (by (nat_lt first (length lines)) none)

own_part : (u : Universe) (q : ℕ) (reason : Reason) → own_holds u q reason ≡ true → IsOwn u q reason
own_part u q (Needs r) on = on
own_part u q Comes on = by (is_free u q) on where
  by : (b : Bool) → not b ≡ true → b ≡ false
  by true h = absurd (false≢true h)
  by false h = refl

barred_by : (u : Universe) (lines some : List Line) → All (λ l. line_holds u lines l ≡ true) some → (q : ℕ) → listed some q ≡ true → (reason : Reason) × IsReason u (listed lines) q reason
barred_by u lines [] all q there = absurd (false≢true there)
barred_by u lines (l ∷ some) all q there = elim (or_cases (nat_eq l.pair q) (listed some q) there) [
  | inl here ↦ subst (λ k. (reason : Reason) × IsReason u (listed lines) k reason) (eqb-true l.pair q here)
      (let parts = and_parts (own_holds u l.pair l.reason) (list_all (listed lines) (named_by u l.pair l.reason)) (All-head (λ k. line_holds u lines k ≡ true) l some all) in
      (l.reason, record { own = own_part u l.pair l.reason parts.0; waits = parts.1 }))
  | inr later ↦ barred_by u lines some (All-tail (λ k. line_holds u lines k ≡ true) l some all) q later
]

-- ---- the verdict

confirmed_parts : (o : Option ℕ) (c : Option Goal) (g : Goal) → verdict_by o c ≡ Confirmed g → (o ≡ None) × (c ≡ Some g)
confirmed_parts (Some k) c g e = cc
confirmed_parts None (Some h) g e = (refl, (cc))
confirmed_parts None None g e = cc

pub placed : (t : Goal → Bool) (goals : List Goal) (g : Goal) → find t goals ≡ Some g → (t g ≡ true) × (1 ≤ places_of goals g)
placed t [] g is = cc
placed t (x ∷ goals) g is = by (t x) refl (placed t goals g) is where
  steps : places_of (x ∷ goals) g ≡ cond (same_goal x g) 1 0 + places_of goals g
  steps = count-cons (λ h. same_goal h g) x goals

  by : (b : Bool) → t x ≡ b → (find t goals ≡ Some g → (t g ≡ true) × (1 ≤ places_of goals g)) → cond b (Some x) (find t goals) ≡ Some g → (t g ≡ true) × (1 ≤ places_of (x ∷ goals) g)
  by true passes rest now =
      let same : x ≡ g = cc in
      let itself : same_goal x g ≡ true = subst (λ y. same_goal y g ≡ true) (sym same) (same_itself g) in
      (subst (λ y. t y ≡ true) same passes, omega (arith, steps ∙ ap (λ b. cond b 1 0 + places_of goals g) itself))
  by false fails rest later = let first = rest later in (first.0, omega (arith, steps, first.1))

pub confirmed_unattained : (u : Universe) → IsUniverse u → (lines : List Line) (goals : List Goal) (g : Goal) → verdict_by (first_bad u lines) (covered u lines goals) ≡ Confirmed g → AttainsGoals u goals → ⊥
confirmed_unattained u k lines goals g is =
    let parts = confirmed_parts (first_bad u lines) (covered u lines goals) g is in
    let all = none_bad (line_holds u lines) lines parts.0 in
    let at = placed (λ h. list_all (listed lines) (wanted_by u h)) goals g parts.1 in
    unattained u k (listed lines) g goals (barred_by u lines lines all) at.0 at.1
