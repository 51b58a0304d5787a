-- The first actions of a list that goes on: what is said of their numbers is said of these numbers in the whole list.
use Rattle.std.proofs.Common.{◌≡◌, ℕ, zero, suc, ◌+◌, ◌-◌, ◌<◌, ◌≤◌, ◌^◌, true, false, not, List, [], ◌∷◌, ◌++◌, length, map, take, Some, refl, sym, ap, subst, ◌∙◌, arith, nat_eq}
use Rattle.std.proofs.lemmas.List.{length-append, take-append-le, take_all, take_more}
use Rattle.std.proofs.lemmas.List.FromFn.{length-map-range_with_len}
use Rattle.std.proofs.lemmas.Option.{get_or_from_slice_get, slice_get_within}
use Rattle.std.specs.List.{filter, range_with_len, slice_get}
use Rattle.std.specs.Option.{option_map_or}
use Rattle.metis_ids.proofs.Lists.{has_range}
use Rattle.metis_ids.specs.Terms.{actor_of}
use Rattle.metis_ids.specs.declared.actions.Action.{Action}
use Rattle.metis_universe.proofs.Correctness.{all_has}
use Rattle.metis_universe.specs.Terms.{Universe, action_at, before, is_steadfast, is_steadfast_after, is_steadfast_at, is_wait, last_number, numbers, waits}
use Rattle.metis_waits.proofs.Listed.{numbered}
use Rattle.metis_waits.proofs.Passed.{all_steadfast, mapped, one_more, others_next, steadfast_next, waits_next}
use Rattle.metis_waits.specs.Terms.{IsBegun, IsFirstLoose, IsJudged, IsNumbered, IsSummary, is_by, own_previous, waits_on_others}
use Rattle.metis_waits.specs.declared.judged.Judged.{Judged}
use Rattle.metis_waits.specs.declared.summary.Summary.{Summary}

-- the first i of the actions are steadfast, and this is what they come to
pub record IsPassedTo (u : Universe) (actions : List Action) (i : ℕ) (summary : Summary) : Type 0 where
  pub within : i ≤ length actions
  pub comes_to : IsSummary u (take i actions) summary
  pub steadfast : (j : ℕ) → j ≤ i → is_steadfast_at u actions j ≡ true

-- what is more, i is how many lists there are
pub record IsJudgedTo (u : Universe) (actions : List Action) (i : ℕ) (judged : Judged) : Type 0 where
  pub passed : IsPassedTo u actions i judged.summary
  pub each : judged.lists.each ≡ map (waits actions) (range_with_len 1 i)
  pub others : judged.lists.others ≡ map (waits_on_others actions) (range_with_len 1 i)

got_in_front : (xs ys : List Action) (i : ℕ) → i < length xs → slice_get (xs ++ ys) i ≡ slice_get xs i
got_in_front [] ys i low = absurd (omega arith)
got_in_front (x ∷ xs) ys zero low = refl
got_in_front (x ∷ xs) ys (suc i) low = got_in_front xs ys i (omega arith)

-- what a function of the earlier actions and of the action gives at a number
at_front : {A : Type 0} (f : List Action → Action → A) (d : A) (xs ys : List Action) (k : ℕ) → k ≤ length xs →
    option_map_or (f (before k (xs ++ ys))) (action_at (xs ++ ys) k) d ≡ option_map_or (f (before k xs)) (action_at xs k) d
at_front f d xs ys zero low = refl
at_front f d xs ys (suc i) low =
    ap (λ l. option_map_or (f l) (slice_get (xs ++ ys) i) d) (take-append-le (suc i - 1) xs ys (omega arith))
    ∙ ap (λ o. option_map_or (f (before (suc i) xs)) o d) (got_in_front xs ys i (omega arith))

map_alike : (f g : ℕ → List ℕ) (a n : ℕ) → ((j : ℕ) → j < a + n → f j ≡ g j) → map f (range_with_len a n) ≡ map g (range_with_len a n)
map_alike f g a zero each = refl
map_alike f g a (suc n) each = (λ i. each a (omega arith) i ∷ map_alike f g (a + 1) n (λ j low. each j (omega arith)) i)

module _ (xs ys : List Action) (k : ℕ) (low : k ≤ length xs) where
  waits_front : waits (xs ++ ys) k ≡ waits xs k
  waits_front = at_front (λ earlier a. filter (is_wait earlier a) (numbers earlier)) [] xs ys k low

  previous_front : own_previous (xs ++ ys) k ≡ own_previous xs k
  previous_front = at_front (λ earlier a. last_number (is_by (actor_of a)) earlier) 0 xs ys k low

  others_front : waits_on_others (xs ++ ys) k ≡ waits_on_others xs k
  others_front = λ j. filter (λ m. not (nat_eq m (previous_front j))) (waits_front j)

  steadfast_front : (u : Universe) → is_steadfast_at u (xs ++ ys) k ≡ is_steadfast_at u xs k
  steadfast_front u = at_front (is_steadfast_after u) true xs ys k low

-- each action of a steadfast list is steadfast, and there is none of number 0
each_steadfast : (u : Universe) (actions : List Action) → is_steadfast u actions ≡ true → (j : ℕ) → j ≤ length actions → is_steadfast_at u actions j ≡ true
each_steadfast u actions all zero low = refl
each_steadfast u actions all (suc i) low = all_has (is_steadfast_at u actions) (suc i) (numbers actions) all (has_range 1 (length actions) (suc i) (omega arith) (omega arith))

pub count_of : (u : Universe) (actions : List Action) (judged : Judged) → IsJudged u actions judged → length judged.lists.each ≡ length actions
count_of u actions judged j = ap length j.waits.each ∙ length-map-range_with_len (waits actions) 1 (length actions)

-- where the pass begins
pub begun_to : (u : Universe) (actions : List Action) (judged : Judged) → IsBegun u actions judged → IsJudgedTo u actions (length judged.lists.each) judged
begun_to u actions judged b = subst (λ l. IsJudgedTo u l (length judged.lists.each) judged) (sym b.parts) (subst (λ i. IsJudgedTo u (b.earlier ++ b.later) i judged) (sym (count_of u b.earlier judged b.begun)) there) where
  xs : List Action
  xs = b.earlier

  ys : List Action
  ys = b.later

  there : IsJudgedTo u (xs ++ ys) (length xs) judged
  there = record {
    passed = record {
      within = let long = length-append xs ys in omega arith;
      comes_to = subst (λ l. IsSummary u l judged.summary) (sym (take-append-le (length xs) xs ys (omega arith) ∙ take_all (length xs) xs (omega arith))) b.begun.summary;
      steadfast = λ j low. steadfast_front xs ys j low u ∙ each_steadfast u xs b.begun.steadfast j low;
    };
    each = b.begun.waits.each ∙ map_alike (waits xs) (waits (xs ++ ys)) 1 (length xs) (λ j low. sym (waits_front xs ys j (omega arith)));
    others = b.begun.waits.others ∙ map_alike (waits_on_others xs) (waits_on_others (xs ++ ys)) 1 (length xs) (λ j low. sym (others_front xs ys j (omega arith)));
  }

-- before the first action
pub passed_none : (u : Universe) (actions : List Action) (s : Summary) → IsSummary u [] s → IsPassedTo u actions 0 s
passed_none u actions s empty = record { within = omega arith; comes_to = empty; steadfast = none } where
  none : (j : ℕ) → j ≤ 0 → is_steadfast_at u actions j ≡ true
  none zero low = refl
  none (suc j) low = absurd (omega arith)

-- one action more
pub passed_next : (u : Universe) (actions : List Action) (i : ℕ) (a : Action) (s next : Summary) → slice_get actions i ≡ Some a → is_steadfast_after u (take i actions) a ≡ true → IsPassedTo u actions i s
    → IsSummary u (take i actions ++ a ∷ []) next → IsPassedTo u actions (i + 1) next
passed_next u actions i a s next is steady p comes_to =
    let low = slice_get_within actions i a is in
    record {
      within = omega arith;
      comes_to = subst (λ l. IsSummary u l next) (sym (take_more actions i a low ∙ ap (λ (x : Action). take i actions ++ x ∷ []) (get_or_from_slice_get actions i a a is))) comes_to;
      steadfast = one_more (is_steadfast_at u actions) i p.steadfast (steadfast_next actions i a is u ∙ steady);
    }

-- after the last action
pub passed_all : (u : Universe) (actions : List Action) (i : ℕ) (s : Summary) → length actions ≤ i → IsPassedTo u actions i s → is_steadfast u actions ≡ true
passed_all u actions i s high p = all_steadfast u actions i high p.steadfast

-- the one that is not steadfast is the first
pub first_loose : (u : Universe) (actions : List Action) (i : ℕ) (a : Action) (s : Summary) → slice_get actions i ≡ Some a → is_steadfast_after u (take i actions) a ≡ false → IsPassedTo u actions i s → IsFirstLoose u actions (i + 1)
first_loose u actions i a s is not_steady p = record {
  loose = steadfast_next actions i a is u ∙ not_steady;
  before = λ k low. p.steadfast k (omega arith);
}

-- the same of what is judged: after the last action, and one action more
pub judged_all : (u : Universe) (actions : List Action) (i : ℕ) (judged : Judged) → length actions ≤ i → length actions < 2 ^ 32 - 1 → IsJudgedTo u actions i judged → IsJudged u actions judged
judged_all u actions i judged high few j =
    let same : i ≡ length actions = omega (arith, j.passed.within) in
    record {
      steadfast = passed_all u actions i judged.summary high j.passed;
      summary = subst (λ l. IsSummary u l judged.summary) (take_all i actions high) j.passed.comes_to;
      waits = record { each = j.each ∙ ap (λ n. map (waits actions) (range_with_len 1 n)) same; others = j.others ∙ ap (λ n. map (waits_on_others actions) (range_with_len 1 n)) same };
      few = few;
    }

pub judged_next : (u : Universe) (actions : List Action) (i : ℕ) (a : Action) (judged next : Judged) → slice_get actions i ≡ Some a → is_steadfast_after u (take i actions) a ≡ true → IsJudgedTo u actions i judged
    → IsSummary u (take i actions ++ a ∷ []) next.summary
    → next.lists.each ≡ judged.lists.each ++ filter (is_wait (take i actions) a) (numbers (take i actions)) ∷ []
    → next.lists.others ≡ judged.lists.others ++ filter (λ m. not (nat_eq m (last_number (is_by (actor_of a)) (take i actions)))) (filter (is_wait (take i actions) a) (numbers (take i actions))) ∷ []
    → IsJudgedTo u actions (i + 1) next
judged_next u actions i a judged next is steady j summary each others = record {
  passed = passed_next u actions i a judged.summary next.summary is steady j.passed summary;
  each = mapped (waits actions) i judged.lists.each next.lists.each _ each j.each (sym (waits_next actions i a is));
  others = mapped (waits_on_others actions) i judged.lists.others next.lists.others _ others j.others (others_next actions i a is _ _ refl refl);
}

-- as many lists of each kind, and few enough to be numbered
pub numbered_of : (u : Universe) (actions : List Action) (judged : Judged) → IsJudged u actions judged → IsNumbered judged.lists.each judged.lists.others
numbered_of u actions judged j = numbered actions (length actions) judged.lists.each judged.lists.others j.waits.each j.waits.others (omega (arith, j.few))

-- before the first action
pub begun_from_none : (u : Universe) (actions : List Action) (judged : Judged) → IsJudged u [] judged → IsBegun u actions judged
begun_from_none u actions judged j = record { earlier = []; later = actions; parts = refl; begun = j }
