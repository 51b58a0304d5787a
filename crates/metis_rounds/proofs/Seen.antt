-- What comes next on a line may be taken where its slots and its returns were all seen taken, and waits for one that was not.
use Rattle.std.proofs.Common.{◌≡◌, ℕ, suc, ◌+◌, ◌<◌, ◌≤◌, Bool, true, false, ◌&&◌, ◌||◌, List, [], ◌∷◌, length, get_or, set, sym, ap, ◌∙◌, subst, arith, nat_eq, nat_lt, inl, inr}
use Rattle.std.specs.List.{list_any}
use Rattle.std.proofs.lemmas.Bool.{false≢true, false_from_ne_true, and_parts, or_cases, cases_lt, cond-true, cond-false, cases_eq, eqb-true, ltb-true, lt-ltb, le-ltb}
use Rattle.std.proofs.lemmas.List.{get_or-set_same, get_or-set_other}
use Rattle.std.proofs.lemmas.List.Folds.{list_any_at}
use Rattle.metis_ids.specs.declared.events.Event.{Event}
use Rattle.metis_ids.specs.declared.events.Event.TheVariants.{At, End}
use Rattle.metis_universe.specs.Terms.{IsUniverse, Universe}
use Rattle.metis_support.proofs.Lists.{member}
use Rattle.metis_support.specs.Terms.{IsSupport, Support}
use Rattle.metis_lines.proofs.Formed.{lines_formed}
use Rattle.metis_lines.specs.Terms.{AbstractPlan, AreLines, LifeLines, is_event, is_go, is_return, is_start, is_start_of, line_at, plan_of, same_event}
use Rattle.metis_lines.proofs.SameEvents.{same_events, same_itself}
use Rattle.metis_rounds.proofs.Among.{by_return, by_start}
use Rattle.metis_rounds.proofs.Starts.{starts}
use Rattle.metis_rounds.specs.Terms.{HasAllBefore, HasReturns, HasSeen, IsMissing, Rows, WaitsFor, is_taken, next_of, next_uses, row_at, step_at, taken_of, use_at, use_event, uses_at, uses_of}

-- ---- places

pub some_place : {X : Type 0} (t : X → Bool) (xs : List X) (d : X) → list_any t xs ≡ true → (k : ℕ) × (k < length xs) × (t (get_or xs k d) ≡ true)
some_place t [] d h = absurd (false≢true h)
some_place t (x ∷ xs) d h = elim (or_cases (t x) (list_any t xs) h) [
  | inl now ↦ (0, omega arith, now)
  | inr later ↦ let rest = some_place t xs d later in (rest.0 + 1, omega (arith, rest.1), ap (λ e. t e) (at_next rest.0) ∙ rest.2)
] where
  at_next : (k : ℕ) → get_or (x ∷ xs) (k + 1) d ≡ get_or xs k d
  at_next k = let same : k + 1 ≡ suc k = omega arith in ap (λ n. get_or (x ∷ xs) n d) same

-- ---- what starts lead into an event of a line

module _ (u : Universe) (s : Support) (x : LifeLines) (universe : IsUniverse u) (k : IsSupport u s) (are : AreLines u s x) (l j : ℕ) (low : l < length x.lines) where
  no_start : (e : Event) → length (line_at x l) ≤ j → is_start (plan_of u s x) e (At l j) ≡ true → ⊥
  no_start e past start =
      let m = member (is_start_of e (At l j)) (plan_of u s x).supplies start in
      let into = and_parts (same_event (At m.item.holder m.item.place) e) (same_event (At m.item.line m.item.station) (At l j)) m.passes in
      let at = and_parts (nat_eq m.item.line l) (nat_eq m.item.station j) into.1 in
      let line = eqb-true m.item.line l at.0 in
      let station = eqb-true m.item.station j at.1 in
      let within = ltb-true m.item.station (length (line_at x m.item.line)) ((lines_formed u s k x are).within m.item m.there).needed in
      let same : length (line_at x m.item.line) ≡ length (line_at x l) = ap (λ n. length (line_at x n)) line in
      absurd (omega (arith, within, same, station, past))

  -- those by which the slots that it takes come to their pairs
  pub starts_at : (e : Event) → is_start (plan_of u s x) e (At l j) ≡ list_any (λ c. same_event (use_event x c) e) (uses_at u s x l j)
  starts_at e =
      let t : ℕ × ℕ → Bool = λ c. same_event (use_event x c) e in
      let uses = uses_of u s (get_or (line_at x l) j 0) in
      elim (cases_lt j (length (line_at x l))) [
        | inl short ↦ starts u s k x are l j low short e ∙ ap (list_any t) (sym (cond-true (nat_lt j (length (line_at x l))) uses [] (lt-ltb j (length (line_at x l)) short)))
        | inr past ↦ false_from_ne_true (is_start (plan_of u s x) e (At l j)) (no_start e past) ∙ ap (list_any t) (sym (cond-false (nat_lt j (length (line_at x l))) uses [] (le-ltb j (length (line_at x l)) past)))
      ]

module _ (u : Universe) (s : Support) (x : LifeLines) (universe : IsUniverse u) (k : IsSupport u s) (are : AreLines u s x) (t : Rows) (has : HasReturns (plan_of u s x) t) (ns : List ℕ) (l : ℕ) (low : l < length x.lines) where
  abbrev w : AbstractPlan
  w = plan_of u s x

  abbrev next : Event
  next = next_of ns l

  abbrev slots : List (ℕ × ℕ)
  slots = next_uses u s x ns l

  starts_here : (e : Event) → is_start w e next ≡ list_any (λ c. same_event (use_event x c) e) slots
  starts_here = starts_at u s x universe k are l (taken_of ns l) low

  -- a slot that is not at its pair
  pub waits_for_slot : (n : ℕ) → n < length slots → is_taken ns (use_event x (use_at slots n)) ≡ false → WaitsFor w ns next (use_event x (use_at slots n))
  waits_for_slot n few untaken =
      let e = use_event x (use_at slots n) in
      (by_start w e next (starts_here e ∙ list_any_at (λ c. same_event (use_event x c) e) slots n (0, 0) few (same_itself e)), untaken)

  -- a return that is not taken
  pub waits_for_return : (n : ℕ) → n < length (row_at t next) → is_taken ns (step_at (row_at t next) n) ≡ false → WaitsFor w ns next (step_at (row_at t next) n)
  waits_for_return n few untaken =
      let e = step_at (row_at t next) n in
      (by_return w e next (sym (has.each e next) ∙ list_any_at (λ f. same_event f e) (row_at t next) n End few (same_itself e)), untaken)

  pub missing_waits : (a b : ℕ) → (a < length slots → is_taken ns (use_event x (use_at slots a)) ≡ false) → (b < length (row_at t next) → is_taken ns (step_at (row_at t next) b) ≡ false) → (e : Event) → IsMissing x slots a (row_at t next) b e → WaitsFor w ns next e
  missing_waits a b slot return e missing = elim missing [
    | inl first ↦ subst (WaitsFor w ns next) (sym first.1) (waits_for_slot a first.0 (slot first.0))
    | inr second ↦ subst (WaitsFor w ns next) (sym second.1) (waits_for_return b second.0 (return second.0))
  ]

  -- all of them are taken
  pub may_go : ((n : ℕ) → n < length slots → is_taken ns (use_event x (use_at slots n)) ≡ true) → ((n : ℕ) → n < length (row_at t next) → is_taken ns (step_at (row_at t next) n) ≡ true) → HasAllBefore w ns next
  may_go met left e edge = elim (or_cases (is_go w e next || is_start w e next) (is_return w e next) edge) [
    | inl first ↦ elim (or_cases (is_go w e next) (is_start w e next) first) [
      | inl go ↦ by_line e go
      | inr start ↦
          let at = some_place (λ c. same_event (use_event x c) e) slots (0, 0) (sym (starts_here e) ∙ start) in
          ap (is_taken ns) (sym (same_events (use_event x (use_at slots at.0)) e at.2)) ∙ met at.0 at.1
    ]
    | inr return ↦
        let at = some_place (λ f. same_event f e) (row_at t next) End (has.each e next ∙ return) in
        ap (is_taken ns) (sym (same_events (step_at (row_at t next) at.0) e at.2)) ∙ left at.0 at.1
  ] where
    by_line : (e : Event) → is_go w e next ≡ true → is_taken ns e ≡ true
    by_line (At m j) go =
        let parts = and_parts (nat_eq m l && nat_eq (taken_of ns l) (j + 1)) (is_event w next) go in
        let same = and_parts (nat_eq m l) (nat_eq (taken_of ns l) (j + 1)) parts.0 in
        let line : taken_of ns m ≡ taken_of ns l = ap (taken_of ns) (eqb-true m l same.0) in
        let one = eqb-true (taken_of ns l) (j + 1) same.1 in
        lt-ltb j (taken_of ns m) (omega arith)
    by_line End go = absurd (false≢true go)

-- ---- what was seen, one line further

module _ (u : Universe) (s : Support) (x : LifeLines) (t : Rows) (ns met left : List ℕ) (seen : HasSeen u s x t ns met left) (l a b : ℕ) (in_met : l < length met) (in_left : l < length left) where
  pub seen_more : a ≤ length (next_uses u s x ns l) → ((k : ℕ) → taken_of met l ≤ k → k < a → is_taken ns (use_event x (use_at (next_uses u s x ns l) k)) ≡ true) → b ≤ length (row_at t (next_of ns l)) → ((k : ℕ) → taken_of left l ≤ k → k < b → is_taken ns (step_at (row_at t (next_of ns l)) k) ≡ true) → HasSeen u s x t ns (set met l a) (set left l b)
  seen_more few more_slots few_too more_returns = record {
    few_slots = λ m low. elim (cases_eq m l) [
      | inl same ↦ let now = get_or-set_same met l a 0 in_met in let at = ap (taken_of (set met l a)) same in subst (λ n. taken_of (set met l a) m ≤ length (next_uses u s x ns n)) (sym same) (omega arith)
      | inr other ↦ let before = get_or-set_other met l m a 0 other in let few = seen.few_slots m low in omega arith
    ];
    slots = λ m k low below. elim (cases_eq m l) [
      | inl same ↦
          let now = get_or-set_same met l a 0 in_met in
          let at = ap (taken_of (set met l a)) same in
          subst (λ n. is_taken ns (use_event x (use_at (next_uses u s x ns n) k)) ≡ true) (sym same) (elim (cases_lt k (taken_of met l)) [
            | inl old ↦ seen.slots l k (omega arith) old
            | inr new ↦ more_slots k new (omega arith)
          ])
      | inr other ↦ let before = get_or-set_other met l m a 0 other in seen.slots m k low (omega arith)
    ];
    few_returns = λ m low. elim (cases_eq m l) [
      | inl same ↦ let now = get_or-set_same left l b 0 in_left in let at = ap (taken_of (set left l b)) same in subst (λ n. taken_of (set left l b) m ≤ length (row_at t (next_of ns n))) (sym same) (omega arith)
      | inr other ↦ let before = get_or-set_other left l m b 0 other in let few = seen.few_returns m low in omega arith
    ];
    returns = λ m k low below. elim (cases_eq m l) [
      | inl same ↦
          let now = get_or-set_same left l b 0 in_left in
          let at = ap (taken_of (set left l b)) same in
          subst (λ n. is_taken ns (step_at (row_at t (next_of ns n)) k) ≡ true) (sym same) (elim (cases_lt k (taken_of left l)) [
            | inl old ↦ seen.returns l k (omega arith) old
            | inr new ↦ more_returns k new (omega arith)
          ])
      | inr other ↦ let before = get_or-set_other left l m b 0 other in seen.returns m k low (omega arith)
    ];
  }
