-- Events in lists, and what is left of events that wait for one another.
use Rattle.std.proofs.Common.{◌||◌, ◌≡◌, ℕ, zero, suc, ◌+◌, ◌≤◌, Bool, true, false, cond, List, [], ◌∷◌, ◌++◌, length, map, refl, sym, ap, ◌∙◌, arith, inl, inr}
use Rattle.std.specs.Prelude.{◌⊎◌}
use Rattle.std.specs.List.{filter, list_any}
use Rattle.std.proofs.lemmas.Bool.{false≢true, both_ways, or_cases, or_left, or_right, cases_lt}
use Rattle.metis_ids.specs.declared.events.Event.{Event}
use Rattle.metis_lines.specs.Terms.{AbstractPlan, events, is_among, is_event, is_go, is_return, is_start, precedes, same_event}
use Rattle.metis_lines.proofs.SameEvents.{same_events, same_itself}
use Rattle.metis_support.proofs.Lists.{any-append_left, any-append_right}
use Rattle.metis_events.proofs.AllEvents.{all_events}
use Rattle.metis_rounds.specs.Terms.{IsHeldUp, IsStuck, has_before, stuck_events, stuck_within, with_before}

-- ---- members

pub among_first : (e : Event) (es : List Event) → is_among (e ∷ es) e ≡ true
among_first e es = or_left (same_event e e) (is_among es e) (same_itself e)

pub any_among : (t : Event → Bool) (es : List Event) (e : Event) → is_among es e ≡ true → t e ≡ true → list_any t es ≡ true
any_among t [] e there h = absurd (false≢true there)
any_among t (x ∷ es) e there h = elim (or_cases (same_event x e) (is_among es e) there) [
  | inl now ↦ or_left (t x) (list_any t es) (ap t (same_events x e now) ∙ h)
  | inr later ↦ or_right (t x) (list_any t es) (any_among t es e later h)
]

pub some_among : (t : Event → Bool) (es : List Event) → list_any t es ≡ true → (e : Event) × (is_among es e ≡ true) × (t e ≡ true)
some_among t [] h = absurd (false≢true h)
some_among t (x ∷ es) h = elim (or_cases (t x) (list_any t es) h) [
  | inl now ↦ (x, among_first x es, now)
  | inr later ↦ let rest = some_among t es later in (rest.0, or_right (same_event x rest.0) (is_among es rest.0) rest.1, rest.2)
]

pub among_map : (f : Event → Event) (es : List Event) (e : Event) → is_among es e ≡ true → is_among (map f es) (f e) ≡ true
among_map f [] e h = absurd (false≢true h)
among_map f (x ∷ es) e h = elim (or_cases (same_event x e) (is_among es e) h) [
  | inl now ↦ or_left (same_event (f x) (f e)) (is_among (map f es) (f e)) (ap (λ z. same_event (f x) (f z)) (sym (same_events x e now)) ∙ same_itself (f x))
  | inr later ↦ or_right (same_event (f x) (f e)) (is_among (map f es) (f e)) (among_map f es e later)
]

pub of_map : (f : Event → Event) (es : List Event) (e : Event) → is_among (map f es) e ≡ true → (x : Event) × (is_among es x ≡ true) × (f x ≡ e)
of_map f [] e h = absurd (false≢true h)
of_map f (x ∷ es) e h = elim (or_cases (same_event (f x) e) (is_among (map f es) e) h) [
  | inl now ↦ (x, among_first x es, same_events (f x) e now)
  | inr later ↦ let rest = of_map f es e later in (rest.0, or_right (same_event x rest.0) (is_among es rest.0) rest.1, rest.2)
]

pub among_append : (es fs : List Event) (e : Event) → is_among (es ++ fs) e ≡ true → (is_among es e ≡ true) ⊎ (is_among fs e ≡ true)
among_append [] fs e h = inr h
among_append (x ∷ es) fs e h = elim (or_cases (same_event x e) (is_among (es ++ fs) e) h) [
  | inl now ↦ inl (or_left (same_event x e) (is_among es e) now)
  | inr later ↦ elim (among_append es fs e later) [ inl left ↦ inl (or_right (same_event x e) (is_among es e) left) | inr right ↦ inr right ]
]

pub among_left : (es fs : List Event) (e : Event) → is_among es e ≡ true → is_among (es ++ fs) e ≡ true
among_left es fs e h = any-append_left (λ f. same_event f e) es fs h

pub among_right : (es fs : List Event) (e : Event) → is_among fs e ≡ true → is_among (es ++ fs) e ≡ true
among_right es fs e h = any-append_right (λ f. same_event f e) es fs h

pub among_filter : (t : Event → Bool) (es : List Event) (e : Event) → is_among es e ≡ true → t e ≡ true → is_among (filter t es) e ≡ true
among_filter t [] e there h = absurd (false≢true there)
among_filter t (x ∷ es) e there h = elim (or_cases (same_event x e) (is_among es e) there) [
  | inl now ↦
      let same = same_events x e now in
      ap (λ b. is_among (cond b (x ∷ filter t es) (filter t es)) e) (ap t same ∙ h) ∙ or_left (same_event x e) (is_among (filter t es) e) now
  | inr later ↦ by (t x) (among_filter t es e later h)
] where
  by : (b : Bool) → is_among (filter t es) e ≡ true → is_among (cond b (x ∷ filter t es) (filter t es)) e ≡ true
  by true rest = or_right (same_event x e) (is_among (filter t es) e) rest
  by false rest = rest

pub of_filter : (t : Event → Bool) (es : List Event) (e : Event) → is_among (filter t es) e ≡ true → (is_among es e ≡ true) × (t e ≡ true)
of_filter t [] e h = absurd (false≢true h)
of_filter t (x ∷ es) e h =
    elim (t x) as (λ b. t x ≡ b → is_among (cond b (x ∷ filter t es) (filter t es)) e ≡ true → (is_among (x ∷ es) e ≡ true) × (t e ≡ true)) [
      | true ↦ λ at there. elim (or_cases (same_event x e) (is_among (filter t es) e) there) [
        | inl now ↦ (or_left (same_event x e) (is_among es e) now, ap t (sym (same_events x e now)) ∙ at)
        | inr later ↦ let rest = of_filter t es e later in (or_right (same_event x e) (is_among es e) rest.0, rest.1)
      ]
      | false ↦ λ _ there. let rest = of_filter t es e there in (or_right (same_event x e) (is_among es e) rest.0, rest.1)
    ] refl h

-- a filter that keeps as many keeps all
kept : (t : Event → Bool) (es : List Event) → (length (filter t es) ≤ length es) × (length es ≤ length (filter t es) → filter t es ≡ es)
kept t [] = (omega arith, λ _. refl)
kept t (x ∷ es) =
    let rest = kept t es in
    elim (t x) as (λ b. (length (cond b (x ∷ filter t es) (filter t es)) ≤ length (x ∷ es)) × (length (x ∷ es) ≤ length (cond b (x ∷ filter t es) (filter t es)) → cond b (x ∷ filter t es) (filter t es) ≡ x ∷ es)) [
      | true ↦ (omega (arith, rest.0), λ h. ap (λ ys. x ∷ ys) (rest.1 (omega arith)))
      | false ↦ (omega (arith, rest.0), λ h. absurd (omega (arith, rest.0)))
    ]

no_members : (es : List Event) (e : Event) → length es ≤ 0 → is_among es e ≡ false
no_members [] e h = refl
no_members (x ∷ es) e h = absurd (omega arith)

-- ---- the stuck events

module _ (w : AbstractPlan) where
  pub more_before : (es fs : List Event) (f : Event) → ((e : Event) → is_among es e ≡ true → is_among fs e ≡ true) → has_before w es f ≡ true → has_before w fs f ≡ true
  more_before es fs f into h = let at = some_among (λ e. precedes w e f) es h in any_among (λ e. precedes w e f) fs at.0 (into at.0 at.1) at.2

  within : (k : ℕ) (e : Event) → is_among (stuck_within w k) e ≡ true → is_event w e ≡ true
  within zero e h = sym (all_events w e) ∙ h
  within (suc k) e h = within k e (of_filter (has_before w (stuck_within w k)) (stuck_within w k) e h).0

  -- a round leaves all, or one less each time
  rounds : (k : ℕ) → (length (stuck_within w k) + k ≤ length (events w)) ⊎ (with_before w (stuck_within w k) ≡ stuck_within w k)
  rounds zero = inl (omega arith)
  rounds (suc k) =
      let es = stuck_within w k in
      let less = kept (has_before w es) es in
      elim (rounds k) [
        | inr still ↦ inr (ap (with_before w) still)
        | inl few ↦ elim (cases_lt (length (with_before w es)) (length es)) [
          | inl fewer ↦ inl (omega arith)
          | inr same ↦ inr (ap (with_before w) (less.1 same))
        ]
      ]

  stuck_before : (e : Event) → is_among (stuck_events w) e ≡ true → has_before w (stuck_events w) e ≡ true
  stuck_before e h =
      elim (rounds (length (events w))) [
        | inl few ↦ absurd (both_ways _ (no_members (stuck_events w) e (omega arith)) h)
        | inr still ↦ (of_filter (has_before w (stuck_events w)) (stuck_events w) e (ap (λ es. is_among es e) still ∙ h)).1
      ]

  all_left : (fs : List Event) → IsHeldUp w fs → (k : ℕ) (e : Event) → is_among fs e ≡ true → is_among (stuck_within w k) e ≡ true
  all_left fs held zero e h = all_events w e ∙ held.events e h
  all_left fs held (suc k) e h =
      among_filter (has_before w (stuck_within w k)) (stuck_within w k) e (all_left fs held k e h) (more_before fs (stuck_within w k) e (all_left fs held k) (held.before e h))

  pub stuck_greatest : IsStuck w (stuck_events w)
  stuck_greatest = record {
    held_up = record { events = within (length (events w)); before = stuck_before };
    greatest = λ fs held e h. all_left fs held (length (events w)) e h;
  }

  -- what a stuck event leads to is stuck, since with it each still has a predecessor
  pub follows_stuck : (e f : Event) → is_among (stuck_events w) e ≡ true → precedes w e f ≡ true → is_event w f ≡ true → is_among (stuck_events w) f ≡ true
  follows_stuck e f stuck edge there = stuck_greatest.greatest (f ∷ stuck_events w) held f (among_first f (stuck_events w)) where
    later : (g : Event) → has_before w (stuck_events w) g ≡ true → has_before w (f ∷ stuck_events w) g ≡ true
    later g h = or_right (precedes w f g) (has_before w (stuck_events w) g) h

    held : IsHeldUp w (f ∷ stuck_events w)
    held = record {
      events = λ g h. elim (or_cases (same_event f g) (is_among (stuck_events w) g) h) [
        | inl now ↦ ap (is_event w) (sym (same_events f g now)) ∙ there
        | inr more ↦ within (length (events w)) g more
      ];
      before = λ g h. elim (or_cases (same_event f g) (is_among (stuck_events w) g) h) [
        | inl now ↦ later g (any_among (λ a. precedes w a g) (stuck_events w) e stuck (ap (precedes w e) (sym (same_events f g now)) ∙ edge))
        | inr more ↦ later g (stuck_before g more)
      ];
    }

-- ---- edges of each kind

module _ (w : AbstractPlan) where
  pub by_go : (e f : Event) → is_go w e f ≡ true → precedes w e f ≡ true
  by_go e f go = or_left (is_go w e f || is_start w e f) (is_return w e f) (or_left (is_go w e f) (is_start w e f) go)

  pub by_start : (e f : Event) → is_start w e f ≡ true → precedes w e f ≡ true
  by_start e f start = or_left (is_go w e f || is_start w e f) (is_return w e f) (or_right (is_go w e f) (is_start w e f) start)

  pub by_return : (e f : Event) → is_return w e f ≡ true → precedes w e f ≡ true
  by_return e f return = or_right (is_go w e f || is_start w e f) (is_return w e f) return
