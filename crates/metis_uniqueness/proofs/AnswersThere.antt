-- There is an answer, where the universe is one and what is read names its own types, pairs and ports.
use Rattle.std.proofs.Common.{◌≡◌, ℕ, zero, suc, ◌+◌, ◌<◌, Bool, true, false, not, ◌&&◌, ◌-◌, List, [], ◌∷◌, ◌++◌, Option, Some, None, find, length, map, nat_lt, refl, sym, ap, ◌∙◌, subst, arith, inl, inr}
use Rattle.std.specs.List.{All, list_all, range_with_len}
use Rattle.std.specs.List.Sorted.{IsStrictlyIncreasing}
use Rattle.std.specs.Option.{is_some, option_map_or}
use Rattle.std.proofs.lemmas.Bool.{and_parts, cases_lt, false≢true, lt-ltb, ltb-true, not-false, or_parts}
use Rattle.metis_actions.specs.Terms.{fault_text}
use Rattle.metis_commands.specs.Terms.{AnswersScript, Awaited, Confirms, Controlled, Crewed, HasItsWaits, IsScheduled, Judged, Placed, PlacedRun, Printed, Replayed, Simulated, TakesTurns, Waved, WhyAnswer, attained_line, confirmation_line, confirmation_status, crew_lines, durations_of, judgement_line, judgement_status, needed_waits, no_room_line, placing_lines, schedule_lines, verdict_line, verdict_status}
use Rattle.metis_control.specs.Terms.{script_answers}
use Rattle.metis_ids.specs.Terms.{Plan, greatest}
use Rattle.metis_ids.specs.declared.actions.Action.{Action}
use Rattle.metis_ids.specs.declared.actions.Action.TheVariants.{New, Delete, Bind, Unbind, Move}
use Rattle.metis_ids.specs.declared.goals.Goal.{Goal}
use Rattle.metis_layers.specs.Terms.{attained_pairs}
use Rattle.metis_output.specs.declared.status.Status.{Status}
use Rattle.metis_output.specs.declared.status.Status.TheVariants.{Done, No}
use Rattle.metis_place.specs.Terms.{HostLists, PlacingLists, free_rooms, further, is_new, is_placed, is_placed_at, seat_at, seats, size_of}
use Rattle.metis_refusal.proofs.Told.{told}
use Rattle.metis_refusal.specs.Terms.{verdict as judgement}
use Rattle.metis_replay.proofs.Verdicts.{exact}
use Rattle.metis_replay.specs.Terms.{IsFirstMissing, Tells, after_feeding, verdict}
use Rattle.metis_replay.specs.declared.verdict.Verdict.{Verdict}
use Rattle.metis_replay.specs.declared.verdict.Verdict.TheVariants.{Good, Bad, Missing}
use Rattle.metis_steady.specs.Terms.{bad_line, loose_line, standing_after}
use Rattle.metis_sim.specs.Terms.{begin, replies_to}
use Rattle.metis_text.proofs.WrittenRun.{run_formed}
use Rattle.metis_text.specs.Terms.{IsWellFormed, plan_lines}
use Rattle.metis_tokens.specs.Terms.{script_lines}
use Rattle.metis_ujson.specs.Terms.{canonical}
use Rattle.metis_universe.proofs.PortRows.{rises}
use Rattle.metis_universe.specs.Terms.{Config, IsGoalOf, IsOf, IsRun, IsSteadfastRun, IsTable, IsUniverse, Universe, action_at, after_all, empty, has, is_steadfast, is_steadfast_at, numbers, pair_count}
use Rattle.metis_why.proofs.ByChoice.{explained}
use Rattle.metis_why.proofs.Confirmed.{confirmed_unattained}
use Rattle.metis_why.proofs.First.{all_attained, first_of_universe, first_unattained}
use Rattle.metis_why.proofs.Found.{found}
use Rattle.metis_why.specs.Terms.{IsFirstUnattained, IsLacking, verdict as confirmation, wanted_by}
use Rattle.metis_why.specs.declared.reason.Line.{Line}
use Rattle.metis_why_text.specs.Terms.{why_lines}
use Rattle.metis_uniqueness.proofs.Runs.{OrUnsteady}
use Rattle.metis_uniqueness.proofs.WavesThere.{waves_there}
use Rattle.metis_uniqueness.specs.Terms.{HasAnAnswer}

pub print_there : (u : Universe) → HasAnAnswer (Printed u)
print_there u = (canonical u ∷ [], Done, (refl, refl))

pub sim_there : (u : Universe) (script : List ℕ) → HasAnAnswer (Simulated u script)
sim_there u script = (replies_to u (begin u) (script_lines script), Done, record { told = refl; is = refl })

module _ (u : Universe) (k : IsUniverse u) where
  pub confirm_there : (goals : List Goal) (why : List Line) → HasAnAnswer (Confirms u goals why)
  confirm_there goals why = (
    confirmation_line u (confirmation u why goals) ∷ [],
    confirmation_status (confirmation u why goals),
    record { unattained = λ g is. confirmed_unattained u k why goals g is; told = refl; is = refl },
  )

  pub refute_there : (goals : List Goal) (set : List ℕ) → IsStrictlyIncreasing set → HasAnAnswer (Judged u goals set)
  refute_there goals set up = (
    judgement_line u (judgement u set goals) ∷ [],
    judgement_status (judgement u set goals),
    record { verdict = judgement u set goals; tells = told u k set goals (rises set up); told = refl; is = refl },
  )

  module _ (actions : List Action) (of : All (IsOf u) actions) where
    pub replay_there : (goals : List Goal) → HasAnAnswer (Replayed u goals actions)
    replay_there goals = let v = verdict (after_feeding u actions) goals in (
      verdict_line u (standing_after u actions) (length actions) v ∷ [],
      verdict_status v,
      record { verdict = v; tells = (exact u actions goals v k of).0 refl; told = refl; is = refl },
    )

    -- ---- a steadfast run, or the first action that keeps the actions from being one

    abbrev IsFirstFailing : (ℕ → Bool) → Type 0
    IsFirstFailing t = (i : ℕ) × (t i ≡ false) × ((j : ℕ) → j < i → t j ≡ true)

    -- the first number of a range that does not pass, where all below it do
    first_failing : (t : ℕ → Bool) (a n : ℕ) → list_all t (range_with_len a n) ≡ false → ((j : ℕ) → j < a → t j ≡ true) → IsFirstFailing t
    first_failing t a zero fails below = absurd (false≢true (sym fails))
    first_failing t a (suc n) fails below = by (t a) refl (first_failing t (a + 1) n) where
      here : t a ≡ true → (j : ℕ) → j < a + 1 → t j ≡ true
      here passes j low = elim (cases_lt j a) [
        | inl less ↦ below j less
        | inr more ↦ let same : a ≡ j = omega arith in subst (λ i. t i ≡ true) same passes
      ]

      by : (b : Bool) → t a ≡ b → (list_all t (range_with_len (a + 1) n) ≡ false → ((j : ℕ) → j < a + 1 → t j ≡ true) → IsFirstFailing t) → IsFirstFailing t
      by true passes rest = rest (sym (ap (λ b. b && list_all t (range_with_len (a + 1) n)) passes) ∙ fails) (here passes)
      by false off rest = (a, off, below)

    none_below_one : (t : ℕ → Bool) → t 0 ≡ true → (j : ℕ) → j < 1 → t j ≡ true
    none_below_one t passes j low = let same : 0 ≡ j = omega arith in subst (λ i. t i ≡ true) same passes

    module _ (P : List (List ℕ) → Status → Type 0) (there : IsSteadfastRun u actions → HasAnAnswer P) where
      run_there : IsRun u empty actions → HasAnAnswer (OrUnsteady u actions P)
      run_there run = by (is_steadfast u actions) refl where
        by : (b : Bool) → is_steadfast u actions ≡ b → HasAnAnswer (OrUnsteady u actions P)
        by true steadfast = let answer = there (record { run = run; steadfast = steadfast }) in (answer.0, answer.1, inr (inr answer.2))
        by false fails =
            let first = first_failing (is_steadfast_at u actions) 1 (length actions) fails (none_below_one (is_steadfast_at u actions) refl) in
            (loose_line first.0 ∷ [], No, inr (inl (record { runs = run; number = first.0; first = record { loose = first.1; before = first.2 }; told = refl; is = refl })))

      none_missing : (c : Config) (g : Goal) (have want : ℕ) → IsFirstMissing u c [] g have want → ⊥
      none_missing c g have want m = no_parts m.before m.parts where
        no_parts : (before : List Goal) → [] ≡ before ++ g ∷ m.later → ⊥
        no_parts [] e = cc
        no_parts (x ∷ before) e = cc

      pub steady_or_there : HasAnAnswer (OrUnsteady u actions P)
      steady_or_there = by (verdict (after_feeding u actions) []) ((exact u actions [] (verdict (after_feeding u actions) []) k of).0 refl) where
        by : (v : Verdict) → Tells u actions [] v → HasAnAnswer (OrUnsteady u actions P)
        by Good t = run_there t.0
        by (Bad i f) t = (bad_line i (fault_text u f) ∷ [], No, inl (record { number = i; fault = f; first = t; told = refl; is = refl }))
        by (Missing g have want) t = absurd (none_missing (after_all u empty actions) g have want t.1)

    pub control_there : (script : List ℕ) → HasAnAnswer (Controlled u actions script)
    control_there script = steady_or_there (AnswersScript u actions script) (λ run. (script_answers actions (script_lines script), Done, record { run = run; told = refl; is = refl }))

    pub crew_there : (zs : List ℕ) → HasAnAnswer (Crewed u actions zs)
    crew_there zs = steady_or_there (TakesTurns u actions zs) (λ run. (crew_lines actions zs, Done, record { run = run; told = refl; is = refl }))

    pub waved_there : (ns : List ℕ) → HasAnAnswer (Waved u actions ns)
    waved_there ns = steady_or_there (IsScheduled u actions ns) (λ run.
        let w = waves_there actions (durations_of ns) in
        (schedule_lines w.0, Done, record { run = run; schedules = w.0; are = w.1; told = refl; is = refl }))

    module _ (h : HostLists) where
      -- an action for which the test is true makes an instance
      made_there : (o : Option Action) → option_map_or is_new o false ≡ true → (z : ℕ) × (t : ℕ) × (o ≡ Some (New z t))
      made_there None e = absurd (false≢true e)
      made_there (Some (New z t)) e = (z, t, refl)
      made_there (Some (Delete z)) e = absurd (false≢true e)
      made_there (Some (Bind r z y)) e = absurd (false≢true e)
      made_there (Some (Unbind r z y)) e = absurd (false≢true e)
      made_there (Some (Move z p q)) e = absurd (false≢true e)

      placed_there : IsSteadfastRun u actions → HasAnAnswer (PlacedRun u actions h)
      placed_there run = by (is_placed h actions) refl where
        by : (b : Bool) → is_placed h actions ≡ b → HasAnAnswer (PlacedRun u actions h)
        by true placed =
            let p : PlacingLists = record { hosts = map (λ s. s.host) (seats h actions); holds = map (further h actions) (numbers actions) } in
            (placing_lines h actions p, Done, inr (record { run = run; placing = p; are = record { hosts = refl; holds = refl; placed = placed }; told = refl; is = refl }))
        by false fails =
            let first = first_failing (is_placed_at h actions) 1 (length actions) fails (none_below_one (is_placed_at h actions) refl) in
            let i = first.0 in
            let parts = or_parts (not (option_map_or is_new (action_at actions i) false)) (is_some (seat_at h actions i)) first.1 in
            let made = made_there (action_at actions i) (not-false _ parts.0) in
            let size = size_of h made.1 in
            let free = greatest (free_rooms h actions (i - 1)) in (
              no_room_line i size free ∷ [],
              No,
              inl (record {
                run = run;
                number = i;
                size = size;
                free = free;
                first = record { inst = made.0; kind = made.1; at = made.2; wants = refl; none = first.1; before = first.2; most = refl };
                told = refl;
                is = refl;
              }),
            )

      pub place_there : HasAnAnswer (Placed u actions h)
      place_there = steady_or_there (PlacedRun u actions h) placed_there

  -- ---- an explanation

  abbrev lacked : ℕ → Bool
  lacked p = nat_lt p (pair_count u) && not (has (attained_pairs u) p)

  lacked_is : IsLacking u lacked
  lacked_is = record {
    within = λ p on. ltb-true p (pair_count u) (and_parts (nat_lt p (pair_count u)) (not (has (attained_pairs u) p)) on).0;
    each = λ p low. ap (λ b. b && not (has (attained_pairs u) p)) (lt-ltb p (pair_count u) low);
  }

  pub why_there : (goals : List Goal) → All (IsGoalOf u) goals → HasAnAnswer (WhyAnswer u goals)
  why_there goals all = by (find (λ g. list_all lacked (wanted_by u g)) goals) refl where
    by : (o : Option Goal) → o ≡ find (λ g. list_all lacked (wanted_by u g)) goals → HasAnAnswer (WhyAnswer u goals)
    by None is = (attained_line ∷ [], Done, inl (refl, all_attained u k lacked lacked_is goals all is, refl))
    by (Some g) is =
        let first : IsFirstUnattained u goals g = first_unattained u k lacked lacked_is goals g all is in
        let low : IsGoalOf u g = first_of_universe u k lacked lacked_is goals g all is in
        let why = found u g k low first.unattained in
        (why_lines u g why.0, No, inr (refl, record { lacking = g; first = first; why = why.0; is = explained u g why.0 low why.1; chosen = why.1; told = refl }))

-- ---- a plan with its waits

pub waits_there : (u : Universe) (table : IsTable u) (plan : Plan) (after : List (List ℕ)) → IsWellFormed u plan after → HasAnAnswer (Awaited u plan)
waits_there u table plan after formed = steady_or_there u table.universe plan.actions formed.actions (HasItsWaits u plan) (λ run. (
  plan_lines u plan (needed_waits plan.actions),
  Done,
  record {
    run = run;
    told = refl;
    formed = run_formed u plan table run.run formed.actions formed.dups formed.cycles formed.in_range formed.instances formed.few_actions formed.few_dups;
    is = refl;
  },
))
