-- What the actions that were fed leave.
use Rattle.std.proofs.Common.{◌≡◌, ℕ, ◌+◌, ◌<◌, List, [], ◌∷◌, ◌++◌, length, take, get_or, Option, Some, None, refl, ap, sym, ◌∙◌, inl, inr, arith}
use Rattle.std.proofs.lemmas.List.{take_more}
use Rattle.std.specs.List.{AllByRecursion}
use Rattle.std.specs.Prelude.{◌⊎◌}
use Rattle.metis_ids.specs.declared.actions.Action.{Action}
use Rattle.metis_universe.proofs.Kept.{IsConfig-after}
use Rattle.metis_universe.specs.Terms.{Config, Correct, IsConfig, IsOf, IsRun, IsUniverse, Universe, after, after_all}
use Rattle.metis_actions.proofs.Causes.{no_fault-step, step-no_fault}
use Rattle.metis_actions.specs.Terms.{fault_of}
use Rattle.metis_actions.specs.declared.faults.AFault.{AFault}
use Rattle.metis_replay.proofs.Reasons.{never_memory}
use Rattle.metis_replay.specs.Terms.{IsRefused, Progress, after_feeding, fed, fed_all, fed_by, progress_of, start}

-- each action is counted
fed_number : (s : Progress) (a : Action) → (fed s a).number ≡ s.number + 1
fed_number s a = by s.refused (fault_of s.universe s.config a) where
  by : (first : Option (ℕ × AFault)) (o : Option AFault) → (fed_by s a first o).number ≡ s.number + 1
  by (Some first) o = refl
  by None (Some f) = refl
  by None None = refl

pub fed_count : (s : Progress) (actions : List Action) → (fed_all s actions).number ≡ s.number + length actions
fed_count s [] = omega arith
fed_count s (a ∷ rest) = omega (arith, fed_count (fed s a) rest, fed_number s a)

pub fed_append : (s : Progress) (xs ys : List Action) → fed_all s (xs ++ ys) ≡ fed_all (fed_all s xs) ys
fed_append s [] ys = refl
fed_append s (x ∷ xs) ys = fed_append (fed s x) xs ys

-- what was refused first is kept
stays : (s : Progress) (first : ℕ × AFault) (actions : List Action) → s.refused ≡ Some first → (fed_all s actions).refused ≡ Some first
stays s first [] is = is
stays s first (a ∷ rest) is = stays (fed s a) first rest (ap (λ o. (fed_by s a o (fault_of s.universe s.config a)).refused) is ∙ is)

rests : (s : Progress) (first : ℕ × AFault) (actions : List Action) → s.refused ≡ Some first → (fed_all s actions).config ≡ s.config
rests s first [] is = refl
rests s first (a ∷ rest) is =
    let one = λ (o : Option (ℕ × AFault)). fed_by s a o (fault_of s.universe s.config a) in
    rests (fed s a) first rest (ap (λ o. (one o).refused) is ∙ is) ∙ ap (λ o. (one o).config) is

some_none : {A : Type 0} {x : A} → Some x ≡ None → ⊥
some_none e = cc

module _ (u : Universe) (k : IsUniverse u) where
  is_refused : (c : Config) → IsConfig c → Correct u c → (a : Action) (f : AFault) → fault_of u c a ≡ Some f → IsRefused u c a f
  is_refused c h correct a f is = record {
    fault = is;
    reason = never_memory u c a f is;
    no_step = λ allowed fine. some_none (sym is ∙ no_fault-step u c k h correct a allowed fine);
  }

  -- after a run, each action was done
  pub run_done : (actions : List Action) (c : Config) (n : ℕ) → IsConfig c → Correct u c → IsRun u c actions → fed_all (progress_of u c n None) actions ≡ progress_of u (after_all u c actions) (n + length actions) None
  run_done [] c n h correct run = let same : n ≡ n + 0 = omega arith in ap (λ m. progress_of u c m None) same
  run_done (a ∷ rest) c n h correct run =
      let same : n + 1 + length rest ≡ n + length (a ∷ rest) = omega arith in
      ap (λ o. fed_all (fed_by (progress_of u c n None) a None o) rest) (no_fault-step u c k h correct a run.0 run.1)
      ∙ run_done rest (after u c a) (n + 1) (IsConfig-after u c a h run.0) run.1 run.2 ∙ ap (λ m. progress_of u (after_all u (after u c a) rest) m None) same

  -- after a run and an action with a fault, that is told, whatever follows
  pub first_told : (before : List Action) (a : Action) (later : List Action) (f : AFault) (c : Config) (n : ℕ) → IsConfig c → Correct u c → IsRun u c before → fault_of u (after_all u c before) a ≡ Some f
      → (fed_all (progress_of u c n None) (before ++ a ∷ later)).refused ≡ Some (n + length before + 1, f)
  first_told before a later f c n h correct run is =
      let there = progress_of u (after_all u c before) (n + length before) None in
      ap (λ s. s.refused) (fed_append (progress_of u c n None) before (a ∷ later)) ∙ ap (λ s. (fed_all (fed s a) later).refused) (run_done before c n h correct run)
      ∙ stays (fed there a) (n + length before + 1, f) later (ap (λ o. (fed_by there a None o).refused) is)

  -- and the configuration stays what the run left
  pub first_kept : (before : List Action) (a : Action) (later : List Action) (f : AFault) (c : Config) (n : ℕ) → IsConfig c → Correct u c → IsRun u c before → fault_of u (after_all u c before) a ≡ Some f
      → (fed_all (progress_of u c n None) (before ++ a ∷ later)).config ≡ after_all u c before
  first_kept before a later f c n h correct run is =
      let there = progress_of u (after_all u c before) (n + length before) None in
      ap (λ s. s.config) (fed_append (progress_of u c n None) before (a ∷ later)) ∙ ap (λ s. (fed_all (fed s a) later).config) (run_done before c n h correct run)
      ∙ rests (fed there a) (n + length before + 1, f) later (ap (λ o. (fed_by there a None o).refused) is) ∙ ap (λ o. (fed_by there a None o).config) is

  -- the first action that has a fault
  pub record Stops (c : Config) (actions : List Action) : Type 0 where
    pub before : List Action
    pub action : Action
    pub later : List Action
    pub fault : AFault
    pub parts : actions ≡ before ++ action ∷ later
    pub run : IsRun u c before
    pub refused : IsRefused u (after_all u c before) action fault

  -- the actions are a run, or one of them is the first that has a fault
  pub course : (actions : List Action) (c : Config) → IsConfig c → Correct u c → AllByRecursion (IsOf u) actions → IsRun u c actions ⊎ Stops c actions
  course [] c h correct of = inl tt
  course (a ∷ rest) c h correct of = by (λ d h correct. course rest d h correct of.1) (fault_of u c a) refl where
    by : ((d : Config) → IsConfig d → Correct u d → IsRun u d rest ⊎ Stops d rest) → (o : Option AFault) → fault_of u c a ≡ o → IsRun u c (a ∷ rest) ⊎ Stops c (a ∷ rest)
    by further None is =
        let step = step-no_fault u c k h correct a of.0 is in
        elim (further (after u c a) (IsConfig-after u c a h step.0) step.1) [
          | inl run ↦ inl (step.0, step.1, run)
          | inr s ↦ inr (record { before = a ∷ s.before; action = s.action; later = s.later; fault = s.fault; parts = ap (λ l. a ∷ l) s.parts; run = (step.0, step.1, s.run); refused = s.refused })
        ]
    by further (Some f) is = inr (record { before = []; action = a; later = rest; fault = f; parts = refl; run = tt; refused = is_refused c h correct a f is })

-- the universe stays
by_universe : (s : Progress) (a : Action) (refused : Option (ℕ × AFault)) (fault : Option AFault) → (fed_by s a refused fault).universe ≡ s.universe
by_universe s a (Some first) fault = refl
by_universe s a None (Some f) = refl
by_universe s a None None = refl

pub fed_universe : (s : Progress) (actions : List Action) → (fed_all s actions).universe ≡ s.universe
fed_universe s [] = refl
fed_universe s (a ∷ rest) = fed_universe (fed s a) rest ∙ by_universe s a s.refused (fault_of s.universe s.config a)

-- one more action
pub fed_next : (u : Universe) (actions : List Action) (i : ℕ) (a : Action) → i < length actions → a ≡ get_or actions i a → after_feeding u (take (i + 1) actions) ≡ fed (after_feeding u (take i actions)) a
fed_next u actions i a within is =
    ap (after_feeding u) (take_more actions i a within ∙ ap (λ x. take i actions ++ x ∷ []) (sym is)) ∙ fed_append (start u) (take i actions) (a ∷ [])
