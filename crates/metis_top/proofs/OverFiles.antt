-- Runs over files whose bytes are told, without faults.
use Rattle.std.proofs.Common.{◌≡◌, ◌≢◌, sym, ℕ, ◌≤◌, Bool, List, [], ◌∷◌, length, ◌+◌, take, Ok, None, Some, IfSome, true, refl, ap, ◌∙◌, subst, inl, inr, arith, nat_le, if◌then◌else◌}
use Rattle.std.proofs.lemmas.List.{take_all}
use Rattle.std.proofs.lemmas.Bool.Decides.{nat_tests}
use Rattle.std.specs.declared.option.Option.{Option}
use Rattle.metis_outside.specs.Terms.{Appends, Openings, Rose, Written}
use Rattle.metis_inputs.specs.declared.stop.InputFault.TheVariants.{TooLong}
use Rattle.metis_output.specs.declared.status.Status.{Status}
use Rattle.metis_output.specs.declared.status.Status.TheVariants.{Done, No, NoMemory}
use Rattle.metis_choice.specs.Terms.{ArePairsFor}
use Rattle.metis_ids.specs.Terms.{Plan}
use Rattle.metis_ids.specs.declared.goals.Goal.{Goal}
use Rattle.metis_universe.specs.Terms.{IsTidy, Universe}
use Rattle.metis_inputs.specs.Terms.{AreTaken, Fault, Read, Reply, Script, after, command_script, goals_named, named, script_from, targets_then, universe_in_then}
use Rattle.metis_top.specs.Terms.{EndsTidy, Headline, IsThePlan, OnShelf, PlansHave, Ran, Says, Tells, Undisturbed, over}
use Rattle.metis_output.specs.Terms.{Shown}
use Rattle.metis_ujson.specs.Terms.{document_limit, universe_in}
use Rattle.metis_top.proofs.Deployments.{OrderLaws, answer_deploys}
use Rattle.metis_plan_commands.specs.Terms.{PlanAnswer, PlansPairs, plan_text}
use Rattle.metis_words.specs.Terms.{TargetName, form_by, form_of}
use Rattle.metis_words.specs.declared.words.Verb.TheVariants.{Plan as PlanVerb}

-- no read failed, and memory did not run out, so the script has come to its end
after-over : (file : List ℕ → List ℕ) (taken : List (List ℕ)) (script : Script) (names : Option Bool → List (List ℕ × Bool)) (faults faults' : ℕ) (opens opens' : Openings) (old new : Written) (status : Status)
    → AreTaken (Some file) taken script → OnShelf (after taken script) names faults faults' opens opens' old new status
    → (Rose faults faults' → ⊥) → status ≢ NoMemory → after taken script ≡ over file script
after-over file [] (Read place name limit next) names faults faults' opens opens' old new status asked (inl failed) calm memory = absurd (calm failed.0)
after-over file [] (Read place name limit next) names faults faults' opens opens' old new status asked (inr gave_up) calm memory = absurd (memory gave_up.0)
after-over file [] (Fault why) names faults faults' opens opens' old new status asked shelf calm memory = refl
after-over file [] (Reply verb inputs size numbers) names faults faults' opens opens' old new status asked shelf calm memory = refl
after-over file (bytes ∷ taken) (Read place name limit next) names faults faults' opens opens' old new status asked shelf calm memory =
    after-over file taken (next bytes) names faults faults' opens opens' old new status asked.1 shelf calm memory
    ∙ ap (λ b. over file (next b)) asked.0.told
after-over file (bytes ∷ taken) (Fault why) names faults faults' opens opens' old new status asked shelf calm memory = absurd asked
after-over file (bytes ∷ taken) (Reply verb inputs size numbers) names faults faults' opens opens' old new status asked shelf calm memory = absurd asked

told_by_shown : (file : List ℕ → List ℕ) (script end : Script) (old new : Written) (before now : ℕ) (status : Status)
    → end ≡ over file script → Shown (Says end) old new before now status → (Rose before now → ⊥) → status ≢ NoMemory → Tells file script old new status
told_by_shown file script end old new before now status is (inl whole) calm memory =
    record { lines = whole.lines; says = subst (λ s. Says s whole.lines status) is whole.says; put = whole.put }
told_by_shown file script end old new before now status is (inr (inl (fault, front, rose))) calm memory = absurd (calm rose)
told_by_shown file script end old new before now status is (inr (inr (gave_up, still, front))) calm memory = absurd (memory gave_up)

-- what was put is what the script comes to over the files
tells : (files : Option (List ℕ → List ℕ)) (taken : List (List ℕ)) (script : Script) (names : Option Bool → List (List ℕ × Bool)) (faults faults' : ℕ) (opens opens' : Openings) (old new : Written) (before now : ℕ) (status : Status)
    → AreTaken files taken script → OnShelf (after taken script) names faults faults' opens opens' old new status → Shown (Says (after taken script)) old new before now status
    → IfSome files (λ file. (Rose faults faults' → ⊥) → (Rose before now → ⊥) → status ≢ NoMemory → Tells file script old new status)
tells None taken script names faults faults' opens opens' old new before now status asked shelf puts = tt
tells (Some file) taken script names faults faults' opens opens' old new before now status asked shelf puts = λ calm calm' memory.
    told_by_shown file script (after taken script) old new before now status (after-over file taken script names faults faults' opens opens' old new status asked shelf calm memory) puts calm' memory

pub ran_tells : {S K : Type 0} (files : S → Option (List ℕ → List ℕ)) (faults : S → ℕ) (opens : S → Openings) (written : K → Written) (sink_faults : K → ℕ)
    (script : Script) (shelf shelf' : S) (sink sink' : K) (status : Status)
    → Ran files faults opens written sink_faults script shelf shelf' sink sink' status
    → Undisturbed (files shelf) (faults shelf) (faults shelf') (sink_faults sink) (sink_faults sink') status (λ file. Tells file script (written sink) (written sink') status)
ran_tells files faults opens written sink_faults script shelf shelf' sink sink' status r =
    tells (files shelf) r.taken script (λ more. named more r.taken script) _ _ _ _ _ _ _ _ status r.asked r.reads r.puts

-- an accepted document is gone on with
over-universe : (file : List ℕ → List ℕ) (bytes taken : List ℕ) (u : Universe) (next : Universe → Script)
    → taken ≡ bytes → length bytes ≤ document_limit → universe_in bytes ≡ Ok u
    → over file (if nat_le (length taken) document_limit then universe_in_then taken next else Fault (TooLong 2)) ≡ over file (next u)
over-universe file bytes taken u next is fits means =
    let passes : nat_le (length bytes) document_limit ≡ true = grind (arith, nat_tests) in
    ap (λ t. over file (if nat_le (length t) document_limit then universe_in_then t next else Fault (TooLong 2))) is
    ∙ rw (passes, means)

-- accepted words and an accepted document come to what is to be said of the targets
over-plan : (file : List ℕ → List ℕ) (name : List ℕ) (targets : List TargetName) (u : Universe) (g : List Goal) → length (file name) ≤ document_limit → universe_in (file name) ≡ Ok u
    → goals_named 3 u targets ≡ Ok g → over file (command_script (form_by PlanVerb (name ∷ []) targets 0 [])) ≡ Reply PlanVerb ((u, g), tt) 0 []
over-plan file name targets u g fits means found =
    over-universe file (file name) (take (document_limit + 1) (file name)) u (λ v. targets_then 3 v targets (λ goals. Reply PlanVerb ((v, goals), tt) 0 [])) (take_all (document_limit + 1) (file name) (omega arith)) fits means
    ∙ rw found

tells_plans : OrderLaws → (words : List (List ℕ)) (file : List ℕ → List ℕ) (old new : Written) (status : Status) → Tells file (script_from (form_of words)) old new status → Headline words file old new status
tells_plans laws words file old new status t = λ name targets u g is fits means found.
    let ends : over file (script_from (form_of words)) ≡ Reply PlanVerb ((u, g), tt) 0 [] = ap (λ f. over file (script_from f)) is ∙ over-plan file name targets u g fits means found in
    (t.lines, answer_deploys laws u g t.lines status (subst (λ s. Says s t.lines status) ends t.says), t.put)

-- what holds of each plan that is answered holds of the one that is put
plans_have : (P : Universe → List ℕ → Plan → Type 0) → ((u : Universe) (g : List ℕ) (lines : List (List ℕ)) (p : PlansPairs u g lines) → P u g p.plan)
    → (words : List (List ℕ)) (file : List ℕ → List ℕ) (old new : Written) (status : Status) → Tells file (script_from (form_of words)) old new status → PlansHave P words file old new status
plans_have P each words file old new status t = λ name targets u g is fits means found done.
    let ends : over file (script_from (form_of words)) ≡ Reply PlanVerb ((u, g), tt) 0 [] = ap (λ f. over file (script_from f)) is ∙ over-plan file name targets u g fits means found in
    by u g done (subst (λ s. Says s t.lines status) ends t.says) where
      done_no : Done ≡ No → ⊥
      done_no e = cc

      by : (u : Universe) (goals : List Goal) → status ≡ Done → PlanAnswer u goals t.lines status → (plan : Plan) × ((pairs : List ℕ) × ArePairsFor u goals pairs × P u pairs plan) × Appends old new (plan_text u plan)
      by u goals done (inl (is, plans)) =
          let p = plans.for_pairs in
          (p.plan, (plans.pairs, plans.resolved, each u plans.pairs t.lines p), subst (λ ls. Appends old new ls) p.told t.put)
      by u goals done (inr (is, refuses)) = absurd (done_no (sym done ∙ is))

tidy_in_any_order : OrderLaws → (u : Universe) (g : List ℕ) (lines : List (List ℕ)) (p : PlansPairs u g lines) → EndsTidy u g p.plan
tidy_in_any_order laws u g lines p ks kept complete = subst (IsTidy u g) (sym (laws.alike u p.plan.actions ks p.is.run.run p.is.run.steadfast kept complete)) p.tidy

pub the_plan : OrderLaws → (u : Universe) (g : List ℕ) (lines : List (List ℕ)) (p : PlansPairs u g lines) → IsThePlan u g p.plan
the_plan laws u g lines p = record { rounds = p.rounds; doubled = p.needed; tidy = tidy_in_any_order laws u g lines p }

if_some : {F : Type 0} (files : Option F) (P Q R : Type 0) (S T : F → Type 0) → ((f : F) → S f → T f) → IfSome files (λ f. P → Q → R → S f) → IfSome files (λ f. P → Q → R → T f)
if_some None P Q R S T step t = tt
if_some (Some f) P Q R S T step t = λ p q r. step f (t p q r)

module _ {S K : Type 0} (files : S → Option (List ℕ → List ℕ)) (faults : S → ℕ) (opens : S → Openings) (written : K → Written) (sink_faults : K → ℕ)
    (words : List (List ℕ)) (shelf shelf' : S) (sink sink' : K) (status : Status) (ran : Ran files faults opens written sink_faults (script_from (form_of words)) shelf shelf' sink sink' status) where
  -- without faults, and where memory did not run out
  abbrev Calmly : ((List ℕ → List ℕ) → Type 0) → Type 0
  Calmly T = Undisturbed (files shelf) (faults shelf) (faults shelf') (sink_faults sink) (sink_faults sink') status T

  calmly : (T : (List ℕ → List ℕ) → Type 0) → ((file : List ℕ → List ℕ) → Tells file (script_from (form_of words)) (written sink) (written sink') status → T file) → Calmly T
  calmly T step = if_some (files shelf) _ _ _ (λ file. Tells file (script_from (form_of words)) (written sink) (written sink') status) T step (ran_tells files faults opens written sink_faults _ shelf shelf' sink sink' status ran)

  pub ran_headline : OrderLaws → Calmly (λ file. Headline words file (written sink) (written sink') status)
  ran_headline laws = calmly (λ file. Headline words file (written sink) (written sink') status) (λ file. tells_plans laws words file (written sink) (written sink') status)

  pub ran_plans : (P : Universe → List ℕ → Plan → Type 0) → ((u : Universe) (g : List ℕ) (lines : List (List ℕ)) (p : PlansPairs u g lines) → P u g p.plan) → Calmly (λ file. PlansHave P words file (written sink) (written sink') status)
  ran_plans P each = calmly (λ file. PlansHave P words file (written sink) (written sink') status) (λ file. plans_have P each words file (written sink) (written sink') status)
