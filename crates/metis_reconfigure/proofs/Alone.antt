-- The removal leaves alone what stays of old's.
use Rattle.std.proofs.Common.{◌≡◌, ◌⊎◌, ℕ, Bool, true, false, not, ◌&&◌, List, [], ◌∷◌, ◌++◌, sym, ap, ◌∙◌, subst, nat_eq, inl, inr}
use Rattle.std.specs.List.{All, AllByRecursion}
use Rattle.std.specs.Option.{option_map_or}
use Rattle.std.proofs.lemmas.Bool.{and_parts, both_ways, cases_Bool, eqb-true, false≢true, or_cases, true_from_ne_false}
use Rattle.std.proofs.lemmas.List.Elements.{All-append, All-from_recursion}
use Rattle.metis_ids.specs.declared.actions.Action.{Action}
use Rattle.metis_ids.specs.declared.actions.Action.TheVariants.{New, Delete, Bind, Unbind, Move}
use Rattle.metis_ids.specs.declared.goals.Goal.{Goal}
use Rattle.metis_ids.proofs.Lists.{has-filter}
use Rattle.metis_universe.proofs.Frames.{bound_step, is_bound-after}
use Rattle.metis_universe.specs.Terms.{Allows, Config, IsRun, IsSteadfastRun, IsUniverse, Universe, after, after_all, empty, has, is_bound, is_tie, names, requires}
use Rattle.metis_rollout.proofs.Quiet.{is_in}
use Rattle.metis_rollout.proofs.Sparing.{all_removing}
use Rattle.metis_rollout.specs.Terms.{Removing, all_but, fresh_name, is_idle, members, scaffold_name}
use Rattle.metis_wishes.specs.Terms.{rebound}
use Rattle.metis_wishes.specs.declared.wish.Wish.{Wish}
use Rattle.metis_reconfigure.specs.Terms.{IsAnswered, LeavesAlone, Reconfiguration, after_old, at_border, before_removal, fresh_actions, is_kept, left_by, rebinds_in, taken_away, targets}
use Rattle.metis_reconfigure.proofs.Given.{follows}
use Rattle.metis_reconfigure.proofs.Joined.{c_config, old_bound, same_pair, ties}
use Rattle.metis_reconfigure.proofs.Keeping.{all_closed, before_alone, kept_made, neither, not_named}
use Rattle.metis_reconfigure.proofs.Lawful.{steady_whole}
use Rattle.metis_reconfigure.proofs.Rebound.{in_rebinds}

pub run_rest : (u : Universe) (c : Config) (xs ys : List Action) → IsRun u c (xs ++ ys) → IsRun u (after_all u c xs) ys
run_rest u c [] ys run = run
run_rest u c (x ∷ xs) ys run = run_rest u (after u c x) xs ys run.2

module _ (u : Universe) (k : IsUniverse u) (wishes : List Wish) (old : List Action) (goals : List Goal) (r : Reconfiguration u wishes old goals) (ans : IsAnswered u wishes old goals r) where
  abbrev s : IsSteadfastRun u old
  s = ans.steady

  abbrev c : Config
  c = left_by u old

  abbrev d : Config
  d = at_border r

  abbrev goes : ℕ → Bool
  goes = all_but r.staying

  abbrev label : ℕ → ℕ
  label = scaffold_name old r.plan.actions

  abbrev Taking : Action → Type 0
  Taking a = Removing u goes label d a

  abbrev WereBound : Config → Type 0
  WereBound e = (q z y : ℕ) → is_kept r z ≡ true → is_bound e q z y ≡ true → is_bound d q z y ≡ true

  no_other : (z : ℕ) → is_kept r z ≡ true → (goes z ≡ true) ⊎ ((n : ℕ) × (label n ≡ z)) → ⊥
  no_other z kept h = both_ways (is_kept r z) (neither u k wishes old s goals r z h) kept

  -- no binding of a kept instance is made
  were_bound : (e : Config) (a : Action) → Taking a → WereBound e → WereBound (after u e a)
  were_bound e a taking known q z y kept h = by a taking (sym (is_bound-after u e a q z y) ∙ h) where
    by : (a : Action) → Taking a → bound_step q z y a (is_bound e q z y) ≡ true → is_bound d q z y ≡ true
    by (New x t) taking g = known q z y kept g
    by (Delete x) taking g = known q z y kept (and_parts (not (names x (q, z, y))) (is_bound e q z y) g).1
    by (Bind t x w) taking g = elim (or_cases (is_tie q z y (t, x, w)) (is_bound e q z y) g) [
      | inl now ↦ absurd (no_other z kept (subst (λ n. (goes n ≡ true) ⊎ ((m : ℕ) × (label m ≡ n))) (eqb-true x z (and_parts (nat_eq t q) (nat_eq x z) (and_parts (nat_eq t q && nat_eq x z) (nat_eq w y) now).0).1) taking))
      | inr stood ↦ known q z y kept stood
    ]
    by (Unbind t x w) taking g = known q z y kept (and_parts (not (is_tie t x w (q, z, y))) (is_bound e q z y) g).1
    by (Move x p p') taking g = known q z y kept g

  -- what it stands on, and does not leave, stays
  ended : (q z y : ℕ) → is_kept r z ≡ true → is_bound d q z y ≡ true → goes y ≡ true → is_idle u d (q, z, y) ≡ false → (has (rebound wishes) z ≡ true) × (has r.leaving y ≡ true)
  ended q z y kept bound go needed = (anew, left) where
    parts : (has (members c) z ≡ true) × (has r.staying z ≡ true)
    parts = and_parts (has (members c) z) (has r.staying z) kept

    left : has r.leaving y ≡ true
    left = true_from_ne_false (has r.leaving y) (λ off. gone (has r.staying y) go ((all_closed u k wishes old s goals r ans).leads q z y parts.1 bound needed off)) where
      gone : (b : Bool) → not b ≡ true → b ≡ true → ⊥
      gone true g h = false≢true g
      gone false g h = false≢true h

    anew : has (rebound wishes) z ≡ true
    anew = true_from_ne_false (has (rebound wishes) z) (λ free. elim (or_cases (is_in (ties u k wishes old s r.leaving r.leave (targets u wishes c r.leaving goals) r.plan r.planned) q z y) (is_bound c q z y)
        (sym (old_bound u k wishes old s r.leaving r.leave (targets u wishes c r.leaving goals) r.plan r.planned q z y (kept_made u k wishes old s goals r z kept)) ∙ bound)) [
          | inl tied ↦
              let asked = (in_rebinds u wishes c r.leaving (targets u wishes c r.leaving goals) (fresh_name old r.plan.actions) q z y tied).asked in
              both_ways (has (rebound wishes) z) free (and_parts (has (rebound wishes) z) (has (members c) z) (sym (has-filter (has (rebound wishes)) z (members c)) ∙ asked)).0
          | inr stood ↦
              let same = same_pair u k wishes old s r.leaving r.leave (targets u wishes c r.leaving goals) r.plan r.planned z parts.0 in
              let goes_too = follows u wishes c (c_config u k wishes old s r.leaving r.leave (targets u wishes c r.leaving goals) r.plan r.planned) r.leaving r.leave q z y stood
              (ap (λ o. not (option_map_or (λ p. requires u p q) o false)) (sym same) ∙ needed) free left in
              both_ways (has r.leaving z) ((all_closed u k wishes old s goals r ans).stays z parts.1) goes_too
        ])

  one_alone : (e : Config) (a : Action) → Allows u e a → Taking a → WereBound e → LeavesAlone r a
  one_alone e (New z t) allowed h known = not_named u k wishes old s goals r z h
  one_alone e (Delete z) allowed h known = neither u k wishes old s goals r z h
  one_alone e (Bind q z y) allowed h known = λ kept. absurd (no_other z kept h)
  one_alone e (Unbind q z y) allowed (inl h) known = λ kept. absurd (no_other z kept h)
  one_alone e (Unbind q z y) allowed (inr h) known = λ kept. elim (cases_Bool (is_idle u d (q, z, y))) [
    | inl idle ↦ inl idle
    | inr needed ↦ inr (elim (or_cases (not (goes z) && goes y) (is_idle u d (q, z, y)) h) [
      | inl crosses ↦ ended q z y kept (known q z y kept allowed) (and_parts (not (goes z)) (goes y) crosses).1 needed
      | inr idle ↦ absurd (both_ways (is_idle u d (q, z, y)) needed idle)
    ])
  ]
  one_alone e (Move z p q) allowed h known = not_named u k wishes old s goals r z h

  along : (e : Config) (xs : List Action) → IsRun u e xs → AllByRecursion Taking xs → WereBound e → AllByRecursion (LeavesAlone r) xs
  along e [] run all known = tt
  along e (a ∷ xs) run all known = (one_alone e a run.0 all.0 known, along (after u e a) xs run.2 all.1 (were_bound e a all.0 known))

  removal_run : IsRun u d (taken_away r)
  removal_run = run_rest u empty (before_removal r) (taken_away r) (steady_whole u k wishes old s goals r ans.answerable).run

  pub all_left_alone : All (LeavesAlone r) (after_old r)
  all_left_alone = All-append (LeavesAlone r) (fresh_actions u old r.leaving r.plan ++ rebinds_in r) (taken_away r)
      (before_alone u k wishes old s goals r)
      (All-from_recursion (LeavesAlone r) (taken_away r) (along d (taken_away r) removal_run (all_removing u goes label d) (λ q z y kept h. h)))
