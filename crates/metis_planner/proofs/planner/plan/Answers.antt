use Rattle.std.proofs.Common.{◌∙◌, List, Ok, refl, sym, ap, subst, ℕ}
use Rattle.std.proofs.lemmas.Bool.{false≢true}
use Rattle.metis_choice.specs.Terms.{IfLacks, IsFirstWithout}
use Rattle.metis_choice.specs.declared.choice.Choice.{Choice}
use Rattle.metis_universe.proofs.Inside.{refused}
use Rattle.metis_universe.specs.Terms.{IsAttainedSet, Refusal}
use Rattle.metis_layers.proofs.Order.{attained_set}
use Rattle.metis_layers.specs.Terms.{attained_pairs}
use Rattle.metis_planner.proofs.Planning.{refuses}
use Rattle.metis_planner.proofs.planner.plan.Goals as goal
use Rattle.metis_choice.proofs.Lacking.{lacking_low}

pub returns-in-Lacks-clause-attains : goal.returns-in-Lacks-clause-attains
returns-in-Lacks-clause-attains c =
    let u = c.args.u.now in
    let g = c.args.targets.now in
    let table = c.keeps_invariant.ensures in
    let first = subst (λ (x : Choice). IfLacks (Ok x) (IsFirstWithout u g)) c.in-Lacks.is c.in_ok-target.ensures.lacks in
    (λ same. absurd (false≢true same), λ attains. absurd (refused u g (attained_pairs u) c.in-Lacks.target (refuses u table.universe g c.in-Lacks.target first) attains))

pub returns-in-Lacks-clause-members : goal.returns-in-Lacks-clause-members
returns-in-Lacks-clause-members c =
    let k = c.in_ok-layers.ensures in
    subst (IsAttainedSet c.args.u.now) (sym (ap (λ s. s.members) c.into_attained.ensures ∙ k.layers.attained)) (attained_set c.args.u.now k.table.universe)

pub returns-in-Lacks-clause-refusal : goal.returns-in-Lacks-clause-refusal
returns-in-Lacks-clause-refusal c =
    let u = c.args.u.now in
    let g = c.args.targets.now in
    let table = c.keeps_invariant.ensures in
    let first = subst (λ (x : Choice). IfLacks (Ok x) (IsFirstWithout u g)) c.in-Lacks.is c.in_ok-target.ensures.lacks in
    subst (λ (s : List ℕ). Refusal u g s c.in-Lacks.target) (sym (ap (λ s. s.members) c.into_attained.ensures ∙ c.in_ok-layers.ensures.layers.attained)) (refuses u table.universe g c.in-Lacks.target first)

pub returns-in-Lacks-clause-lacking : goal.returns-in-Lacks-clause-lacking
returns-in-Lacks-clause-lacking c =
    let u = c.args.u.now in
    let g = c.args.targets.now in
    let first = subst (λ (x : Choice). IfLacks (Ok x) (IsFirstWithout u g)) c.in-Lacks.is c.in_ok-target.ensures.lacks in
    lacking_low u g c.in-Lacks.target c.requires.within first

pub returns-in_ok-plan-in-Support-clause-attains : goal.returns-in_ok-plan-in-Support-clause-attains
returns-in_ok-plan-in-Support-clause-attains c =
    let plan = c.in_ok-plan-in-Support.plan in
    (λ same. (plan.actions, c.in_ok-plan-in-Support.ensures.run.run, c.in_ok-plan-in-Support.ensures.holds), λ attains. refl)
