-- A plan is what its text says.
use Rattle.std.proofs.Common.{◌≡◌, List, [], ◌∷◌, map, refl, ap}
use Rattle.metis_ids.specs.Terms.{Dup}
use Rattle.metis_text.specs.Terms.{dup_row, parts_of}
use Rattle.metis_text.specs.declared.plan_text.PlanText.{PlanText}
use Rattle.metis_inputs.specs.Terms.{dup_said, plan_said}

pub dups_said : (ds : List Dup) → map dup_said (map dup_row ds) ≡ ds
dups_said [] = refl
dups_said (d ∷ ds) = ap (λ es. d ∷ es) (dups_said ds)

-- a plan is what its text says
pub plan_is_said : (text : PlanText) → plan_said (parts_of text) ≡ text.plan
plan_is_said text = ap (λ (dups : List Dup). record { actions = text.plan.actions; dups = dups; instances = text.plan.instances }) (dups_said text.plan.dups)
