-- What a call for a reconfiguration gives.
use Rattle.std.proofs.Common.{◌≡◌, List, refl, subst, sym}
use Rattle.std.specs.Prelude.{IsTrue}
use Rattle.metis_ids.specs.declared.actions.Action.{Action}
use Rattle.metis_ids.specs.declared.goals.Goal.{Goal}
use Rattle.metis_plan_commands.specs.Terms.{IsSound, Reconfigures, plan_of, plan_text}
use Rattle.metis_plan_commands.proofs.Formed.{reconfiguration_formed}
use Rattle.metis_reconfigure.specs.Terms.{IsAnswerable, IsAnswered, Reconfiguration, reconfigured}
use Rattle.metis_universe.specs.Terms.{AttainsGoals, IsSteadfastRun, IsUniverse, Universe, is_steadfast}
use Rattle.metis_wishes.specs.declared.wish.Wish.{Wish}

-- the actions are those of a reconfiguration that can be answered
pub record IsGiven (u : Universe) (wishes : List Wish) (old : List Action) (goals : List Goal) (xs : List Action) : Type 0 where
  pub course : Reconfiguration u wishes old goals
  pub answered : IsAnswered u wishes old goals course
  pub sound : IsSound course
  pub same : xs ≡ reconfigured course

pub given_by : (u : Universe) (wishes : List Wish) (old : List Action) (goals : List Goal) (xs : List Action)
    → ((u : Universe) (wishes : List Wish) (old : List Action) (goals : List Goal) (r : Reconfiguration u wishes old goals) → IsUniverse u → IsAnswered u wishes old goals r → IsSound r)
    → IsUniverse u → IsSteadfastRun u old → ((r : Reconfiguration u wishes old goals) × IsAnswerable u wishes old goals r.leaving × (xs ≡ reconfigured r))
    → IsGiven u wishes old goals xs
given_by u wishes old goals xs law universe steady found =
    let answered : IsAnswered u wishes old goals found.0 = record { steady = steady; answerable = found.1 } in
    record { course = found.0; answered = answered; sound = law u wishes old goals found.0 universe answered; same = found.2 }

module _ (u : Universe) (wishes : List Wish) (old : List Action) (goals : List Goal) (xs : List Action) (given : IsGiven u wishes old goals xs) where
  pub given_steadfast : IsTrue (is_steadfast u xs)
  given_steadfast = subst (λ xs. IsTrue (is_steadfast u xs)) (sym given.same) given.sound.steady.steadfast

  pub given_told : AttainsGoals u goals → Reconfigures u goals old wishes (plan_text u (plan_of xs))
  given_told attains =
      subst (λ xs. Reconfigures u goals old wishes (plan_text u (plan_of xs))) (sym given.same)
      (record {
        attains = attains;
        course = given.course;
        answered = given.answered;
        sound = given.sound;
        formed = λ table numbered few. reconfiguration_formed u table wishes old goals given.course given.answered numbered.numbers numbered.named numbered.short few;
        told = refl;
      })
