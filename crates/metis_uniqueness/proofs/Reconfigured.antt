-- The answer of a reconfiguration is one: what can be answered has no obstacle, and what some actions attain is not refused.
use Rattle.std.proofs.Common.{◌≡◌, ℕ, List, [], ◌∷◌, sym, ap, ◌∙◌, inl, inr}
use Rattle.metis_ids.specs.declared.actions.Action.{Action}
use Rattle.metis_ids.specs.declared.goals.Goal.{Goal}
use Rattle.metis_reconfigure.specs.Terms.{left_by}
use Rattle.metis_universe.specs.Terms.{Universe}
use Rattle.metis_wishes.specs.declared.wish.Wish.{Wish}
use Rattle.metis_plan_commands.specs.Terms.{IsBarred, PutsReconfiguration, ReconfigurationAnswer, Reconfigured, Reconfigures, obstacle_line, plan_of, plan_text}
use Rattle.metis_uniqueness.proofs.Obstacles.{answerable_has_none, obstacle_is_one}
use Rattle.metis_uniqueness.proofs.Planned.{refusal_is_one}
use Rattle.metis_uniqueness.proofs.Reconfiguring.{reconfigured_same}
use Rattle.metis_uniqueness.proofs.Runs.{steady_or_one}
use Rattle.metis_uniqueness.specs.Terms.{HasAtMostOneAnswer}

module _ (u : Universe) (goals : List Goal) (old : List Action) (wishes : List Wish) where
  answered_is_one : (lines others : List (List ℕ)) → Reconfigures u goals old wishes lines → Reconfigures u goals old wishes others → lines ≡ others
  answered_is_one lines others a b = a.told ∙ ap (λ xs. plan_text u (plan_of xs)) (reconfigured_same u wishes old goals a.course b.course) ∙ sym b.told

  barred_is_one : (lines others : List (List ℕ)) → IsBarred u goals old wishes lines → IsBarred u goals old wishes others → lines ≡ others
  barred_is_one lines others a b = a.told ∙ ap (λ why. obstacle_line u why ∷ []) (obstacle_is_one u wishes (left_by u old) goals a.why b.why a.first b.first) ∙ sym b.told

  answered_is_not_barred : (lines others : List (List ℕ)) → Reconfigures u goals old wishes lines → IsBarred u goals old wishes others → ⊥
  answered_is_not_barred lines others a b = answerable_has_none u wishes old goals a.course.leaving a.course.leave a.answered.answerable b.why b.first

  answer_one : HasAtMostOneAnswer (ReconfigurationAnswer u goals old wishes)
  answer_one lines others status other (inl a) (inl b) = (answered_is_one lines others a.1 b.1, a.0 ∙ sym b.0)
  answer_one lines others status other (inl a) (inr (inl b)) = absurd (answered_is_not_barred lines others a.1 b.1)
  answer_one lines others status other (inl a) (inr (inr b)) = absurd (b.1.unattained a.1.attains)
  answer_one lines others status other (inr (inl a)) (inl b) = absurd (answered_is_not_barred others lines b.1 a.1)
  answer_one lines others status other (inr (inl a)) (inr (inl b)) = (barred_is_one lines others a.1 b.1, a.0 ∙ sym b.0)
  answer_one lines others status other (inr (inl a)) (inr (inr b)) = absurd (b.1.unattained a.1.attains)
  answer_one lines others status other (inr (inr a)) (inl b) = absurd (a.1.unattained b.1.attains)
  answer_one lines others status other (inr (inr a)) (inr (inl b)) = absurd (a.1.unattained b.1.attains)
  answer_one lines others status other (inr (inr a)) (inr (inr b)) = (refusal_is_one u goals lines others a.1 b.1, a.0 ∙ sym b.0)

  pub reconfigure_one : HasAtMostOneAnswer (Reconfigured u goals old wishes)
  reconfigure_one = steady_or_one u old (PutsReconfiguration u goals old wishes) (λ lines status a. a.steady) (λ lines others status other a b. answer_one lines others status other a.answer b.answer)
