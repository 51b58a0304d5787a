-- Commands whose answer is computed from what they read, or is that of a verdict.
use Rattle.std.proofs.Common.{ℕ, List, [], ◌∷◌, length, sym, ap, ◌∙◌}
use Rattle.metis_ids.specs.declared.actions.Action.{Action}
use Rattle.metis_ids.specs.declared.goals.Goal.{Goal}
use Rattle.metis_universe.specs.Terms.{Universe}
use Rattle.metis_why.specs.declared.reason.Line.{Line}
use Rattle.metis_commands.specs.Terms.{Confirms, Judged, Printed, Replayed, Simulated, judgement_line, judgement_status, verdict_line, verdict_status}
use Rattle.metis_plan_commands.specs.Terms.{Loaded, load_line}
use Rattle.metis_gen.specs.Terms.{generated, generated_targets}
use Rattle.metis_steady.specs.Terms.{standing_after}
use Rattle.metis_uniqueness.proofs.Refuted.{judgement_is_one}
use Rattle.metis_uniqueness.proofs.Replayed.{verdict_is_one}
use Rattle.metis_uniqueness.specs.Terms.{HasAtMostOneAnswer}

pub print_one : (u : Universe) → HasAtMostOneAnswer (Printed u)
print_one u lines others status other a b = (a.0 ∙ sym b.0, a.1 ∙ sym b.1)

pub sim_one : (u : Universe) (script : List ℕ) → HasAtMostOneAnswer (Simulated u script)
sim_one u script lines others status other a b = (a.told ∙ sym b.told, a.is ∙ sym b.is)

pub confirm_one : (u : Universe) (goals : List Goal) (why : List Line) → HasAtMostOneAnswer (Confirms u goals why)
confirm_one u goals why lines others status other a b = (a.told ∙ sym b.told, a.is ∙ sym b.is)

pub load_one : (n : ℕ) → HasAtMostOneAnswer (Loaded n)
load_one n lines others status other a b = (a.told ∙ ap (λ p. load_line n (generated n) (generated_targets n) p ∷ []) (b.alone a.plan a.rounds) ∙ sym b.told, a.is ∙ sym b.is)

pub replay_one : (u : Universe) (goals : List Goal) (actions : List Action) → HasAtMostOneAnswer (Replayed u goals actions)
replay_one u goals actions lines others status other a b =
    let same = verdict_is_one u actions goals a.verdict b.verdict a.tells b.tells in
    (a.told ∙ ap (λ v. verdict_line u (standing_after u actions) (length actions) v ∷ []) same ∙ sym b.told, a.is ∙ ap verdict_status same ∙ sym b.is)

pub refute_one : (u : Universe) (goals : List Goal) (set : List ℕ) → HasAtMostOneAnswer (Judged u goals set)
refute_one u goals set lines others status other a b =
    let same = judgement_is_one u set goals a.verdict b.verdict a.tells b.tells in
    (a.told ∙ ap (λ v. judgement_line u v ∷ []) same ∙ sym b.told, a.is ∙ ap judgement_status same ∙ sym b.is)
