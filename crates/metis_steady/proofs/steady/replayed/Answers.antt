use Rattle.std.proofs.Common.{ap, sym, ◌∙◌, subst, length}
use Rattle.std.specs.List.{All}
use Rattle.metis_universe.specs.Terms.{Config, IsGoalOf}
use Rattle.metis_replay.proofs.Feeding.{fed_universe}
use Rattle.metis_replay.specs.Terms.{IsVerdictOf, start, verdict}
use Rattle.metis_replay.specs.declared.verdict.Verdict.TheVariants.{Good}
use Rattle.metis_steady.proofs.steady.replayed.Goals as goal

pub returns-clause-numbers : goal.returns-clause-numbers
returns-clause-numbers c =
    let g = c.args.goals.now in
    let same = ap (λ s. s.universe) c.in_ok-replay.ensures ∙ fed_universe (start c.args.u.now) c.args.actions.now in
    subst (λ v. IsVerdictOf v c.finish.result) same (c.finish.ensures.numbers (subst (λ v. All (IsGoalOf v) g) (sym same) c.requires.within))

pub returns-clause-standing : goal.returns-clause-standing
returns-clause-standing c = λ good.
    let u = c.args.u.now in
    let actions = c.args.actions.now in
    let g = c.args.goals.now in
    let k = c.keeps_invariant.ensures.universe in
    let said = ap (λ s. verdict s g) (sym c.in_ok-replay.ensures) ∙ sym c.finish.ensures.verdict ∙ good in
    let tells = (c.replay_is_exact.ensures u actions g Good k c.requires.numbers).0 said in
    c.count.ensures ∙ ap (λ (d : Config). length d.instances) (c.config.ensures.config ∙ ap (λ s. s.config) c.in_ok-replay.ensures ∙ c.replay_keeps_what_was_done.ensures.done u actions k tells.0)
