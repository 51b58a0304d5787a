use Rattle.std.proofs.Common.{◌≡◌, ◌∙◌, [], ap, arith, inl, inr, subst, sym}
use Rattle.metis_actions.specs.Terms.{IsFaultOf}
use Rattle.metis_replay.proofs.Feeding.{fed_universe}
use Rattle.metis_replay.specs.Terms.{after_feeding, start, verdict}
use Rattle.metis_replay.specs.declared.verdict.Verdict.{Verdict}
use Rattle.metis_replay.specs.declared.verdict.Verdict.TheVariants.{Bad, Good, Missing}
use Rattle.metis_universe.specs.Terms.{IsRun, empty}
use Rattle.metis_steady.proofs.steady.follow.Goals as goal

pub returns-in-Bad : goal.returns-in-Bad
returns-in-Bad c =
    let u = c.args.u.now in
    let actions = c.args.actions.now in
    let all = c.in_ok-replay.ensures in
    let said = ap (λ s. verdict s []) (sym all) ∙ sym c.in-Bad.ensures.verdict in
    let same = ap (λ s. s.universe) all ∙ fed_universe (start u) actions in (
      (c.replay_is_exact.ensures u actions [] (Bad c.in-Bad.number c.in-Bad.fault) c.keeps_invariant.ensures.universe c.requires.numbers).0 said,
      subst (λ v. IsFaultOf v c.in-Bad.fault) same (c.in-Bad.ensures.numbers (λ i d low. absurd (omega (arith, low)))),
    )

pub returns-in-Good : goal.returns-in-Good
returns-in-Good c =
    let u = c.args.u.now in
    let actions = c.args.actions.now in
    let k = c.keeps_invariant.ensures.universe in
    let all = c.in_ok-replay.ensures in
    let says : (v : Verdict) → c.finish.result ≡ v → verdict (after_feeding u actions) [] ≡ v = λ v is. ap (λ s. verdict s []) (sym all) ∙ sym c.finish.ensures.verdict ∙ is in
    let run : IsRun u empty actions = elim c.in-Good.is [
      | inl good ↦ ((c.replay_is_exact.ensures u actions [] Good k c.requires.numbers).0 (says Good good)).0
      | inr lacks ↦ ((c.replay_is_exact.ensures u actions [] (Missing lacks.0 lacks.1 lacks.2) k c.requires.numbers).0 (says (Missing lacks.0 lacks.1 lacks.2) lacks.3)).0
    ] in
    (run, c.into_config.ensures.config ∙ ap (λ s. s.config) all ∙ c.replay_keeps_what_was_done.ensures.done u actions k run)
