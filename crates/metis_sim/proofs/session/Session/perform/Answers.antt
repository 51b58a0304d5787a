use Rattle.std.proofs.Common.{◌≡◌, List, ◌∷◌, ◌∙◌, ap, subst, sym}
use Rattle.std.proofs.lemmas.Result.{err_from_is_err_and}
use Rattle.metis_universe.specs.Terms.{Config}
use Rattle.metis_sim.proofs.Undone.{IsSound-more, befores_is, is_undoable, undone_is}
use Rattle.metis_sim.specs.Terms.{IsSound, Session, befores, done, done_by, session_of}
use Rattle.metis_sim.specs.declared.change.Change.{Change}
use Rattle.metis_sim.specs.declared.reply.Reply.TheVariants.{Did}
use Rattle.metis_sim.proofs.session.Session.perform.Goals as goal

abbrev Kept : Type 0
Kept = Config × List Change

pub keep-requires : goal.keep-requires
keep-requires c =
    let s = c.self.inside in
    is_undoable s.universe.now s.config c.keeps_invariant.ensures c.args.a.now c.apply.new.c c.in-Ok.ensures.step c.in_ok-change.change c.in_ok-change.ensures.ok

pub invariant_of-self : goal.invariant_of-self
invariant_of-self c =
    let s = c.self.inside in
    let e = c.in_err-keep-in-Ok.ensures in
    let same = e.undone ∙ undone_is s.universe.now s.config c.keeps_invariant.ensures c.args.a.now c.apply.new.c c.in-Ok.ensures.step c.in_ok-change.change c.in_ok-change.ensures.ok in
    subst (λ (w : Kept). IsSound s.universe.now w.0 w.1) (sym (λ i. (same i, e.err i))) c.self.invariant

pub returns-in_err-keep-in-Ok-clause-err : goal.returns-in_err-keep-in-Ok-clause-err
returns-in_err-keep-in-Ok-clause-err c =
    let s = c.self.inside in
    let e = c.in_err-keep-in-Ok.ensures in
    let same = e.undone ∙ undone_is s.universe.now s.config c.keeps_invariant.ensures c.args.a.now c.apply.new.c c.in-Ok.ensures.step c.in_ok-change.change c.in_ok-change.ensures.ok in
    let r = c.from_residual-in_err-keep-in-Ok in
    let p = err_from_is_err_and r.result r.ensures.1 in
    rw p.1 ((λ i. session_of s.universe.now (same i) (befores (same i) (e.err i)) s.ended) ∙ c.self.view_is)

pub invariant_of-self-in-Ok : goal.invariant_of-self-in-Ok
invariant_of-self-in-Ok c =
    let s = c.self.inside in
    let e = c.in_ok-keep-in-Ok.ensures in
    subst (λ (w : Kept). IsSound s.universe.now w.0 w.1) (sym (λ i. (e.same i, e.ok i)))
    (IsSound-more s.universe.now s.config c.keeps_invariant.ensures c.args.a.now c.apply.new.c c.in-Ok.ensures.step c.in_ok-change.change c.in_ok-change.ensures.ok s.earlier c.self.invariant c.in-Ok.ensures.correct c.in-Ok.ensures.over)

pub returns-in-Ok-clause-ok : goal.returns-in-Ok-clause-ok
returns-in-Ok-clause-ok c =
    let s = c.self.inside in
    let a = c.args.a.now in
    let e = c.in_ok-keep-in-Ok.ensures in
    let old = session_of s.universe.now s.config (befores s.config s.earlier) s.ended in
    let now : c.keep.new.c ≡ c.apply.new.c = e.same in
    let earlier : befores c.keep.new.c c.keep.new.self ≡ s.config ∷ befores s.config s.earlier =
    (λ i. befores (now i) (e.ok i)) ∙ befores_is s.universe.now s.config c.keeps_invariant.ensures a c.apply.new.c c.in-Ok.ensures.step c.in_ok-change.change c.in_ok-change.ensures.ok s.earlier in
    let done_now = now ∙ c.in-Ok.ensures.step.1 in
    (λ i. (Did, session_of s.universe.now (done_now i) (earlier i) s.ended))
    ∙ sym (ap (done_by old a) c.in-Ok.ensures.answers.0) ∙ ap (λ (w : Session). done w a) c.self.view_is
