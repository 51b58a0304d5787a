use Rattle.std.proofs.Common.{◌≡◌, ap, sym, ◌∙◌, subst}
use Rattle.metis_sim.specs.Terms.{Session, answer, befores, session_of, taken}
use Rattle.metis_sim.proofs.AskedLines.{taken_line, undo_is_asked}
use Rattle.metis_sim.proofs.session.Session.asked.Goals as goal

pub returns-clause-answer : goal.returns-clause-answer
returns-clause-answer c =
    let r = c.self.inside in
    let s = session_of r.universe.now r.config (befores r.config r.earlier) r.ended in
    subst (λ (s : Session). taken s c.in_ok-asked.asked ≡ answer s c.args.bytes.now) c.self.view_is (ap (taken s) c.in_ok-asked.ensures.asked ∙ taken_line s c.args.bytes.now c.if-self.false)

pub returns-clause-undo : goal.returns-clause-undo
returns-clause-undo c is = undo_is_asked c.self.inside.universe.now c.self.inside.config c.args.bytes.now (sym c.in_ok-asked.ensures.asked ∙ is)
