use Rattle.std.proofs.Common.{◌∙◌, ap, sym, subst}
use Rattle.metis_universe.specs.Terms.{IsUniverse}
use Rattle.metis_config.specs.Terms.{IsOver}
use Rattle.metis_sim.proofs.Courses.{never_for_memory, numbered, unchanged}
use Rattle.metis_sim.proofs.SessionEnds.{universe_after_line}
use Rattle.metis_sim.specs.Terms.{Answer, IsReplyOf, Session, changes}
use Rattle.metis_sim.proofs.session.Session.line.Goals as goal

pub returns-in-Ok-clause-kept : goal.returns-in-Ok-clause-kept
returns-in-Ok-clause-kept c = λ calm.
    let e = c.in-Ok.ensures.ok in
    ap (λ (w : Answer). w.1) e ∙ unchanged c.args.self.now c.args.bytes.now (sym (ap (λ (w : Answer). changes w.0) e) ∙ calm)

pub returns-in-Ok-clause-refused : goal.returns-in-Ok-clause-refused
returns-in-Ok-clause-refused c = λ f is.
    let e = ap (λ (w : Answer). w.0) c.in-Ok.ensures.ok in
    let k = subst (λ (s : Session). IsUniverse s.universe) c.self.view_is c.keeps_invariant.ensures.universe in
    let over = subst (λ (s : Session). IsOver s.universe s.config) c.self.view_is c.self.invariant.config.over in
    never_for_memory c.args.self.now k over c.args.bytes.now f (sym e ∙ is)

pub returns-in-Ok-clause-numbers : goal.returns-in-Ok-clause-numbers
returns-in-Ok-clause-numbers c = λ other memory.
    let e = ap (λ (w : Answer). w.0) c.in-Ok.ensures.ok in
    let k = subst (λ (s : Session). IsUniverse s.universe) c.self.view_is c.keeps_invariant.ensures.universe in
    let over = subst (λ (s : Session). IsOver s.universe s.config) c.self.view_is c.self.invariant.config.over in
    subst (IsReplyOf c.args.self.now.universe) (sym e) (numbered c.args.self.now k over c.args.bytes.now (λ ended. other (e ∙ ended)))

pub returns-in-Ok-clause-universe : goal.returns-in-Ok-clause-universe
returns-in-Ok-clause-universe c = ap (λ (w : Answer). w.1.universe) c.in-Ok.ensures.ok ∙ universe_after_line c.args.self.now c.args.bytes.now
