use Rattle.std.proofs.Common.{◌∙◌, ap, length, sym}
use Rattle.metis_sim.proofs.Undone.{length-befores}
use Rattle.metis_sim.specs.Terms.{Session}
use Rattle.metis_sim.proofs.session.Session.depth.Goals as goal

pub returns : goal.returns
returns c = c.len.ensures ∙ sym (length-befores c.self.inside.config c.self.inside.earlier) ∙ ap (λ (s : Session). length s.earlier) c.self.view_is
