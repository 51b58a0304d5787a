use Rattle.std.proofs.Common.{◌∙◌, ap, nat_eq, sym}
use Rattle.metis_universe.specs.Terms.{Binding, is_steadfast_after, standing}
use Rattle.metis_waits.proofs.Counted.{none_counted}
use Rattle.metis_waits.specs.declared.instances.Track.{Track}
use Rattle.metis_waits.proofs.summary.Summary.is_steadfast.Goals as goal

pub returns-in-Delete : goal.returns-in-Delete
returns-in-Delete c =
    ap (λ (t : Track). nat_eq t.clients 0) c.track_of-in-Delete.ensures ∙ ap (λ n. nat_eq n 0) (c.requires.each c.in-Delete.inst).track.clients ∙ none_counted (λ (b : Binding). nat_eq b.2 c.in-Delete.inst) (standing c.args.earlier.now)
    ∙ ap (is_steadfast_after c.args.u.now c.args.earlier.now) (sym c.in-Delete.is)

pub returns-in-Move : goal.returns-in-Move
returns-in-Move c =
    ap (λ (t : Track). nat_eq t.clients 0) c.track_of-in-Move.ensures ∙ ap (λ n. nat_eq n 0) (c.requires.each c.in-Move.inst).track.clients ∙ none_counted (λ (b : Binding). nat_eq b.2 c.in-Move.inst) (standing c.args.earlier.now)
    ∙ ap (is_steadfast_after c.args.u.now c.args.earlier.now) (sym c.in-Move.is)
