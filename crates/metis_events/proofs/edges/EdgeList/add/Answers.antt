use Rattle.std.proofs.Common.{◌∷◌, ◌++◌, [], ap, ◌∙◌}
use Rattle.metis_ids.specs.declared.events.Event.{Event}
use Rattle.metis_events.proofs.Targets.{adds_one}
use Rattle.metis_events.proofs.edges.EdgeList.add.Goals as goal
use Rattle.metis_events.specs.declared.edges.Edge.{Edge}
use Rattle.metis_events.specs.Terms.{edge_of, has_target}

pub returns : goal.returns
returns c = λ x.
    let k : Event × Edge = (c.args.to, edge_of c.args.from c.args.kind) in
    ap (λ xs. has_target xs x) (c.in_ok-push.ensures.items ∙ ap (λ xs. xs ++ k ∷ []) c.self.view_is) ∙ adds_one k c.args.self.now x
