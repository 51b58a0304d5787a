use Rattle.std.proofs.Common.{refl, ap, sym, ◌∙◌, arith, inl, inr}
use Rattle.metis_ids.specs.Terms.{has}
use Rattle.metis_universe.proofs.Ascending.{has-insert_key}
use Rattle.metis_reconfigure.proofs.Reaching.{first_edge, following-begin, following-end, following-next, no_edge, shorter, there_again}
use Rattle.metis_reconfigure.proofs.reach.follow_from.Goals as goal

pub edges-init : goal.edges-init
edges-init c = following-begin c.args.z c.args.left.now.keys c.args.seen.now.keys c.args.waiting.now.items

pub edges-smaller-in-Continue-branch-2 : goal.edges-smaller-in-Continue-branch-2
edges-smaller-in-Continue-branch-2 c =
    let fewer = shorter c.args.z c.in-Some.edge.0 c.in-Some.edge.1 c.edges.left.keys c.remove.new.self.keys c.in-Some.ensures c.remove.ensures.keys in
    omega (arith, fewer)

pub edges-preserved-in-Continue-branch-2 : goal.edges-preserved-in-Continue-branch-2
edges-preserved-in-Continue-branch-2 c =
    let y = c.in-Some.edge.0 in
    let fewer = shorter c.args.z y c.in-Some.edge.1 c.edges.left.keys c.remove.new.self.keys c.in-Some.ensures c.remove.ensures.keys in
    following-next c.args.z y c.in-Some.edge.1 c.args.left.now.keys c.edges.left.keys c.remove.new.self.keys c.args.seen.now.keys c.edges.seen.keys c.insert.new.self.keys c.args.waiting.now.items c.edges.waiting.items c.push.new.self.items
    (first_edge c.args.z y c.in-Some.edge.1 c.edges.left.keys c.in-Some.ensures) c.remove.ensures.keys fewer
    (λ w. ap (λ zs. has zs w) c.in_ok-insert.ensures.keys ∙ has-insert_key w y c.edges.seen.keys)
    (inl (sym c.holds.ensures ∙ c.if-not-holds.true, c.in_ok-push.ensures.items)) c.edges.invariant

pub edges-smaller : goal.edges-smaller
edges-smaller c =
    let fewer = shorter c.args.z c.in-Some.edge.0 c.in-Some.edge.1 c.edges.left.keys c.remove.new.self.keys c.in-Some.ensures c.remove.ensures.keys in
    omega (arith, fewer)

pub edges-preserved : goal.edges-preserved
edges-preserved c =
    let y = c.in-Some.edge.0 in
    let fewer = shorter c.args.z y c.in-Some.edge.1 c.edges.left.keys c.remove.new.self.keys c.in-Some.ensures c.remove.ensures.keys in
    following-next c.args.z y c.in-Some.edge.1 c.args.left.now.keys c.edges.left.keys c.remove.new.self.keys c.args.seen.now.keys c.edges.seen.keys c.edges.seen.keys c.args.waiting.now.items c.edges.waiting.items c.edges.waiting.items
    (first_edge c.args.z y c.in-Some.edge.1 c.edges.left.keys c.in-Some.ensures) c.remove.ensures.keys fewer
    (there_again y c.edges.seen.keys (sym c.holds.ensures ∙ c.if-not-holds.false))
    (inr (sym c.holds.ensures ∙ c.if-not-holds.false, refl)) c.edges.invariant

pub returns : goal.returns
returns c = following-end c.args.z c.args.left.now.keys c.edges.left.keys _ _ _ _ (no_edge c.args.z c.edges.left.keys c.in_default.ensures) c.edges.invariant
