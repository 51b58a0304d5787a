use Rattle.std.proofs.Common.{◌≡◌, ◌+◌, ◌<◌, length, get_or, set, ap, ◌∙◌, arith, length-set}
use Rattle.std.proofs.lemmas.List.{get_or_default}
use Rattle.metis_sort.proofs.DagFacts.{count_more, member, occurrences_few}
use Rattle.metis_sort.proofs.dag.counts_of.Goals as goal

pub index_mut-requires : goal.index_mut-requires
index_mut-requires c =
    let low = c.requires.within c.node-item.result (member c.args.nodes.now c.loop-node.node-index c.node-item.result c.loop-node-test.true c.node-item.is) in
    let same : c.node.inside.0 ≡ c.node-item.result = c.node.view_is in
    let size = c.loop-node.invariant.size in
    let held = c.loop-node.counts.ok.0 in
    omega arith

pub overflow_add-index_mut : goal.overflow_add-index_mut
overflow_add-index_mut c =
    let x = c.node.inside.0 in
    let low = c.requires.within c.node-item.result (member c.args.nodes.now c.loop-node.node-index c.node-item.result c.loop-node-test.true c.node-item.is) in
    let same : x ≡ c.node-item.result = c.node.view_is in
    let size = c.loop-node.invariant.size in
    let within : x < length c.loop-node.counts.items = omega arith in
    let value : c.index_mut.result.now ≡ get_or c.loop-node.counts.items x 0 = c.index_mut.ensures.value ∙ get_or_default c.loop-node.counts.items x c.index_mut.result.now 0 within in
    let counted = c.loop-node.invariant.counts x in
    let short = occurrences_few c.args.nodes.now c.loop-node.node-index x in
    let few = c.requires.few in
    let going = c.loop-node-test.true in
    omega (arith, value, counted, short, few, going)

pub loop-node-preserved : goal.loop-node-preserved
loop-node-preserved c =
    let x = c.node.inside.0 in
    let counts = c.loop-node.counts.items in
    let low = c.requires.within c.node-item.result (member c.args.nodes.now c.loop-node.node-index c.node-item.result c.loop-node-test.true c.node-item.is) in
    let same : x ≡ c.node-item.result = c.node.view_is in
    let size = c.loop-node.invariant.size in
    let within : x < length counts = omega arith in
    let value : c.index_mut.result.now ≡ get_or counts x 0 = c.index_mut.ensures.value ∙ get_or_default counts x c.index_mut.result.now 0 within in
    let here : x ≡ get_or c.args.nodes.now c.loop-node.node-index x = same ∙ c.node-item.is ∙ get_or_default c.args.nodes.now c.loop-node.node-index c.node-item.result x c.loop-node-test.true in
    record {
      size = length-set counts x (c.index_mut.result.now + 1) ∙ size;
      counts = λ y. ap (λ k. get_or (set counts x (k + 1)) y 0) value ∙ count_more counts c.args.nodes.now c.loop-node.node-index x within c.loop-node-test.true here c.loop-node.invariant.counts y;
    }
