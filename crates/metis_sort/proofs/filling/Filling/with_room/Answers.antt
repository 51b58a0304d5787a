use Rattle.std.proofs.Common.{◌≡◌, ◌++◌, [], length, get_or, take, ap, ◌∙◌}
use Rattle.metis_sort.specs.Terms.{filling_of}
use Rattle.metis_sort.proofs.RowFacts.{empty_count, empty_rows}
use Rattle.metis_sort.proofs.filling.Filling.with_room.Goals as goal

pub returns-clause-size : goal.returns-clause-size
returns-clause-size c =
    let starts = c.in_ok-starts.starts.items in
    let nodes = c.in_ok-nodes.nodes.items in
    let made = c.in_ok-starts.ensures in
    let same : c.extend_from_slice.new.self.items ≡ take (length c.args.counts.now) starts = c.in_ok-extend_from_slice.ensures.items ∙ (λ i. c.in_ok-ends.ensures.items i ++ take (length c.args.counts.now) (c.deref.ensures.value i)) in
    ap (λ ends. length (filling_of starts ends nodes).rows) same ∙ empty_count starts c.args.counts.now nodes made.size made.first made.each

pub returns-clause-rows : goal.returns-clause-rows
returns-clause-rows c = λ x.
    let starts = c.in_ok-starts.starts.items in
    let nodes = c.in_ok-nodes.nodes.items in
    let made = c.in_ok-starts.ensures in
    let same : c.extend_from_slice.new.self.items ≡ take (length c.args.counts.now) starts = c.in_ok-extend_from_slice.ensures.items ∙ (λ i. c.in_ok-ends.ensures.items i ++ take (length c.args.counts.now) (c.deref.ensures.value i)) in
    ap (λ ends. get_or (filling_of starts ends nodes).rows x []) same ∙ empty_rows starts c.args.counts.now nodes made.size made.first made.each x
