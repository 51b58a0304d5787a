use Rattle.std.proofs.Common.{◌≡◌, ◌<◌, ◌≤◌, ◌+◌, ◌-◌, [], length, get_or, take, drop, ap, sym, ◌∙◌, arith, rules}
use Rattle.std.proofs.lemmas.List.{drop-take, get_or_default}
use Rattle.metis_sort.proofs.RowFacts.{row_at, rows_count}
use Rattle.metis_sort.proofs.rows.NodeRows.row.Goals as goal

pub index-requires : goal.index-requires
index-requires c =
    let starts = c.self.inside.starts.items in
    let counted = rows_count (length starts - 1) (λ k. get_or starts k 0) (λ k. get_or starts (k + 1) 0) c.self.inside.nodes.items in
    let viewed = ap length c.self.view_is in
    let low : c.args.number + 1 < length starts = omega (arith, counted, viewed, c.requires) in
    omega (arith, low)

pub overflow_add-number : goal.overflow_add-number
overflow_add-number c =
    let starts = c.self.inside.starts.items in
    let counted = rows_count (length starts - 1) (λ k. get_or starts k 0) (λ k. get_or starts (k + 1) 0) c.self.inside.nodes.items in
    let viewed = ap length c.self.view_is in
    let low : c.args.number + 1 < length starts = omega (arith, counted, viewed, c.requires) in
    let held = c.self.inside.starts.ok.0 in
    search rules

pub index-requires-2 : goal.index-requires-2
index-requires-2 c =
    let starts = c.self.inside.starts.items in
    let counted = rows_count (length starts - 1) (λ k. get_or starts k 0) (λ k. get_or starts (k + 1) 0) c.self.inside.nodes.items in
    let viewed = ap length c.self.view_is in
    let low : c.args.number + 1 < length starts = omega (arith, counted, viewed, c.requires) in
    omega (arith, low)

pub slice_bounds-result-count : goal.slice_bounds-result-count
slice_bounds-result-count c =
    let starts = c.self.inside.starts.items in
    let counted = rows_count (length starts - 1) (λ k. get_or starts k 0) (λ k. get_or starts (k + 1) 0) c.self.inside.nodes.items in
    let viewed = ap length c.self.view_is in
    let low : c.args.number + 1 < length starts = omega (arith, counted, viewed, c.requires) in
    let start = c.index.ensures ∙ get_or_default starts c.args.number c.index.result.now 0 (omega (arith, low)) in
    let end = c.index-2.ensures ∙ get_or_default starts (c.args.number + 1) c.index-2.result.now 0 low in
    let order = c.self.invariant.ascend c.args.number low in
    omega (arith, order, start, end)

pub slice_bounds-result-start : goal.slice_bounds-result-start
slice_bounds-result-start c =
    let starts = c.self.inside.starts.items in
    let counted = rows_count (length starts - 1) (λ k. get_or starts k 0) (λ k. get_or starts (k + 1) 0) c.self.inside.nodes.items in
    let viewed = ap length c.self.view_is in
    let low : c.args.number + 1 < length starts = omega (arith, counted, viewed, c.requires) in
    let start = c.index.ensures ∙ get_or_default starts c.args.number c.index.result.now 0 (omega (arith, low)) in
    let end = c.index-2.ensures ∙ get_or_default starts (c.args.number + 1) c.index-2.result.now 0 low in
    let order = c.self.invariant.ascend c.args.number low in
    let within = c.self.invariant.within (c.args.number + 1) low in
    let nodes = ap length c.deref.ensures.value in
    let before : c.index.result.now ≤ c.index-2.result.now = omega (arith, order, start, end) in
    let behind : c.index-2.result.now ≤ length c.deref.result.now = omega (arith, within, end, nodes) in
    search rules

pub slice_bounds-result-end : goal.slice_bounds-result-end
slice_bounds-result-end c =
    let starts = c.self.inside.starts.items in
    let counted = rows_count (length starts - 1) (λ k. get_or starts k 0) (λ k. get_or starts (k + 1) 0) c.self.inside.nodes.items in
    let viewed = ap length c.self.view_is in
    let low : c.args.number + 1 < length starts = omega (arith, counted, viewed, c.requires) in
    let start = c.index.ensures ∙ get_or_default starts c.args.number c.index.result.now 0 (omega (arith, low)) in
    let end = c.index-2.ensures ∙ get_or_default starts (c.args.number + 1) c.index-2.result.now 0 low in
    let order = c.self.invariant.ascend c.args.number low in
    let within = c.self.invariant.within (c.args.number + 1) low in
    let nodes = ap length c.deref.ensures.value in
    let behind : c.index-2.result.now ≤ length c.deref.result.now = omega (arith, within, end, nodes) in
    behind

pub returns : goal.returns
returns c =
    let starts = c.self.inside.starts.items in
    let counted = rows_count (length starts - 1) (λ k. get_or starts k 0) (λ k. get_or starts (k + 1) 0) c.self.inside.nodes.items in
    let viewed = ap length c.self.view_is in
    let low : c.args.number + 1 < length starts = omega (arith, counted, viewed, c.requires) in
    let start = c.index.ensures ∙ get_or_default starts c.args.number c.index.result.now 0 (omega (arith, low)) in
    let end = c.index-2.ensures ∙ get_or_default starts (c.args.number + 1) c.index-2.result.now 0 low in
    let order = c.self.invariant.ascend c.args.number low in
    let nodes = c.self.inside.nodes.items in
    let s = get_or starts c.args.number 0 in
    let e = get_or starts (c.args.number + 1) 0 in
    let span : s + (e - s) ≡ e = omega (arith, order) in
    (λ i. take (end i - start i) (drop (start i) (c.deref.ensures.value i)))
    ∙ sym (drop-take s (e - s) nodes)
    ∙ ap (λ k. drop s (take k nodes)) span
    ∙ sym (row_at starts nodes c.self.invariant c.args.number low)
    ∙ ap (λ rows. get_or rows c.args.number []) c.self.view_is
