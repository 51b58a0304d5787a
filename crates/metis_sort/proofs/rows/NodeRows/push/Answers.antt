use Rattle.std.proofs.Common.{◌≡◌, ◌+◌, ◌∷◌, ◌++◌, [], length, ap, ◌∙◌, arith}
use Rattle.metis_sort.specs.Terms.{rows_by}
use Rattle.metis_sort.proofs.RowFacts.{one_more}
use Rattle.metis_sort.proofs.rows.NodeRows.push.Goals as goal

pub returns-in-Ok : goal.returns-in-Ok
returns-in-Ok c =
    let starts = c.self.inside.starts.items in
    let nodes = c.self.inside.nodes.items in
    let row = c.args.row.now in
    let count : c.len-count.result + length row ≡ length nodes + length row = let same = c.len-count.ensures in let held = c.self.inside.nodes.ok.0 in omega arith in
    ap (λ s. rows_by s c.extend_from_slice.new.self.items) c.in-Ok.ensures.items
    ∙ ap (λ k. rows_by (starts ++ k ∷ []) c.extend_from_slice.new.self.items) count
    ∙ ap (rows_by (starts ++ (length nodes + length row) ∷ [])) c.in_ok-extend_from_slice.ensures.items
    ∙ one_more starts nodes c.self.invariant row
    ∙ ap (λ rows. rows ++ row ∷ []) c.self.view_is
