use Rattle.std.proofs.Common.{◌+◌, ◌-◌, length, get_or, ap, arith}
use Rattle.metis_sort.proofs.RowFacts.{rows_count}
use Rattle.metis_sort.proofs.rows.NodeRows.len.Goals as goal

pub returns : goal.returns
returns c =
    let starts = c.self.inside.starts.items in
    let count = rows_count (length starts - 1) (λ i. get_or starts i 0) (λ i. get_or starts (i + 1) 0) c.self.inside.nodes.items in
    let same = ap length c.self.view_is in
    omega (arith, count, same)
