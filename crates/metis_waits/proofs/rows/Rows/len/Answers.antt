use Rattle.std.proofs.Common.{◌≡◌, List, ℕ, length, vec_len, ap, sym, ◌∙◌, rules}
use Rattle.metis_waits.proofs.Parted.{length-rows_from}
use Rattle.metis_waits.proofs.rows.Rows.len.Goals as goal

pub returns : goal.returns
returns c =
    let many : vec_len c.self.inside.ends ≡ length c.self.inside.ends.items = search rules in
    c.len.ensures ∙ many ∙ sym (length-rows_from 0 c.self.inside.numbers.items c.self.inside.ends.items) ∙ ap (λ (l : List (List ℕ)). length l) c.self.view_is
