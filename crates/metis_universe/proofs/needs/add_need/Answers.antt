use Rattle.std.proofs.Common.{◌≡◌, max, ap, sym, ◌∙◌, string_bytes, string_eq}
use Rattle.indexmap.specs.IndexMap.{insert_entry}
use Rattle.metis_universe.specs.Terms.{count_in, need_of, need_rows_of, with_need}
use Rattle.metis_universe.proofs.Gathered.{need_rows_of-insert}
use Rattle.metis_universe.proofs.needs.add_need.Goals as goal

pub returns : goal.returns
returns c =
    let es = c.args.most.now.entries in
    let key = c.in_ok-clone.field-0 in
    let port = ap (λ n. n.port) c.need.view_is in
    let count = ap (λ n. n.count) c.need.view_is in
    let name : string_bytes key ≡ c.args.need.now.port = c.in_ok-clone.ensures.cases ∙ port in
    let most : c.max-count.result ≡ max (count_in (need_rows_of es) (string_bytes key)) c.args.need.now.count =
    c.max-count.ensures ∙ (λ i. max ((c.count_in.ensures ∙ ap (count_in (need_rows_of es)) (c.as_str.ensures.value ∙ port ∙ sym name)) i) (count i)) in
    ap need_rows_of c.in_ok-insert.ensures.entries
    ∙ (λ i. need_rows_of (insert_entry string_eq es key (most i)))
    ∙ need_rows_of-insert es key c.args.need.now.count
    ∙ (λ i. with_need (need_rows_of es) (need_of (name i) c.args.need.now.count))
