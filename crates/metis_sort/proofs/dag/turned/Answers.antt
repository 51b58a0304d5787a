use Rattle.std.proofs.Common.{◌≡◌, ◌+◌, ◌<◌, ◌++◌, [], length, get_or, replicate, ap, ◌∙◌, sym, subst, arith, true}
use Rattle.std.specs.List.{flat_map, range_with_len}
use Rattle.metis_ids.specs.Terms.{has, occurrences}
use Rattle.metis_ids.proofs.Lists.{flat_more}
use Rattle.metis_sort.proofs.DagFacts.{edges_into_count, in_joined, occurrences_below, turned_length}
use Rattle.metis_sort.proofs.dag.turned.Goals as goal

pub counts_of-requires-clause-within : goal.counts_of-requires-clause-within
counts_of-requires-clause-within c = λ x there.
    let rows = c.args.rows.now in
    let low = in_joined rows x (length rows) (λ i h. c.requires.within i x h) (subst (λ xs. has xs x ≡ true) c.all.ensures.nodes there) in
    let count = c.len.ensures in
    omega (arith, low, count)

pub add_to_rows-requires-clause-room : goal.add_to_rows-requires-clause-room
add_to_rows-requires-clause-room c = λ x within.
    let rows = c.args.rows.now in
    let i = c.loop-i.i in
    let counts = c.in_ok-counts.ensures in
    let slots = ap length c.deref.ensures.value in
    let size = c.loop-i.invariant.size in
    let low : x < length c.deref.result.now = omega (arith, within, size, slots, counts.size, c.len.ensures) in
    let room = c.in_ok-turned.ensures.room x low in
    let count = ap (λ xs. get_or xs x 0) c.deref.ensures.value ∙ counts.counts x ∙ ap (occurrences x) c.all.ensures.nodes in
    let start = ap (λ xs. get_or xs x 0) c.loop-i.invariant.starts in
    let end = ap (λ xs. get_or xs (x + 1) 0) c.loop-i.invariant.starts in
    let row = ap length (c.loop-i.invariant.rows x) ∙ turned_length rows x i in
    let added = ap (occurrences x) c.row.ensures in
    let below : i < length rows = omega (arith, c.loop-i-test.true, c.len-i-end.ensures) in
    let all = occurrences_below rows x i (length rows) below in
    omega (arith, room, count, start, end, row, added, all)

pub loop-i-preserved : goal.loop-i-preserved
loop-i-preserved c =
    let rows = c.args.rows.now in
    let i = c.loop-i.i in
    record {
      size = c.add_to_rows.ensures.size ∙ c.loop-i.invariant.size;
      starts = c.add_to_rows.ensures.starts ∙ c.loop-i.invariant.starts;
      rows = λ x.
          c.add_to_rows.ensures.rows x
          ∙ (λ j. c.loop-i.invariant.rows x j ++ replicate (occurrences x (c.row.ensures j)) i)
          ∙ sym (flat_more (λ k. replicate (occurrences x (get_or rows k [])) k) i);
    }

pub done-requires : goal.done-requires
done-requires c = λ x within.
    let rows = c.args.rows.now in
    let counts = c.in_ok-counts.ensures in
    let slots = ap length c.deref.ensures.value in
    let size = c.loop-i.invariant.size in
    let low : x < length c.deref.result.now = omega (arith, within, size, slots, counts.size, c.len.ensures) in
    let room = c.in_ok-turned.ensures.room x low in
    let count = ap (λ xs. get_or xs x 0) c.deref.ensures.value ∙ counts.counts x ∙ ap (occurrences x) c.all.ensures.nodes in
    let start = ap (λ xs. get_or xs x 0) c.loop-i.invariant.starts in
    let end = ap (λ xs. get_or xs (x + 1) 0) c.loop-i.invariant.starts in
    let ended = c.len-i-end.ensures in
    let all : c.loop-i.i ≡ length rows = omega arith in
    let row = ap length (c.loop-i.invariant.rows x) ∙ turned_length rows x c.loop-i.i ∙ ap (λ m. occurrences x (flat_map (λ k. get_or rows k []) (range_with_len 0 m))) all in
    omega (arith, room, count, start, end, row)

pub returns-clause-rows : goal.returns-clause-rows
returns-clause-rows c = λ x low.
    let rows = c.args.rows.now in
    let ended = c.len-i-end.ensures in
    let all : c.loop-i.i ≡ length rows = omega arith in
    ap (λ r. get_or r x []) c.done.ensures
    ∙ c.loop-i.invariant.rows x
    ∙ ap (λ m. flat_map (λ k. replicate (occurrences x (get_or rows k [])) k) (range_with_len 0 m)) all

pub returns-clause-few : goal.returns-clause-few
returns-clause-few c =
    let rows = c.args.rows.now in
    let count = edges_into_count rows (length rows) in
    let all = ap length c.all.ensures.nodes in
    let few = c.all.ensures.few in
    omega (arith, count, all, few)
