use Rattle.std.proofs.Common.{sym, ◌∙◌, arith, length}
use Rattle.std.specs.List.{position_or_len}
use Rattle.metis_events.proofs.InRows.{row_more, rows_same, some_place}
use Rattle.metis_events.proofs.rows.add_edge.Goals as goal
use Rattle.metis_lines.specs.Terms.{same_event}

pub index_mut-requires : goal.index_mut-requires
index_mut-requires c =
    let events = c.args.events.now in
    let at = some_place (position_or_len (same_event c.args.to.now) events) (length events) c.in-Some.place (sym c.place_of.ensures ∙ c.in-Some.is) in
    let low = at.0 in
    let same = at.1 in
    let each = c.requires.each in
    let long = c.args.rows.now.ok.0 in
    omega arith

pub returns-in_ok-push : goal.returns-in_ok-push
returns-in_ok-push c = λ xs are.
    row_more c.args.events.now c.requires.ascend xs c.args.to.now c.args.edge c.args.rows.now.items c.in-Some.place c.index_mut.result.now c.push.new.self are (sym c.place_of.ensures ∙ c.in-Some.is) c.index_mut.ensures.value c.in_ok-push.ensures

pub returns-in_default : goal.returns-in_default
returns-in_default c = λ xs are.
    rows_same c.args.events.now c.requires.ascend xs c.args.to.now c.args.edge c.args.rows.now.items are (sym c.place_of.ensures ∙ c.in_default.is)
