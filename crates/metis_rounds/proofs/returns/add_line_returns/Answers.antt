use Rattle.std.proofs.Common.{◌≡◌, ◌<◌, ℕ, List, [], ap, get_or, length, subst, refl, sym, ◌∙◌, arith}
use Rattle.std.specs.List.{list_any}
use Rattle.metis_lines.specs.Terms.{is_return_of, leaving, line_at, station_supplies}
use Rattle.metis_events.specs.Terms.{without_supplies}
use Rattle.metis_rounds.specs.Terms.{Brings, IsUse, is_brought, uses_of}
use Rattle.metis_rounds.proofs.Brought.{brings_alike, pieces_more, rows_kept}
use Rattle.metis_rounds.proofs.Starts.{chosen, use_there}
use Rattle.metis_rounds.proofs.Supplied.{pair_at, station_any}
use Rattle.metis_rounds.proofs.returns.add_line_returns.Goals as goal

pub add_station_returns-requires-clause-rows : goal.add_station_returns-requires-clause-rows
add_station_returns-requires-clause-rows c =
    let w = without_supplies c.args.over.now.lines in
    rows_kept w _ c.args.table.now c.loop-station.table c.loop-station.invariant c.requires.rows

pub add_station_returns-requires-clause-uses : goal.add_station_returns-requires-clause-uses
add_station_returns-requires-clause-uses c =
    let u = c.args.over.now.universe in
    let s = c.args.over.now.support in
    let x = c.args.over.now.lines in
    let l : ℕ = c.args.line in
    let j : ℕ = c.loop-station.station in
    let short : j < length (line_at x l) = omega (arith, c.last.ensures.last, c.loop-station-test.true, c.last-2.view_is) in
    let q = pair_at u s x l j in
    let selected = chosen u s c.keeps_invariant.ensures.over.support x c.keeps_invariant.ensures.over.lines l j c.requires.line short in
    let is : c.of_pair-taken.result.now ≡ uses_of u s q = c.of_pair-taken.ensures ∙ ap (λ p. get_or c.args.uses.now p []) c.station.ensures ∙ c.requires.uses q selected in
    subst (λ (us : List (ℕ × ℕ)). (i : ℕ) → i < length us → IsUse x (get_or us i (0, 0))) (sym is) (use_there u s c.keeps_invariant.ensures.over.support x c.keeps_invariant.ensures.over.lines q selected)

pub loop-station-preserved : goal.loop-station-preserved
loop-station-preserved c =
    let u = c.args.over.now.universe in
    let s = c.args.over.now.support in
    let x = c.args.over.now.lines in
    let w = without_supplies x in
    let l : ℕ = c.args.line in
    let j : ℕ = c.loop-station.station in
    let short : j < length (line_at x l) = omega (arith, c.last.ensures.last, c.loop-station-test.true, c.last-2.view_is) in
    let q = pair_at u s x l j in
    let selected = chosen u s c.keeps_invariant.ensures.over.support x c.keeps_invariant.ensures.over.lines l j c.requires.line short in
    let is : c.of_pair-taken.result.now ≡ uses_of u s q = c.of_pair-taken.ensures ∙ ap (λ p. get_or c.args.uses.now p []) c.station.ensures ∙ c.requires.uses q selected in
    let from = leaving w l j in
    let brought = subst (λ (us : List (ℕ × ℕ)). Brings (λ e f. list_any (is_brought x from e f) us) c.loop-station.table c.add_station_returns.new.table) is c.in_ok-add_station_returns.ensures in
    pieces_more (is_return_of w) (station_supplies u s x l) j c.args.table.now c.loop-station.table c.add_station_returns.new.table c.loop-station.invariant
    (brings_alike (λ e f. list_any (is_brought x from e f) (uses_of u s q)) (λ e f. list_any (is_return_of w e f) (station_supplies u s x l j)) c.loop-station.table c.add_station_returns.new.table
    (λ e f. sym (station_any u s x l j (is_return_of w e f) (is_brought x from e f) (λ r p k. refl)))
    brought)
