use Rattle.std.proofs.Common.{List, [], ℕ, Bor, Vec, Global, get_or, map, sym, ap, ◌∙◌}
use Rattle.metis_ids.specs.declared.actions.Action.{Action}
use Rattle.metis_text.specs.Terms.{Row, after_in}
use Rattle.metis_tokens.specs.Terms.{both, due, made}
use Rattle.metis_text.proofs.Shapes.{both_view, numbered_view, row_few, row_some}
use Rattle.metis_text.proofs.action_line.row_of.Goals as goal

pub returns-in_default : goal.returns-in_default
returns-in_default c = sym (row_few c.args.u.now c.args.rows.now.actions c.args.tokens.now c.in_default.len_below)

pub returns-in_ok-after-in-Some : goal.returns-in_ok-after-in-Some
returns-in_ok-after-in-Some c =
    let none : Bor (List ℕ) = record { ref_ptr = (0, 0); now = [] } in
    let view : Action × Vec ℕ Global → Row = λ row. (row.0, row.1.items) in
    let first = (get_or c.args.tokens.now 0 none).now in
    let action = c.in-Some.action in
    let rest = map (λ t. t.now) c.in-Some.rest.now in
    let parts = ap (made view) c.both.ensures ∙ both_view (λ ks. ks.items) action c.in_ok-after-in-Some.after ∙ ap (both action) c.in_ok-after-in-Some.ensures in
    ap (made view) c.numbered.ensures
    ∙ numbered_view view c.due.result c.both.result (both action (after_in c.args.number rest)) parts
    ∙ ap (λ n. made (λ p. p.1) (both n (both action (after_in c.args.number rest)))) c.due.ensures
    ∙ ap (λ k. made (λ p. p.1) (both (due k first) (both action (after_in k rest)))) c.requires
    ∙ sym (row_some c.args.u.now c.args.rows.now.actions c.args.tokens.now none (action, rest) c.in-len2-up.len_at_least c.in-Some.ensures)
