use Rattle.std.proofs.Common.{◌∙◌, List, ℕ, Bor, [], sym}
use Rattle.std.proofs.lemmas.Result.{err_from_is_err_and}
use Rattle.metis_tokens.specs.Terms.{line_rules}
use Rattle.metis_tokens.proofs.OwnTexts.{fails_here}
use Rattle.metis_tokens.proofs.own.read_lines.Goals as goal

abbrev bytes : Bor (List ℕ) → List ℕ
bytes line = line.now

abbrev none : Bor (List ℕ)
none = record { ref_ptr = (0, 0); now = [] }

pub returns-in_err-take : goal.returns-in_err-take
returns-in_err-take g c =
    let t = line_rules g.T.Lined.ends (g.T.Lined.taken c.args.u.now) g.T.Lined.of_line g.T.Lined.short in
    let p = err_from_is_err_and c.from_residual.result c.from_residual.ensures.1 in
    rw (p.1, p.2) (λ known. c.loop-k.invariant ∙ fails_here t (λ s. s) bytes c.args.lines.now c.args.rest.now c.loop-k.k none c.loop-k-test.true c.loop-k.seen _ (sym c.ends_with.ensures ∙ c.if-ends_with.false) (c.in_err-take.ensures known))
