use Rattle.std.proofs.Common.{List, ℕ, Bor, ap, ◌∙◌, false, map}
use Rattle.metis_control.proofs.Scripts.{all_left}
use Rattle.metis_control.specs.Terms.{WorldValue, at_first, lines_left}
use Rattle.metis_control.proofs.script.AnswerLines.of.Goals as goal

pub returns : goal.returns
returns c =
    let A = c.args.actions.now in
    let lines : List (List ℕ) = map (λ (line : Bor (List ℕ)). line.now) c.args.script.items in
    ap (λ (w : WorldValue). lines_left w.actions w.state lines false false) c.in_ok-world.ensures ∙ all_left A (at_first A) lines
