use Rattle.std.proofs.Common.{◌∙◌, ◌<◌, ℕ, List, length, sym, ap, subst, arith, get_or, nat_lt, []}
use Rattle.std.proofs.lemmas.Bool.{cond-true, lt-ltb}
use Rattle.metis_support.specs.Terms.{is_selected}
use Rattle.metis_lines.specs.Terms.{line_at}
use Rattle.metis_rounds.proofs.Starts.{chosen, use_there}
use Rattle.metis_rounds.specs.Terms.{IsUse, use_at, uses_of}
use Rattle.metis_rounds.proofs.going.slots_at.Goals as goal

pub returns-then-step-last-clause-uses : goal.returns-then-step-last-clause-uses
returns-then-step-last-clause-uses c =
    let u = c.args.over.now.universe in
    let s = c.args.over.now.support in
    let x = c.args.over.now.lines in
    let short : c.args.step < length (line_at x c.args.line) = grind (arith, c.last.ensures.last, c.if-step-last.true) in
    let there = chosen u s c.keeps_invariant.ensures.over.support x c.keeps_invariant.ensures.over.lines c.args.line c.args.step c.requires.line short in
    c.of_pair.ensures ∙ c.requires.uses c.station.result (ap (is_selected s) c.station.ensures ∙ there) ∙ ap (uses_of u s) c.station.ensures ∙ sym (cond-true (nat_lt c.args.step (length (line_at x c.args.line))) (uses_of u s (get_or (line_at x c.args.line) c.args.step 0)) [] (lt-ltb c.args.step (length (line_at x c.args.line)) short))

pub returns-then-step-last-clause-there : goal.returns-then-step-last-clause-there
returns-then-step-last-clause-there c =
    let u = c.args.over.now.universe in
    let s = c.args.over.now.support in
    let x = c.args.over.now.lines in
    let short : c.args.step < length (line_at x c.args.line) = grind (arith, c.last.ensures.last, c.if-step-last.true) in
    let there = chosen u s c.keeps_invariant.ensures.over.support x c.keeps_invariant.ensures.over.lines c.args.line c.args.step c.requires.line short in
    let slots = c.of_pair.ensures ∙ c.requires.uses c.station.result (ap (is_selected s) c.station.ensures ∙ there) ∙ ap (uses_of u s) c.station.ensures in
    subst (λ (cs : List (ℕ × ℕ)). (k : ℕ) → k < length cs → IsUse x (use_at cs k)) (sym slots) (use_there u s c.keeps_invariant.ensures.over.support x c.keeps_invariant.ensures.over.lines (get_or (line_at x c.args.line) c.args.step 0) there)
