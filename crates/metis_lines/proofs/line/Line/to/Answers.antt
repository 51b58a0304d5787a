use Rattle.std.proofs.Common.{◌<◌, ◌≤◌, ◌++◌, ◌∙◌, ap, length, subst, sym, List, ℕ}
use Rattle.metis_support.proofs.Paths.{way}
use Rattle.metis_support.specs.Terms.{path_to}
use Rattle.metis_lines.proofs.line.Line.to.Goals as goal

pub invariant_of-result : goal.invariant_of-result
invariant_of-result c =
    let kept = c.selected-kept.ensures.kept in
    let path = path_to c.args.s.now c.args.p in
    let P : List ℕ → Type 0 = λ line. (0 < length line) × (length line ≤ 64) in
    subst P (sym (c.in_ok-add_path.ensures ∙ ap (λ xs. xs ++ path) c.new-stations.ensures.items)) ((way c.args.s.now kept.origin c.args.p c.requires).some, kept.short c.args.p c.requires)
