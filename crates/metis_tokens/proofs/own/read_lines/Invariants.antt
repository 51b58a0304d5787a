use Rattle.std.proofs.Common.{◌≡◌, ◌+◌, drop, map}
use Rattle.metis_tokens.specs.Terms.{line_rules, lines_from}
use Rattle.metis_tokens.proofs.own.read_lines.Given as goal

abbrev pub invariant-loop-k : goal.invariant-loop-k
invariant-loop-k g l =
    let t = line_rules g.T.Lined.ends (g.T.Lined.taken l.u) g.T.Lined.of_line g.T.Lined.short in
    lines_from t (λ s. s) l.initial.seen 2 (map (λ line. line.now) l.lines) l.rest ≡ lines_from t (λ s. s) l.seen (l.k + 2) (map (λ line. line.now) (drop l.k l.lines)) l.rest
