use Rattle.std.proofs.Common.{ℕ, List, Bor, map, sym}
use Rattle.metis_why_text.proofs.LineTokens.{line_within}
use Rattle.metis_why_text.proofs.said.whole_line.Goals as goal

pub is_text_of-requires : goal.is_text_of-requires
is_text_of-requires c = line_within c.args.u.now (map (λ (t : Bor (List ℕ)). t.now) c.args.tokens.now) c.in-Ok.line (sym c.in-Ok.ensures)
