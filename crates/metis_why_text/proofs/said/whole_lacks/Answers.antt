use Rattle.std.proofs.Common.{ℕ, List, Bor, map, sym}
use Rattle.metis_why_text.proofs.GoalTokens.{lacks_within}
use Rattle.metis_why_text.proofs.said.whole_lacks.Goals as goal

pub is_lacks_of-requires : goal.is_lacks_of-requires
is_lacks_of-requires c = lacks_within c.args.u.now (map (λ (t : Bor (List ℕ)). t.now) c.args.tokens.now) c.in-Ok.goal (sym c.in-Ok.ensures)
