use Rattle.std.proofs.Common.{List, ℕ, Bor, [], ◌∙◌, sym}
use Rattle.metis_tokens.proofs.ScriptEnds.{empty_end, other_end}
use Rattle.metis_tokens.proofs.script.without_empty_end.Goals as goal

pub returns-then-is_empty-clause-lines : goal.returns-then-is_empty-clause-lines
returns-then-is_empty-clause-lines c = empty_end (λ (piece : Bor (List ℕ)). piece.now) c.args.pieces.now (record { ref_ptr = (0, 0); now = [] }) c.in-len1-up.len_at_least (sym c.is_empty.ensures ∙ c.if-is_empty.true)

pub returns-else-is_empty-clause-lines : goal.returns-else-is_empty-clause-lines
returns-else-is_empty-clause-lines c = other_end (λ (piece : Bor (List ℕ)). piece.now) c.args.pieces.now (record { ref_ptr = (0, 0); now = [] }) c.in-len1-up.len_at_least (sym c.is_empty.ensures ∙ c.if-is_empty.false)
