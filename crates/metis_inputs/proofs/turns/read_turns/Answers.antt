use Rattle.metis_inputs.proofs.turns.read_turns.Goals as goal

pub returns : goal.returns
returns c = rw (c.deref.ensures.value, c.in_ok-tokens.ensures.tokens) at c.read_tokens.ensures
