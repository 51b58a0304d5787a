use Rattle.std.proofs.Common.{append_assoc}
use Rattle.metis_commands.proofs.refute.judgement_line.Goals as goal

pub returns-in-Open : goal.returns-in-Open
returns-in-Open c =
    rw (c.in-Open.is, ← c.type_of.ensures.kind, ← c.type_name-kind.ensures, ← c.state_name-state.ensures, ← c.type_of-in-Open.ensures.kind, ← c.type_name-to_kind.ensures, ← c.state_name-to_state.ensures)
    (simp append_assoc c.format.ensures.ok)
