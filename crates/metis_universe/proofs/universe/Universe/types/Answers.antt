use Rattle.std.proofs.Common.{sym, ap, ◌∙◌, arith}
use Rattle.metis_universe.specs.Terms.{type_count}
use Rattle.metis_universe.proofs.Named.{length-kinds_of}
use Rattle.metis_universe.proofs.universe.Universe.types.Goals as goal

pub overflow_cast-result : goal.overflow_cast-result
overflow_cast-result c = omega (arith, length-kinds_of c.self.inside.kinds c.self.inside.initials.items, c.count.ensures, c.self.invariant.limits.types)

pub returns : goal.returns
returns c = c.count.ensures ∙ sym (length-kinds_of c.self.inside.kinds c.self.inside.initials.items) ∙ ap type_count c.self.view_is
