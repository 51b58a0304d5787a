-- Life lines with what they stand on.
--     Over, over_of u s x      a universe, a support and life lines;  of these
--     IsOver o      the support is one over the universe, and the lines are some over both
--     graph_over o      the plan without an order for the lines
use Rattle.metis_universe.specs.Terms.{Universe}
use Rattle.metis_support.specs.Terms.{IsSupport, Support}
use Rattle.metis_lines.specs.AbstractPlan.{AbstractPlan}
use Rattle.metis_lines.specs.LifeLines.{AreLines, LifeLines, plan_of}

pub record Over : Type 0 where
  pub universe : Universe
  pub support : Support
  pub lines : LifeLines

abbrev pub over_of : Universe → Support → LifeLines → Over
over_of u s x = record { universe = u; support = s; lines = x }

pub record IsOver (o : Over) : Type 0 where
  pub support : IsSupport o.universe o.support
  pub lines : AreLines o.universe o.support o.lines

abbrev pub graph_over : Over → AbstractPlan
graph_over o = plan_of o.universe o.support o.lines
