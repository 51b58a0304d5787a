use Rattle.metis_why.proofs.Farther.{distance_apart, distance_closed, distance_covers, distance_least}
use Rattle.metis_why.proofs.laws.the_order_is_reached.Goals as goal

pub returns-clause-once : goal.returns-clause-once
returns-clause-once c u x g order far = distance_apart u x g order far

pub returns-clause-covers : goal.returns-clause-covers
returns-clause-covers c u x g order far = distance_covers u x g order far

pub returns-clause-closed : goal.returns-clause-closed
returns-clause-closed c u x g order q far there = distance_closed u x g order far q there

pub returns-clause-least : goal.returns-clause-least
returns-clause-least c u x y g order far covers goes = distance_least u x g order far y covers goes
