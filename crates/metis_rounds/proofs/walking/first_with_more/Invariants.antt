use Rattle.metis_events.specs.Terms.{without_supplies}
use Rattle.metis_rounds.specs.Terms.{HasNoneLeft}
use Rattle.metis_rounds.proofs.walking.first_with_more.Given as goal

abbrev pub invariant-loop-number : goal.invariant-loop-number
invariant-loop-number l = HasNoneLeft (without_supplies l.over.lines) l.taken l.number
