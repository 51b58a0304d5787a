use Rattle.std.proofs.Common.{◌≡◌, ℕ, ◌<◌, take}
use Rattle.std.specs.List.{list_any}
use Rattle.metis_universe.specs.Terms.{has}
use Rattle.metis_support.specs.Terms.{is_number}
use Rattle.metis_support.proofs.support.providers_below.Given as goal

-- the set has the providers of the ports so far
abbrev pub invariant-loop-number : goal.invariant-loop-number
invariant-loop-number l = record {
  size : l.set.size ≡ l.size;
  members : (q : ℕ) → q < l.size → has l.set.members q ≡ list_any (is_number q) (take l.number l.provider);
}
