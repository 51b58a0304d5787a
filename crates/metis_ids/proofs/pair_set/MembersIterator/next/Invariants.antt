use Rattle.std.proofs.Common.{◌≡◌, ◌-◌, length, drop}
use Rattle.metis_ids.specs.Terms.{members_from}
use Rattle.metis_ids.proofs.pair_set.MembersIterator.next.Given as goal

abbrev pub invariant-loop-self : goal.invariant-loop-self
invariant-loop-self l = record {
  same : l.self-inside.flags ≡ l.initial.self-inside.flags;
  left : members_from l.self-inside.next (drop l.self-inside.next l.self-inside.flags.now) ≡ members_from l.initial.self-inside.next (drop l.initial.self-inside.next l.initial.self-inside.flags.now);
}

abbrev pub decreases-loop-self : goal.decreases-loop-self
decreases-loop-self l = length l.self-inside.flags.now - l.self-inside.next
