use Rattle.std.proofs.Common.{◌≡◌, ℕ, cond, Some, None, length, get_or, take}
use Rattle.metis_universe.specs.Terms.{has}
use Rattle.metis_layers.proofs.counters.Counters.stamp.Given as goal

abbrev pub invariant-loop-p : goal.invariant-loop-p
invariant-loop-p l =
    let old = l.initial.self-inside in
    let new = l.self-inside in
    record {
      size : length new.rounds.items ≡ length old.rounds.items;
      rounds : (q : ℕ) → get_or new.rounds.items q None ≡ cond (has (take l.p-index l.pairs) q) (Some l.round) (get_or old.rounds.items q None);
      led : new.led ≡ old.led;
      unmet : new.unmet ≡ old.unmet;
      next : new.next ≡ old.next;
    }
