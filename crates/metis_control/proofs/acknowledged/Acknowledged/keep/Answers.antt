use Rattle.std.proofs.Common.{◌∙◌, ◌&&◌, not, ap, sym, arith, length, drop}
use Rattle.metis_universe.specs.Terms.{has}
use Rattle.metis_control.specs.Terms.{flag_at}
use Rattle.metis_control.proofs.Flagged.{dropped_within, flagged_as, flagged_front, rest_of, written}
use Rattle.metis_control.proofs.acknowledged.Acknowledged.keep.Goals as goal

pub clear_flags-requires-clause-first : goal.clear_flags-requires-clause-first
clear_flags-requires-clause-first c = λ k there.
    let f = c.self.inside in
    let same = rest_of c.deref.result.now c.args.n ∙ ap (drop c.args.n) c.deref.ensures.value in
    (dropped_within f.numbers.items f.flags.items c.args.n k c.self.invariant (ap (λ xs. has xs k) (sym same) ∙ there)).0

pub clear_flags-requires-clause-last : goal.clear_flags-requires-clause-last
clear_flags-requires-clause-last c = λ k there.
    let f = c.self.inside in
    let same = rest_of c.deref.result.now c.args.n ∙ ap (drop c.args.n) c.deref.ensures.value in
    let long = ap length c.deref_mut.ensures.value in
    omega (arith, long, (dropped_within f.numbers.items f.flags.items c.args.n k c.self.invariant (ap (λ xs. has xs k) (sym same) ∙ there)).1)

pub invariant_of-self : goal.invariant_of-self
invariant_of-self c =
    let f = c.self.inside in
    let same = rest_of c.deref.result.now c.args.n ∙ ap (drop c.args.n) c.deref.ensures.value in
    let long = c.clear_flags.ensures.length ∙ ap length c.deref_mut.ensures.value in
    let now = written c.clear_flags.new.flags (drop (length c.clear_flags.new.flags) f.flags.items) f.flags.len (omega (arith, long, f.flags.ok)) in
    let left = flagged_front f.numbers.items f.flags.items c.clear_flags.new.flags c.args.n c.self.invariant (λ k. c.clear_flags.ensures.flags k ∙ (λ i. flag_at (c.deref_mut.ensures.value i) k && not (has (same i) k))) in
    flagged_as c.truncate.ensures.items now left
