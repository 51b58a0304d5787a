use Rattle.std.proofs.Common.{◌≡◌, ◌+◌, ◌∙◌, ap, arith, length, map}
use Rattle.std.proofs.lemmas.List.{length_push}
use Rattle.metis_universe.specs.Terms.{waits}
use Rattle.metis_waves.specs.Terms.{end_of}
use Rattle.metis_ids.specs.Terms.{greatest}
use Rattle.metis_waves.proofs.Steps.{all_below_next, at_more, low_more, waits_long}
use Rattle.metis_waves.proofs.earliest.earliest.Goals as goal

pub of-requires-clause-last : goal.of-requires-clause-last
of-requires-clause-last c = let l = waits_long c.args.actions.now c.args.w.now c.requires.waits in omega arith

pub last_end-requires-clause-numbers : goal.last_end-requires-clause-numbers
last_end-requires-clause-numbers c =
    all_below_next c.args.actions.now c.loop-index.index c.of.result.now _ (c.of.ensures.waits c.args.actions.now c.requires.waits) (ap length c.deref.ensures.value ∙ c.loop-index.invariant.long)

pub loop-index-preserved : goal.loop-index-preserved
loop-index-preserved c =
    let A = c.args.actions.now in
    let d = c.args.d.now in
    let i = c.loop-index.index in
    let s = c.loop-index.starts.items in
    let x = c.last_end.result in
    let is : x ≡ greatest (map (end_of d A s) (waits A (i + 1))) =
    c.last_end.ensures ∙ ap (λ l. greatest (map (end_of d A l) c.of.result.now)) c.deref.ensures.value
    ∙ ap (λ l. greatest (map (end_of d A s) l)) (c.of.ensures.waits A c.requires.waits) in
    let old = c.loop-index.invariant in
    record {
      long = ap length c.in_ok-push.ensures.items ∙ length_push s x ∙ ap (λ n. n + 1) old.long;
      low = low_more A d s c.push.new.self.items i x old.long c.in_ok-push.ensures.items c.requires.short old.low is;
      at = at_more A d s c.push.new.self.items i x old.long c.in_ok-push.ensures.items old.at is;
    }
