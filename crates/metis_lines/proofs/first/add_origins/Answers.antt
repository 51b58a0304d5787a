use Rattle.std.proofs.Common.{◌∙◌, ap, arith, sym}
use Rattle.metis_ids.proofs.Inserted.{has-insert_key}
use Rattle.metis_universe.specs.Terms.{has}
use Rattle.metis_lines.proofs.Sets.{origin_more, still_left, taken}
use Rattle.metis_lines.proofs.first.add_origins.Goals as goal

pub add-requires : goal.add-requires
add-requires c =
    let s = c.args.s.now in
    let kept = c.selected.ensures.kept in
    let chosen = taken s.selected.members c.loop-pair.yielded c.loop-pair.pair-iterator c.next.new.self c.in-Some.pair c.loop-pair.invariant.left c.in-Some.ensures.steps in
    let origin = kept.origin c.in-Some.pair c.in-Some-origin.origin chosen (sym c.origin.ensures ∙ c.in-Some-origin.is) in
    let low = kept.pairs c.in-Some-origin.origin origin.selected in
    let same = c.loop-pair.invariant.size in
    let size = c.requires in
    omega arith

pub loop-pair-preserved-in-Some-origin : goal.loop-pair-preserved-in-Some-origin
loop-pair-preserved-in-Some-origin c =
    let s = c.args.s.now in
    record {
      left = still_left s.selected.members c.loop-pair.yielded c.loop-pair.pair-iterator c.next.new.self c.in-Some.pair c.loop-pair.invariant.left c.in-Some.ensures.steps;
      size = c.add.ensures.size ∙ c.loop-pair.invariant.size;
      members = λ p. ap (λ xs. has xs p) c.add.ensures.members ∙ has-insert_key c.loop-pair.set.members c.in-Some-origin.origin p
          ∙ origin_more s c.loop-pair.yielded c.in-Some.pair c.in-Some-origin.origin p (has c.args.set.now.members p) (has c.loop-pair.set.members p) (sym c.origin.ensures ∙ c.in-Some-origin.is) (c.loop-pair.invariant.members p);
    }
