use Rattle.std.proofs.Common.{sym, ◌∙◌}
use Rattle.metis_layers.proofs.Sets.{kept_in, left_out}
use Rattle.metis_wishes.specs.Terms.{is_avoided}
use Rattle.metis_reconfigure.proofs.avoiding.avoided_of.Goals as goal
use Rattle.metis_reconfigure.proofs.avoiding.avoided_of.Goals.{then-is_avoided, else-is_avoided}

pub loop-pair-preserved : goal.loop-pair-preserved
loop-pair-preserved c =
    let t = is_avoided c.args.u.now c.args.wishes.now in
    let n = c.loop-pair.pair in
    let old = c.loop-pair.invariant in
    elim c.if-is_avoided.branch [
      | then-is_avoided w ↦ rw w.set-is (record {
        size = w.add.ensures.size ∙ old.size;
        members = kept_in t n c.loop-pair.set.members w.add.new.self.members old.members w.add.ensures.members (sym c.is_avoided.ensures ∙ w.if-is_avoided.true);
      })
      | else-is_avoided w ↦ rw w.set-is (record { size = old.size; members = left_out t n c.loop-pair.set.members old.members (sym c.is_avoided.ensures ∙ w.if-is_avoided.false) })
    ]
