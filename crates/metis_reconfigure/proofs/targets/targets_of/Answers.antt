use Rattle.std.proofs.Common.{◌+◌, ◌<◌, ◌++◌, replicate, sym, ap, ◌∙◌, subst, not}
use Rattle.std.specs.List.{filter_map, find}
use Rattle.metis_ids.proofs.Options.{none_from_is_some}
use Rattle.metis_universe.specs.Terms.{port_count}
use Rattle.metis_reconfigure.specs.Terms.{is_lacking, is_unserved_by, pair_for, short_by}
use Rattle.metis_reconfigure.proofs.Tables.{AreSoFar, begun, none_lacking, none_short, pairs_alike, provided_more, unmet_here}
use Rattle.metis_reconfigure.proofs.targets.targets_of.Goals as goal
use Rattle.metis_reconfigure.proofs.targets.targets_of.Goals.{in-Some+in_ok-push_times, in_default+in_default-first_unserved}

pub loop-number-init : goal.loop-number-init
loop-number-init c = λ left leaving k.
    let u = c.args.u.now in
    let d = c.args.c.now in
    let zs = c.args.rebound.now in
    let first = filter_map (pair_for left) c.args.missing.now in
    subst (AreSoFar u left d leaving zs first 0) (sym (c.in_ok-targets.ensures ∙ pairs_alike u left c.args.sources.now.layers.now k.over c.args.missing.now c.requires.within)) (begun u left d leaving zs first)

pub loop-number-preserved-then-is_none : goal.loop-number-preserved-then-is_none
loop-number-preserved-then-is_none c = λ left leaving k.
    let u = c.args.u.now in
    let d = c.args.c.now in
    let zs = c.args.rebound.now in
    let n = c.loop-number.number in
    let first = filter_map (pair_for left) c.args.missing.now in
    let nobody = none_from_is_some c.first_lacking.result (c.is_none.ensures ∙ ap not c.if-is_none.true) in
    let none = ap (λ standing. find (is_lacking u d standing n) zs) (sym c.of-standing.ensures) ∙ sym c.first_lacking.ensures ∙ nobody in
    none_lacking u left d leaving zs c.args.sources.now.given.now c.args.sources.now.layers.now k first c.loop-number.targets.items n none (c.loop-number.invariant left leaving k)

pub returns-in-Some-first_unserved-clause-unmet : goal.returns-in-Some-first_unserved-clause-unmet
returns-in-Some-first_unserved-clause-unmet c = λ left leaving k.
    let u = c.args.u.now in
    let d = c.args.c.now in
    let zs = c.args.rebound.now in
    let n = c.loop-number.number in
    let low : n < port_count u = subst (λ m. n < m) c.ports-number-end.ensures c.loop-number-test.true in
    unmet_here u left d leaving zs c.args.sources.now.given.now c.args.sources.now.layers.now k (filter_map (pair_for left) c.args.missing.now) c.loop-number.targets.items n c.in-Some-first_unserved.z low
    (sym c.in_default.ensures)
    ((λ i. find (is_unserved_by u d (sym c.of-standing.ensures i) (sym c.deref-in_default.ensures.value i) n) zs) ∙ sym c.first_unserved.ensures ∙ c.in-Some-first_unserved.is)
    (c.loop-number.invariant left leaving k)

pub loop-number-preserved : goal.loop-number-preserved
loop-number-preserved c = λ left leaving k.
    let u = c.args.u.now in
    let d = c.args.c.now in
    let zs = c.args.rebound.now in
    let rows = c.args.sources.now.given.now in
    let l = c.args.sources.now.layers.now in
    let n = c.loop-number.number in
    let ts = c.loop-number.targets.items in
    let first = filter_map (pair_for left) c.args.missing.now in
    let low : n < port_count u = subst (λ m. n < m) c.ports-number-end.ensures c.loop-number-test.true in
    let so_far = c.loop-number.invariant left leaving k in
    elim c.match-first_provider.branch [
      | in-Some+in_ok-push_times w ↦
          let p = w.in-Some.pair in
          let is = ap (λ v. v.items) w.targets-is ∙ w.in_ok-push_times.ensures
          ∙ ap (λ m. ts ++ replicate m p) (w.short_of-short.ensures ∙ (λ i. short_by u d (c.of-standing.ensures i) zs (w.deref.ensures.value i) n)) in
          subst (AreSoFar u left d leaving zs first (n + 1)) (sym is) (provided_more u left d leaving zs rows l k first ts n p low (sym c.first_provider.ensures ∙ w.in-Some.is) so_far)
      | in_default+in_default-first_unserved w ↦
          let none = (λ i. find (is_unserved_by u d (sym c.of-standing.ensures i) (sym w.deref-in_default.ensures.value i) n) zs) ∙ sym w.in_default-first_unserved.ensures in
          subst (AreSoFar u left d leaving zs first (n + 1)) (sym (ap (λ v. v.items) w.targets-is)) (none_short u left d leaving zs rows l k first ts n none so_far)
    ]
