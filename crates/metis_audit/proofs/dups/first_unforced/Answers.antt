use Rattle.std.proofs.Common.{◌≡◌, ◌∙◌, ◌+◌, ◌-◌, ◌++◌, ◌∷◌, [], Some, true, arith, ap, sym, take}
use Rattle.std.proofs.lemmas.Option.{slice_get-get_or}
use Rattle.metis_ids.specs.Terms.{Dup}
use Rattle.metis_lines.specs.Terms.{lines_of, own_pairs}
use Rattle.metis_audit.proofs.DupLines.{forced_here, lines_more, own_more}
use Rattle.metis_audit.proofs.Loose.{goes_on}
use Rattle.metis_audit.specs.Terms.{is_forced, is_forced_at}
use Rattle.metis_audit.proofs.dups.first_unforced.Goals as goal
use borrow.Author.Count.{below_more}

pub returns-then-not-forces-clause-unforced : goal.returns-then-not-forces-clause-unforced
returns-then-not-forces-clause-unforced c =
    let u = c.args.universe.now in
    let s = c.args.support.now in
    let g = c.args.lines.now.targets in
    let ds = c.args.dups.now in
    let i = c.loop-index.index in
    let d : Dup = c.index-dups-index.result in
    let is = slice_get-get_or ds i d c.loop-index-test.true ∙ ap Some (sym c.index-dups-index.is) in
    let pair = ap (λ (e : Dup). e.pair) c.dup.view_is in
    let cycle = c.deref.ensures.value ∙ ap (λ (e : Dup). e.cycle) c.dup.view_is in
    let back : i + 1 - 1 ≡ i = omega arith in
    let low = c.loop-index-test.true in
    record {
      first = omega arith;
      last = omega arith;
      fails = ap (is_forced_at u s g ds) back ∙ forced_here u s g ds i d c.loop-index.lines is c.loop-index.invariant.0 ∙ sym (c.if-not-forces.ensures ∙ (λ j. is_forced u s c.loop-index.lines (pair j) (cycle j)));
      before = λ m before. c.loop-index.invariant.2 m (omega arith);
    }

pub own_line-requires-clause-loose : goal.own_line-requires-clause-loose
own_line-requires-clause-loose c = (goes_on c.args.universe.now c.args.support.now c.requires.over c.loop-index.lines c.loop-index.invariant.1 c.dup.inside.pair c.deref.result.now (sym c.if-not-forces.ensures)).loose

pub loop-index-preserved : goal.loop-index-preserved
loop-index-preserved c =
    let u = c.args.universe.now in
    let s = c.args.support.now in
    let g = c.args.lines.now.targets in
    let ds = c.args.dups.now in
    let i = c.loop-index.index in
    let d : Dup = c.index-dups-index.result in
    let is = slice_get-get_or ds i d c.loop-index-test.true ∙ ap Some (sym c.index-dups-index.is) in
    let pair = ap (λ (e : Dup). e.pair) c.dup.view_is in
    let cycle = c.deref.ensures.value ∙ ap (λ (e : Dup). e.cycle) c.dup.view_is in (
      lines_more u s g (own_pairs (take i ds)) c.loop-index.lines c.own_line.new.self c.dup.inside.pair c.loop-index.invariant.0 (c.in_ok-own_line.ensures.own u c.loop-index.invariant.1)
          ∙ ap (lines_of u s g) (ap (λ p. own_pairs (take i ds) ++ p ∷ []) pair ∙ sym (own_more ds i d c.loop-index-test.true c.index-dups-index.is)),
      c.in_ok-own_line.ensures.lines u c.loop-index.invariant.1,
      below_more (λ m. is_forced_at u s g ds m ≡ true) i c.loop-index.invariant.2
          (forced_here u s g ds i d c.loop-index.lines is c.loop-index.invariant.0 ∙ sym (c.if-not-forces.ensures ∙ (λ j. is_forced u s c.loop-index.lines (pair j) (cycle j)))),
    )
