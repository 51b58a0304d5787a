use Rattle.std.proofs.Common.{◌≡◌, ◌+◌, ◌++◌, ◌∷◌, ◌||◌, ◌&&◌, [], length, nat_eq, nat_lt, arith, ap, ◌∙◌, subst}
use Rattle.std.proofs.lemmas.List.{length_push}
use Rattle.metis_ids.specs.Terms.{has}
use Rattle.metis_ids.specs.declared.events.Event.TheVariants.{At}
use Rattle.metis_rounds.specs.Terms.{has_row, taken_of}
use Rattle.metis_rounds.proofs.Beginning.{IsBeginning, begins, more_rows, one_more, still_none}
use Rattle.metis_rounds.proofs.going.Going.begin.Goals as goal

pub loop-number-preserved : goal.loop-number-preserved
loop-number-preserved c =
    let before = c.loop-number.invariant in
    let g = c.loop-number.self in
    let n = c.loop-number.number in
    let x = c.args.over.now.lines in
    let taken : c.push.new.self.items ≡ g.taken.items ++ 0 ∷ [] = c.in_ok-push.ensures.items in
    let met : c.push-in-loop-number.new.self.items ≡ g.met.items ++ 0 ∷ [] = c.in_ok-push-2.ensures.items in
    let left : c.push-in-loop-number-2.new.self.items ≡ g.left.items ++ 0 ∷ [] = c.in_ok-push-3.ensures.items in
    let work : c.push-in-loop-number-3.new.self.items ≡ g.work.items ++ n ∷ [] = c.in_ok-push-4.ensures.items in
    record {
      taken = ap length taken ∙ length_push g.taken.items 0 ∙ ap (λ k. k + 1) before.taken;
      met = ap length met ∙ length_push g.met.items 0 ∙ ap (λ k. k + 1) before.met;
      left = ap length left ∙ length_push g.left.items 0 ∙ ap (λ k. k + 1) before.left;
      none_taken = λ l. ap (λ ns. taken_of ns l) taken ∙ still_none g.taken.items before.none_taken l;
      none_met = λ l. ap (λ ns. taken_of ns l) met ∙ still_none g.met.items before.none_met l;
      none_left = λ l. ap (λ ns. taken_of ns l) left ∙ still_none g.left.items before.none_left l;
      count = c.in_ok-add_line.ensures.count ∙ ap (λ k. k + 1) before.count;
      rows = more_rows x g.waiting c.add_line.new.self n before.count before.rows (λ k j. c.in_ok-add_line.ensures.has k j ∙ ap (λ m. has_row g.waiting (At k j) || (nat_eq k (length g.waiting) && nat_lt j m)) c.step_count.ensures.count);
      empty = λ f. c.in_ok-add_line.ensures.rows f ∙ before.empty f;
      work = λ l. ap (λ ks. has ks l) work ∙ one_more g.work.items n before.work l;
    }

pub returns : goal.returns
returns c = λ t.
    let all : c.loop-number.number ≡ length c.args.over.now.lines.lines = omega (arith, c.count-number-end.ensures.count) in
    let g = c.loop-number.self in
    begins c.args.over.now.universe c.args.over.now.support c.args.over.now.lines t g (subst (λ n. IsBeginning c.args.over.now.lines n g) all c.loop-number.invariant)
