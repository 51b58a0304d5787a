use Rattle.std.proofs.Common.{List, arith, ◌≡◌, ◌+◌, ◌<◌, ◌-◌, ◌^◌, length, ◌++◌, sym, subst, ◌∙◌, ap}
use Rattle.std.specs.List.{All}
use Rattle.metis_ids.specs.declared.actions.Action.{Action}
use Rattle.metis_universe.specs.Terms.{Holds, IsOf, IsSteadfastRun, after_all, empty}
use Rattle.metis_rollout.specs.Terms.{all_but, free_number, news_of, removal, rollout}
use Rattle.metis_rollout.proofs.Listed.{listed_rollout}
use Rattle.metis_rollout.proofs.Removal.{short_rollout}
use Rattle.metis_rollout.proofs.ScaffoldSize.{rollout_short}
use Rattle.metis_rollout.proofs.Together.{together}
use Rattle.metis_rollout.proofs.Walking.{news_few}
use Rattle.metis_rollout.proofs.Whole.{replaced}
use Rattle.metis_rollout.proofs.Within.{rollout_within}
use Rattle.metis_rollout.proofs.list.rollout_from.Goals as goal

pub remove-requires-clause-stands : goal.remove-requires-clause-stands
remove-requires-clause-stands c = (c.args.old.now, c.requires.old.run, c.requires.old_ours, c.requires.left)

pub remove-requires-clause-next : goal.remove-requires-clause-next
remove-requires-clause-next c =
    let count = length (news_of c.args.fresh.now) in
    let same = c.in_ok-actions.ensures.used in
    (count, c.in_ok-actions.ensures.next ∙ ap (λ s. free_number s.keys count) (sym same), omega (arith, ap (λ s. length s.keys) same, c.in_ok-free.ensures.few, news_few c.args.fresh.now, c.requires.few))

pub side_by_side-requires-clause-steadfast : goal.side_by_side-requires-clause-steadfast
side_by_side-requires-clause-steadfast c = (c.args.u.now, c.requires.fresh)

pub returns : goal.returns
returns c =
    let u = c.args.u.now in
    let old = c.args.old.now in
    let fresh = c.args.fresh.now in
    let used = c.in_ok-free.free.used.keys in
    let same = c.in_ok-actions.ensures.used in
    let count = length (news_of fresh) in
    let actions = c.remove.new.actions.items in
    let stays = c.new.result.keys in
    let is : actions ≡ rollout u old fresh = listed_rollout u old fresh actions used stays c.args.left c.in_ok-free.ensures.used c.new.ensures.empty c.requires.left
    (c.in_ok-remove.ensures count (c.in_ok-actions.ensures.next ∙ ap (λ s. free_number s.keys count) (sym same))
    ∙ (λ i. c.in_ok-actions.ensures.list i ++ removal u (all_but stays) (λ k. free_number (same i).keys (count + k)) c.args.left)) in
    let whole = replaced u old fresh c.keeps_invariant.ensures.universe c.requires.old c.requires.fresh in
    record {
      list = is;
      bare = λ none. is ∙ (short_rollout u old fresh c.requires.old c.requires.fresh none).0;
      steady = subst (IsSteadfastRun u) (sym is) whole.0;
      end = ap (after_all u empty) is ∙ whole.1;
      holds = λ g h. subst (λ l. Holds (after_all u empty l) g) (sym is) (whole.2 g h);
      together = (together u old fresh c.requires.old c.requires.fresh).1;
      short = subst (λ (l : List Action). length l < 2 ^ 32 - 1) (sym is) (rollout_short u old fresh c.keeps_invariant.ensures c.requires.old c.requires.few);
      ours = subst (All (IsOf u)) (sym is) (rollout_within u old fresh c.keeps_invariant.ensures.universe c.requires.old c.requires.old_ours c.requires.fresh_ours);
    }
