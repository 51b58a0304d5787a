use Rattle.std.proofs.Common.{◌++◌, ◌<◌, List, ℕ, ◌∙◌, ap, arith, length, map, subst, sym}
use Rattle.std.specs.Prelude.{IsTrue}
use Rattle.std.specs.List.{All, range_with_len}
use Rattle.std.proofs.lemmas.Result.{on_ok_weaker}
use Rattle.metis_universe.specs.Terms.{is_steadfast, pair_count, port_count}
use Rattle.metis_rollout.specs.Terms.{first_among, holder_at, named, pairs_in, renumber, scaffold_ends, scaffold_list}
use Rattle.metis_rollout.proofs.CycleList.{AreNamed, removed_by}
use Rattle.metis_rollout.proofs.Going.{steady_from_going}
use Rattle.metis_rollout.proofs.Scaffold.{scaffold_goes}
use Rattle.metis_rollout.proofs.ScaffoldSize.{scaffold_short}
use Rattle.metis_rollout.proofs.Supporting.{all_low}
use Rattle.metis_rollout.proofs.Tabulated.{firsts_all}
use Rattle.metis_rollout.proofs.cyclic.remove_cycles.Goals as goal

pub scaffold_for-requires-clause-within : goal.scaffold_for-requires-clause-within
scaffold_for-requires-clause-within c =
    subst (λ (l : List ℕ). All (λ p. p < pair_count c.args.u.now) l) (sym (c.deref.ensures.value ∙ c.in_ok-pairs.ensures)) (all_low c.args.u.now (pairs_in c.args.c.now) c.requires.layered)

pub names_for-requires-clause-steadfast : goal.names_for-requires-clause-steadfast
names_for-requires-clause-steadfast c =
    let u = c.args.u.now in
    let g = pairs_in c.args.c.now in
    let is = c.deref-2.ensures.value ∙ c.in_ok-scaffold.ensures.actions ∙ ap (scaffold_list u) (c.deref.ensures.value ∙ c.in_ok-pairs.ensures) in
    (u, subst (λ l. IsTrue (is_steadfast u l)) (sym is) (steady_from_going u (scaffold_list u g) (scaffold_goes u c.keeps_invariant.ensures.universe g).0).steadfast)

pub names_for-requires-clause-next : goal.names_for-requires-clause-next
names_for-requires-clause-next c =
    let u = c.args.u.now in
    let is = ap length (c.deref-2.ensures.value ∙ c.in_ok-scaffold.ensures.actions ∙ ap (scaffold_list u) (c.deref.ensures.value ∙ c.in_ok-pairs.ensures)) in
    (c.requires.next.0, c.requires.next.1, omega (arith, is, c.requires.next.2, (scaffold_short u (pairs_in c.args.c.now) c.keeps_invariant.ensures).1))

pub bind_all-requires-clause-within : goal.bind_all-requires-clause-within
bind_all-requires-clause-within c = all_low c.args.u.now (pairs_in c.args.c.now) c.requires.layered

pub returns : goal.returns
returns c =
    let u = c.args.u.now in
    let k = c.keeps_invariant.ensures.universe in
    let d = c.args.c.now in
    let s = c.in_ok-scaffold.scaffold in
    let pairs = c.deref.ensures.value ∙ c.in_ok-pairs.ensures in
    let list = c.in_ok-scaffold.ensures.actions ∙ ap (scaffold_list u) pairs in
    let count = c.in_ok-scaffold.ensures.count ∙ ap (λ g. length (scaffold_ends u g)) pairs in
    let firsts = c.in_ok-scaffold.ensures.firsts ∙ ap (λ g. map (first_among u (scaffold_ends u g)) (range_with_len 0 (port_count u))) pairs in
    let holder = ap holder_at firsts ∙ firsts_all u k (scaffold_ends u (pairs_in d)) in
    let used = c.args.free.now.used.keys in
    let table = c.in_ok-names.names.entries in
    on_ok_weaker c.delete_downward.result
    (λ last n is. removed_by u k d used n table c.requires.layered (subst (AreNamed used n table) (c.deref-2.ensures.value ∙ list) (c.in_ok-names.ensures.names n is)) s.actions.items s.firsts s.count
    c.args.actions.now.items c.push_renumbered.new.actions.items c.bind_all.new.actions.items c.unbind_all.new.actions.items c.delete_all.new.actions.items c.delete_downward.new.actions.items
    list holder count (c.in_ok-push_renumbered.ensures ∙ ap (λ l. c.args.actions.now.items ++ map (renumber (named table)) l) c.deref-3.ensures.value) c.in_ok-bind_all.ensures c.in_ok-unbind_all.ensures c.in_ok-delete_all.ensures last)
    c.delete_downward.ensures
