use Rattle.std.proofs.Common.{◌≡◌, ◌+◌, ◌++◌, ◌∙◌, ℕ, ap, arith, refl, sym, subst}
use Rattle.std.specs.Prelude.{IsSome}
use Rattle.std.specs.List.{All}
use Rattle.metis_config.specs.Terms.{IsOver}
use Rattle.metis_universe.specs.Terms.{Config, is_empty, layer_of}
use Rattle.metis_rollout.specs.Terms.{all_but, among, cycle_removal, free_number, left_of, members, pairs_in}
use Rattle.metis_rollout.proofs.Layered.{left_layered}
use Rattle.metis_rollout.proofs.Listed.{listed, listed_long, none_left, some_left}
use Rattle.metis_rollout.proofs.Over.{over_left}
use Rattle.metis_rollout.proofs.removing.remove.Goals as goal
use Rattle.metis_rollout.proofs.removing.remove.Goals.{then-count-gt0+in_ok-remove_cycles, else-count-gt0}

pub clear-requires : goal.clear-requires
clear-requires c = subst (IsOver c.args.u.now) (sym c.requires.stands.3) (over_left c.args.u.now c.requires.stands.0 c.keeps_invariant.ensures.universe c.requires.stands.2)

pub remove_cycles-requires-clause-layered : goal.remove_cycles-requires-clause-layered
remove_cycles-requires-clause-layered c =
    let u = c.args.u.now in
    let goes = all_but c.args.standing.stays.keys in
    let is = c.take_out.ensures ∙ ap (among goes) (c.in_ok-clear.ensures.config ∙ ap (left_of u goes) c.requires.stands.3) in
    subst (λ (d : Config). All (λ p. IsSome (layer_of u p)) (pairs_in d)) (sym is) (left_layered u goes c.requires.stands.0 c.keeps_invariant.ensures.universe c.requires.stands.1)

pub returns : goal.returns
returns c n first =
    let u = c.args.u.now in
    let goes = all_but c.args.standing.stays.keys in
    let name : ℕ → ℕ = λ k. free_number c.args.free.now.used.keys (n + k) in
    let old = c.args.actions.now.items in
    let now = c.clear.new.actions.items in
    let what = c.take_out.new.c in
    let is : what ≡ among goes (left_of u goes c.args.standing.config) = c.take_out.ensures ∙ ap (among goes) c.in_ok-clear.ensures.config in
    elim c.if-count-gt0.branch [
      | then-count-gt0+in_ok-remove_cycles w ↦
          ap (λ v. v.items) w.actions-is
          ∙ listed_long u goes name c.args.standing.config old now w.remove_cycles.new.actions.items c.in_ok-clear.ensures.actions
          (sym (ap (λ d. is_empty (members d)) is) ∙ some_left what.instances (omega (arith, c.count.ensures, w.if-count-gt0.true)))
          (w.in_ok-remove_cycles.ensures n first ∙ ap (λ d. now ++ cycle_removal u name d) is)
      | else-count-gt0 w ↦
          ap (λ v. v.items) w.actions-is
          ∙ listed u goes name c.args.standing.config old now now c.in_ok-clear.ensures.actions
          (sym (ap (λ d. is_empty (members d)) is) ∙ none_left what.instances (omega (arith, c.count.ensures, w.if-count-gt0.false)))
          refl
    ]
