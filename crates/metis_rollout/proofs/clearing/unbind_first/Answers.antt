use Rattle.std.proofs.Common.{◌≡◌, sym, ◌∙◌, subst, true}
use Rattle.std.proofs.lemmas.List.Elements.{All-from_recursion}
use Rattle.std.proofs.lemmas.List.Kept.{IsStrictlySortedBy-filter}
use Rattle.std.specs.List.{All}
use Rattle.std.specs.List.Sorted.{IsStrictlySortedBy}
use Rattle.metis_universe.specs.Terms.{binding_cmp, is_bound}
use Rattle.metis_rollout.specs.Terms.{all_but, ends_first}
use Rattle.metis_rollout.proofs.Quiet.{all_bound}
use Rattle.metis_rollout.proofs.clearing.unbind_first.Goals as goal

pub untie_all-requires-clause-ascending : goal.untie_all-requires-clause-ascending
untie_all-requires-clause-ascending c =
    subst (IsStrictlySortedBy binding_cmp) (sym (c.deref.ensures.value ∙ c.in_ok-ties.ensures)) (IsStrictlySortedBy-filter binding_cmp (ends_first c.args.u.now (all_but c.args.stays.now.keys) c.args.c.now) c.args.c.now.bindings c.keeps_invariant.ensures.in_order)

pub untie_all-requires-clause-bound : goal.untie_all-requires-clause-bound
untie_all-requires-clause-bound c =
    subst (All (λ b. is_bound c.args.c.now b.0 b.1 b.2 ≡ true)) (sym (c.deref.ensures.value ∙ c.in_ok-ties.ensures)) (All-from_recursion (λ b. is_bound c.args.c.now b.0 b.1 b.2 ≡ true) _ (all_bound c.args.c.now (ends_first c.args.u.now (all_but c.args.stays.now.keys) c.args.c.now)))
