use Rattle.std.proofs.Common.{◌<◌, List, ℕ, sym, subst}
use Rattle.std.specs.List.{All}
use Rattle.metis_support.specs.Terms.{provider_pairs}
use Rattle.metis_rollout.proofs.Supporting.{providers_low}
use Rattle.metis_rollout.proofs.scaffolding.pairs_provided_from.Goals as goal

pub set_of-requires : goal.set_of-requires
set_of-requires c =
    subst (λ (l : List ℕ). All (λ p. p < c.pairs.result) l) (sym c.provider_pairs.ensures) (subst (λ (n : ℕ). All (λ p. p < n) (provider_pairs c.args.s.now)) (sym c.pairs.ensures.count) (providers_low c.args.u.now c.args.s.now c.requires))
