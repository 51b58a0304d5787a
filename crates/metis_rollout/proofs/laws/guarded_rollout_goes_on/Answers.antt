use Rattle.std.proofs.Common.{◌≡◌, length, arith}
use Rattle.std.proofs.lemmas.List.{length-map}
use Rattle.metis_universe.specs.Terms.{after_all, empty}
use Rattle.metis_rollout.specs.Terms.{all_go, fresh_name, removal, renumber, renumbered, scaffold_name}
use Rattle.metis_rollout.proofs.Guarding.{goes_on}
use Rattle.metis_rollout.proofs.laws.guarded_rollout_goes_on.Goals as goal

pub returns : goal.returns
returns c = λ u old fresh ks kept.
    let new = renumbered old fresh in
    let size : length new ≡ length fresh = length-map fresh (renumber (fresh_name old fresh)) in
    let on = goes_on old new (removal u all_go (scaffold_name old fresh) (after_all u empty old)) ks kept in
    (on.0, on.1, on.2, λ front later k e above m low high. on.3 front later k e (omega (arith, size)) m (omega arith) (omega (arith, size)))
