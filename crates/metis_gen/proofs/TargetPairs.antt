-- How many targets there are, and that they are pairs of the tables.
use Rattle.std.proofs.Common.{◌≡◌, ℕ, ◌*◌, ◌<◌, length, get_or, refl, sym, ◌∙◌, subst, zero-add, arith}
use Rattle.std.specs.List.{AllByRecursion, range_with_len}
use Rattle.std.proofs.lemmas.List.FromFn.{length-range_with_len, get_or-range_with_len}
use Rattle.metis_universe.proofs.FirstSights.{flat_map_each}
use Rattle.metis_gen.specs.Terms.{generated_targets, targets_at}
use Rattle.metis_gen.proofs.Pieces.{length_pieces}

pub targets_counted : (n : ℕ) → length (generated_targets n) ≡ 2 * n
unfolding generated_targets
targets_counted n = length_pieces targets_at 2 (λ i. refl) 0 n

pub targets_within : (n : ℕ) → AllByRecursion (λ p. p < 8 * n) (generated_targets n)
unfolding generated_targets
targets_within n =
    flat_map_each (λ p. p < 8 * n) targets_at (range_with_len 0 n) (λ k d l.
    let w : k < n = omega (arith, length-range_with_len 0 n) in
    let at : get_or (range_with_len 0 n) k d ≡ k = get_or-range_with_len 0 n k d w ∙ zero-add k in
    subst (λ i. AllByRecursion (λ p. p < 8 * n) (targets_at i)) (sym at) (omega arith, (omega arith, tt)))
