-- The set of all attainable pairs is one, and so is the first goal that it lacks.
use Rattle.std.proofs.Common.{◌≡◌, ℕ, List}
use Rattle.std.proofs.lemmas.Map.Keys.{sorted_from_strictly_increasing}
use Rattle.metis_universe.proofs.InOrder.{same_members}
use Rattle.metis_universe.specs.Terms.{IsAttainedSet, Universe, has}
use Rattle.metis_uniqueness.proofs.Firsts.{same_test}

pub attained_set_is_one : (u : Universe) (s t : List ℕ) → IsAttainedSet u s → IsAttainedSet u t → s ≡ t
attained_set_is_one u s t a b = same_members s t (sorted_from_strictly_increasing s a.ascends) (sorted_from_strictly_increasing t b.ascends) (λ p. same_test (has s p) (has t p) (λ h. b.all p (a.attained p h)) (λ h. a.all p (b.attained p h)))
