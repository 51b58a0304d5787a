-- What holds of each element of joined lists.
use Rattle.std.proofs.Common.{List, [], ◌∷◌, ◌++◌}
use Rattle.std.specs.List.{AllByRecursion, flat_map}

module _ {X : Type 0} (P : X → Type 0) where
  pub each_append : (xs ys : List X) → AllByRecursion P xs → AllByRecursion P ys → AllByRecursion P (xs ++ ys)
  each_append [] ys one two = two
  each_append (x ∷ xs) ys one two = (one.0, each_append xs ys one.1 two)

  pub each_joined : {Y : Type 0} (f : Y → List X) (ys : List Y) → AllByRecursion (λ y. AllByRecursion P (f y)) ys → AllByRecursion P (flat_map f ys)
  each_joined f [] all = tt
  each_joined f (y ∷ ys) all = each_append (f y) (flat_map f ys) all.0 (each_joined f ys all.1)
