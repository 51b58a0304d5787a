-- A rollout where a port is required of two providers.
use Rattle.std.proofs.Common.{◌≡◌, ◌++◌, ℕ, true, List, [], ◌∷◌, refl}
use Rattle.metis_ids.specs.declared.actions.Action.{Action}
use Rattle.metis_ids.specs.declared.actions.Action.TheVariants.{New, Delete, Bind, Unbind, Move}
use Rattle.metis_universe.proofs.PlanExamples.{kind}
use Rattle.metis_universe.specs.Terms.{Pair, Universe, is_steadfast}
use Rattle.metis_rollout.specs.Terms.{rollout}

abbrev row : ℕ → List ℕ → List ℕ → List ℕ → List ℕ → Pair
row t provided required further next = record {
  kind = t;
  state = [];
  provided = provided;
  required = required;
  further = further;
  next = next;
}

-- A: a0 > a1(+x) > a2(+x,-y twice); B: b0 > b1(+y,-x twice); ports x 0, y 1
abbrev ring : Universe
ring = record {
  version = 2;
  kinds = kind 0 ∷ kind 3 ∷ [];
  pairs = row 0 [] [] [] (1 ∷ []) ∷ row 0 (0 ∷ []) [] [] (2 ∷ []) ∷ row 0 (0 ∷ []) (1 ∷ []) (1 ∷ []) [] ∷ row 1 [] [] [] (4 ∷ []) ∷ row 1 (1 ∷ []) (0 ∷ []) (1 ∷ []) [] ∷ [];
  ports = (120 ∷ []) ∷ (121 ∷ []) ∷ [];
}

-- it leaves two instances of each type, each bound to both of the other
abbrev two_and_two : List Action
two_and_two =
    New 0 0 ∷ Move 0 0 1 ∷ New 1 0 ∷ Move 1 0 1
    ∷ New 2 1 ∷ Bind 0 2 0 ∷ Bind 0 2 1 ∷ Move 2 3 4 ∷ New 3 1 ∷ Bind 0 3 0 ∷ Bind 0 3 1 ∷ Move 3 3 4
    ∷ New 4 0 ∷ Move 4 0 1 ∷ Bind 1 4 2 ∷ Bind 1 4 3 ∷ Move 4 1 2 ∷ New 5 0 ∷ Move 5 0 1 ∷ Bind 1 5 2 ∷ Bind 1 5 3 ∷ Move 5 1 2
    ∷ Bind 0 2 4 ∷ Bind 0 2 5 ∷ Unbind 0 2 0 ∷ Unbind 0 2 1 ∷ Bind 0 3 4 ∷ Bind 0 3 5 ∷ Unbind 0 3 0 ∷ Unbind 0 3 1 ∷ Delete 0 ∷ Delete 1 ∷ []

-- the scaffold has two of each as well
ring_taken_down : rollout ring two_and_two [] ≡ two_and_two ++ (
    New 6 0 ∷ Move 6 0 1 ∷ New 7 0 ∷ Move 7 0 1
    ∷ New 8 1 ∷ Bind 0 8 6 ∷ Bind 0 8 7 ∷ Move 8 3 4 ∷ New 9 1 ∷ Bind 0 9 6 ∷ Bind 0 9 7 ∷ Move 9 3 4
    ∷ Bind 0 2 6 ∷ Bind 0 2 7 ∷ Bind 0 3 6 ∷ Bind 0 3 7 ∷ Bind 1 4 8 ∷ Bind 1 4 9 ∷ Bind 1 5 8 ∷ Bind 1 5 9
    ∷ Unbind 0 2 4 ∷ Unbind 0 2 5 ∷ Unbind 0 3 4 ∷ Unbind 0 3 5 ∷ Unbind 1 4 2 ∷ Unbind 1 4 3 ∷ Unbind 1 5 2 ∷ Unbind 1 5 3
    ∷ Delete 2 ∷ Delete 3 ∷ Delete 4 ∷ Delete 5 ∷ Delete 9 ∷ Delete 8 ∷ Delete 7 ∷ Delete 6 ∷ []
    )
ring_taken_down = refl

ring_steadfast : is_steadfast ring (rollout ring two_and_two []) ≡ true
ring_steadfast = refl
