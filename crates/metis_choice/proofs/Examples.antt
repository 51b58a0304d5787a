-- The pairs for goals on small universes.
use Rattle.std.proofs.Common.{◌≡◌, ◌≤◌, [], ◌∷◌, map, Some, None, refl, arith}
use Rattle.std.specs.List.{find}
use Rattle.metis_ids.specs.declared.actions.Action.TheVariants.{New, Move}
use Rattle.metis_ids.specs.declared.goals.Goal.TheVariants.{Pair, Port}
use Rattle.metis_universe.proofs.PlanExamples.{kind, pair, web}
use Rattle.metis_universe.specs.Terms.{Holds, Universe, after_all, all_pairs, empty, lacks, layer_of}
use Rattle.metis_layers.specs.Terms.{attained_pairs}
use Rattle.metis_choice.specs.Terms.{ArePairsFor}
use Rattle.metis_layers.proofs.Examples.{alone}

-- pairs Db:off 0, Db:on 1, Web:off 2, Web:run 3, port sql 0: the port is for the database that is on
web_pairs : ArePairsFor web (Port 0 ∷ Pair 1 ∷ Pair 3 ∷ Port 0 ∷ []) (1 ∷ 1 ∷ 3 ∷ 1 ∷ [])
web_pairs = (refl, (refl, (refl, (refl, tt))))

none_lacking : find (lacks web (attained_pairs web)) (Port 0 ∷ Pair 1 ∷ Pair 3 ∷ Port 0 ∷ []) ≡ None
none_lacking = refl

-- One database that is on holds the port and the pair (`GoalExamples` of `metis_universe`), and not the two pairs for them: what holds
-- goals may have fewer instances than the pairs for them ask for.
pairs_ask_for_more : Holds (after_all web empty (New 0 0 ∷ Move 0 0 1 ∷ [])) (1 ∷ 1 ∷ []) → ⊥
pairs_ask_for_more held = let two : 2 ≤ 1 = held 1 in omega (arith, two)

-- A: a0 > a1 > a2(+r), B: b0 > b1(+r): the pair a2 has the lower number, and b1 the lower layer
abbrev two_providers : Universe
two_providers = record {
  version = 1;
  kinds = kind 0 ∷ kind 3 ∷ [];
  pairs = pair 0 [] [] (1 ∷ []) ∷ pair 0 [] [] (2 ∷ []) ∷ pair 0 (0 ∷ []) [] [] ∷ pair 1 [] [] (4 ∷ []) ∷ pair 1 (0 ∷ []) [] [] ∷ [];
  ports = (114 ∷ []) ∷ [];
}

two_layers : map (layer_of two_providers) (all_pairs two_providers) ≡ Some 0 ∷ Some 1 ∷ Some 2 ∷ Some 0 ∷ Some 1 ∷ []
two_layers = refl

lower_layer : ArePairsFor two_providers (Port 0 ∷ Pair 2 ∷ []) (4 ∷ 2 ∷ [])
lower_layer = (refl, (refl, tt))

-- Y: y0 > y1(+p -p), which needs another one to be there first: the first goal that is lacking is told, be it a pair or a port
port_lacking : find (lacks alone (attained_pairs alone)) (Pair 0 ∷ Port 0 ∷ Pair 1 ∷ []) ≡ Some (Port 0)
port_lacking = refl

pair_lacking : find (lacks alone (attained_pairs alone)) (Pair 0 ∷ Pair 1 ∷ Port 0 ∷ []) ≡ Some (Pair 1)
pair_lacking = refl
