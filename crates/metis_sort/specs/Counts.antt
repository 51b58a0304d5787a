-- Counts of edges.
--     awaits done n e      whether the edge leads to n from a node that is not done
--     waiting g done n, all_waiting g done      how many edges do;  for each node
--     edges_from g d, edges_to g d      how many edges lead from nodes of d;  to nodes of d
use Rattle.std.specs.Prelude.{ℕ, ◌==◌, ◌&&◌, Bool, not, List, length, map}
use Rattle.std.specs.List.{filter}
use Rattle.metis_ids.specs.Terms.{Graph, all_nodes, has}

abbrev pub awaits : List ℕ → ℕ → (ℕ × ℕ) → Bool
awaits done n e = e.1 == n && not (has done e.0)

abbrev pub waiting : Graph → List ℕ → ℕ → ℕ
waiting g done n = length (filter (awaits done n) g.edges)

abbrev pub all_waiting : Graph → List ℕ → List ℕ
all_waiting g done = map (waiting g done) (all_nodes g)

abbrev pub edges_from : Graph → List ℕ → ℕ
edges_from g d = length (filter (λ e. has d e.0) g.edges)

abbrev pub edges_to : Graph → List ℕ → ℕ
edges_to g d = length (filter (λ e. has d e.1) g.edges)
