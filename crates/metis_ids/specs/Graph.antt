-- Graphs of numbered nodes, of which one is the last.
--     all_nodes g      the nodes, ascending
--     edge_count g a b, is_edge g a b      how many edges lead from a to b;  whether one does
--     afters g a, befores g b      the nodes to which edges lead from a, and from which edges lead to b: ascending, each as often as there are edges
--     IsGraph g      the edges and the last node are among the nodes
use Rattle.std.specs.Prelude.{ℕ, ◌==◌, ◌&&◌, ◌<◌, Bool, List, length, replicate}
use Rattle.std.specs.List.{All, filter, flat_map, list_any, range_with_len}

-- the nodes are the numbers below `nodes`; an edge is a pair, from and to
pub record Graph : Type 0 where
  pub nodes : ℕ
  pub edges : List (ℕ × ℕ)
  pub last : ℕ

abbrev pub all_nodes : Graph → List ℕ
all_nodes g = range_with_len 0 g.nodes

-- whether the edge leads from a to b
abbrev pub joins : ℕ → ℕ → (ℕ × ℕ) → Bool
joins a b e = e.0 == a && e.1 == b

abbrev pub edge_count : Graph → ℕ → ℕ → ℕ
edge_count g a b = length (filter (joins a b) g.edges)

abbrev pub is_edge : Graph → ℕ → ℕ → Bool
is_edge g a b = list_any (joins a b) g.edges

abbrev pub afters : Graph → ℕ → List ℕ
afters g a = flat_map (λ b. replicate (edge_count g a b) b) (all_nodes g)

abbrev pub befores : Graph → ℕ → List ℕ
befores g b = flat_map (λ a. replicate (edge_count g a b) a) (all_nodes g)

pub record IsGraph (g : Graph) : Type 0 where
  pub last : g.last < g.nodes
  pub from : All (λ e. e.0 < g.nodes) g.edges
  pub to : All (λ e. e.1 < g.nodes) g.edges
