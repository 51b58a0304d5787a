-- What a contract sees of the rows of a universe.
--     TypeRow, StateRow      a type and a state, with all that they name
--     NeedRow      an entry of what a state requires: a port's name, and how many providers of it
--     names_needed needs      the names, entry by entry
use Rattle.std.specs.Prelude.{ℕ, List, map}

pub record NeedRow : Type 0 where
  pub port : List ℕ
  pub count : ℕ

pub record StateRow : Type 0 where
  pub name : List ℕ
  pub provide : List (List ℕ)
  pub require : List NeedRow
  pub next : List (List ℕ)

pub record TypeRow : Type 0 where
  pub name : List ℕ
  pub initial : List ℕ
  pub states : List StateRow

abbrev pub names_needed : List NeedRow → List (List ℕ)
names_needed needs = map (λ n. n.port) needs
