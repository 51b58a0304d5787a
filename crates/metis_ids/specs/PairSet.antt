-- Sets of pairs.
--     PairSet      a set of numbers below its size, by its size and its members, which ascend
--     members_of flags, members_from k flags      the places of the flags that are set, counted from 0, or from k
use Rattle.std.specs.Prelude.{ℕ, ◌+◌, Bool, List, [], ◌∷◌, cond}

pub record PairSet : Type 0 where
  pub size : ℕ
  pub members : List ℕ

abbrev pub members_from : ℕ → List Bool → List ℕ
members_from k [] = []
members_from k (b ∷ bs) = cond b (k ∷ members_from (k + 1) bs) (members_from (k + 1) bs)

abbrev pub members_of : List Bool → List ℕ
members_of flags = members_from 0 flags
