-- An input that is handed in.
--     InputText      all of it, and what is left to read
use Rattle.std.specs.Prelude.{ℕ, List}

pub record InputText : Type 0 where
  pub all : List ℕ
  pub left : List ℕ
