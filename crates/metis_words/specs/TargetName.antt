-- The two names of a target word: of a type and of a state, or `port` and the name of a port.
use Rattle.std.specs.Prelude.{ℕ, List}

pub record TargetName : Type 0 where
  pub kind : List ℕ
  pub state : List ℕ
