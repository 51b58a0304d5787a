-- What is written of a document, token by token.
--     tokens_of d      the tokens of a value
--     all_tokens ds      those of values, one behind another
--     Adds old new ts      the writer has these tokens more, and what stood before them stays
use Rattle.std.specs.Prelude.{◌≡◌, List, [], ◌∷◌, ◌++◌}
use Rattle.json.specs.Token.{Token}
use Rattle.json.specs.Tree.{json_tokens}
use Rattle.json.specs.Written.{Written}
use Rattle.serde_json.specs.Data.{Data}
use Rattle.serde_json.specs.Written.{outline}

abbrev pub tokens_of : Data → List Token
tokens_of d = json_tokens (outline d)

abbrev pub all_tokens : List Data → List Token
all_tokens [] = []
all_tokens (d ∷ ds) = tokens_of d ++ all_tokens ds

pub record Adds (old new : Written) (ts : List Token) : Type 0 where
  pub before : new.before ≡ old.before
  pub tokens : new.tokens ≡ old.tokens ++ ts
