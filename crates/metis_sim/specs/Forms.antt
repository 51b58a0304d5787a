-- The forms of the lines of a script, and what a line of a form names.
--     Order, order_words o      what a line asks for, by its words;  the tokens of that line
--     IsOrder o      its numbers are numbers, its names are names, and there are not too many targets
--     HasForm line      the line is `undo`, `quit` or `show`, or its tokens are those of an order
--     NamesNothing u c o      a type, a port, a state or a target of the order is not there
--     IsOfUnknown u c ts      the tokens are those of an order that names something that is not there
use Rattle.std.specs.Prelude.{ℕ, ◌≡◌, ◌⊎◌, List, [], ◌∷◌, IsTrue, codes, length, nat_le, Some, None}
use Rattle.std.specs.List.{list_all}
use Rattle.metis_universe.specs.Terms.{Config, Universe, is_name, pair_of, port_named, state_named, type_named, type_of}
use Rattle.metis_tokens.specs.Terms.{tokens}
use Rattle.metis_sim.specs.Checks.{goals_of, most_targets}
use Rattle.metis_sim.specs.Words.{is_pair_word, number_of}

pub data Order : Type 0 where
  makes : (z kind : List ℕ) → Order
  deletes : (z : List ℕ) → Order
  binds : (port z y : List ℕ) → Order
  unbinds : (port z y : List ℕ) → Order
  moves : (z from to : List ℕ) → Order
  checks : (targets : List (List ℕ)) → Order

abbrev pub order_words : Order → List (List ℕ)
order_words (makes z kind) = codes "new" ∷ z ∷ kind ∷ []
order_words (deletes z) = codes "delete" ∷ z ∷ []
order_words (binds port z y) = codes "bind" ∷ port ∷ z ∷ y ∷ []
order_words (unbinds port z y) = codes "unbind" ∷ port ∷ z ∷ y ∷ []
order_words (moves z from to) = codes "move" ∷ z ∷ from ∷ to ∷ []
order_words (checks targets) = codes "check" ∷ targets

-- the token is a number below 2^32
abbrev pub IsNumber : List ℕ → Type 0
IsNumber z = (n : ℕ) × (number_of z ≡ Some n)

pub record IsTie (port z y : List ℕ) : Type 0 where
  pub name : IsTrue (is_name port)
  pub requirer : IsNumber z
  pub provider : IsNumber y

pub record IsMove (z from to : List ℕ) : Type 0 where
  pub number : IsNumber z
  pub first : IsTrue (is_name from)
  pub second : IsTrue (is_name to)

abbrev pub IsOrder : Order → Type 0
IsOrder (makes z kind) = IsNumber z × IsTrue (is_name kind)
IsOrder (deletes z) = IsNumber z
IsOrder (binds port z y) = IsTie port z y
IsOrder (unbinds port z y) = IsTie port z y
IsOrder (moves z from to) = IsMove z from to
IsOrder (checks targets) = IsTrue (nat_le (length targets) most_targets) × IsTrue (list_all is_pair_word targets)

pub data HasForm (line : List ℕ) : Type 0 where
  is_undo : line ≡ codes "undo" → HasForm line
  is_quit : line ≡ codes "quit" → HasForm line
  is_show : line ≡ codes "show" → HasForm line
  is_order : (o : Order) → tokens line ≡ order_words o → IsOrder o → HasForm line

-- the states are those of the type of which the instance is
pub record NamesNoState (u : Universe) (c : Config) (z from to : List ℕ) : Type 0 where
  pub number : ℕ
  pub pair : ℕ
  pub reads : number_of z ≡ Some number
  pub present : pair_of c number ≡ Some pair
  pub none : (state_named u (type_of u pair) from ≡ None) ⊎ (state_named u (type_of u pair) to ≡ None)

abbrev pub NamesNothing : Universe → Config → Order → Type 0
NamesNothing u c (makes z kind) = type_named u kind ≡ None
NamesNothing u c (deletes z) = ⊥
NamesNothing u c (binds port z y) = port_named u port ≡ None
NamesNothing u c (unbinds port z y) = port_named u port ≡ None
NamesNothing u c (moves z from to) = NamesNoState u c z from to
NamesNothing u c (checks targets) = goals_of u targets ≡ None

pub record IsOfUnknown (u : Universe) (c : Config) (ts : List (List ℕ)) : Type 0 where
  pub order : Order
  pub words : ts ≡ order_words order
  pub formed : IsOrder order
  pub names : NamesNothing u c order
