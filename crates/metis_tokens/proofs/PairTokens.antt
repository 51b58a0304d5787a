-- A word is read as a pair just where it is the word of that pair.
use Rattle.std.proofs.Common.{◌≡◌, ℕ, ◌<◌, true, List, ◌∷◌, ◌++◌, Some, Ok, refl, sym, ap, ◌∙◌}
use Rattle.std.specs.Option.{option_and_then}
use Rattle.metis_universe.specs.Terms.{IsNamed, IsUniverse, Universe, is_name, pair_count, pair_named, pair_word, state_name_of, state_named, type_name_of, type_named, type_of}
use Rattle.metis_tokens.proofs.NameTokens.{and_then_some, state_at, state_is, type_at, type_is}
use Rattle.metis_tokens.proofs.Printed.{printed}
use Rattle.metis_tokens.proofs.TwoNames.{word_is, word_printed, word_read}
use Rattle.metis_tokens.specs.Terms.{pair_in}

module _ (u : Universe) where
  -- the pair that is found by two names has these names
  pub named_pair : (kind state : List ℕ) (p : ℕ) → pair_named u kind state ≡ Some p → (kind ++ (58 ∷ state) ≡ pair_word u p) × (p < pair_count u)
  named_pair kind state p h =
      let pair = and_then_some (λ t. state_named u t state) (type_named u kind) p h in
      let type = type_is u kind pair.0 pair.1 in
      let at = state_is u state pair.0 p pair.2 in
      let kind_is : kind ≡ type_name_of u (type_of u p) = type.1 ∙ ap (type_name_of u) (sym at.1) in
      ((λ i. kind_is i ++ (58 ∷ at.2 i)), at.0)

  pub pair_is : (word : List ℕ) (p : ℕ) → pair_in u word ≡ Ok p → (word ≡ pair_word u p) × (p < pair_count u)
  pair_is word p h =
      let found = word_is (pair_named u) word p h in
      let named = named_pair found.kind found.name p found.at in
      (found.is ∙ named.0, named.1)

  module _ (is : IsUniverse u) (names : IsNamed u) (p : ℕ) (low : p < pair_count u) where
    pub kind_is_name : is_name (type_name_of u (type_of u p)) ≡ true
    kind_is_name = names.types (type_of u p) (is.types p low)

    pub pair_at : pair_named u (type_name_of u (type_of u p)) (state_name_of u p) ≡ Some p
    pair_at = ap (λ o. option_and_then (λ t. state_named u t (state_name_of u p)) o) (type_at u names (type_of u p) (is.types p low)) ∙ state_at u names (type_of u p) p low refl

    pub pair_printed : printed (pair_word u p) ≡ true
    pair_printed = word_printed (type_name_of u (type_of u p)) (state_name_of u p) kind_is_name (names.states p low)

    pub pair_read : pair_in u (pair_word u p) ≡ Ok p
    pair_read = word_read (pair_named u) (type_name_of u (type_of u p)) (state_name_of u p) p kind_is_name (names.states p low) pair_at
