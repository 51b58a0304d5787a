-- The lines of a refusal are read just where they are what is written there.
use Rattle.std.proofs.Common.{◌≡◌, ℕ, ◌<◌, ◌^◌, true, List, [], ◌∷◌, Ok, Err, refl, sym, ap, ◌∙◌, decimal}
use Rattle.std.specs.Prelude.{codes}
use Rattle.std.specs.Bool.{if◌then◌else◌}
use Rattle.std.specs.List.{list_all}
use Rattle.std.specs.Str.{bytes_eq}
use Rattle.std.proofs.lemmas.Bool.{and_from}
use Rattle.std.proofs.lemmas.Slice.Eq.{bytes_eq-Decides}
use Rattle.metis_ids.specs.declared.goals.Goal.{Goal}
use Rattle.metis_universe.specs.Terms.{IsNamed, IsUniverse, IsWordable, Universe, goal_word, pair_count, pair_word}
use Rattle.metis_tokens.specs.Terms.{goal_in, number_in, right, tokens, words}
use Rattle.metis_text.specs.Terms.{above, lacks_in, lacks_of_tokens, next_pair_in, pair_of_tokens, size_in, size_of_tokens}
use Rattle.metis_tokens.specs.declared.flaw.Flaw.TheVariants.{Form, Number}
use Rattle.metis_tokens.proofs.Cuts.{tokens_of_words, words_of_tokens}
use Rattle.metis_tokens.proofs.PairTokens.{pair_is, pair_printed, pair_read}
use Rattle.metis_tokens.proofs.GoalTokens.{goal_is, goal_printed, goal_read}
use Rattle.metis_tokens.proofs.NumberTokens.{number_is, number_read}
use Rattle.metis_tokens.proofs.Outcomes.{if_is, right_is}
use Rattle.metis_tokens.proofs.Printed.{printed, printed_decimal}

abbrev pub lacks_tokens : Universe → Goal → List (List ℕ)
lacks_tokens u g = codes "lacks" ∷ goal_word u g ∷ []

abbrev pub size_tokens : ℕ → List (List ℕ)
size_tokens n = codes "pairs" ∷ decimal n ∷ []

abbrev pub pair_tokens : Universe → ℕ → List (List ℕ)
pair_tokens u p = pair_word u p ∷ []

-- ---- a line that is read was written

module _ (u : Universe) where
  lacks_of_is : (ts : List (List ℕ)) (g : Goal) → lacks_of_tokens u ts ≡ Ok g → (ts ≡ lacks_tokens u g) × IsWordable u g
  lacks_of_is (lacks ∷ word ∷ []) g h =
      let form = if_is (bytes_eq lacks (codes "lacks")) (goal_in u word) Form g h in
      let same = (bytes_eq-Decides lacks (codes "lacks")).0 form.0 in
      let goal = goal_is u word g form.1 in
      (λ i. same i ∷ goal.0 i ∷ [], goal.1)
  lacks_of_is _ g h = cc

  pub lacks_is : (line : List ℕ) (g : Goal) → lacks_in u line ≡ Ok g → (line ≡ words (lacks_tokens u g)) × IsWordable u g
  lacks_is line g h = let all = lacks_of_is (tokens line) g h in (sym (words_of_tokens line) ∙ ap words all.0, all.1)

  pair_of_is : (ts : List (List ℕ)) (p : ℕ) → pair_of_tokens u ts ≡ Ok p → (ts ≡ pair_tokens u p) × (p < pair_count u)
  pair_of_is (word ∷ []) p h = let pair = pair_is u word p h in (λ i. pair.0 i ∷ [], pair.1)
  pair_of_is _ p h = cc

  pub next_pair_is : (pairs line : List ℕ) (p : ℕ) → next_pair_in u pairs line ≡ Ok p → (line ≡ words (pair_tokens u p)) × (p < pair_count u) × (above pairs p ≡ true)
  next_pair_is pairs line p h =
      let both = right_is (above pairs) (pair_of_tokens u (tokens line)) p h in
      let all = pair_of_is (tokens line) p both.0 in
      (sym (words_of_tokens line) ∙ ap words all.0, all.1, both.1)

size_of_is : (ts : List (List ℕ)) (n : ℕ) → size_of_tokens ts ≡ Ok n → (ts ≡ size_tokens n) × (n < 2 ^ 32)
size_of_is (pairs ∷ size ∷ []) n h =
    let form = if_is (bytes_eq pairs (codes "pairs")) (number_in size) Form n h in
    let same = (bytes_eq-Decides pairs (codes "pairs")).0 form.0 in
    let number = number_is size n form.1 in
    (λ i. same i ∷ number.0 i ∷ [], number.1)
size_of_is _ n h = cc

pub size_is : (line : List ℕ) (n : ℕ) → size_in line ≡ Ok n → (line ≡ words (size_tokens n)) × (n < 2 ^ 32)
size_is line n h = let all = size_of_is (tokens line) n h in (sym (words_of_tokens line) ∙ ap words all.0, all.1)

-- ---- and what is written there is read

module _ (u : Universe) (is : IsUniverse u) (names : IsNamed u) (g : Goal) (its : IsWordable u g) where
  pub lacks_printed : list_all printed (lacks_tokens u g) ≡ true
  lacks_printed = and_from _ _ (goal_printed u is names g its) refl

  pub lacks_read : lacks_in u (words (lacks_tokens u g)) ≡ Ok g
  lacks_read = ap (lacks_of_tokens u) (tokens_of_words (codes "lacks") (goal_word u g ∷ []) lacks_printed) ∙ goal_read u is names g its

module _ (u : Universe) (is : IsUniverse u) (names : IsNamed u) (p : ℕ) (low : p < pair_count u) where
  pub pair_tokens_printed : list_all printed (pair_tokens u p) ≡ true
  pair_tokens_printed = and_from _ _ (pair_printed u is names p low) refl

  pub next_pair_read : (pairs : List ℕ) → above pairs p ≡ true → next_pair_in u pairs (words (pair_tokens u p)) ≡ Ok p
  next_pair_read pairs behind =
      ap (λ ts. right (above pairs) (pair_of_tokens u ts)) (tokens_of_words (pair_word u p) [] pair_tokens_printed)
      ∙ ap (right (above pairs)) (pair_read u is names p low)
      ∙ ap (λ b. if b then Ok p else Err Number) behind

module _ (n : ℕ) (small : n < 2 ^ 32) where
  pub size_printed : list_all printed (size_tokens n) ≡ true
  size_printed = and_from _ _ (printed_decimal n small) refl

  pub size_read : size_in (words (size_tokens n)) ≡ Ok n
  size_read = ap size_of_tokens (tokens_of_words (codes "pairs") (decimal n ∷ []) size_printed) ∙ number_read n small
