-- The line of how many lines there are is read just where it is what is written for that.
use Rattle.std.proofs.Common.{◌≡◌, ℕ, ◌<◌, ◌^◌, true, List, [], ◌∷◌, Ok, refl, sym, ap, ◌∙◌, decimal}
use Rattle.std.specs.Prelude.{codes}
use Rattle.std.specs.List.{list_all}
use Rattle.std.specs.Str.{bytes_eq}
use Rattle.std.proofs.lemmas.Bool.{and_from}
use Rattle.std.proofs.lemmas.Slice.Eq.{bytes_eq-Decides}
use Rattle.metis_tokens.proofs.Cuts.{tokens_of_words, words_of_tokens}
use Rattle.metis_tokens.proofs.NumberTokens.{number_is, number_read}
use Rattle.metis_tokens.proofs.Outcomes.{if_is}
use Rattle.metis_tokens.proofs.Printed.{printed, printed_decimal}
use Rattle.metis_tokens.specs.Terms.{number_in, tokens, words}
use Rattle.metis_tokens.specs.declared.flaw.Flaw.TheVariants.{Form}
use Rattle.metis_why_text.specs.Terms.{count_in, count_of_tokens}

abbrev pub count_tokens : ℕ → List (List ℕ)
count_tokens n = codes "lines" ∷ decimal n ∷ []

count_of_is : (ts : List (List ℕ)) (n : ℕ) → count_of_tokens ts ≡ Ok n → (ts ≡ count_tokens n) × (n < 2 ^ 32)
count_of_is (lines ∷ count ∷ []) n h =
    let form = if_is (bytes_eq lines (codes "lines")) (number_in count) Form n h in
    let same = (bytes_eq-Decides lines (codes "lines")).0 form.0 in
    let number = number_is count n form.1 in
    (λ i. same i ∷ number.0 i ∷ [], number.1)
count_of_is _ n h = cc

pub count_is : (bytes : List ℕ) (n : ℕ) → count_in bytes ≡ Ok n → (bytes ≡ words (count_tokens n)) × (n < 2 ^ 32)
count_is bytes n h = let all = count_of_is (tokens bytes) n h in (sym (words_of_tokens bytes) ∙ ap words all.0, all.1)

module _ (n : ℕ) (small : n < 2 ^ 32) where
  pub count_printed : list_all printed (count_tokens n) ≡ true
  count_printed = and_from _ _ (printed_decimal n small) refl

  pub count_read : count_in (words (count_tokens n)) ≡ Ok n
  count_read = ap count_of_tokens (tokens_of_words (codes "lines") (decimal n ∷ []) count_printed) ∙ number_read n small
