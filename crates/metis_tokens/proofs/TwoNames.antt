-- A word of two names with a colon between them: what is found by the names is read of the word, just where the word is these names.
use Rattle.std.proofs.Common.{◌≡◌, ℕ, Bool, true, false, ◌&&◌, List, ◌∷◌, ◌++◌, Option, Some, None, Ok, refl, ap, ◌∙◌}
use Rattle.std.specs.Bool.{if◌then◌else◌}
use Rattle.std.specs.List.{after_first, before_first}
use Rattle.std.proofs.lemmas.Bool.{and_from, and_parts, eqb-true}
use Rattle.std.proofs.lemmas.List.Folds.{list_all-append}
use Rattle.metis_universe.specs.Terms.{if_names, is_colon, is_name, pair_names}
use Rattle.metis_universe.proofs.NameBytes.{cut_back, name_some}
use Rattle.metis_tokens.specs.Terms.{found, of_names}
use Rattle.metis_tokens.proofs.Cuts.{after_cut, before_cut}
use Rattle.metis_tokens.proofs.Outcomes.{found_is}
use Rattle.metis_tokens.proofs.Printed.{no_colon_name, printed, printed_name}

module _ {A : Type 0} (find : List ℕ → List ℕ → Option A) where
  form_is : (b : Bool) (kind name : List ℕ) (a : A) → of_names find (if b then Some (kind, name) else None) ≡ Ok a → (b ≡ true) × (found (find kind name) ≡ Ok a)
  form_is true kind name a h = (refl, h)
  form_is false kind name a h = cc

  -- the two names of the word, by which it was found
  pub record Found (word : List ℕ) (a : A) : Type 0 where
    pub kind : List ℕ
    pub name : List ℕ
    pub is : word ≡ kind ++ (58 ∷ name)
    pub at : find kind name ≡ Some a

  pub word_is : (word : List ℕ) (a : A) → of_names find (pair_names word) ≡ Ok a → Found word a
  word_is word a h =
      let kind = before_first is_colon word in
      let name = after_first is_colon word in
      let form = form_is (is_name kind && is_name name) kind name a h in
      let names = and_parts (is_name kind) (is_name name) form.0 in
      record { kind = kind; name = name; is = cut_back is_colon 58 word (λ x is. eqb-true x 58 is) (name_some name names.1); at = found_is (find kind name) a form.1 }

  -- what is read of a word of two names is what is found by these
  pub word_found : (kind name : List ℕ) → is_name kind ≡ true → is_name name ≡ true → of_names find (pair_names (kind ++ (58 ∷ name))) ≡ found (find kind name)
  word_found kind name kind_is name_is =
      let no_colon = no_colon_name kind kind_is in
      (λ i. of_names find (if_names (before_cut is_colon kind 58 name no_colon refl i) (after_cut is_colon kind 58 name no_colon refl i)))
      ∙ ap (λ b. of_names find (if b then Some (kind, name) else None)) (and_from _ _ kind_is name_is)

  pub word_read : (kind name : List ℕ) (a : A) → is_name kind ≡ true → is_name name ≡ true → find kind name ≡ Some a → of_names find (pair_names (kind ++ (58 ∷ name))) ≡ Ok a
  word_read kind name a kind_is name_is at = word_found kind name kind_is name_is ∙ ap found at

pub word_printed : (kind name : List ℕ) → is_name kind ≡ true → is_name name ≡ true → printed (kind ++ (58 ∷ name)) ≡ true
word_printed kind name kind_is name_is = list_all-append _ kind (58 ∷ name) ∙ and_from _ _ (printed_name kind kind_is) (printed_name name name_is)
