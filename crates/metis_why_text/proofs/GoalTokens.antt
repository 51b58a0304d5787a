-- The line of the goal is read just where it is what is written for it.
use Rattle.std.proofs.Common.{◌≡◌, ℕ, true, Bool, List, [], ◌∷◌, Result, Ok, Err, refl, sym, ap, ◌∙◌}
use Rattle.std.specs.Prelude.{codes}
use Rattle.std.specs.Bool.{if◌then◌else◌}
use Rattle.std.specs.List.{list_all}
use Rattle.std.specs.Str.{bytes_eq}
use Rattle.std.proofs.lemmas.Slice.Eq.{bytes_eq-Decides}
use Rattle.metis_ids.proofs.Tests.{bytes_same}
use Rattle.metis_ids.specs.declared.goals.Goal.{Goal}
use Rattle.metis_ids.specs.declared.goals.Goal.TheVariants.{Pair, Port}
use Rattle.metis_tokens.proofs.Cuts.{tokens_of_words}
use Rattle.metis_tokens.proofs.GoalTokens.{goal_is, goal_read}
use Rattle.metis_tokens.proofs.Outcomes.{if_is}
use Rattle.metis_tokens.proofs.Printed.{printed}
use Rattle.metis_tokens.specs.Terms.{tokens, words}
use Rattle.metis_tokens.specs.declared.flaw.Flaw.{Flaw}
use Rattle.metis_tokens.specs.declared.flaw.Flaw.TheVariants.{Form}
use Rattle.metis_universe.specs.Terms.{IsNamed, IsUniverse, IsWordable, Universe, goal_word, providers_of}
use Rattle.metis_why_text.proofs.Printed.{lacks_printed}
use Rattle.metis_why_text.specs.Terms.{fitting, goal_of_tokens, is_lacks_of, lacks_in, lacks_of_tokens, lacks_tokens, list_words}

-- what was read fits its line
pub fitting_is : {A : Type 0} (fits : A → Bool) (x : Result A Flaw) (a : A) → fitting fits x ≡ Ok a → (x ≡ Ok a) × (fits a ≡ true)
fitting_is fits (Ok b) a h =
    let both = if_is (fits b) (Ok b) Form a h in
    let same : b ≡ a = cc in
    (both.1, ap fits (sym same) ∙ both.0)
fitting_is fits (Err f) a h = cc

module _ (u : Universe) where
  goal_within : (ts : List (List ℕ)) (g : Goal) → goal_of_tokens u ts ≡ Ok g → IsWordable u g
  goal_within [] g h = cc
  goal_within (word ∷ more) g h = (goal_is u word g h).1

  pub lacks_within : (ts : List (List ℕ)) (g : Goal) → lacks_of_tokens u ts ≡ Ok g → IsWordable u g
  lacks_within [] g h = cc
  lacks_within (lacks ∷ behind) g h = goal_within behind g (if_is (bytes_eq lacks (codes "lacks")) (goal_of_tokens u behind) Form g h).1

  pub lacks_is : (bytes : List ℕ) (g : Goal) → lacks_in u bytes ≡ Ok g → (bytes ≡ words (lacks_tokens u g)) × IsWordable u g
  lacks_is bytes g h =
      let both = fitting_is (is_lacks_of u bytes) (lacks_of_tokens u (tokens bytes)) g h in
      ((bytes_eq-Decides bytes (words (lacks_tokens u g))).0 both.1, lacks_within (tokens bytes) g both.0)

  module _ (is : IsUniverse u) (names : IsNamed u) where
    -- by the words behind the first one
    lacks_by : (g : Goal) (behind : List (List ℕ)) → IsWordable u g → lacks_tokens u g ≡ codes "lacks" ∷ goal_word u g ∷ behind → lacks_in u (words (lacks_tokens u g)) ≡ Ok g
    lacks_by g behind its by =
        let bytes = words (lacks_tokens u g) in
        let print = ap (list_all printed) (sym by) ∙ lacks_printed u is names g its in
        ap (λ ts. fitting (is_lacks_of u bytes) (lacks_of_tokens u (tokens (words ts)))) by
        ∙ ap (λ ts. fitting (is_lacks_of u bytes) (lacks_of_tokens u ts)) (tokens_of_words (codes "lacks") (goal_word u g ∷ behind) print)
        ∙ ap (fitting (is_lacks_of u bytes)) (goal_read u is names g its)
        ∙ ap (λ b. if b then Ok g else Err Form) (bytes_same bytes)

    pub lacks_read : (g : Goal) → IsWordable u g → lacks_in u (words (lacks_tokens u g)) ≡ Ok g
    lacks_read (Pair p) its = lacks_by (Pair p) [] its refl
    lacks_read (Port r) its = lacks_by (Port r) (codes "from" ∷ list_words u (providers_of u r)) its refl
