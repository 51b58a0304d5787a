-- What is wrong with a line of a refusal that cannot be read.
use Rattle.std.proofs.Common.{◌≡◌, ◌≢◌, ◌⊎◌, ℕ, ◌<◌, ◌≤◌, ◌^◌, ◌&&◌, Bool, true, false, List, [], ◌∷◌, Option, Some, None, Result, Ok, Err, refl, sym, ap, ◌∙◌, subst, inl, inr}
use Rattle.std.specs.Prelude.{codes}
use Rattle.std.specs.Bool.{if◌then◌else◌, nat_lt}
use Rattle.std.specs.List.{All, after_first, before_first, list_all}
use Rattle.std.specs.Str.{all_ascii_digits, bytes_eq}
use Rattle.std.specs.Str.Parse.{digits_value}
use Rattle.std.proofs.lemmas.Bool.{and_from, and_parts, eqb-true, lt-ltb, ltb-false}
use Rattle.std.proofs.lemmas.List.Elements.{All-weaker}
use Rattle.std.proofs.lemmas.List.Sums.{list_all-from_AllPass}
use Rattle.std.proofs.lemmas.Slice.Eq.{bytes_eq-Decides}
use Rattle.metis_ids.specs.declared.goals.Goal.{Goal}
use Rattle.metis_tokens.proofs.Cuts.{tokens_of_words, words_of_tokens}
use Rattle.metis_tokens.proofs.GoalTokens.{goal_read}
use Rattle.metis_tokens.proofs.PairTokens.{pair_is, pair_read}
use Rattle.metis_tokens.proofs.Printed.{printed_digits}
use Rattle.metis_tokens.proofs.TwoNames.{word_found, word_printed}
use Rattle.metis_tokens.specs.Terms.{exactly, found, goal_in, in_range, is_number, number_in, of_names, pair_in, right, starts_number, tokens, words}
use Rattle.metis_tokens.specs.declared.flaw.Flaw.{Flaw}
use Rattle.metis_tokens.specs.declared.flaw.Flaw.TheVariants.{Form, Number, Name}
use Rattle.metis_universe.proofs.NameBytes.{cut_back, name_some}
use Rattle.metis_universe.specs.Terms.{IsNamed, IsUniverse, IsWordable, Universe, goal_named, goal_word, is_colon, is_name, pair_count, pair_named, pair_names, pair_word}
use Rattle.metis_text.specs.Terms.{AreTwoNames, IsLacksFlaw, IsOther, IsPairFlaw, IsSizeFlaw, above, lacks_in, lacks_of_tokens, lacks_with, next_pair_in, pair_of_tokens, size_in, size_of_tokens, size_with}

-- ---- a line that is known

pub exactly_fails : (bytes line : List ℕ) (f : Flaw) → exactly bytes line ≡ Err f → IsOther bytes line f
exactly_fails bytes line f h = elim (bytes_eq line bytes) as (λ b. bytes_eq line bytes ≡ b → if◌then◌else◌ {A = Result (Unit {0}) Flaw} b (Ok tt) (Err Form) ≡ Err f → IsOther bytes line f) [
  | true ↦ λ _ h. cc
  | false ↦ λ other h. let form : Form ≡ f = cc in subst (IsOther bytes line) form (λ same. let yes = (bytes_eq-Decides line bytes).1 same in cc)
] refl h

-- ---- words of two names

pub two_printed : (word : List ℕ) (two : AreTwoNames word) → list_all (nat_lt 32) word ≡ true
two_printed word two = ap (list_all (nat_lt 32)) two.text ∙ word_printed two.kind two.name two.first two.second

module _ {A : Type 0} (find : List ℕ → List ℕ → Option A) where
  found_flaw : (o : Option A) (f : Flaw) → found o ≡ Err f → Name ≡ f
  found_flaw None f h = cc
  found_flaw (Some a) f h = cc

  pub two_found : (word : List ℕ) (two : AreTwoNames word) → of_names find (pair_names word) ≡ found (find two.kind two.name)
  two_found word two = ap (λ w. of_names find (pair_names w)) two.text ∙ word_found find two.kind two.name two.first two.second

  -- the word is no two names, or nothing is found by them
  abbrev WordFlaw : List ℕ → Flaw → Type 0
  WordFlaw word f = ((Form ≡ f) × (AreTwoNames word → ⊥)) ⊎ ((Name ≡ f) × AreTwoNames word)

  names_fail : (word : List ℕ) (f : Flaw) → of_names find (pair_names word) ≡ Err f → WordFlaw word f
  names_fail word f h =
      let kind = before_first is_colon word in
      let name = after_first is_colon word in
      elim (is_name kind && is_name name) as (λ b. (is_name kind && is_name name) ≡ b → of_names find (if b then Some (kind, name) else None) ≡ Err f → WordFlaw word f) [
        | true ↦ λ are h.
            let names = and_parts (is_name kind) (is_name name) are in
            let whole = cut_back is_colon 58 word (λ x is. eqb-true x 58 is) (name_some name names.1) in
            inr (found_flaw (find kind name) f h, record { kind = kind; name = name; first = names.0; second = names.1; text = whole })
        | false ↦ λ are h'.
            let form : Form ≡ f = cc in
            inl (form, λ two. let told : Name ≡ f = found_flaw (find two.kind two.name) f (sym (two_found word two) ∙ h) in cc)
      ] refl h

  -- a word of two names has the form
  two_formed : (word : List ℕ) → AreTwoNames word → of_names find (pair_names word) ≢ Err Form
  two_formed word two h = let told = found_flaw (find two.kind two.name) Form (sym (two_found word two) ∙ h) in cc

-- ---- the line of the goal

module _ (u : Universe) (is : IsUniverse u) (names : IsNamed u) where
  lacks_tokens_of : (word : List ℕ) → AreTwoNames word → tokens (lacks_with word) ≡ codes "lacks" ∷ word ∷ []
  lacks_tokens_of word two = tokens_of_words (codes "lacks") (word ∷ []) (and_from _ _ (two_printed word two) refl)

  lacks_formed : (line word : List ℕ) → AreTwoNames word → line ≡ lacks_with word → lacks_in u line ≢ Err Form
  lacks_formed line word two same h =
      two_formed (goal_named u) word two (sym (ap (lacks_of_tokens u) (ap tokens same ∙ lacks_tokens_of word two)) ∙ h)

  no_goal : (word : List ℕ) → goal_in u word ≡ Err Name → (g : Goal) → IsWordable u g → word ≢ goal_word u g
  no_goal word h g its same = let there = ap (goal_in u) same ∙ goal_read u is names g its in cc

  lacks_formless : (line : List ℕ) (f : Flaw) → lacks_in u line ≡ Err f → Form ≡ f → IsLacksFlaw u line f
  lacks_formless line f h form = subst (IsLacksFlaw u line) form (λ word two same. lacks_formed line word two same (h ∙ ap Err (sym form)))

  lacks_by : (line : List ℕ) (ts : List (List ℕ)) (f : Flaw) → tokens line ≡ ts → lacks_in u line ≡ Err f → lacks_of_tokens u ts ≡ Err f → IsLacksFlaw u line f
  lacks_by line (lacks ∷ word ∷ []) f are whole h = elim (bytes_eq lacks (codes "lacks")) as (λ b. bytes_eq lacks (codes "lacks") ≡ b → if◌then◌else◌ {A = Result Goal Flaw} b (goal_in u word) (Err Form) ≡ Err f → IsLacksFlaw u line f) [
    | true ↦ λ same h.
        let first = (bytes_eq-Decides lacks (codes "lacks")).0 same in
        let text : line ≡ lacks_with word = sym (words_of_tokens line) ∙ ap words are ∙ ap (λ w. words (w ∷ word ∷ [])) first in
        elim (names_fail (goal_named u) word f h) [
          | inl (form, none) ↦ lacks_formless line f whole form
          | inr (told, two) ↦ subst (IsLacksFlaw u line) told (word, two, text, no_goal word (h ∙ ap Err (sym told)))
        ]
    | false ↦ λ _ h. lacks_formless line f whole (cc)
  ] refl h
  lacks_by line ts f are whole h = lacks_formless line f whole (cc)

  pub lacks_fails : (line : List ℕ) (f : Flaw) → lacks_in u line ≡ Err f → IsLacksFlaw u line f
  lacks_fails line f h = lacks_by line (tokens line) f refl h h

-- ---- the line of the number of pairs

size_tokens_of : (digits : List ℕ) → is_number digits ≡ true → tokens (size_with digits) ≡ codes "pairs" ∷ digits ∷ []
size_tokens_of digits is = tokens_of_words (codes "pairs") (digits ∷ []) (and_from _ _ (printed_digits digits (and_parts (starts_number digits) (all_ascii_digits digits) is).1) refl)

-- a number has the form, and is out of range where it is none of 32 bits
in_range_fails : (n : ℕ) (b : Bool) (f : Flaw) → nat_lt n (2 ^ 32) ≡ b → if◌then◌else◌ {A = Result ℕ Flaw} b (Ok n) (Err Number) ≡ Err f → (Number ≡ f) × (2 ^ 32 ≤ n)
in_range_fails n true f is h = cc
in_range_fails n false f is h = (cc, ltb-false n (2 ^ 32) is)

pub number_formed : (digits : List ℕ) → is_number digits ≡ true → number_in digits ≢ Err Form
number_formed digits is h =
    let range : in_range (digits_value 10 digits) ≡ Err Form = sym (ap (λ b. if◌then◌else◌ {A = Result ℕ Flaw} b (in_range (digits_value 10 digits)) (Err Form)) is) ∙ h in
    let told = (in_range_fails (digits_value 10 digits) (nat_lt (digits_value 10 digits) (2 ^ 32)) Form refl range).0 in cc

size_formed : (line digits : List ℕ) → is_number digits ≡ true → line ≡ size_with digits → size_in line ≢ Err Form
size_formed line digits is same h = number_formed digits is (sym (ap size_of_tokens (ap tokens same ∙ size_tokens_of digits is)) ∙ h)

size_formless : (line : List ℕ) (f : Flaw) → size_in line ≡ Err f → Form ≡ f → IsSizeFlaw line f
size_formless line f h form = subst (IsSizeFlaw line) form (λ digits is same. size_formed line digits is same (h ∙ ap Err (sym form)))

number_by : (line digits : List ℕ) (f : Flaw) (b : Bool) → size_in line ≡ Err f → line ≡ size_with digits → is_number digits ≡ b → if◌then◌else◌ {A = Result ℕ Flaw} b (in_range (digits_value 10 digits)) (Err Form) ≡ Err f → IsSizeFlaw line f
number_by line digits f true whole text is h =
    let range = in_range_fails (digits_value 10 digits) (nat_lt (digits_value 10 digits) (2 ^ 32)) f refl h in
    subst (IsSizeFlaw line) range.0 (digits, is, text, range.1)
number_by line digits f false whole text is h = size_formless line f whole (cc)

size_by : (line : List ℕ) (ts : List (List ℕ)) (f : Flaw) → tokens line ≡ ts → size_in line ≡ Err f → size_of_tokens ts ≡ Err f → IsSizeFlaw line f
size_by line (pairs ∷ digits ∷ []) f are whole h = elim (bytes_eq pairs (codes "pairs")) as (λ b. bytes_eq pairs (codes "pairs") ≡ b → if◌then◌else◌ {A = Result ℕ Flaw} b (number_in digits) (Err Form) ≡ Err f → IsSizeFlaw line f) [
  | true ↦ λ same h.
      let first = (bytes_eq-Decides pairs (codes "pairs")).0 same in
      number_by line digits f (is_number digits) whole (sym (words_of_tokens line) ∙ ap words are ∙ ap (λ w. words (w ∷ digits ∷ [])) first) refl h
  | false ↦ λ _ h. size_formless line f whole (cc)
] refl h
size_by line ts f are whole h = size_formless line f whole (cc)

pub size_fails : (line : List ℕ) (f : Flaw) → size_in line ≡ Err f → IsSizeFlaw line f
size_fails line f h = size_by line (tokens line) f refl h h

-- ---- the line of a pair

all_above : (set : List ℕ) (p : ℕ) → All (λ q. q < p) set → above set p ≡ true
all_above set p each = list_all-from_AllPass (λ q. nat_lt q p) set (All-weaker (λ q. q < p) (λ q. nat_lt q p ≡ true) (λ q low. lt-ltb q p low) set each)

module _ (u : Universe) (is : IsUniverse u) (names : IsNamed u) (set : List ℕ) where
  pair_tokens_of : (line : List ℕ) → AreTwoNames line → tokens line ≡ line ∷ []
  pair_tokens_of line two = tokens_of_words line [] (and_from _ _ (two_printed line two) refl)

  right_formed : (x : Result ℕ Flaw) → x ≢ Err Form → right (above set) x ≢ Err Form
  right_formed (Ok p) formed h = by (above set p) h where
    by : (b : Bool) → if◌then◌else◌ {A = Result ℕ Flaw} b (Ok p) (Err Number) ≢ Err Form
    by true h = cc
    by false h = cc
  right_formed (Err f) formed h = formed (cc)

  pair_formed : (line : List ℕ) → AreTwoNames line → next_pair_in u set line ≢ Err Form
  pair_formed line two h =
      right_formed (pair_in u line) (two_formed (pair_named u) line two) (sym (ap (λ ts. right (above set) (pair_of_tokens u ts)) (pair_tokens_of line two)) ∙ h)

  pair_formless : (line : List ℕ) (f : Flaw) → next_pair_in u set line ≡ Err f → Form ≡ f → IsPairFlaw u set line f
  pair_formless line f h form = subst (IsPairFlaw u set line) form (λ two. pair_formed line two (h ∙ ap Err (sym form)))

  no_pair : (word : List ℕ) → pair_in u word ≡ Err Name → (p : ℕ) → p < pair_count u → word ≢ pair_word u p
  no_pair word h p low same = let there = ap (pair_in u) same ∙ pair_read u is names p low in cc

  not_behind : (line : List ℕ) (p : ℕ) (f : Flaw) (b : Bool) → line ≡ pair_word u p → p < pair_count u → above set p ≡ b → if◌then◌else◌ {A = Result ℕ Flaw} b (Ok p) (Err Number) ≡ Err f → IsPairFlaw u set line f
  not_behind line p f true same low are h = cc
  not_behind line p f false same low are h = let told : Number ≡ f = cc in subst (IsPairFlaw u set line) told (p, low, same, λ each. let yes = all_above set p each in cc)

  pair_with : (line word : List ℕ) (f : Flaw) (x : Result ℕ Flaw) → next_pair_in u set line ≡ Err f → line ≡ word → pair_in u word ≡ x → right (above set) x ≡ Err f → IsPairFlaw u set line f
  pair_with line word f (Ok p) whole same is h = let pair = pair_is u word p is in not_behind line p f (above set p) (same ∙ pair.0) pair.1 refl h
  pair_with line word f (Err g) whole same is h = elim (names_fail (pair_named u) word g is) [
    | inl (form, none) ↦ pair_formless line f whole (cc)
    | inr (told, two) ↦
        let name : Name ≡ f = cc in
        subst (IsPairFlaw u set line) name (subst AreTwoNames (sym same) two, λ p low e. no_pair word (is ∙ ap Err (sym told)) p low (sym same ∙ e))
  ]

  pair_by : (line : List ℕ) (ts : List (List ℕ)) (f : Flaw) → tokens line ≡ ts → next_pair_in u set line ≡ Err f → right (above set) (pair_of_tokens u ts) ≡ Err f → IsPairFlaw u set line f
  pair_by line (word ∷ []) f are whole h = pair_with line word f (pair_in u word) whole (sym (words_of_tokens line) ∙ ap words are) refl h
  pair_by line ts f are whole h = pair_formless line f whole (cc)

  pub pair_fails : (line : List ℕ) (f : Flaw) → next_pair_in u set line ≡ Err f → IsPairFlaw u set line f
  pair_fails line f h = pair_by line (tokens line) f refl h h
