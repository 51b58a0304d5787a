-- What is wrong with the second line of a plan that cannot be read.
use Rattle.std.proofs.Common.{◌≡◌, ◌≢◌, ◌⊎◌, ℕ, ◌<◌, ◌^◌, ◌&&◌, Bool, true, false, List, [], ◌∷◌, Result, Ok, Err, refl, sym, ap, ◌∙◌, inl, inr}
use Rattle.std.specs.Prelude.{codes}
use Rattle.std.specs.Bool.{if◌then◌else◌, nat_lt}
use Rattle.std.specs.Str.{all_ascii_digits, bytes_eq}
use Rattle.std.specs.Str.Parse.{digits_value}
use Rattle.std.proofs.lemmas.Bool.{and_from, and_parts, lt-ltb}
use Rattle.std.proofs.lemmas.Slice.Eq.{bytes_eq-Decides}
use Rattle.metis_tokens.proofs.Cuts.{tokens_of_words, words_of_tokens}
use Rattle.metis_tokens.proofs.Printed.{printed, printed_digits}
use Rattle.metis_tokens.specs.Terms.{both, graver, in_range, is_number, number_in, starts_number, tokens, words}
use Rattle.metis_tokens.specs.declared.flaw.Flaw.{Flaw}
use Rattle.metis_tokens.specs.declared.flaw.Flaw.TheVariants.{Form, Number, Name}
use Rattle.metis_text.proofs.LineFlaws.{number_formed}
use Rattle.metis_text.specs.Terms.{AreInRange, AreNumbers, IsCountsFlaw, Numbers, counts_in, counts_of_tokens, counts_with}

-- ---- two parts of a line

graver_one : (g h : Flaw) → (graver g h ≡ g) ⊎ (graver g h ≡ h)
graver_one Form h = inl refl
graver_one Number Form = inr refl
graver_one Number Number = inl refl
graver_one Number Name = inl refl
graver_one Name h = inr refl

-- the flaw that is told is that of a part
pub both_fails : {A B : Type 0} (x : Result A Flaw) (y : Result B Flaw) (f : Flaw) → both x y ≡ Err f → (x ≡ Err f) ⊎ (y ≡ Err f)
both_fails (Ok a) (Ok b) f h = cc
both_fails (Ok a) (Err g) f h = inr (cc)
both_fails (Err g) (Ok b) f h = inl (cc)
both_fails (Err g) (Err k) f h = elim (graver_one g k) [ inl one ↦ inl (cc) | inr one ↦ inr (cc) ]

graver_last : (g : Flaw) → graver g Form ≡ Form
graver_last Form = refl
graver_last Number = refl
graver_last Name = refl

-- a form that is wrong is told before all
pub form_first : {A B : Type 0} (x : Result A Flaw) (y : Result B Flaw) → x ≡ Err Form → both x y ≡ Err Form
form_first x (Ok b) h = ap (λ x. both x (Ok b)) h
form_first x (Err g) h = ap (λ x. both x (Err g)) h

pub form_second : {A B : Type 0} (x : Result A Flaw) (y : Result B Flaw) → y ≡ Err Form → both x y ≡ Err Form
form_second (Ok a) y h = ap (both (Ok a)) h
form_second (Err g) y h = ap (both (Err g)) h ∙ ap Err (graver_last g)

-- ---- numbers

number_range : (n : ℕ) → n < 2 ^ 32 → in_range n ≡ Ok n
number_range n low = ap (λ b. if◌then◌else◌ {A = Result ℕ Flaw} b (Ok n) (Err Number)) (lt-ltb n (2 ^ 32) low)

pub number_right : (t : List ℕ) → is_number t ≡ true → digits_value 10 t < 2 ^ 32 → number_in t ≡ Ok (digits_value 10 t)
number_right t is low = ap (λ b. if◌then◌else◌ {A = Result ℕ Flaw} b (in_range (digits_value 10 t)) (Err Form)) is ∙ number_range (digits_value 10 t) low

pub number_form : (t : List ℕ) → number_in t ≢ Err Form → is_number t ≡ true
number_form t formed = elim (is_number t) as (λ b. if◌then◌else◌ {A = Result ℕ Flaw} b (in_range (digits_value 10 t)) (Err Form) ≢ Err Form → b ≡ true) [ true ↦ λ _. refl | false ↦ λ wrong. absurd (wrong refl) ] formed

range_nameless : (n : ℕ) (b : Bool) → if◌then◌else◌ {A = Result ℕ Flaw} b (Ok n) (Err Number) ≢ Err Name
range_nameless n true h = cc
range_nameless n false h = cc

pub number_nameless : (t : List ℕ) → number_in t ≢ Err Name
number_nameless t = elim (is_number t) as (λ b. if◌then◌else◌ {A = Result ℕ Flaw} b (in_range (digits_value 10 t)) (Err Form) ≢ Err Name) [ true ↦ range_nameless (digits_value 10 t) (nat_lt (digits_value 10 t) (2 ^ 32)) | false ↦ λ h. cc ]

-- ---- three numbers

module _ (a b c : List ℕ) where
  abbrev three : Result Numbers Flaw
  three = both (number_in a) (both (number_in b) (number_in c))

  part_fails : (f : Flaw) → three ≡ Err f → (number_in a ≡ Err f) ⊎ (number_in b ≡ Err f) ⊎ (number_in c ≡ Err f)
  part_fails f h = elim (both_fails (number_in a) (both (number_in b) (number_in c)) f h) [
    | inl first ↦ inl first
    | inr later ↦ inr (both_fails (number_in b) (number_in c) f later)
  ]

  three_formed : AreNumbers a b c → three ≢ Err Form
  three_formed are h = elim (part_fails Form h) [
    | inl first ↦ number_formed a are.first first
    | inr later ↦ elim later [ inl second ↦ number_formed b are.second second | inr third ↦ number_formed c are.third third ]
  ]

  three_nameless : three ≢ Err Name
  three_nameless h = elim (part_fails Name h) [ inl first ↦ number_nameless a first | inr later ↦ elim later [ inl second ↦ number_nameless b second | inr third ↦ number_nameless c third ] ]

  three_numbers : three ≢ Err Form → AreNumbers a b c
  three_numbers formed = record {
    first = number_form a (λ h. formed (form_first (number_in a) (both (number_in b) (number_in c)) h));
    second = number_form b (λ h. formed (form_second (number_in a) (both (number_in b) (number_in c)) (form_first (number_in b) (number_in c) h)));
    third = number_form c (λ h. formed (form_second (number_in a) (both (number_in b) (number_in c)) (form_second (number_in b) (number_in c) h)));
  }

  three_right : AreNumbers a b c → AreInRange a b c → three ≢ Err Number
  three_right are within h =
      let read : three ≡ Ok (digits_value 10 a, (digits_value 10 b, digits_value 10 c)) =
      λ i. both (number_right a are.first within.0 i) (both (number_right b are.second within.1 i) (number_right c are.third within.2 i)) in
      cc

  counts_tokens_of : AreNumbers a b c → tokens (counts_with a b c) ≡ codes "instances" ∷ a ∷ codes "actions" ∷ b ∷ codes "dups" ∷ c ∷ []
  counts_tokens_of are =
      tokens_of_words (codes "instances") (a ∷ codes "actions" ∷ b ∷ codes "dups" ∷ c ∷ [])
      (and_from _ _ (digits_printed a are.first) (and_from _ _ (digits_printed b are.second) (and_from _ _ (digits_printed c are.third) refl))) where
        digits_printed : (t : List ℕ) → is_number t ≡ true → printed t ≡ true
        digits_printed t is = printed_digits t (and_parts (starts_number t) (all_ascii_digits t) is).1

  counts_formed : (line : List ℕ) → AreNumbers a b c → line ≡ counts_with a b c → counts_in line ≢ Err Form
  counts_formed line are same h = three_formed are (sym (ap counts_of_tokens (ap tokens same ∙ counts_tokens_of are)) ∙ h)

formless : (line : List ℕ) → counts_in line ≡ Err Form → IsCountsFlaw line Form
formless line h = λ a b c are same. counts_formed a b c line are same h

not_both : (x : Result Numbers Flaw) → x ≡ Err Form → x ≡ Err Number → ⊥
not_both x form number = cc

three_by : (line a b c : List ℕ) (f : Flaw) → counts_in line ≡ Err f → line ≡ counts_with a b c → three a b c ≡ Err f → IsCountsFlaw line f
three_by line a b c Form whole text h = formless line whole
three_by line a b c Number whole text h =
    let are = three_numbers a b c (λ form. not_both (three a b c) form h) in
    (a, b, c, are, text, λ within. three_right a b c are within h)
three_by line a b c Name whole text h = three_nameless a b c h

other_by : (line : List ℕ) (f : Flaw) → counts_in line ≡ Err f → Form ≡ f → IsCountsFlaw line f
other_by line Form whole same = formless line whole
other_by line Number whole same = cc
other_by line Name whole same = cc

counts_by : (line : List ℕ) (ts : List (List ℕ)) (f : Flaw) → tokens line ≡ ts → counts_in line ≡ Err f → counts_of_tokens ts ≡ Err f → IsCountsFlaw line f
counts_by line (i ∷ a ∷ x ∷ b ∷ d ∷ c ∷ []) f are whole h =
    elim (bytes_eq i (codes "instances") && bytes_eq x (codes "actions") && bytes_eq d (codes "dups")) as (λ t. (bytes_eq i (codes "instances") && bytes_eq x (codes "actions") && bytes_eq d (codes "dups")) ≡ t → if◌then◌else◌ {A = Result Numbers Flaw} t (three a b c) (Err Form) ≡ Err f → IsCountsFlaw line f) [
      | true ↦ λ same h.
          let all = and_parts (bytes_eq i (codes "instances") && bytes_eq x (codes "actions")) (bytes_eq d (codes "dups")) same in
          let front = and_parts (bytes_eq i (codes "instances")) (bytes_eq x (codes "actions")) all.0 in
          let first = (bytes_eq-Decides i (codes "instances")).0 front.0 in
          let second = (bytes_eq-Decides x (codes "actions")).0 front.1 in
          let third = (bytes_eq-Decides d (codes "dups")).0 all.1 in
          three_by line a b c f whole (sym (words_of_tokens line) ∙ ap words are ∙ (λ j. words (first j ∷ a ∷ second j ∷ b ∷ third j ∷ c ∷ []))) h
      | false ↦ λ _ h. other_by line f whole (cc)
    ] refl h
counts_by line ts f are whole h = other_by line f whole (cc)

pub counts_fail : (line : List ℕ) (f : Flaw) → counts_in line ≡ Err f → IsCountsFlaw line f
counts_fail line f h = counts_by line (tokens line) f refl h h
