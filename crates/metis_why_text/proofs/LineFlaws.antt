-- What is wrong with a line of the text of an explanation that cannot be read.
--     Begun behind, Opened ts      the tokens begin with a reason;  with two names and a reason
use Rattle.std.proofs.Common.{◌≡◌, ◌≢◌, ◌⊎◌, ℕ, ◌≤◌, ◌^◌, ◌&&◌, ◌||◌, Bool, true, false, List, [], ◌∷◌, ◌++◌, Option, Some, None, Result, Ok, Err, refl, sym, ap, ◌∙◌, subst, inl, inr}
use Rattle.std.specs.Prelude.{codes}
use Rattle.std.specs.Bool.{if◌then◌else◌, nat_lt}
use Rattle.std.specs.List.{after_first, before_first, list_all}
use Rattle.std.specs.Str.{all_ascii_digits, bytes_eq}
use Rattle.std.specs.Str.Parse.{digits_value}
use Rattle.std.proofs.lemmas.Bool.{and_from, and_parts, eqb-true, ltb-false}
use Rattle.std.proofs.lemmas.List.Splits.{slice_split_at}
use Rattle.std.proofs.lemmas.Slice.Eq.{bytes_eq-Decides}
use Rattle.metis_text.proofs.LineFlaws.{number_formed, two_found, two_printed}
use Rattle.metis_text.specs.Terms.{AreTwoNames, IsPairThere}
use Rattle.metis_tokens.proofs.Cuts.{tokens_of_words, words_of_tokens, no_space}
use Rattle.metis_tokens.proofs.GoalTokens.{goal_is, goal_read}
use Rattle.metis_tokens.proofs.Printed.{printed, printed_digits, printed_name}
use Rattle.metis_tokens.specs.Terms.{both, found, goal_in, in_range, is_number, is_space, made, number_in, of_names, pair_in, starts_number, tokens, words}
use Rattle.metis_tokens.specs.declared.flaw.Flaw.{Flaw}
use Rattle.metis_tokens.specs.declared.flaw.Flaw.TheVariants.{Form, Number, Name}
use Rattle.metis_universe.proofs.NameBytes.{cut_back, name_some}
use Rattle.metis_universe.specs.Terms.{IsNamed, IsUniverse, IsWordable, Universe, goal_named, goal_word, is_colon, is_name, pair_named, pair_names, port_named}
use Rattle.metis_ids.specs.declared.goals.Goal.{Goal}
use Rattle.metis_why.specs.declared.reason.Line.{Line}
use Rattle.metis_why.specs.declared.reason.Reason.{Reason}
use Rattle.metis_why.specs.declared.reason.Reason.TheVariants.{Needs, Comes}
use Rattle.metis_why_text.proofs.GoalTokens.{lacks_read}
use Rattle.metis_why_text.proofs.LineTokens.{line_read}
use Rattle.metis_why_text.specs.Terms.{BeginsWith, IsCountFlaw, IsFormedReason, IsGoalFlaw, IsItemFlaw, IsPortThere, NamesNoGoal, NamesNone, ReasonWords, comes, count_in, count_of_tokens, count_with, fitting, is_lacks_of, is_text_of, lacks_in, lacks_of_tokens, line_in, line_of_tokens, line_with, needs_of_tokens, needs_port, reason_of_tokens, reason_words, starts}

-- ---- lines that begin with known words

-- the tokens of a line begin with the printed words with which the line does
tokens_begin : (t : List ℕ) (ts : List (List ℕ)) (line : List ℕ) → list_all printed (t ∷ ts) ≡ true → BeginsWith (t ∷ ts) line → (rest : List (List ℕ)) × (tokens line ≡ t ∷ ts ++ rest)
tokens_begin t [] line h ([], is) = ([], ap tokens is ∙ tokens_of_words t [] h)
tokens_begin t [] line h (m ∷ more, is) =
    let print = (and_parts (printed t) true h).0 in
    (tokens (words (m ∷ more)), ap tokens is ∙ slice_split_at is_space t 32 (words (m ∷ more)) (no_space t print) refl)
tokens_begin t (u ∷ ts) line h (more, is) =
    let both = and_parts (printed t) (list_all printed (u ∷ ts)) h in
    let rest = tokens_begin u ts (words (u ∷ ts ++ more)) both.1 (more, refl) in
    (rest.0, ap tokens is ∙ slice_split_at is_space t 32 (words (u ∷ ts ++ more)) (no_space t both.0) refl ∙ ap (λ l. t ∷ l) rest.1)

-- and a line begins with the words with which its tokens do
begins_with : (line : List ℕ) (ts more : List (List ℕ)) → tokens line ≡ ts ++ more → BeginsWith ts line
begins_with line ts more are = (more, sym (words_of_tokens line) ∙ ap words are)

-- ---- what was read of the first tokens, and the whole line

unfit : {A : Type 0} (fits : A → Bool) (a : A) (f : Flaw) → fitting fits (Ok a) ≡ Err f → Form ≡ f
unfit {A} fits a f h = by (fits a) h where
  by : (b : Bool) → if◌then◌else◌ {A = Result A Flaw} b (Ok a) (Err Form) ≡ Err f → Form ≡ f
  by true h = cc
  by false h = cc

two_or_form : {A : Type 0} (find : List ℕ → List ℕ → Option A) (word : List ℕ) → (of_names find (pair_names word) ≡ Err Form) ⊎ AreTwoNames word
two_or_form find word =
    let kind = before_first is_colon word in
    let name = after_first is_colon word in
    elim (is_name kind && is_name name) as (λ b. (is_name kind && is_name name) ≡ b → (of_names find (if b then Some (kind, name) else None) ≡ Err Form) ⊎ AreTwoNames word) [
      | true ↦ λ are.
          let names = and_parts (is_name kind) (is_name name) are in
          let whole = cut_back is_colon 58 word (λ x is. eqb-true x 58 is) (name_some name names.1) in
          inr (record { kind = kind; name = name; first = names.0; second = names.1; text = whole })
      | false ↦ λ _. inl refl
    ] refl

-- ---- the line of the goal

module _ (u : Universe) (is : IsUniverse u) (names : IsNamed u) where
  no_goal : (word : List ℕ) → goal_in u word ≡ Err Name → (g : Goal) → IsWordable u g → word ≢ goal_word u g
  no_goal word h g its same = let there = ap (goal_in u) same ∙ goal_read u is names g its in cc

  goal_or_none : (word : List ℕ) → AreTwoNames word → (goal_in u word ≡ Err Name) ⊎ ((g : Goal) × (goal_in u word ≡ Ok g))
  goal_or_none word two = elim (goal_named u two.kind two.name) as (λ o. goal_named u two.kind two.name ≡ o → (goal_in u word ≡ Err Name) ⊎ ((g : Goal) × (goal_in u word ≡ Ok g))) [
    | None ↦ λ is. inl (two_found (goal_named u) word two ∙ ap found is)
    | Some g ↦ λ is. inr (g, two_found (goal_named u) word two ∙ ap found is)
  ] refl

  lacks_or_form : (ts : List (List ℕ)) → (lacks_of_tokens u ts ≡ Err Form) ⊎ ((word : List ℕ) × (more : List (List ℕ)) × (ts ≡ codes "lacks" ∷ word ∷ more) × AreTwoNames word)
  lacks_or_form [] = inl refl
  lacks_or_form (lacks ∷ []) = inl (by (bytes_eq lacks (codes "lacks"))) where
    by : (b : Bool) → if◌then◌else◌ {A = Result Goal Flaw} b (Err Form) (Err Form) ≡ Err Form
    by true = refl
    by false = refl
  lacks_or_form (lacks ∷ word ∷ more) = elim (bytes_eq lacks (codes "lacks")) as (λ b. bytes_eq lacks (codes "lacks") ≡ b
      → (if◌then◌else◌ {A = Result Goal Flaw} b (goal_in u word) (Err Form) ≡ Err Form) ⊎ ((word' : List ℕ) × (more' : List (List ℕ)) × (lacks ∷ word ∷ more ≡ codes "lacks" ∷ word' ∷ more') × AreTwoNames word')) [
        | true ↦ λ same. elim (two_or_form (goal_named u) word) [
          | inl form ↦ inl form
          | inr two ↦ inr (word, more, ap (λ w. w ∷ word ∷ more) ((bytes_eq-Decides lacks (codes "lacks")).0 same), two)
        ]
        | false ↦ λ _. inl refl
      ] refl

  -- a line with the name of no goal is told as that
  told_no_goal : (line : List ℕ) → NamesNoGoal u line → lacks_in u line ≡ Err Name
  told_no_goal line n =
      let first = tokens_begin (codes "lacks") (n.word ∷ []) line (and_from _ _ (two_printed n.word n.two) refl) n.begins in
      elim (goal_or_none n.word n.two) [
        | inl none ↦ ap (λ ts. fitting (is_lacks_of u line) (lacks_of_tokens u ts)) first.1 ∙ ap (fitting (is_lacks_of u line)) none
        | inr (g, there) ↦ let goal = goal_is u n.word g there in absurd (n.none g goal.1 goal.0)
      ]

  goal_formless : (line : List ℕ) (f : Flaw) → lacks_in u line ≡ Err f → Form ≡ f → IsGoalFlaw u line f
  goal_formless line f h form = subst (IsGoalFlaw u line) form (
    λ g its same. let read = ap (lacks_in u) same ∙ lacks_read u is names g its in cc,
    λ n. let told = told_no_goal line n in cc,
  )

  pub goal_fails : (line : List ℕ) (f : Flaw) → lacks_in u line ≡ Err f → IsGoalFlaw u line f
  goal_fails line f h = elim (lacks_or_form (tokens line)) [
    | inl form ↦ let both : Err Form ≡ Err f = sym (ap (fitting (is_lacks_of u line)) form) ∙ h in goal_formless line f h (cc)
    | inr (word, more, are, two) ↦
        let begins = ap (λ ts. fitting (is_lacks_of u line) (lacks_of_tokens u ts)) are in
        elim (goal_or_none word two) [
          | inl none ↦
              let both : Err Name ≡ Err f = sym (begins ∙ ap (fitting (is_lacks_of u line)) none) ∙ h in
              let told : Name ≡ f = cc in
              subst (IsGoalFlaw u line) told (record { word = word; two = two; begins = begins_with line (codes "lacks" ∷ word ∷ []) more are; none = no_goal word none })
          | inr (g, there) ↦ goal_formless line f h (unfit (is_lacks_of u line) g f (sym (begins ∙ ap (fitting (is_lacks_of u line)) there) ∙ h))
        ]
  ]

-- ---- the line of how many pairs there are

count_tokens_of : (digits : List ℕ) → is_number digits ≡ true → tokens (count_with digits) ≡ codes "lines" ∷ digits ∷ []
count_tokens_of digits is = tokens_of_words (codes "lines") (digits ∷ []) (and_from _ _ (printed_digits digits (and_parts (starts_number digits) (all_ascii_digits digits) is).1) refl)

-- a number is out of range where it is none of 32 bits
in_range_fails : (n : ℕ) (b : Bool) (f : Flaw) → nat_lt n (2 ^ 32) ≡ b → if◌then◌else◌ {A = Result ℕ Flaw} b (Ok n) (Err Number) ≡ Err f → (Number ≡ f) × (2 ^ 32 ≤ n)
in_range_fails n true f is h = cc
in_range_fails n false f is h = (cc, ltb-false n (2 ^ 32) is)

count_formed : (line digits : List ℕ) → is_number digits ≡ true → line ≡ count_with digits → count_in line ≢ Err Form
count_formed line digits is same h = number_formed digits is (sym (ap count_of_tokens (ap tokens same ∙ count_tokens_of digits is)) ∙ h)

count_formless : (line : List ℕ) (f : Flaw) → count_in line ≡ Err f → Form ≡ f → IsCountFlaw line f
count_formless line f h form = subst (IsCountFlaw line) form (λ digits is same. count_formed line digits is same (h ∙ ap Err (sym form)))

number_by : (line digits : List ℕ) (f : Flaw) (b : Bool) → count_in line ≡ Err f → line ≡ count_with digits → is_number digits ≡ b → if◌then◌else◌ {A = Result ℕ Flaw} b (in_range (digits_value 10 digits)) (Err Form) ≡ Err f → IsCountFlaw line f
number_by line digits f true whole text is h =
    let range = in_range_fails (digits_value 10 digits) (nat_lt (digits_value 10 digits) (2 ^ 32)) f refl h in
    subst (IsCountFlaw line) range.0 (digits, is, text, range.1)
number_by line digits f false whole text is h = count_formless line f whole (cc)

count_by : (line : List ℕ) (ts : List (List ℕ)) (f : Flaw) → tokens line ≡ ts → count_in line ≡ Err f → count_of_tokens ts ≡ Err f → IsCountFlaw line f
count_by line (lines ∷ digits ∷ []) f are whole h = elim (bytes_eq lines (codes "lines")) as (λ b. bytes_eq lines (codes "lines") ≡ b → if◌then◌else◌ {A = Result ℕ Flaw} b (number_in digits) (Err Form) ≡ Err f → IsCountFlaw line f) [
  | true ↦ λ same h.
      let first = (bytes_eq-Decides lines (codes "lines")).0 same in
      number_by line digits f (is_number digits) whole (sym (words_of_tokens line) ∙ ap words are ∙ ap (λ w. words (w ∷ digits ∷ [])) first) refl h
  | false ↦ λ _ h. count_formless line f whole (cc)
] refl h
count_by line ts f are whole h = count_formless line f whole (cc)

pub count_fails : (line : List ℕ) (f : Flaw) → count_in line ≡ Err f → IsCountFlaw line f
count_fails line f h = count_by line (tokens line) f refl h h

-- ---- the line of a pair with its reason

record Begun (behind : List (List ℕ)) : Type 0 where
  reason : ReasonWords
  more : List (List ℕ)
  formed : IsFormedReason reason
  text : behind ≡ reason_words reason ++ more

record Opened (ts : List (List ℕ)) : Type 0 where
  word : List ℕ
  reason : ReasonWords
  more : List (List ℕ)
  two : AreTwoNames word
  formed : IsFormedReason reason
  text : ts ≡ word ∷ reason_words reason ++ more

module _ (u : Universe) where
  -- the reason by these words
  abbrev reason_value : ReasonWords → Result Reason Flaw
  reason_value (needs_port port) = made Needs (found (port_named u port))
  reason_value comes = Ok Comes
  reason_value starts = Ok Comes

  needs_or_form : (verb : List ℕ) (behind : List (List ℕ)) → verb ≡ codes "needs" → (needs_of_tokens u behind ≡ Err Form) ⊎ Begun (verb ∷ behind)
  needs_or_form verb [] same = inl refl
  needs_or_form verb (port ∷ more) same = elim (is_name port) as (λ b. is_name port ≡ b → (made Needs (if◌then◌else◌ {A = Result ℕ Flaw} b (found (port_named u port)) (Err Form)) ≡ Err Form) ⊎ Begun (verb ∷ port ∷ more)) [
    | true ↦ λ name. inr (record { reason = needs_port port; more = more; formed = name; text = ap (λ v. v ∷ port ∷ more) same })
    | false ↦ λ _. inl refl
  ] refl

  reason_or_form : (behind : List (List ℕ)) → (reason_of_tokens u behind ≡ Err Form) ⊎ Begun behind
  reason_or_form [] = inl refl
  reason_or_form (verb ∷ behind) =
      let moves = bytes_eq verb (codes "comes") in
      let begins = bytes_eq verb (codes "starts") in
      let Outcome = λ (r : Result Reason Flaw). (r ≡ Err Form) ⊎ Begun (verb ∷ behind) in
      elim (bytes_eq verb (codes "needs")) as (λ b. bytes_eq verb (codes "needs") ≡ b → Outcome (if b then needs_of_tokens u behind else if moves || begins then Ok Comes else Err Form)) [
        | true ↦ λ same. needs_or_form verb behind ((bytes_eq-Decides verb (codes "needs")).0 same)
        | false ↦ λ _. elim moves as (λ b. moves ≡ b → Outcome (if b || begins then Ok Comes else Err Form)) [
          | true ↦ λ same. inr (record { reason = comes; more = behind; formed = tt; text = ap (λ v. v ∷ behind) ((bytes_eq-Decides verb (codes "comes")).0 same) })
          | false ↦ λ _. elim begins as (λ b. begins ≡ b → Outcome (if b then Ok Comes else Err Form)) [
            | true ↦ λ same. inr (record { reason = starts; more = behind; formed = tt; text = ap (λ v. v ∷ behind) ((bytes_eq-Decides verb (codes "starts")).0 same) })
            | false ↦ λ _. inl refl
          ] refl
        ] refl
      ] refl

  form_first : (x : Result ℕ Flaw) (y : Result Reason Flaw) → x ≡ Err Form → made line_with (both x y) ≡ Err Form
  form_first x (Ok r) is = ap (λ x. made line_with (both x (Ok r))) is
  form_first x (Err g) is = ap (λ x. made line_with (both x (Err g))) is

  form_second : (x : Result ℕ Flaw) (y : Result Reason Flaw) → y ≡ Err Form → made line_with (both x y) ≡ Err Form
  form_second (Ok p) y is = ap (λ y. made line_with (both (Ok p) y)) is
  form_second (Err Form) y is = ap (λ y. made line_with (both (Err Form) y)) is
  form_second (Err Number) y is = ap (λ y. made line_with (both (Err Number) y)) is
  form_second (Err Name) y is = ap (λ y. made line_with (both (Err Name) y)) is

  item_or_form : (ts : List (List ℕ)) → (line_of_tokens u ts ≡ Err Form) ⊎ Opened ts
  item_or_form [] = inl refl
  item_or_form (word ∷ behind) = elim (two_or_form (pair_named u) word) [
    | inl form ↦ inl (form_first (pair_in u word) (reason_of_tokens u behind) form)
    | inr two ↦ elim (reason_or_form behind) [
      | inl form ↦ inl (form_second (pair_in u word) (reason_of_tokens u behind) form)
      | inr begun ↦ inr (record { word = word; reason = begun.reason; more = begun.more; two = two; formed = begun.formed; text = ap (λ ts. word ∷ ts) begun.text })
    ]
  ]

  -- the reason that begins so, whatever stands behind it
  reason_is : (reason : ReasonWords) (more : List (List ℕ)) → IsFormedReason reason → reason_of_tokens u (reason_words reason ++ more) ≡ reason_value reason
  reason_is (needs_port port) more formed = ap (λ b. made Needs (if◌then◌else◌ {A = Result ℕ Flaw} b (found (port_named u port)) (Err Form))) formed
  reason_is comes more formed = refl
  reason_is starts more formed = refl

  port_or_none : (reason : ReasonWords) → ((reason_value reason ≡ Err Name) × (IsPortThere u reason → ⊥)) ⊎ ((r : Reason) × (reason_value reason ≡ Ok r) × IsPortThere u reason)
  port_or_none (needs_port port) = elim (port_named u port) as (λ o. port_named u port ≡ o
      → ((made Needs (found (port_named u port)) ≡ Err Name) × ((port_named u port ≢ None) → ⊥)) ⊎ ((r : Reason) × (made Needs (found (port_named u port)) ≡ Ok r) × (port_named u port ≢ None))) [
        | None ↦ λ is. inl (ap (λ o. made Needs (found o)) is, λ there. there is)
        | Some r ↦ λ is. inr (Needs r, ap (λ o. made Needs (found o)) is, λ none. let both = sym is ∙ none in cc)
      ] refl
  port_or_none comes = inr (Comes, refl, tt)
  port_or_none starts = inr (Comes, refl, tt)

  pair_or_none : (word : List ℕ) → AreTwoNames word → ((pair_in u word ≡ Err Name) × (IsPairThere u word → ⊥)) ⊎ ((p : ℕ) × (pair_in u word ≡ Ok p) × IsPairThere u word)
  pair_or_none word two = elim (pair_named u two.kind two.name) as (λ o. pair_named u two.kind two.name ≡ o → ((pair_in u word ≡ Err Name) × (IsPairThere u word → ⊥)) ⊎ ((p : ℕ) × (pair_in u word ≡ Ok p) × IsPairThere u word)) [
    | None ↦ λ is. inl (two_found (pair_named u) word two ∙ ap found is, λ there. there two is)
    | Some p ↦ λ is.
        let read = two_found (pair_named u) word two ∙ ap found is in
        inr (p, read, λ other none. let both : Ok p ≡ Err Name = sym read ∙ two_found (pair_named u) word other ∙ ap found none in cc)
  ] refl

  -- what was read of such a beginning
  item_value : (word : List ℕ) (reason : ReasonWords) (more : List (List ℕ)) → AreTwoNames word → IsFormedReason reason
      → ((line_of_tokens u (word ∷ reason_words reason ++ more) ≡ Err Name) × (IsPairThere u word × IsPortThere u reason → ⊥)) ⊎ ((l : Line) × (line_of_tokens u (word ∷ reason_words reason ++ more) ≡ Ok l) × (IsPairThere u word × IsPortThere u reason))
  item_value word reason more two formed =
      let begun = reason_is reason more formed in
      let value = λ (x : Result ℕ Flaw) (y : Result Reason Flaw). made line_with (both x y) in
      elim (pair_or_none word two) [
        | inl (none, not) ↦ elim (port_or_none reason) [
          | inl (none', not') ↦ inl ((λ i. value (none i) ((begun ∙ none') i)), λ there. not there.0)
          | inr (r, at, there') ↦ inl ((λ i. value (none i) ((begun ∙ at) i)), λ there. not there.0)
        ]
        | inr (p, at, there) ↦ elim (port_or_none reason) [
          | inl (none', not') ↦ inl ((λ i. value (at i) ((begun ∙ none') i)), λ there. not' there.1)
          | inr (r, at', there') ↦ inr (line_with (p, r), (λ i. value (at i) ((begun ∙ at') i)), (there, there'))
        ]
      ]

  reason_printed : (reason : ReasonWords) → IsFormedReason reason → list_all printed (reason_words reason) ≡ true
  reason_printed (needs_port port) formed = and_from _ _ (printed_name port formed) refl
  reason_printed comes formed = refl
  reason_printed starts formed = refl

  -- a line with a name that is not there is told as that
  told_none : (line : List ℕ) → NamesNone u line → line_in u line ≡ Err Name
  told_none line n =
      let first = tokens_begin n.word (reason_words n.reason) line (and_from _ _ (two_printed n.word n.two) (reason_printed n.reason n.formed)) n.begins in
      elim (item_value n.word n.reason first.0 n.two n.formed) [
        | inl (none, _) ↦ ap (λ ts. fitting (is_text_of u line) (line_of_tokens u ts)) first.1 ∙ ap (fitting (is_text_of u line)) none
        | inr (l, at, there) ↦ absurd (n.none there)
      ]

  module _ (is : IsUniverse u) (names : IsNamed u) where
    item_formless : (line : List ℕ) (f : Flaw) → line_in u line ≡ Err f → Form ≡ f → IsItemFlaw u line f
    item_formless line f h form = subst (IsItemFlaw u line) form (
      λ l its same. let read = ap (line_in u) same ∙ line_read u is names l its in cc,
      λ n. let told = told_none line n in cc,
    )

    pub item_fails : (line : List ℕ) (f : Flaw) → line_in u line ≡ Err f → IsItemFlaw u line f
    item_fails line f h = elim (item_or_form (tokens line)) [
      | inl form ↦ let both : Err Form ≡ Err f = sym (ap (fitting (is_text_of u line)) form) ∙ h in item_formless line f h (cc)
      | inr o ↦
          let begins = ap (λ ts. fitting (is_text_of u line) (line_of_tokens u ts)) o.text in
          elim (item_value o.word o.reason o.more o.two o.formed) [
            | inl (none, not) ↦
                let both : Err Name ≡ Err f = sym (begins ∙ ap (fitting (is_text_of u line)) none) ∙ h in
                let told : Name ≡ f = cc in
                subst (IsItemFlaw u line) told (record { word = o.word; reason = o.reason; two = o.two; formed = o.formed; begins = begins_with line (o.word ∷ reason_words o.reason) o.more o.text; none = not })
            | inr (l, at, there) ↦ item_formless line f h (unfit (is_text_of u line) l f (sym (begins ∙ ap (fitting (is_text_of u line)) at) ∙ h))
          ]
    ]
