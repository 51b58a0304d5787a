-- What is wrong with the line of a dup that cannot be read.
use Rattle.std.proofs.Common.{◌≡◌, ◌≢◌, ℕ, ◌<◌, ◌&&◌, ◌||◌, Bool, true, false, List, [], ◌∷◌, length, Option, Some, None, Result, Ok, Err, refl, sym, ap, ◌∙◌, subst, arith, inl, inr}
use Rattle.std.specs.Prelude.{codes, ⊤}
use Rattle.std.specs.Bool.{if◌then◌else◌, nat_lt, ◌==◌}
use Rattle.std.specs.List.{AllByRecursion, after_first, before_first, list_all}
use Rattle.std.specs.Str.{all_ascii_digits, bytes_eq}
use Rattle.std.proofs.lemmas.Bool.{and_from, and_parts, eqb-true}
use Rattle.std.proofs.lemmas.Bool.Decides.{nat_tests}
use Rattle.std.proofs.lemmas.List.Folds.{list_all-append}
use Rattle.std.proofs.lemmas.Slice.Eq.{bytes_eq-Decides}
use Rattle.metis_ids.specs.declared.events.Event.{Event}
use Rattle.metis_ids.specs.declared.events.Event.TheVariants.{End}
use Rattle.metis_tokens.proofs.Cuts.{tokens_of_words, words_of_tokens}
use Rattle.metis_tokens.proofs.Printed.{printed}
use Rattle.metis_tokens.specs.Terms.{all_behind, both, due, made, number_in, of_names, pair_in, starts_number, tokens, words}
use Rattle.metis_tokens.specs.declared.flaw.Flaw.{Flaw}
use Rattle.metis_tokens.specs.declared.flaw.Flaw.TheVariants.{Form, Number, Name}
use Rattle.metis_universe.proofs.NameBytes.{cut_back, name_some}
use Rattle.metis_universe.specs.Terms.{Universe, is_colon, is_name, pair_named, pair_names}
use Rattle.metis_text.proofs.LineFlaws.{two_found, two_printed}
use Rattle.metis_text.proofs.RowFlaws.{numeral_printed}
use Rattle.metis_text.proofs.Tells.{Tells, found_form, found_number, found_there, tells_all, tells_as, tells_both, tells_due, tells_made, tells_number}
use Rattle.metis_text.specs.Terms.{AreTwoNames, DupRow, IsDupFlaw, IsDupWithin, IsEventWithin, IsFormedDup, IsFormedEvent, IsNumeral, IsPairThere, at_event, dup_in, dup_of, dup_with, dup_words, event_in, is_point}

-- ---- the pair

module _ {A : Type 0} (find : List ℕ → List ℕ → Option A) where
  names_formed : (word : List ℕ) → of_names find (pair_names word) ≢ Err Form → AreTwoNames word
  names_formed word h =
      let kind = before_first is_colon word in
      let name = after_first is_colon word in
      elim (is_name kind && is_name name) as (λ b. (is_name kind && is_name name) ≡ b → of_names find (if◌then◌else◌ {A = Option (List ℕ × List ℕ)} b (Some (kind, name)) None) ≢ Err Form → AreTwoNames word) [
        | true ↦ λ are _.
            let names = and_parts (is_name kind) (is_name name) are in
            record { kind = kind; name = name; first = names.0; second = names.1; text = cut_back is_colon 58 word (λ x is. eqb-true x 58 is) (name_some name names.1) }
        | false ↦ λ _ wrong. absurd (wrong refl)
      ] refl h

  names_told : (word : List ℕ) → Tells (of_names find (pair_names word)) (AreTwoNames word) ⊤ ((two : AreTwoNames word) → find two.kind two.name ≢ None)
  names_told word = record {
    form = names_formed word;
    formed = λ two h. found_form {A = A} (λ _. None) (find two.kind two.name) (sym (two_found find word two) ∙ h);
    within = λ _ _. tt;
    right_so = λ two _ h. found_number {A = A} (λ _. None) (find two.kind two.name) (sym (two_found find word two) ∙ h);
    there = λ two _ some h. found_there {A = A} (λ _. None) (find two.kind two.name) (some two) (sym (two_found find word two) ∙ h);
  }

-- ---- an event

module _ (t : List ℕ) where
  abbrev numbers : Result (ℕ × ℕ) Flaw
  numbers = both (number_in (before_first is_point t)) (number_in (after_first is_point t))

  event_by : (b : Bool) → bytes_eq t (codes "end") ≡ b → Tells (if◌then◌else◌ {A = Result Event Flaw} b (Ok End) (made at_event numbers)) (IsFormedEvent t) (IsEventWithin t) ⊤
  event_by true is =
      let same = (bytes_eq-Decides t (codes "end")).0 is in
      record { form = λ _. inl same; formed = λ _ h. cc; within = λ _ _ other. absurd (other same); right_so = λ _ _ h. cc; there = λ _ _ _ h. cc }
  event_by false is =
      let other : t ≢ codes "end" = λ same. apart (bytes_eq t (codes "end")) is ((bytes_eq-Decides t (codes "end")).1 same) in
      let told = tells_made at_event numbers (tells_both (number_in (before_first is_point t)) (number_in (after_first is_point t)) (tells_number (before_first is_point t)) (tells_number (after_first is_point t))) in
      tells_as (made at_event numbers) told (λ f. inr f) (λ f. elim f [ inl same ↦ absurd (other same) | inr g ↦ g ]) (λ r _. r) (λ r. r other) (λ _ _ _. (tt, tt)) where
        apart : (b : Bool) → b ≡ false → b ≡ true → ⊥
        apart b other so = cc

  event_told : Tells (event_in t) (IsFormedEvent t) (IsEventWithin t) ⊤
  event_told = event_by (bytes_eq t (codes "end")) refl

  numeral_some : (n : ℕ) (b : Bool) → ((n == 1) || (nat_lt 1 n && b)) ≡ true → 0 < n
  numeral_some n b h = grind (arith, nat_tests)

  event_printed : IsFormedEvent t → printed t ≡ true
  event_printed (inl same) = ap printed same
  event_printed (inr f) =
      let step = after_first is_point t in
      let some = numeral_some (length step) _ (and_parts (starts_number step) (all_ascii_digits step) f.1).0 in
      let whole = cut_back is_point 46 t (λ x is. eqb-true x 46 is) some in
      ap printed whole ∙ list_all-append _ (before_first is_point t) (46 ∷ step) ∙ and_from _ _ (numeral_printed (before_first is_point t) f.0) (numeral_printed step f.1)

events_printed : (ts : List (List ℕ)) → AllByRecursion IsFormedEvent ts → list_all printed ts ≡ true
events_printed [] are = refl
events_printed (t ∷ ts) are = and_from _ _ (event_printed t are.0) (events_printed ts are.1)

-- ---- the line

module _ (u : Universe) (k : ℕ) where
  dup_told : (number word : List ℕ) (events : List (List ℕ)) → Tells (dup_with u k number word events) (IsNumeral number × (AreTwoNames word × AllByRecursion IsFormedEvent events)) (IsDupWithin k number events) (IsPairThere u word)
  dup_told number word events =
      let cycle = all_behind event_in (Ok []) events in
      let rest = tells_both (pair_in u word) cycle (names_told (pair_named u) word) (tells_all event_in IsFormedEvent IsEventWithin event_told events) in
      let whole = tells_both (due k number) (both (pair_in u word) cycle) (tells_due k number) rest in
      tells_made (λ p. p.1) (both (due k number) (both (pair_in u word) cycle))
      (tells_as (both (due k number) (both (pair_in u word) cycle)) whole (λ f. f) (λ f. f) (λ r. (r.0, r.1.1)) (λ r. (r.0, (tt, r.1))) (λ _ _ t. (tt, (t, tt))))

  dup_formed : (line number word : List ℕ) (events : List (List ℕ)) → IsFormedDup number word events → line ≡ dup_words number word events → dup_in u k line ≢ Err Form
  dup_formed line number word [] f same h = absurd f.1.1
  dup_formed line number word (first ∷ []) f same h = absurd f.1.1
  dup_formed line number word (first ∷ second ∷ more) f same h =
      let events = first ∷ second ∷ more in
      let all = and_from _ _ (numeral_printed number f.0) (and_from _ _ (two_printed word f.1.0) (events_printed events f.1.1)) in
      let read = ap (dup_of u k) (ap tokens same ∙ tokens_of_words (codes "dup") (number ∷ word ∷ codes "cycle" ∷ events) all) in
      (dup_told number word events).formed f (sym read ∙ h)

  formless : (line : List ℕ) → dup_in u k line ≡ Err Form → IsDupFlaw u k line Form
  formless line h = λ number word events f same. dup_formed line number word events f same h

  formless_by : (line : List ℕ) (f : Flaw) → dup_in u k line ≡ Err f → Form ≡ f → IsDupFlaw u k line f
  formless_by line f h form = subst (IsDupFlaw u k line) form (formless line (h ∙ ap Err (sym form)))

  not_both : (x : Result DupRow Flaw) (f g : Flaw) → f ≢ g → x ≡ Err f → x ≡ Err g → ⊥
  not_both x f g other one two = let same : f ≡ g = cc in other same

  with_words : (line number word first second : List ℕ) (more : List (List ℕ)) (f : Flaw) → dup_in u k line ≡ Err f → line ≡ dup_words number word (first ∷ second ∷ more) → dup_with u k number word (first ∷ second ∷ more) ≡ Err f → IsDupFlaw u k line f
  with_words line number word first second more Form whole text h = formless line whole
  with_words line number word first second more Number whole text h =
      let events = first ∷ second ∷ more in
      let told = dup_told number word events in
      let formed = told.form (not_both (dup_with u k number word events) Number Form (λ e. cc) h) in
      (number, word, events, formed, text, λ right. told.right_so formed right h)
  with_words line number word first second more Name whole text h =
      let events = first ∷ second ∷ more in
      let told = dup_told number word events in
      let no_form = not_both (dup_with u k number word events) Name Form (λ e. cc) h in
      let formed = told.form no_form in
      let right = told.within no_form (not_both (dup_with u k number word events) Name Number (λ e. cc) h) in
      (number, word, events, formed, text, right, λ there. told.there formed right there h)

  tokens_by : (line : List ℕ) (ts : List (List ℕ)) (f : Flaw) → tokens line ≡ ts → dup_in u k line ≡ Err f → dup_of u k ts ≡ Err f → IsDupFlaw u k line f
  tokens_by line (dup ∷ number ∷ word ∷ cycle ∷ first ∷ second ∷ more) f are whole h =
      elim (bytes_eq dup (codes "dup") && bytes_eq cycle (codes "cycle")) as (λ b. (bytes_eq dup (codes "dup") && bytes_eq cycle (codes "cycle")) ≡ b → if◌then◌else◌ {A = Result DupRow Flaw} b (dup_with u k number word (first ∷ second ∷ more)) (Err Form) ≡ Err f → IsDupFlaw u k line f) [
        | true ↦ λ same h.
            let both_words = and_parts (bytes_eq dup (codes "dup")) (bytes_eq cycle (codes "cycle")) same in
            let one = (bytes_eq-Decides dup (codes "dup")).0 both_words.0 in
            let two = (bytes_eq-Decides cycle (codes "cycle")).0 both_words.1 in
            let text : line ≡ dup_words number word (first ∷ second ∷ more) = sym (words_of_tokens line) ∙ ap words are ∙ (λ i. words (one i ∷ number ∷ word ∷ two i ∷ first ∷ second ∷ more)) in
            with_words line number word first second more f whole text h
        | false ↦ λ _ h. formless_by line f whole (cc)
      ] refl h
  tokens_by line ts f are whole h = formless_by line f whole (cc)

  pub dup_fails : (line : List ℕ) (f : Flaw) → dup_in u k line ≡ Err f → IsDupFlaw u k line f
  dup_fails line f h = tokens_by line (tokens line) f refl h h
