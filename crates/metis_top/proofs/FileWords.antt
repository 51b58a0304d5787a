-- The file words of a command are the first ones behind its verb.
use Rattle.std.proofs.Common.{◌≡◌, ℕ, zero, suc, ◌+◌, ◌≤◌, ◌<◌, Bool, true, false, not, List, [], ◌∷◌, length, drop, take, Ok, Err, Result, None, Some, refl, sym, ap, ◌∙◌, subst, arith, length-take}
use Rattle.std.specs.List.{range_with_len, slice_get}
use Rattle.std.specs.Option.{option_map_or}
use Rattle.std.proofs.lemmas.Option.{slice_get_within}
use Rattle.metis_ids.proofs.Finding.{not_found}
use Rattle.metis_ids.proofs.Lists.{has_range}
use Rattle.metis_tokens.specs.Terms.{and_then}
use Rattle.metis_words.specs.Terms.{Form, file_count, file_fits, file_misfit, fits_after, form_behind, form_by, form_of, form_with, number_count, numbers_after, size_in, target_limit, targets_in, unless_misfit, verb_named, with_verb}
use Rattle.metis_words.specs.declared.words.Verb.{Verb}
use Rattle.metis_words.specs.declared.words.Verb.TheVariants.{Load, Waves}

abbrev good : Form → Result Form ℕ
good form = Ok form

record HasParts (form : Form) (v : Verb) (names : List (List ℕ)) : Type 0 where
  verb : form.verb ≡ v
  files : form.files ≡ names

no_form : (place : ℕ) (form : Form) → Err place ≡ good form → ⊥
no_form place form h = cc

same_form : (f form : Form) → good f ≡ good form → f ≡ form
same_form f form h = cc

made : {X : Type 0} (r : Result X ℕ) (f : X → Form) (form : Form) (verb : Verb) (files : List (List ℕ)) → ((x : X) → HasParts (f x) verb files) → and_then r (λ x. good (f x)) ≡ good form → HasParts form verb files
made (Ok x) f form verb files each h = subst (λ g. HasParts g verb files) (same_form (f x) form h) (each x)
made (Err place) f form verb files each h = absurd (no_form place form h)

aimed : (verb : Verb) (files rest : List (List ℕ)) (form : Form) → and_then (targets_in (file_count verb + 2) (target_limit verb) rest) (λ targets. good (form_by verb files targets 0 [])) ≡ good form → HasParts form verb files
aimed verb files rest form h = made (targets_in (file_count verb + 2) (target_limit verb) rest) (λ targets. form_by verb files targets 0 []) form verb files (λ x. record { verb = refl; files = refl }) h

behind : (verb : Verb) (files rest : List (List ℕ)) (form : Form) → form_behind verb files rest ≡ good form → HasParts form verb files
behind Load files rest form h = made (size_in rest) (λ size. form_by Load files [] size []) form Load files (λ x. record { verb = refl; files = refl }) h
behind Waves files rest form h =
    made (numbers_after [] (file_count Waves + 2) (number_count Waves) rest) (λ numbers. form_by Waves files [] 0 numbers) form Waves files (λ x. record { verb = refl; files = refl }) h
behind verb files rest form h = aimed verb files rest form h

-- a word that fits is there
there : (words : List (List ℕ)) (k : ℕ) → file_fits words k ≡ true → k < length words
there words k fits = elim (slice_get words k) as (λ o. slice_get words k ≡ o → option_map_or (fits_after (take k words)) o false ≡ true → k < length words) [
  | None ↦ λ is h. absurd (none h)
  | Some word ↦ λ is h. slice_get_within words k word is
] refl fits where
  none : false ≡ true → ⊥
  none h = cc

enough : (n : ℕ) (words : List (List ℕ)) → file_misfit n words ≡ None → n ≤ length words
enough zero words fits = omega arith
enough (suc n) words fits =
    let last = not_found (λ k. not (file_fits words k)) (range_with_len 0 (suc n)) fits n (has_range 0 (suc n) n (omega arith) (omega arith)) in
    there words n (fitting (file_fits words n) last) where
      fitting : (b : Bool) → not b ≡ false → b ≡ true
      fitting true h = refl
      fitting false h = sym h

-- the file words of a command: so many as its verb has, and those behind the verb
pub record AreWords (words : List (List ℕ)) (form : Form) : Type 0 where
  pub count : length form.files ≡ file_count form.verb
  pub are : form.files ≡ take (file_count form.verb) (drop 1 words)
  pub within : file_count form.verb < length words

with_parts : (word : List ℕ) (words : List (List ℕ)) (form : Form) (verb : Verb) → file_count verb ≤ length words → HasParts form verb (take (file_count verb) words) → AreWords (word ∷ words) form
with_parts word words form verb fits parts = record {
  count = ap length parts.files ∙ length_of (file_count verb) words fits ∙ sym (ap file_count parts.verb);
  are = parts.files ∙ ap (λ v. take (file_count v) words) (sym parts.verb) ∙ ap (take (file_count form.verb)) (sym (drop_none words));
  within = subst (λ v. file_count v < suc (length words)) (sym parts.verb) (omega (arith, fits));
} where
  length_of : (n : ℕ) (ws : List (List ℕ)) → n ≤ length ws → length (take n ws) ≡ n
  length_of n ws low = omega (arith, length-take n ws, low)

  drop_none : (ws : List (List ℕ)) → drop 0 ws ≡ ws
  drop_none [] = refl
  drop_none (w ∷ ws) = refl

with_files : (word : List ℕ) (words : List (List ℕ)) (form : Form) (verb : Verb) → form_with verb words ≡ good form → AreWords (word ∷ words) form
with_files word words form verb h =
    elim (file_misfit (file_count verb) words) as (λ o. file_misfit (file_count verb) words ≡ o
    → and_then (unless_misfit 2 o (take (file_count verb) words)) (λ files. form_behind verb files (drop (file_count verb) words)) ≡ good form → AreWords (word ∷ words) form) [
      | None ↦ λ fits is. with_parts word words form verb (enough (file_count verb) words fits) (behind verb (take (file_count verb) words) (drop (file_count verb) words) form is)
      | Some k ↦ λ _ is. absurd (no_form (2 + k) form is)
    ] refl h

pub are_words : (words : List (List ℕ)) (form : Form) → form_of words ≡ Ok form → AreWords words form
are_words [] form h = absurd (no_form 1 form h)
are_words (word ∷ words) form h = elim (verb_named word) as (λ o. with_verb o words ≡ good form → AreWords (word ∷ words) form) [
  | None ↦ λ is. absurd (no_form 1 form is)
  | Some verb ↦ λ is. with_files word words form verb is
] h
