-- A command is its file words and what stands behind them.
use Rattle.std.proofs.Common.{◌≡◌, ℕ, ◌+◌, ◌-◌, ◌≤◌, List, [], ◌∷◌, drop, get_or, length, take, String, Result, Ok, Err, ap, refl, sym, subst, ◌∙◌, arith, rules, length-drop}
use Rattle.std.proofs.lemmas.List.{drop-map, take_all}
use Rattle.std.proofs.lemmas.Result.{err_from_is_err_and}
use Rattle.std.specs.Prelude.{string_bytes}
use Rattle.std.specs.Result.{IsErrAnd}
use Rattle.std.specs.declared.alloc.Global.{Global}
use Rattle.metis_tokens.specs.Terms.{and_then}
use Rattle.metis_words.specs.Terms.{ReadsWords, file_count, files_in, form_behind, form_by, form_of, form_with, number_count, numbers_after, size_in, target_limit, targets_in, verb_named, with_verb}
use Rattle.metis_words.specs.declared.words.Verb.{Verb}
use Rattle.metis_words.specs.declared.words.Verb.TheVariants.{Load, Waves}
use Rattle.metis_words.specs.declared.words.WordFault.{WordFault}
use Rattle.metis_words.specs.declared.words.WordFault.TheVariants.{At, NoMemory}
use Rattle.metis_universe.specs.Terms.{texts}

is_behind : (n : ℕ) (words : List (String Global)) → drop n words ≡ take (length words - n) (drop n words)
is_behind n words = sym (take_all (length words - n) (drop n words) (omega (arith, length-drop n words)))

pub first_word : (words : List (String Global)) (word : String Global) → 1 ≤ length words → word ≡ get_or words 0 word
    → form_of (texts words) ≡ with_verb (verb_named (string_bytes word)) (texts (take (length words - 1) (drop 1 words)))
first_word [] word low is = absurd (omega arith)
first_word (w ∷ words) word low is = (λ i. with_verb (verb_named (string_bytes (sym is i))) (texts (is_behind 1 (w ∷ words) i)))

-- a word that does not fit stops what goes on behind it
pub stops : {A B X Y : Type 0} (r : Result B WordFault) (fault : WordFault) (meaning : Result X ℕ) (next : X → Result Y ℕ) (view : A → X) (view' : B → Y) → IsErrAnd r (λ e. e ≡ fault)
    → ReadsWords view (Err fault) meaning → ReadsWords view' r (and_then meaning next)
stops r fault meaning next view view' err is = let stop = err_from_is_err_and r err in subst (λ r. ReadsWords view' r (and_then meaning next)) (sym (stop.1 ∙ ap Err stop.2)) (at fault is) where
  at : (fault : WordFault) → ReadsWords view (Err fault) meaning → ReadsWords view' (Err fault) (and_then meaning next)
  at (At place) is = ap (λ r. and_then r next) is
  at NoMemory is = tt

module _ (verb : Verb) (words files : List (String Global)) (count : ℕ) (counts : count ≡ file_count verb) (read : files_in count (texts words) ≡ Ok (texts files)) where
  abbrev rest : List (List ℕ)
  rest = texts (take (length words - count) (drop count words))

  behind_files : form_with verb (texts words) ≡ form_behind verb (texts files) rest
  behind_files =
      (λ i. and_then (files_in (sym counts i) (texts words)) (λ files. form_behind verb files (drop (sym counts i) (texts words))))
      ∙ ap (λ f. and_then f (λ files. form_behind verb files (drop count (texts words)))) read
      ∙ ap (form_behind verb (texts files)) (drop-map (λ text. string_bytes text) count words ∙ ap texts (is_behind count words))

  pub sized : verb ≡ Load → form_with verb (texts words) ≡ and_then (size_in rest) (λ size. Ok (form_by verb (texts files) [] size []))
  sized is = behind_files ∙ subst (λ v. form_behind v (texts files) rest ≡ and_then (size_in rest) (λ size. Ok (form_by v (texts files) [] size []))) (sym is) refl

  pub numbered : verb ≡ Waves → (n : ℕ) → n ≡ number_count verb → form_with verb (texts words) ≡ and_then (numbers_after [] (count + 2) n rest) (λ numbers. Ok (form_by verb (texts files) [] 0 numbers))
  numbered is n row =
      behind_files ∙ subst (λ v. form_behind v (texts files) rest ≡ and_then (numbers_after [] (file_count v + 2) (number_count v) rest) (λ numbers. Ok (form_by v (texts files) [] 0 numbers))) (sym is) refl
      ∙ (λ i. and_then (numbers_after [] (sym counts i + 2) (sym row i) rest) (λ numbers. Ok (form_by verb (texts files) [] 0 numbers)))

  pub aimed : (verb ≡ Load → ⊥) → (verb ≡ Waves → ⊥) → (n : ℕ) → n ≡ target_limit verb → form_with verb (texts words) ≡ and_then (targets_in (count + 2) n rest) (λ targets. Ok (form_by verb (texts files) targets 0 []))
  aimed no_load no_waves n row =
      let at : form_behind verb (texts files) rest ≡ and_then (targets_in (file_count verb + 2) (target_limit verb) rest) (λ targets. Ok (form_by verb (texts files) targets 0 [])) = search rules in
      behind_files ∙ at ∙ (λ i. and_then (targets_in (sym counts i + 2) (sym row i) rest) (λ targets. Ok (form_by verb (texts files) targets 0 [])))
