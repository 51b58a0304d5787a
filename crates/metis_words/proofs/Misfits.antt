-- The first word that does not fit.
use Rattle.std.proofs.Common.{◌≡◌, ℕ, ◌+◌, ◌<◌, ◌≤◌, Bool, true, false, not, ◌&&◌, List, [], ◌∷◌, ◌++◌, length, map, take, get_or, Some, None, Err, Option, Result, option_map, refl, sym, subst, ap, ◌∙◌, arith, add-one, nat_eq}
use Rattle.std.proofs.Math.Dec.{eqb-suc-zero}
use Rattle.std.proofs.lemmas.Bool.{false≢true, lt-ltb, ltb_from_iff}
use Rattle.std.proofs.lemmas.List.Elements.{filter_map-append}
use Rattle.std.proofs.lemmas.List.{map_push, take-map}
use Rattle.std.proofs.lemmas.Option.{slice_get-get_or, slice_get-map, slice_get_past}
use Rattle.std.specs.List.{filter_map, find, list_any, range_with_len, slice_get}
use Rattle.std.proofs.lemmas.Result.{err_from_is_err_and}
use Rattle.std.specs.Prelude.{is_some}
use Rattle.std.specs.Option.{ok_or, option_map_or}
use Rattle.std.specs.Result.{IsErrAnd}
use Rattle.metis_words.specs.Terms.{ReadsWords, TargetName, file_fits, fits_after, is_dash, target_fits, target_of, unless_misfit}
use Rattle.metis_words.specs.declared.words.WordFault.{WordFault}
use Rattle.metis_words.specs.declared.words.WordFault.TheVariants.{At}
use Rattle.metis_ids.proofs.Finding.{found_in_range}
use Rattle.metis_ids.proofs.Lists.{take_one_more}

pub misfit_at : {X : Type 0} (t : ℕ → Bool) (first n k : ℕ) (x : X) → k < n → find t (range_with_len 0 k) ≡ None → t k ≡ true → unless_misfit first (find t (range_with_len 0 n)) x ≡ Err (first + k)
misfit_at t first n k x low none bad =
    let same : 0 + k ≡ k = omega arith in
    ap (λ o. unless_misfit first o x) (found_in_range t 0 k n none low (ap t same ∙ bad) ∙ ap Some same)

-- a word for which there is nothing stops the reading, at its place
pub stops_at : {X Y Z : Type 0} (r : Result Y WordFault) (o : Option X) (fault : WordFault) (place : ℕ) (view : Y → Z) (meaning : Result Z ℕ) → IsErrAnd r (λ e. e ≡ fault) → Err fault ≡ ok_or o (At place) → o ≡ None → meaning ≡ Err place
    → ReadsWords view r meaning
stops_at {X = X} r o fault place view meaning err told none is =
    let stops = err_from_is_err_and r err in
    let same : Err fault ≡ ok_or {T = X} None (At place) = told ∙ ap (λ o. ok_or o (At place)) none in
    let at : stops.0 ≡ At place = cc in
    subst (λ r. ReadsWords view r meaning) (sym (stops.1 ∙ ap Err at)) is

-- ---- one word

pub fits_dash : (earlier : List (List ℕ)) (word : List ℕ) → is_dash word ≡ true → not (list_any is_dash earlier) ≡ fits_after earlier word
fits_dash earlier [] dash = absurd (false≢true dash)
fits_dash earlier (b ∷ word) dash = ap (λ d. not (d && list_any is_dash earlier)) (sym dash)

pub fits_plain : (earlier : List (List ℕ)) (word : List ℕ) → is_dash word ≡ false → not (nat_eq (length word) 0) ≡ fits_after earlier word
fits_plain earlier [] plain = refl
fits_plain earlier (b ∷ word) plain = ap not (eqb-suc-zero (length word)) ∙ ap (λ d. not (d && list_any is_dash earlier)) (sym plain)

-- ---- words one by one

module _ {A : Type 0} (v : A → List ℕ) (ws : List A) where
  pub word_is : (k : ℕ) (w : A) → k < length ws → w ≡ get_or ws k w → slice_get (map v ws) k ≡ Some (v w)
  word_is k w low at = slice_get-map v ws k ∙ ap (option_map v) (slice_get-get_or ws k w low ∙ ap Some (sym at))

  take_next : (k : ℕ) (w : A) → k < length ws → w ≡ get_or ws k w → take (k + 1) (map v ws) ≡ take k (map v ws) ++ v w ∷ []
  take_next k w low at = rw add-one (take_one_more (map v ws) k (v w) (word_is k w low at))

  pub file_fits_is : (k : ℕ) (w : A) → k < length ws → w ≡ get_or ws k w → file_fits (map v ws) k ≡ fits_after (map v (take k ws)) (v w)
  file_fits_is k w low at = ap (λ o. option_map_or (fits_after (take k (map v ws))) o false) (word_is k w low at) ∙ ap (λ l. fits_after l (v w)) (take-map v k ws)

  pub file_missing : (k : ℕ) → length ws ≤ k → file_fits (map v ws) k ≡ false
  file_missing k past = ap (λ o. option_map_or (fits_after (take k (map v ws))) o false) (slice_get-map v ws k ∙ ap (option_map v) (slice_get_past ws k past))

  -- one more word
  pub texts_next : (k : ℕ) (w : A) (old new : List A) (x : A) → k < length ws → w ≡ get_or ws k w → new ≡ old ++ x ∷ [] → map v old ≡ take k (map v ws) → v x ≡ v w → map v new ≡ take (k + 1) (map v ws)
  texts_next k w old new x low at is before same =
      ap (map v) is ∙ map_push v old x ∙ ap (λ l. l ++ v x ∷ []) before ∙ ap (λ b. take k (map v ws) ++ b ∷ []) same ∙ sym (take_next k w low at)

  pub target_past : (limit k : ℕ) → limit ≤ k → target_fits limit (map v ws) k ≡ false
  target_past limit k past = ap (λ b. b && option_map_or (λ word. is_some (target_of word)) (slice_get (map v ws) k) false) (sym (ltb_from_iff (λ h. absurd (false≢true h), λ low. absurd (omega (arith, past, low)))))

  pub target_fits_is : (limit k : ℕ) (w : A) → k < limit → k < length ws → w ≡ get_or ws k w → target_fits limit (map v ws) k ≡ is_some (target_of (v w))
  target_fits_is limit k w few low at =
      ap (λ b. b && option_map_or (λ word. is_some (target_of word)) (slice_get (map v ws) k) false) (lt-ltb k limit few) ∙ ap (λ o. option_map_or (λ word. is_some (target_of word)) o false) (word_is k w low at)

  pub targets_next : (k : ℕ) (w : A) (old new : List TargetName) (t : TargetName) → k < length ws → w ≡ get_or ws k w → new ≡ old ++ t ∷ [] → old ≡ filter_map target_of (take k (map v ws)) → target_of (v w) ≡ Some t
      → new ≡ filter_map target_of (take (k + 1) (map v ws))
  targets_next k w old new t low at is before found =
      is ∙ ap (λ l. l ++ t ∷ []) before ∙ sym (filter_map-append target_of (take k (map v ws)) (v w ∷ []) ∙ rw found refl) ∙ ap (filter_map target_of) (sym (take_next k w low at))
