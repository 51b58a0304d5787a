-- What was written for a universe is read as that universe.
use Rattle.std.proofs.Common.{◌≡◌, ℕ, ◌+◌, ◌-◌, ◌==◌, List, [], ◌∷◌, ◌++◌, length, take, get_or, slice_index, if◌then◌else◌, Some, None, Ok, ap, ◌∙◌, arith}
use Rattle.std.proofs.Math.Seq.{take-append_seam}
use Rattle.std.proofs.lemmas.List.{length_push, get_or-append-add}
use Rattle.std.proofs.lemmas.Str.{is_utf8-from_IsUtf8}
use Rattle.serde_json.specs.Read.{read}
use Rattle.serde_json.specs.Written.{compact_text}
use Rattle.metis_universe.specs.Terms.{IsBySight, IsTable, Universe, or_universe, universe_from}
use Rattle.metis_ujson.specs.Terms.{canonical, document_of, json_of, json_of_text, or_form_fault, or_row_fault, rows_of_universe, rows_or_not_json, universe_in, without_last_newline}
use Rattle.metis_ujson.proofs.Clear.{no_fault}
use Rattle.metis_ujson.proofs.Fitting.{FitRows, rows_fit}
use Rattle.metis_ujson.proofs.Rebuilt.{rebuilt}
use Rattle.metis_ujson.proofs.Spelled.{rows_back}
use Rattle.metis_ujson.proofs.Utf8.{IsUtf8-compact_text, version_low}
use Rattle.metis_ujson.proofs.ValueRead.{read-compact_text}

last_left_off : (text : List ℕ) → without_last_newline (text ++ 10 ∷ []) ≡ text
last_left_off text =
    let n : length (text ++ 10 ∷ []) - 1 ≡ length text = omega (arith, length_push text 10) in
    let whole : length text ≡ length text + 0 = omega arith in
    let last : slice_index (text ++ 10 ∷ []) (length text) ≡ 10 = ap (λ k. get_or (text ++ 10 ∷ []) k 0) whole ∙ get_or-append-add text (10 ∷ []) 0 0 in
    ap (λ k. if slice_index (text ++ 10 ∷ []) k == 10 then take k (text ++ 10 ∷ []) else text ++ 10 ∷ []) n
    ∙ ap (λ b. if b == 10 then take (length text) (text ++ 10 ∷ []) else text ++ 10 ∷ []) last
    ∙ take-append_seam text (10 ∷ [])

module _ (u : Universe) (table : IsTable u) where
  fit : FitRows u.version (rows_of_universe u)
  fit = rows_fit u table.universe

  json_back : json_of (canonical u) ≡ Some (document_of u.version (rows_of_universe u))
  json_back =
      let text = compact_text (document_of u.version (rows_of_universe u)) in
      ap json_of_text (last_left_off text)
      ∙ ap (λ b. if b then read text else None) (is_utf8-from_IsUtf8 text (IsUtf8-compact_text u table.universe table.named))
      ∙ read-compact_text u.version (rows_of_universe u) (version_low u.version table.universe.version) fit

  pub read_back : IsBySight u → universe_in (canonical u) ≡ Ok u
  read_back sights =
      let rows = rows_of_universe u in
      ap (λ o. or_form_fault (rows_or_not_json o)) json_back
      ∙ ap or_form_fault (rows_back u.version table.universe.version rows fit)
      ∙ ap (λ o. or_row_fault (or_universe o (universe_from u.version rows))) (no_fault u table.universe table.named table.limits sights)
      ∙ ap Ok (rebuilt u table.universe table.named sights)
