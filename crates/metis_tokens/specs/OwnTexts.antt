-- The texts that are the product's own: a header, lines that are taken in one after another, a last line, and nothing behind it.
--     LineRules S F, line_rules ..      of one kind of them, which line is the last one behind what was seen, what is seen with line n, and the faults of line n and of an end that is missing
--     pieces bytes, whole_lines pieces, last_piece pieces      what stands between the line feeds;  the lines that end with one;  what stands behind the last of them
--     end_from t whole seen n lines rest      line n and what stands behind it: nothing, once the last line was read
--     lines_from t whole seen n lines rest      the lines from line n on, and what stands behind the last of them
--     text_from header t whole seen lines rest      the same from the header on
--     own_text header t whole seen bytes      what the bytes say
--     TakesAs memory result seen meaning      what was taken in is what was meant, unless memory ran out
use Rattle.std.specs.Prelude.{◌≡◌, ◌≢◌, ℕ, ◌+◌, ◌-◌, ◌==◌, ◌&&◌, Bool, List, [], ◌∷◌, length, take, Result, Ok, Err, if◌then◌else◌}
use Rattle.std.specs.List.{slice_index_or, slice_split}
use Rattle.std.specs.Str.{bytes_eq}
use Rattle.metis_tokens.specs.Cursor.{is_feed}
use Rattle.metis_tokens.specs.Flaws.{and_then}

pub record LineRules (S F : Type 0) : Type 0 where
  pub is_last : S → List ℕ → Bool
  pub with_line : ℕ → S → List ℕ → Result S F
  pub of_line : ℕ → F
  pub short : F

abbrev pub line_rules : {S F : Type 0} → (S → List ℕ → Bool) → (ℕ → S → List ℕ → Result S F) → (ℕ → F) → F → LineRules S F
line_rules is_last with_line of_line short = record { is_last = is_last; with_line = with_line; of_line = of_line; short = short }

abbrev pub pieces : List ℕ → List (List ℕ)
pieces bytes = slice_split is_feed bytes

abbrev pub whole_lines : List (List ℕ) → List (List ℕ)
whole_lines pieces = take (length pieces - 1) pieces

abbrev pub last_piece : List (List ℕ) → List ℕ
last_piece pieces = slice_index_or pieces (length pieces - 1) []

abbrev pub end_from : {S R F : Type 0} → LineRules S F → (S → R) → S → ℕ → List (List ℕ) → List ℕ → Result R F
end_from t whole seen n lines rest = if (length lines == 0) && (length rest == 0) then Ok (whole seen) else Err (t.of_line n)

abbrev pub lines_from : {S R F : Type 0} → LineRules S F → (S → R) → S → ℕ → List (List ℕ) → List ℕ → Result R F
lines_from t whole seen n [] rest = Err t.short
lines_from t whole seen n (line ∷ lines) rest =
    if t.is_last seen line then end_from t whole seen (n + 1) lines rest
    else and_then (t.with_line n seen line) (λ s. lines_from t whole s (n + 1) lines rest)

abbrev pub text_from : {S R F : Type 0} → List ℕ → LineRules S F → (S → R) → S → List (List ℕ) → List ℕ → Result R F
text_from header t whole seen [] rest = Err t.short
text_from header t whole seen (first ∷ lines) rest = if bytes_eq first header then lines_from t whole seen 2 lines rest else Err (t.of_line 1)

abbrev pub own_text : {S R F : Type 0} → List ℕ → LineRules S F → (S → R) → S → List ℕ → Result R F
own_text header t whole seen bytes = text_from header t whole seen (whole_lines (pieces bytes)) (last_piece (pieces bytes))

abbrev pub TakesAs : {X Y F : Type 0} → F → Result Y F → X → Result X F → Type 0
TakesAs memory (Ok y) x meaning = meaning ≡ Ok x
TakesAs memory (Err fault) x meaning = fault ≢ memory → meaning ≡ Err fault
