-- The bytes of an explanation's text, part by part.
--     rest_bytes u lines, counted_bytes u lines, body_bytes u lacks lines      those behind the count of the lines;  with this count;  and all but the first line
use Rattle.std.proofs.Common.{◌≡◌, ℕ, List, [], ◌∷◌, ◌++◌, length, map, refl, ap, ◌∙◌, append-nil}
use Rattle.std.proofs.lemmas.List.Folds.{concat-append}
use Rattle.std.specs.List.{flat_map}
use Rattle.metis_ids.specs.declared.goals.Goal.{Goal}
use Rattle.metis_outside.specs.Terms.{bytes_of}
use Rattle.metis_tokens.specs.Terms.{end_line}
use Rattle.metis_universe.specs.Terms.{Universe}
use Rattle.metis_why.specs.declared.reason.Line.{Line}
use Rattle.metis_why_text.specs.Terms.{count_line, lacks_line, line_text, why_bytes, why_header}

abbrev pub rest_bytes : Universe → List Line → List ℕ
rest_bytes u lines = flat_map (line_text u) lines ++ end_line

abbrev pub counted_bytes : Universe → List Line → List ℕ
counted_bytes u lines = count_line (length lines) ++ rest_bytes u lines

abbrev pub body_bytes : Universe → Goal → List Line → List ℕ
body_bytes u lacks lines = lacks_line u lacks ++ counted_bytes u lines

bytes_of-map : (text : Line → List ℕ) (lines : List Line) → bytes_of (map text lines) ≡ flat_map text lines
bytes_of-map text [] = refl
bytes_of-map text (l ∷ lines) = ap (λ b. text l ++ b) (bytes_of-map text lines)

pub why_bytes_by_parts : (u : Universe) (lacks : Goal) (lines : List Line) → why_bytes u lacks lines ≡ why_header ++ body_bytes u lacks lines
why_bytes_by_parts u lacks lines =
    ap (λ b. why_header ++ (lacks_line u lacks ++ (count_line (length lines) ++ b)))
    (concat-append (map (line_text u) lines) (end_line ∷ []) ∙ ap (λ b. bytes_of (map (line_text u) lines) ++ b) (append-nil end_line) ∙ ap (λ b. b ++ end_line) (bytes_of-map (line_text u) lines))
