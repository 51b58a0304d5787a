-- The bytes of texts, part by part.
--     numbered_bytes text k items      those of lines of items that have numbers
--     rest_bytes u set, set_bytes u set, body_bytes u set lacks      those of a refusal's lines behind the count of its pairs;  with this count;  and all but the first line
use Rattle.std.proofs.Common.{◌≡◌, ℕ, List, [], ◌∷◌, ◌++◌, length, map, refl, ap, ◌∙◌, append-nil}
use Rattle.std.proofs.lemmas.List.Folds.{concat-append}
use Rattle.std.specs.List.{flat_map}
use Rattle.metis_ids.specs.declared.goals.Goal.{Goal}
use Rattle.metis_ids.specs.Terms.{Plan}
use Rattle.metis_outside.specs.Terms.{bytes_of}
use Rattle.metis_universe.specs.Terms.{Universe}
use Rattle.metis_tokens.specs.Terms.{end_line, numbered}
use Rattle.metis_text.specs.Terms.{action_lines, counts_of, dup_lines, lacks_line, pair_line, pairs_line, plan_bytes, plan_end, plan_header, refusal_bytes, refusal_header}

abbrev pub numbered_bytes : {X : Type 0} → (ℕ → X → List ℕ) → ℕ → List X → List ℕ
numbered_bytes text k xs = bytes_of (numbered text k xs)

abbrev pub rest_bytes : Universe → List ℕ → List ℕ
rest_bytes u set = flat_map (pair_line u) set ++ end_line

abbrev pub set_bytes : Universe → List ℕ → List ℕ
set_bytes u set = pairs_line (length set) ++ rest_bytes u set

abbrev pub body_bytes : Universe → List ℕ → Goal → List ℕ
body_bytes u set lacks = lacks_line u lacks ++ set_bytes u set

-- lines, and the last line
bytes_of-last : (lines : List (List ℕ)) (last : List ℕ) → bytes_of (lines ++ last ∷ []) ≡ bytes_of lines ++ last
bytes_of-last lines last = concat-append lines (last ∷ []) ∙ ap (λ l. bytes_of lines ++ l) (append-nil last)

bytes_of-map : {X : Type 0} (text : X → List ℕ) (xs : List X) → bytes_of (map text xs) ≡ flat_map text xs
bytes_of-map text [] = refl
bytes_of-map text (x ∷ xs) = ap (λ l. text x ++ l) (bytes_of-map text xs)

pub plan_bytes_by_parts : (u : Universe) (p : Plan) (after : List (List ℕ))
    → plan_bytes u p after ≡ plan_header ++ (counts_of p ++ (bytes_of (action_lines u p.actions after) ++ (bytes_of (dup_lines u p.dups) ++ end_line)))
plan_bytes_by_parts u p after =
    let actions = action_lines u p.actions after in
    ap (λ l. plan_header ++ (counts_of p ++ l)) (concat-append actions (plan_end u p.dups) ∙ ap (λ l. bytes_of actions ++ l) (bytes_of-last (dup_lines u p.dups) end_line))

pub refusal_bytes_by_parts : (u : Universe) (set : List ℕ) (lacks : Goal) → refusal_bytes u set lacks ≡ refusal_header ++ body_bytes u set lacks
refusal_bytes_by_parts u set lacks =
    ap (λ l. refusal_header ++ (lacks_line u lacks ++ (pairs_line (length set) ++ l))) (bytes_of-last (map (pair_line u) set) end_line ∙ ap (λ l. l ++ end_line) (bytes_of-map (pair_line u) set))
