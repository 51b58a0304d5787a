-- Lines of text.
--     words tokens      the tokens with one space between each two
--     line tokens      the same, and a line feed
--     end_line      the last line of each text
--     added tokens      each token with a space before it
--     numbered text k items      a line for each item, where the items have numbers and the first one has number k
use Rattle.std.specs.Prelude.{ℕ, ◌+◌, List, [], ◌∷◌, ◌++◌, codes}
use Rattle.std.specs.List.{flat_map, join_with_byte}

abbrev pub words : List (List ℕ) → List ℕ
words tokens = join_with_byte 32 tokens

abbrev pub line : List (List ℕ) → List ℕ
line tokens = words tokens ++ codes "\n"

abbrev pub added : List (List ℕ) → List ℕ
added tokens = flat_map (λ t. codes " " ++ t) tokens

abbrev pub numbered : {X : Type 0} → (ℕ → X → List ℕ) → ℕ → List X → List (List ℕ)
numbered text k [] = []
numbered text k (x ∷ xs) = text k x ∷ numbered text (k + 1) xs

-- the last line of each text
abbrev pub end_line : List ℕ
end_line = line (codes "end" ∷ [])
