-- Lists of words that are lent.
use Rattle.std.proofs.Common.{◌≡◌, ℕ, ◌-◌, ◌<◌, ◌≤◌, Bool, ◌&&◌, List, [], ◌∷◌, map, Bor, refl, ap, arith, drop, get_or, length, take}
use Rattle.std.specs.List.{list_all}
use Rattle.std.proofs.lemmas.List.{take_rest}

-- a test of each word
pub list_all-texts : (p : List ℕ → Bool) (ts : List (Bor (List ℕ))) → list_all (λ (t : Bor (List ℕ)). p t.now) ts ≡ list_all p (map (λ t. t.now) ts)
list_all-texts p [] = refl
list_all-texts p (t ∷ ts) = ap (λ b. p t.now && b) (list_all-texts p ts)

-- the word where there is none
abbrev pub no_word : Bor (List ℕ)
no_word = record { ref_ptr = (0, 0); now = [] }

-- ---- lists that a pattern takes apart

pub one_word : (ts : List (Bor (List ℕ))) (d : Bor (List ℕ)) → 1 ≤ length ts → length ts < 2 → (get_or ts 0 d).now ∷ [] ≡ map (λ t. t.now) ts
one_word [] d least below = absurd (omega (arith, least))
one_word (a ∷ []) d least below = refl
one_word (a ∷ b ∷ ts) d least below = absurd (omega (arith, below))

pub two_words : (ts : List (Bor (List ℕ))) (d : Bor (List ℕ)) → 2 ≤ length ts → length ts < 3 → (get_or ts 0 d).now ∷ (get_or ts 1 d).now ∷ [] ≡ map (λ t. t.now) ts
two_words [] d least below = absurd (omega (arith, least))
two_words (a ∷ []) d least below = absurd (omega (arith, least))
two_words (a ∷ b ∷ []) d least below = refl
two_words (a ∷ b ∷ c ∷ ts) d least below = absurd (omega (arith, below))

pub first_word : (ts : List (Bor (List ℕ))) (d : Bor (List ℕ)) → 1 ≤ length ts → (get_or ts 0 d).now ∷ map (λ t. t.now) (take (length ts - 1) (drop 1 ts)) ≡ map (λ t. t.now) ts
first_word [] d least = absurd (omega (arith, least))
first_word (a ∷ ts) d least = ap (λ l. a.now ∷ map (λ t. t.now) l) (take_rest (a ∷ ts) 1)
