-- Where a list is cut at its first element that passes a test, and how the tokens of a line are cut at its spaces.
use Rattle.std.proofs.Common.{◌≡◌, ℕ, suc, ◌+◌, Bool, true, false, cond, not, List, [], ◌∷◌, ◌++◌, length, take, drop, position, Some, None, refl, ap, ◌∙◌, arith}
use Rattle.std.specs.Bool.{nat_lt, ◌==◌}
use Rattle.std.specs.List.{All, after_first, before_first, list_all, position_or_len}
use Rattle.std.proofs.lemmas.Bool.{and_from, and_parts, lt-ltb}
use Rattle.std.proofs.lemmas.Bool.Decides.{nat_tests}
use Rattle.std.proofs.lemmas.List.{length-append, take_at}
use Rattle.std.proofs.lemmas.List.Elements.{All-weaker}
use Rattle.std.proofs.lemmas.List.Folds.{list_all-append}
use Rattle.std.proofs.lemmas.List.Splits.{join_with_byte-slice_split, slice_split_at, slice_split_none}
use Rattle.std.proofs.lemmas.List.Sums.{AllPass-from_list_all}
use Rattle.metis_tokens.specs.Terms.{is_space, tokens, words}
use Rattle.metis_tokens.proofs.Printed.{all_weaker, printed}

module _ (p : ℕ → Bool) (xs : List ℕ) (y : ℕ) (ys : List ℕ) where
  first_at : list_all (λ x. not (p x)) xs ≡ true → p y ≡ true → position_or_len p (xs ++ y ∷ ys) ≡ length xs
  first_at none at = walk xs none where
    walk : (xs : List ℕ) → list_all (λ x. not (p x)) xs ≡ true → position_or_len p (xs ++ y ∷ ys) ≡ length xs
    walk [] none = ap (λ b. cond (not b) (1 + position_or_len p ys) 0) at
    walk (x ∷ xs) none =
        let both = and_parts (not (p x)) (list_all (λ x. not (p x)) xs) none in
        let rest = walk xs both.1 in
        ap (λ b. cond b (1 + position_or_len p (xs ++ y ∷ ys)) 0) both.0 ∙ omega arith

  module _ (none : list_all (λ x. not (p x)) xs ≡ true) (at : p y ≡ true) where
    pub before_cut : before_first p (xs ++ y ∷ ys) ≡ xs
    before_cut = ap (λ n. take n (xs ++ y ∷ ys)) (first_at none at) ∙ take_at xs (y ∷ ys) (length xs) refl

    pub after_cut : after_first p (xs ++ y ∷ ys) ≡ ys
    after_cut = ap (λ n. drop (n + 1) (xs ++ y ∷ ys)) (first_at none at) ∙ past xs where
      past : (xs : List ℕ) → drop (length xs + 1) (xs ++ y ∷ ys) ≡ ys
      past [] = refl
      past (x ∷ xs) = let next : suc (length xs) + 1 ≡ suc (length xs + 1) = omega arith in ap (λ n. drop n (x ∷ xs ++ y ∷ ys)) next ∙ past xs

    pub cut_at : position p (xs ++ y ∷ ys) ≡ Some (length xs)
    cut_at =
        let long = length-append xs (y ∷ ys) in
        let first = first_at none at in
        let within : nat_lt (length xs) (length (xs ++ y ∷ ys)) ≡ true = lt-ltb _ _ (omega (arith, long)) in
        (λ i. cond (nat_lt (first i) (length (xs ++ y ∷ ys))) (Some (first i)) None) ∙ ap (λ b. cond b (Some (length xs)) None) within

-- ---- the tokens of a line

pub not_space : (b : ℕ) → nat_lt 32 b ≡ true → is_space b ≡ false
not_space b h = grind (arith, nat_tests)

pub no_space : (t : List ℕ) → printed t ≡ true → All (λ b. is_space b ≡ false) t
no_space t h = All-weaker (λ b. nat_lt 32 b ≡ true) (λ b. is_space b ≡ false) not_space t (AllPass-from_list_all (nat_lt 32) t h)

-- printed tokens are those of the line of their words
pub tokens_of_words : (t : List ℕ) (ts : List (List ℕ)) → list_all printed (t ∷ ts) ≡ true → tokens (words (t ∷ ts)) ≡ t ∷ ts
tokens_of_words t [] h = slice_split_none is_space t (no_space t (and_parts (printed t) true h).0)
tokens_of_words t (u ∷ ts) h =
    let both = and_parts (printed t) (list_all printed (u ∷ ts)) h in
    slice_split_at is_space t 32 (words (u ∷ ts)) (no_space t both.0) refl ∙ ap (λ l. t ∷ l) (tokens_of_words u ts both.1)

-- a line has the words of its tokens
pub words_of_tokens : (line : List ℕ) → words (tokens line) ≡ line
words_of_tokens line = join_with_byte-slice_split 32 line

-- ---- no line feed

not_feed : (b : ℕ) → nat_lt 32 b ≡ true → not (b == 10) ≡ true
not_feed b h = grind (arith, nat_tests)

token_no_feed : (t : List ℕ) → printed t ≡ true → list_all (λ b. not (b == 10)) t ≡ true
token_no_feed t h = all_weaker (nat_lt 32) (λ b. not (b == 10)) not_feed t h

pub words_no_feed : (ts : List (List ℕ)) → list_all printed ts ≡ true → list_all (λ b. not (b == 10)) (words ts) ≡ true
words_no_feed [] h = refl
words_no_feed (t ∷ []) h = token_no_feed t (and_parts (printed t) true h).0
words_no_feed (t ∷ u ∷ ts) h =
    let both = and_parts (printed t) (list_all printed (u ∷ ts)) h in
    list_all-append (λ b. not (b == 10)) t (32 ∷ words (u ∷ ts)) ∙ and_from _ _ (token_no_feed t both.0) (words_no_feed (u ∷ ts) both.1)
