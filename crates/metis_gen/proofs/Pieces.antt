-- Lists made of pieces of one length, place after place.
use Rattle.std.proofs.Common.{◌≡◌, ℕ, suc, zero, ◌+◌, ◌*◌, ◌<◌, List, ◌++◌, length, get_or, ap, sym, ◌∙◌, append_assoc, append-nil, length-append, arith}
use Rattle.std.specs.List.{flat_map, range_with_len}
use Rattle.std.proofs.lemmas.List.{get_or_append_left, get_or-append-add}

pub length_pieces : {A : Type 0} (f : ℕ → List A) (w : ℕ) → ((i : ℕ) → length (f i) ≡ w) → (a n : ℕ) → length (flat_map f (range_with_len a n)) ≡ w * n
length_pieces f w each a zero = omega arith
length_pieces f w each a (suc n) = omega (arith, length-append (f a) (flat_map f (range_with_len (a + 1) n)), each a, length_pieces f w each (a + 1) n)

-- element k of the piece of place i
pub piece_at : {A : Type 0} (f : ℕ → List A) (w : ℕ) → ((i : ℕ) → length (f i) ≡ w) → (a n i k : ℕ) (d : A) → i < n → k < w → get_or (flat_map f (range_with_len a n)) (w * i + k) d ≡ get_or (f (a + i)) k d
piece_at f w each a zero i k d li lk = absurd (omega arith)
piece_at f w each a (suc n) zero k d li lk =
    let rest = flat_map f (range_with_len (a + 1) n) in
    let here : w * 0 + k ≡ k = omega arith in
    let first : a ≡ a + 0 = omega arith in
    ap (λ j. get_or (f a ++ rest) j d) here ∙ get_or_append_left (f a) rest d k (omega (arith, each a)) ∙ ap (λ b. get_or (f b) k d) first
piece_at f w each a (suc n) (suc i) k d li lk =
    let rest = flat_map f (range_with_len (a + 1) n) in
    let there : w * suc i + k ≡ length (f a) + (w * i + k) = omega (arith, each a) in
    let place : a + 1 + i ≡ a + suc i = omega arith in
    ap (λ j. get_or (f a ++ rest) j d) there
    ∙ get_or-append-add (f a) rest (w * i + k) d
    ∙ piece_at f w each (a + 1) n i k d (omega arith) lk
    ∙ ap (λ b. get_or (f b) k d) place

-- one place more
pub pieces_more : {A : Type 0} (f : ℕ → List A) (a n j : ℕ) → a + n ≡ j → flat_map f (range_with_len a (n + 1)) ≡ flat_map f (range_with_len a n) ++ f j
pieces_more f a zero j e = let same : a ≡ j = omega arith in append-nil (f a) ∙ ap f same
pieces_more f a (suc n) j e =
    let more : suc n + 1 ≡ suc (n + 1) = omega arith in
    ap (λ m. flat_map f (range_with_len a m)) more
    ∙ ap (λ r. f a ++ r) (pieces_more f (a + 1) n j (omega arith))
    ∙ sym (append_assoc (f a) (flat_map f (range_with_len (a + 1) n)) (f j))
