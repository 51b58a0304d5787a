-- A line that is read is followed by a line feed, and what is left stands behind it.
use Rattle.std.proofs.Common.{◌≡◌, ℕ, ◌+◌, true, not, List, [], ◌∷◌, ◌++◌, length, get_or, take, drop, position, Option, Some, None, Result, Ok, refl, sym, ap, ◌∙◌, append_assoc}
use Rattle.std.specs.Bool.{◌==◌}
use Rattle.std.specs.List.{list_all}
use Rattle.std.proofs.lemmas.Bool.{eqb-true}
use Rattle.std.proofs.lemmas.List.{drop_at, drop_more, length_push, take_at, take-append-drop}
use Rattle.std.proofs.lemmas.List.Quantifiers.{position-Some}
use Rattle.metis_tokens.specs.Terms.{Cursor, and_then, is_feed, line, line_to, lines_of, made, next_line, read_next, told, words}
use Rattle.metis_tokens.specs.declared.flaw.Flaw.{Flaw}
use Rattle.metis_tokens.proofs.Cuts.{cut_at, words_no_feed}
use Rattle.metis_tokens.proofs.Outcomes.{and_then_is, made_is, told_is}
use Rattle.metis_tokens.proofs.Printed.{printed}

line_to_is : (l : Cursor) (o : Option ℕ) (p : List ℕ × Cursor) → position is_feed l.rest ≡ o → line_to l o ≡ Ok p → l.rest ≡ p.0 ++ (10 ∷ p.1.rest)
line_to_is l None p at h = cc
line_to_is l (Some end) p at h =
    let here = position-Some is_feed l.rest end 0 at in
    let is : (take end l.rest, lines_of (drop (end + 1) l.rest) (l.number + 1)) ≡ p = cc in
    let feed : get_or l.rest end 0 ≡ 10 = eqb-true (get_or l.rest end 0) 10 here.1 in
    sym (take-append-drop end l.rest) ∙ ap (λ r. take end l.rest ++ r) (drop_more l.rest end 0 here.0 ∙ ap (λ b. b ∷ drop (end + 1) l.rest) feed) ∙ (λ i. (is i).0 ++ (10 ∷ (is i).1.rest))

-- a line that was read is said by its bytes, with a line feed behind them
pub read_next_is : {A : Type 0} (read : List ℕ → Result A Flaw) (l : Cursor) (p : A × Cursor) → read_next read l ≡ Ok p → (bytes : List ℕ) × (read bytes ≡ Ok p.0) × (l.rest ≡ bytes ++ (10 ∷ p.1.rest))
read_next_is read l p h =
    let next = and_then_is (next_line l) (λ p. made (λ a. (a, p.1)) (told p.1 (read p.0))) p h in
    let value = made_is (λ a. (a, next.0.1)) (told next.0.1 (read next.0.0)) p next.2 in
    (next.0.0, told_is next.0.1 (read next.0.0) p.0 (value.1 ∙ ap (λ p. Ok p.0) value.2), line_to_is l (position is_feed l.rest) next.0 refl next.1 ∙ ap (λ p. next.0.0 ++ (10 ∷ p.1.rest)) value.2)

pub next_is : (bytes rest : List ℕ) (n : ℕ) → list_all (λ b. not (b == 10)) bytes ≡ true → next_line (lines_of (bytes ++ (10 ∷ rest)) n) ≡ Ok (bytes, lines_of rest (n + 1))
next_is bytes rest n no_feed =
    let all = bytes ++ (10 ∷ rest) in
    let past : drop (length bytes + 1) all ≡ rest = ap (drop (length bytes + 1)) (sym (append_assoc bytes (10 ∷ []) rest)) ∙ drop_at (bytes ++ 10 ∷ []) rest (length bytes + 1) (length_push bytes 10) in
    ap (line_to (lines_of all n)) (cut_at is_feed bytes 10 rest no_feed refl) ∙ (λ i. Ok (take_at bytes (10 ∷ rest) (length bytes) refl i, lines_of (past i) (n + 1)))

-- the line of printed tokens is read where its bytes are
pub read_next_read : {A : Type 0} (read : List ℕ → Result A Flaw) (ts : List (List ℕ)) (rest : List ℕ) (n : ℕ) (a : A) → list_all printed ts ≡ true → read (words ts) ≡ Ok a
    → read_next read (lines_of (line ts ++ rest) n) ≡ Ok (a, lines_of rest (n + 1))
read_next_read read ts rest n a print is =
    let behind = λ (p : List ℕ × Cursor). made (λ a. (a, p.1)) (told p.1 (read p.0)) in
    ap (λ bytes. and_then (next_line (lines_of bytes n)) behind) (append_assoc (words ts) (10 ∷ []) rest)
    ∙ ap (λ r. and_then r behind) (next_is (words ts) rest n (words_no_feed ts print))
    ∙ ap (λ r. made (λ a. (a, lines_of rest (n + 1))) (told (lines_of rest (n + 1)) r)) is

-- a line, a text of others and what stands behind, in a row
pub line_and_rest : (ts : List (List ℕ)) (others rest : List ℕ) → words ts ++ (10 ∷ (others ++ rest)) ≡ (line ts ++ others) ++ rest
line_and_rest ts others rest = sym (append_assoc (words ts) (10 ∷ []) (others ++ rest)) ∙ sym (append_assoc (line ts) others rest)

-- ---- the number of the line that was read last

line_to_number : (l : Cursor) (o : Option ℕ) (p : List ℕ × Cursor) → line_to l o ≡ Ok p → p.1.number ≡ l.number + 1
line_to_number l None p h = cc
line_to_number l (Some end) p h = let is : (take end l.rest, lines_of (drop (end + 1) l.rest) (l.number + 1)) ≡ p = cc in sym (ap (λ p. p.1.number) is)

pub read_next_number : {A : Type 0} (read : List ℕ → Result A Flaw) (l : Cursor) (p : A × Cursor) → read_next read l ≡ Ok p → p.1.number ≡ l.number + 1
read_next_number read l p h =
    let next = and_then_is (next_line l) (λ p. made (λ a. (a, p.1)) (told p.1 (read p.0))) p h in
    let value = made_is (λ a. (a, next.0.1)) (told next.0.1 (read next.0.0)) p next.2 in
    sym (ap (λ p. p.1.number) value.2) ∙ line_to_number l (position is_feed l.rest) next.0 next.1
