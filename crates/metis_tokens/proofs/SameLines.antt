-- Bytes are cut into lines in one way.
use Rattle.std.proofs.Common.{◌≡◌, ◌≢◌, ℕ, true, not, List, [], ◌∷◌, ◌++◌, length, sym, ap, ◌∙◌, append_assoc, refl, arith}
use Rattle.std.specs.Bool.{◌==◌}
use Rattle.std.specs.List.{All, after_first}
use Rattle.std.proofs.lemmas.Bool.Decides.{nat_tests}
use Rattle.std.proofs.lemmas.List.Elements.{All-head, All-tail, All-weaker}
use Rattle.std.proofs.lemmas.List.Sums.{list_all-from_AllPass}
use Rattle.metis_outside.proofs.Feeds.{no_feed}
use Rattle.metis_outside.specs.Terms.{IsLine, bytes_of}
use Rattle.metis_tokens.specs.Terms.{fault_at, is_feed}
use Rattle.metis_tokens.specs.declared.flaw.Flaw.{Flaw}
use Rattle.metis_tokens.specs.declared.flaw.Flaw.TheVariants.{Form, Number, Name}
use Rattle.metis_tokens.proofs.Cuts.{after_cut}

is_other : (b : ℕ) → b ≢ 10 → not (b == 10) ≡ true
is_other b h = grind (arith, nat_tests)

pub no_feed-from_All : (bytes : List ℕ) → All (λ b. b ≢ 10) bytes → no_feed bytes ≡ true
no_feed-from_All bytes none = list_all-from_AllPass (λ b. not (b == 10)) bytes (All-weaker (λ b. b ≢ 10) (λ b. not (b == 10) ≡ true) is_other bytes none)

behind_line : (line rest : List ℕ) → IsLine line → after_first is_feed (line ++ rest) ≡ rest
behind_line line rest is =
    ap (λ l. after_first is_feed (l ++ rest)) is.ends
    ∙ ap (after_first is_feed) (append_assoc is.front (10 ∷ []) rest)
    ∙ after_cut is_feed is.front 10 rest (no_feed-from_All is.front is.no_other) refl

-- where as many lines are a front of lines, nothing is left
pub same_lines : (xs ys : List (List ℕ)) (rest : List ℕ) → All IsLine xs → All IsLine ys → length xs ≡ length ys → bytes_of xs ≡ bytes_of ys ++ rest → [] ≡ rest
same_lines [] [] rest one two many same = same
same_lines [] (y ∷ ys) rest one two many same = absurd (omega (arith, many))
same_lines (x ∷ xs) [] rest one two many same = absurd (omega (arith, many))
same_lines (x ∷ xs) (y ∷ ys) rest one two many same =
    let fewer : length xs ≡ length ys = omega (arith, many) in
    let behind = sym (behind_line x (bytes_of xs) (All-head IsLine x xs one)) ∙ ap (after_first is_feed) (same ∙ append_assoc y (bytes_of ys) rest) ∙ behind_line y (bytes_of ys ++ rest) (All-head IsLine y ys two) in
    same_lines xs ys rest (All-tail IsLine x xs one) (All-tail IsLine y ys two) fewer behind

-- a fault tells its line
pub fault_line : (m n : ℕ) (one two : Flaw) → fault_at m one ≡ fault_at n two → m ≡ n
fault_line m n Form Form h = cc
fault_line m n Form Number h = cc
fault_line m n Form Name h = cc
fault_line m n Number Form h = cc
fault_line m n Number Number h = cc
fault_line m n Number Name h = cc
fault_line m n Name Form h = cc
fault_line m n Name Number h = cc
fault_line m n Name Name h = cc
