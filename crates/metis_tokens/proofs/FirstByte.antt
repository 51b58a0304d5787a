-- The first place of a byte, as a search of the bytes gives it.
use Rattle.std.proofs.Common.{◌≡◌, ℕ, nat_lt, Bool, true, false, cond, List, length, get_or, position, Option, Some, None, refl, sym, ap, ◌∙◌, arith}
use Rattle.std.proofs.lemmas.Bool.{false_from_ne_true, le-ltb}
use Rattle.std.proofs.lemmas.List.Sums.{position_or_len_is}
use Rattle.memchr.specs.Find.{IsFirstByte}
use Rattle.metis_ids.proofs.Finding.{position_here}

pub first_byte : (test : ℕ → Bool) (bytes : List ℕ) (found : Option ℕ) → IsFirstByte test bytes found → found ≡ position test bytes
first_byte test bytes None nowhere =
    let all = position_or_len_is test bytes (length bytes) 0 (omega arith) (λ k low. false_from_ne_true (test (get_or bytes k 0)) (nowhere k (omega arith) low)) (λ more. absurd (omega arith)) in
    sym ((λ i. cond (nat_lt (all i) (length bytes)) (Some (all i)) None) ∙ ap (λ b. cond b (Some (length bytes)) None) (le-ltb (length bytes) (length bytes) (omega arith)))
first_byte test bytes (Some k) first =
    sym (position_here test bytes k 0 first.0.high first.1 (λ i low. false_from_ne_true (test (get_or bytes i 0)) (first.0.before i (omega arith) low)))
