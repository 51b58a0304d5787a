use Rattle.std.proofs.Common.{◌≡◌, ◌+◌, ◌^◌, ◌≤◌, get_or, drop, true, sym, ap, ◌∙◌, arith}
use Rattle.std.specs.Char.{is_ascii_digit}
use Rattle.metis_tokens.specs.Terms.{value_after}
use Rattle.metis_tokens.proofs.NumberRead.{digit_passed, digit_taken}
use Rattle.metis_tokens.proofs.tokens.value_in.Goals.{then-value-lt-NUMBERS, else-value-lt-NUMBERS}
use Rattle.metis_tokens.proofs.tokens.value_in.Goals as goal

pub loop-byte-preserved : goal.loop-byte-preserved
loop-byte-preserved c =
    let t = c.args.digits.now in
    let n = c.loop-byte.value in
    let k = c.loop-byte.byte-index in
    let within = c.loop-byte-test.true in
    let is : is_ascii_digit (get_or t k 0) ≡ true = sym c.is_ascii_digit.ensures.value ∙ c.if-not-is_ascii_digit.false in
    elim c.if-value-lt-NUMBERS.branch [
      | then-value-lt-NUMBERS w ↦ ap (λ v. value_after v (drop (k + 1) t)) w.value-is ∙ digit_taken t n k within is ∙ c.loop-byte.invariant
      | else-value-lt-NUMBERS w ↦ let large : 2 ^ 32 ≤ n = omega arith in ap (λ v. value_after v (drop (k + 1) t)) w.value-is ∙ digit_passed t n k within is large ∙ c.loop-byte.invariant
    ]
