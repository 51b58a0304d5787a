use Rattle.std.proofs.Common.{◌++◌, ap, ◌∙◌, get_or, refl}
use Rattle.std.specs.Prelude.{codes, decimal, string_bytes}
use Rattle.metis_tokens.proofs.Words.{added_next}
use Rattle.metis_tokens.proofs.numbers.push_numbers.Goals as goal

pub loop-number-preserved : goal.loop-number-preserved
loop-number-preserved c =
    let x = get_or c.args.numbers.now c.loop-number.number-index 0 in
    record {
      text = c.in_ok-push_number.ensures ∙ ap (λ l. l ++ (codes " " ++ decimal x)) c.loop-number.invariant.text
          ∙ added_next decimal (string_bytes c.args.line.now) c.args.numbers.now c.loop-number.number-index x 0 c.loop-number-test.true refl;
    }
