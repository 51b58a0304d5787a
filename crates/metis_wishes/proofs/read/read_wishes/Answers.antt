use Rattle.std.proofs.Common.{◌≡◌, ◌∙◌, ap, sym, arith, codes, Bor, List, ℕ, Ok, length, map}
use Rattle.std.proofs.lemmas.List.{length-map}
use Rattle.metis_tokens.specs.Terms.{last_piece, pieces, text_from, whole_lines}
use Rattle.metis_wishes.specs.Terms.{wish_lines}
use Rattle.metis_wishes.proofs.Lines.{few_wishes}
use Rattle.metis_wishes.proofs.read.read_wishes.Goals as goal

abbrev bytes : Bor (List ℕ) → List ℕ
bytes piece = piece.now

pub returns-clause-few : goal.returns-clause-few
returns-clause-few c =
    let ps = map bytes c.deref.result.now in
    let start = ap (λ ws. text_from (codes "metis wishes 1") (wish_lines c.args.u.now) (λ w. w) ws (whole_lines ps) (last_piece ps)) (sym c.new.ensures.items) in
    omega (arith, few_wishes c.args.u.now ps c.read_own.new.seen (start ∙ c.in_ok-read_own.ensures), ap length c.wishes.view_is, length-map c.deref.result.now bytes, ap length c.deref.ensures.value, c.in_ok-pieces.ensures.few, c.requires)

pub returns-clause-read : goal.returns-clause-read
returns-clause-read c =
    let cut : map bytes c.deref.result.now ≡ pieces c.args.bytes.now = ap (map bytes) c.deref.ensures.value ∙ c.in_ok-pieces.ensures.pieces in
    (λ i. text_from (codes "metis wishes 1") (wish_lines c.args.u.now) (λ w. w) (sym c.new.ensures.items i) (whole_lines (sym cut i)) (last_piece (sym cut i)))
    ∙ c.in_ok-read_own.ensures ∙ ap (λ ws. Ok ws) (sym c.wishes.view_is)
