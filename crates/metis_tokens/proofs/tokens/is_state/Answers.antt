use Rattle.std.proofs.Common.{◌≡◌, ◌<◌, sym, ap, ◌∙◌, arith}
use Rattle.std.proofs.lemmas.Bool.{eqb-true, ltb-true}
use Rattle.std.specs.Str.{bytes_eq}
use Rattle.metis_universe.specs.Terms.{pair_count, type_of}
use Rattle.metis_tokens.proofs.NameTokens.{state_found}
use Rattle.metis_tokens.proofs.tokens.is_state.Goals.{then-pair-pairs, else-pair-pairs}
use Rattle.metis_tokens.proofs.tokens.is_state.Goals as goal

pub returns-then-eq : goal.returns-then-eq
returns-then-eq c = λ is. elim c.if-pair-pairs.branch [
  | then-pair-pairs w ↦
      let low : c.args.pair < pair_count c.args.u.now = omega arith in
      let of : type_of c.args.u.now c.args.pair ≡ c.args.kind = sym w.type_of.ensures.kind ∙ eqb-true w.type_of.result c.args.kind (sym w.eq.ensures ∙ sym w.value-is ∙ c.if-eq.true) in
      state_found c.args.u.now c.keeps_invariant.ensures.named c.args.kind c.args.pair c.args.token.now low of (ap (bytes_eq c.args.token.now) (sym c.state_name.ensures) ∙ sym c.is.ensures ∙ is)
  | else-pair-pairs w ↦ let low : c.pair.inside.0 < c.pairs.result = ltb-true c.pair.inside.0 c.pairs.result (sym w.value-is ∙ c.if-eq.true) in absurd (omega arith)
]
