use Rattle.std.proofs.Common.{◌≡◌, ◌<◌, sym, ap, ◌∙◌, arith}
use Rattle.std.proofs.lemmas.Bool.{eqb-true, ltb-true}
use Rattle.std.proofs.lemmas.Slice.Eq.{bytes_eq-Decides}
use Rattle.std.specs.Str.{bytes_eq}
use Rattle.metis_tokens.proofs.NameTokens.{state_at}
use Rattle.metis_universe.specs.Terms.{pair_count, state_name_of, state_named, type_of}
use Rattle.metis_sim.proofs.actions.is_state.Goals.{then-pair-pairs, else-pair-pairs}
use Rattle.metis_sim.proofs.actions.is_state.Goals as goal

pub returns-then-eq : goal.returns-then-eq
returns-then-eq c = λ is. elim c.if-pair-pairs.branch [
  | then-pair-pairs w ↦
      let u = c.args.u.now in
      let low : c.args.pair < pair_count u = omega arith in
      let of : type_of u c.args.pair ≡ c.args.kind = sym w.type_of.ensures.kind ∙ eqb-true w.type_of.result c.args.kind (sym w.eq.ensures ∙ sym w.value-is ∙ c.if-eq.true) in
      let same : c.args.name.now ≡ state_name_of u c.args.pair =
      (bytes_eq-Decides c.args.name.now (state_name_of u c.args.pair)).0 (ap (bytes_eq c.args.name.now) (sym c.state_name.ensures) ∙ sym c.eq-then-eq.ensures ∙ is) in
      ap (state_named u c.args.kind) same ∙ state_at u c.keeps_invariant.ensures.named c.args.kind c.args.pair low of
  | else-pair-pairs w ↦ let low : c.pair.inside.0 < c.pairs.result = ltb-true c.pair.inside.0 c.pairs.result (sym w.value-is ∙ c.if-eq.true) in absurd (omega arith)
]
