use Rattle.std.proofs.Common.{◌≡◌, suc, ◌-◌, length, string_bytes, sym, ap, ◌∙◌, arith}
use Rattle.std.specs.Str.{bytes_eq}
use Rattle.std.proofs.lemmas.Bool.{false_from_ne_true}
use Rattle.std.proofs.lemmas.List.{length-map}
use Rattle.metis_universe.specs.Terms.{texts}
use Rattle.metis_universe.proofs.Buckets.{at_start, before_low, last_low, none_found, number_found, one_back, text_at}
use Rattle.metis_universe.proofs.numbered.number_named.Goals as goal

pub loop-behind-init : goal.loop-behind-init
loop-behind-init c =
    let names = c.args.names.now in (
      last_low (texts names) (length names) c.args.lasts.now c.args.befores.now c.args.name.now c.requires.chained c.bucket_of.result,
      at_start (texts names) (length names) c.args.lasts.now c.args.befores.now c.args.name.now c.requires.chained c.bucket_of.result c.bucket_of.ensures.bucket,
    )

pub returns-then-eq : goal.returns-then-eq
returns-then-eq c =
    let names = c.args.names.now in
    let n = c.loop-behind.behind - 1 in
    let text = c.as_str.ensures.value ∙ text_at names n c.index-names-number.result (omega arith) c.index-names-number.is in
    sym (number_found (texts names) c.args.name.now c.requires.apart n (omega (arith, length-map names (λ t. string_bytes t))) (ap (bytes_eq c.args.name.now) (sym text) ∙ sym c.eq.ensures ∙ c.if-eq.true))

pub bounds-befores-number : goal.bounds-befores-number
bounds-befores-number c = omega (arith, c.requires.chained.sized)

pub loop-behind-smaller : goal.loop-behind-smaller
loop-behind-smaller c =
    let names = c.args.names.now in
    omega (arith, before_low (texts names) (length names) c.args.lasts.now c.args.befores.now c.args.name.now c.requires.chained (c.loop-behind.behind - 1) (omega arith))

pub loop-behind-preserved : goal.loop-behind-preserved
loop-behind-preserved c =
    let names = c.args.names.now in
    let n = c.loop-behind.behind - 1 in
    let at : c.loop-behind.behind ≡ suc n = omega arith in
    let text = c.as_str.ensures.value ∙ text_at names n c.index-names-number.result (omega arith) c.index-names-number.is in (
      omega (arith, before_low (texts names) (length names) c.args.lasts.now c.args.befores.now c.args.name.now c.requires.chained n (omega arith)),
      one_back (texts names) (length names) c.args.lasts.now c.args.befores.now c.args.name.now c.requires.chained c.loop-behind.behind n at c.loop-behind.invariant.1
          (ap (bytes_eq c.args.name.now) (sym text) ∙ sym c.eq.ensures ∙ c.if-eq.false),
    )

pub returns : goal.returns
returns c =
    let names = c.args.names.now in
    sym (none_found (texts names) c.args.name.now (λ n low. false_from_ne_true _ (λ same. let less = c.loop-behind.invariant.1.earlier n (omega (arith, low, length-map names (λ t. string_bytes t))) same in omega arith)))
