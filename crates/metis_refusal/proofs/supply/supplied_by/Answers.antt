use Rattle.std.proofs.Common.{◌∙◌, ap, arith}
use Rattle.std.proofs.lemmas.List.{length-set}
use Rattle.std.specs.List.{list_all}
use Rattle.metis_universe.specs.Terms.{is_provided, port_count, required_of}
use Rattle.metis_refusal.specs.Terms.{flag}
use Rattle.metis_refusal.proofs.Searches.{all_alike, flagged}
use Rattle.metis_refusal.proofs.supply.supplied_by.Goals as goal

pub loop-number-preserved : goal.loop-number-preserved
loop-number-preserved c = record {
  places = length-set c.loop-number.supplied c.loop-number.number c.are_set.result ∙ c.loop-number.invariant.places;
  set = flagged (λ q. list_all (flag c.args.provided.now) (required_of c.args.u.now q)) c.loop-number.supplied c.loop-number.number c.are_set.result
      (omega (arith, c.loop-number.invariant.places, c.pairs-number-end.ensures.count, c.pairs-number-end.ensures.most)) c.loop-number.invariant.set
      (c.are_set.ensures ∙ ap (list_all (flag c.args.provided.now)) c.requires_.ensures.ports);
}

pub returns : goal.returns
returns c = λ s provided q low.
    let u = c.args.u.now in
    c.loop-number.invariant.set q (omega (arith, low, c.pairs-number-end.ensures.count)) ∙ all_alike (flag c.args.provided.now) (is_provided u s) (port_count u) (required_of u q) provided (c.keeps_invariant.ensures.universe.required q low).1
