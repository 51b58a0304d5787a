use Rattle.std.proofs.Common.{[], ◌∷◌, ◌++◌, append_assoc, sym, ◌∙◌, ap}
use Rattle.metis_refusal.proofs.Searches.{way_found, no_way_yet}
use Rattle.metis_refusal.proofs.check.first_way_out.Goals as goal

pub returns-in-Some-way_out : goal.returns-in-Some-way_out
returns-in-Some-way_out c =
    way_found c.args.u.now c.args.set.now.members c.loop-from.yielded c.next.new.self c.in-Some.from c.in-Some-way_out.to
    (ap (λ l. c.loop-from.yielded ++ l) (sym c.in-Some.ensures.steps) ∙ c.loop-from.invariant.left) c.loop-from.invariant.none (sym c.way_out.ensures ∙ c.in-Some-way_out.is)

pub loop-from-preserved : goal.loop-from-preserved
loop-from-preserved c = record {
  left = append_assoc c.loop-from.yielded (c.in-Some.from ∷ []) c.next.new.self ∙ ap (λ l. c.loop-from.yielded ++ l) (sym c.in-Some.ensures.steps) ∙ c.loop-from.invariant.left;
  none = no_way_yet c.args.u.now c.args.set.now.members c.loop-from.yielded c.in-Some.from c.loop-from.invariant.none (sym c.way_out.ensures ∙ c.in_default.is);
}
