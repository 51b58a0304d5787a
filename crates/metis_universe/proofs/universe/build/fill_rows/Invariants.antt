use Rattle.std.proofs.Common.{◌≡◌, length, drop}
use Rattle.metis_universe.specs.Terms.{rows_from}
use Rattle.metis_universe.proofs.universe.build.fill_rows.Given as goal

abbrev pub invariant-loop-p : goal.invariant-loop-p
invariant-loop-p l = record {
  providers : rows_from (λ x. x.provided) l.p l.providers.items (drop l.p l.pairs) ≡ rows_from (λ x. x.provided) 0 l.initial.providers.items l.pairs;
  provider_rows : length l.providers.items ≡ length l.initial.providers.items;
  requirers : rows_from (λ x. x.required) l.p l.requirers.items (drop l.p l.pairs) ≡ rows_from (λ x. x.required) 0 l.initial.requirers.items l.pairs;
  requirer_rows : length l.requirers.items ≡ length l.initial.requirers.items;
}
