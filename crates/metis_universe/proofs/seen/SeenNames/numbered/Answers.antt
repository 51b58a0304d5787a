use Rattle.std.proofs.Common.{sym, subst}
use Rattle.std.specs.List.{IsDistinct}
use Rattle.std.specs.Str.{bytes_eq}
use Rattle.metis_universe.specs.Terms.{texts}
use Rattle.metis_universe.proofs.Texts.{distinct_texts}
use Rattle.metis_universe.proofs.seen.SeenNames.numbered.Goals as goal

pub of-requires : goal.of-requires
of-requires c = subst (λ xs. IsDistinct bytes_eq (texts xs)) (sym c.in_ok-names.ensures.names) (distinct_texts c.self.inside.names.keys c.listed.ensures.once)
