use Rattle.std.proofs.Common.{ℕ, subst}
use Rattle.std.specs.Prelude.{IsFalse, IsTrue, MatchOption}
use Rattle.metis_universe.specs.Terms.{Config, config_of, is_bound}
use Rattle.metis_config.proofs.Keys.{bound_there}
use Rattle.metis_config.proofs.config.Config.needed_by.Goals as goal

pub some_from-requires : goal.some_from-requires
some_from-requires c = λ r y bound.
    let b = config_of c.self.inside.instances.entries c.self.inside.bindings.keys in
    bound_there b c.self.inside.crowds.map c.self.invariant.by_provider.config c.self.invariant.tallied r c.args.z y bound

pub returns : goal.returns
returns c = subst (λ (d : Config). MatchOption c.some_from.result ((r y : ℕ) → IsFalse (is_bound d r c.args.z y)) (λ b. IsTrue (is_bound d b.0 c.args.z b.1))) c.self.view_is c.some_from.ensures
