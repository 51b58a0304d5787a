use Rattle.std.proofs.Common.{◌≡◌, Some, nat_eq, sym, ap, ◌∙◌, subst}
use Rattle.std.specs.List.{AllByRecursion}
use Rattle.std.specs.Map.{lookup}
use Rattle.metis_universe.specs.Terms.{pair_of}
use Rattle.metis_config.specs.Terms.{unmet_among}
use Rattle.metis_config.proofs.Leasts.{each_there}
use Rattle.metis_config.proofs.config.Config.first_unmet.Goals as goal

pub loop-z-init : goal.loop-z-init
loop-z-init c =
    let is = c.into_iter-z-iterator.ensures.into_iter_gives ∙ c.iter-z-items.ensures.rest in
    record {
      left = ap (unmet_among c.args.u.now c.args.self.now) (is ∙ c.requires.instances);
      there = subst (λ es. AllByRecursion (λ e. pair_of c.args.self.now e.0 ≡ Some e.1) es) (sym is)
          (subst (λ k. AllByRecursion (λ e. lookup (nat_eq e.0) k ≡ Some e.1) c.args.instances.now.entries) c.requires.instances
          (each_there c.args.instances.now.entries c.iter-z-items.ensures.ordered));
    }
