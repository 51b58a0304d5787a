use Rattle.std.proofs.Common.{sym, ◌∙◌}
use Rattle.metis_rollout.specs.Terms.{all_but}
use Rattle.metis_rollout.proofs.UnreferencedFacts.{inserted}
use Rattle.metis_rollout.proofs.unreferenced.add_unreferenced.Goals as goal

pub returns-in_ok-insert : goal.returns-in_ok-insert
returns-in_ok-insert c =
    inserted (all_but c.args.stays.now.keys) c.args.c.now c.args.y c.args.unreferenced.now.keys c.insert.new.self.keys (sym c.is_free.ensures ∙ c.if-is_free.true) c.in_ok-insert.ensures.keys
