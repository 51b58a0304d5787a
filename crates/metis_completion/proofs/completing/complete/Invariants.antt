use Rattle.std.proofs.Common.{◌≡◌, ◌++◌, take}
use Rattle.metis_completion.specs.Terms.{completed, given_in}
use Rattle.metis_completion.proofs.completing.complete.Given as goal

-- those before this one are completed
abbrev pub invariant-loop-action : goal.invariant-loop-action
invariant-loop-action l = l.actions.items ≡ l.initial.actions.items ++ completed l.u (given_in l.given) (take l.action-index l.fresh)
