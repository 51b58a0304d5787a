use Rattle.std.proofs.Common.{◌≡◌, ◌++◌, take}
use Rattle.metis_completion.specs.Terms.{given_holder, given_in, slot_ties}
use Rattle.metis_completion.proofs.Slots.{slots_gained_of}
use Rattle.metis_completion.proofs.completing.add_ties.Given as goal

-- the ports before this one are done
abbrev pub invariant-loop-port : goal.invariant-loop-port
invariant-loop-port l = l.actions.items ≡ l.initial.actions.items ++ slot_ties l.tie (given_holder (given_in l.given)) (slots_gained_of l.u (given_in l.given) l.from l.to (take l.port-index l.port-items))
