use Rattle.std.proofs.Common.{rules}
use Rattle.metis_refusal.proofs.Searches.{unset}
use Rattle.metis_refusal.proofs.supply.provided_by.Goals as goal

pub loop-pair-init : goal.loop-pair-init
loop-pair-init c = record { left = search rules; provided = λ r low. unset 4000 r }
