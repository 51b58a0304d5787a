use Rattle.std.proofs.Common.{◌≡◌, ◌+◌, cond, length, take}
use Rattle.std.specs.Prelude.{fold}
use Rattle.metis_refusal.specs.Terms.{flag}
use Rattle.metis_universe.specs.Terms.{providers_of}
use Rattle.metis_why.specs.Terms.{StayOpen, far_in, lowered}
use Rattle.metis_why.proofs.distance.lead_on.Given as goal

abbrev pub invariant-loop-port : goal.invariant-loop-port
invariant-loop-port l = record {
  far : far_in l.ways.far ≡ fold (λ f r. cond (flag l.given r) f (lowered f (providers_of l.u r) (l.here + length (providers_of l.u r)))) (far_in l.initial.ways.far) (take l.port-index l.port-items);
  stay : StayOpen l.initial.ways l.ways;
}
