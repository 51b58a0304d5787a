use Rattle.metis_waits.proofs.KeptRuns.{kept_end}
use Rattle.metis_waits.proofs.KeptSteadfast.{kept_steadfast}
use Rattle.metis_waits.proofs.laws.a_kept_list_is_steadfast.Goals as goal

pub returns : goal.returns
returns c = λ u actions ks run kept. record {
  run = (kept_end u actions run.run run.steadfast ks kept).run;
  steadfast = kept_steadfast u actions run.run run.steadfast ks kept;
}
