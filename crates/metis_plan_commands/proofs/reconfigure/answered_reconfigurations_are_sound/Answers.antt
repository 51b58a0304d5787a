use Rattle.metis_plan_commands.proofs.reconfigure.answered_reconfigurations_are_sound.Goals as goal

pub returns : goal.returns
returns c = λ u wishes old goals r universe answered. record {
  steady = c.a_reconfiguration_is_a_steadfast_run.ensures u wishes old goals r universe answered;
  begins = c.the_kept_are_left_alone.ensures.whole u wishes old goals r;
  holds = c.the_goals_are_held_in_the_end.ensures.held u wishes old goals r universe answered;
  stays = c.a_reconfiguration_ends_in_what_stays.ensures.instances u wishes old goals r universe answered;
  ends = c.a_reconfiguration_ends_in_what_stays.ensures.configuration u wishes old goals r universe answered;
  tidy = c.a_reconfiguration_is_tidy.ensures u wishes old goals r universe answered;
  is_as_wished = c.what_is_wished_stays.ensures.wished u wishes old goals r universe answered;
  leaves = c.what_is_wished_stays.ensures.leaves u wishes old goals r universe answered;
  alone = c.the_kept_are_left_alone.ensures.alone u wishes old goals r universe answered;
  never_falls = λ ks. c.the_kept_never_fall.ensures u wishes old goals r ks universe answered;
  never_lacks = λ front rest. c.guarded_reconfiguration_never_lacks.ensures.configurations u wishes old goals r front rest universe answered;
  goes_on = λ ks. c.guarded_reconfiguration_goes_on.ensures u wishes old goals r ks;
}
