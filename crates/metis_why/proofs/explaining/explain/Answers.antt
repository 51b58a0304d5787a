use Rattle.metis_why.proofs.First.{all_attained, first_enough, first_of_universe, first_unattained, tellable_lines}
use Rattle.metis_refusal.specs.Terms.{flag}
use Rattle.metis_why.proofs.explaining.explain.Goals as goal

pub invariant_of-target : goal.invariant_of-target
invariant_of-target c = record {
  of_universe =
      first_of_universe c.args.u.now c.keeps_invariant.ensures.universe (flag c.in_ok-held.held) c.in_ok-held.ensures c.args.goals.now c.in-Some.lacks c.requires c.in-Some.ensures;
}

pub chosen_lines-requires-clause-enough : goal.chosen_lines-requires-clause-enough
chosen_lines-requires-clause-enough c = first_enough c.args.u.now c.keeps_invariant.ensures.universe (flag c.in_ok-held.held) c.in_ok-held.ensures c.args.goals.now c.in-Some.lacks c.requires c.in-Some.ensures

pub returns-in_ok-lines-in-Some-clause-first : goal.returns-in_ok-lines-in-Some-clause-first
returns-in_ok-lines-in-Some-clause-first c =
    first_unattained c.args.u.now c.keeps_invariant.ensures.universe (flag c.in_ok-held.held) c.in_ok-held.ensures c.args.goals.now c.in-Some.lacks c.requires c.in-Some.ensures

pub returns-in_ok-lines-in-Some-clause-tellable : goal.returns-in_ok-lines-in-Some-clause-tellable
returns-in_ok-lines-in-Some-clause-tellable c = tellable_lines c.args.u.now c.keeps_invariant.ensures.universe c.in-Some.lacks _ c.in_ok-lines-in-Some.ensures.why

pub returns-in-None-clause-attained : goal.returns-in-None-clause-attained
returns-in-None-clause-attained c =
    all_attained c.args.u.now c.keeps_invariant.ensures.universe (flag c.in_ok-held.held) c.in_ok-held.ensures c.args.goals.now c.requires c.in-None.ensures
