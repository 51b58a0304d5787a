use Rattle.metis_universe.proofs.FirstPairs.{provider-provides, provider-first, provider-none}
use Rattle.metis_universe.proofs.laws.provider_comes_first.Goals as goal

pub returns-clause-provides : goal.returns-clause-provides
returns-clause-provides c = provider-provides

pub returns-clause-first : goal.returns-clause-first
returns-clause-first c = provider-first

pub returns-clause-none : goal.returns-clause-none
returns-clause-none c u r q m = provider-none u r q m
