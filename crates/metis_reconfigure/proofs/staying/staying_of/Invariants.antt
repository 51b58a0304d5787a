use Rattle.metis_reconfigure.proofs.WhatStays.{AreStayingSoFar}
use Rattle.metis_reconfigure.proofs.staying.staying_of.Given as goal

abbrev pub invariant-loop-place : goal.invariant-loop-place
invariant-loop-place l = AreStayingSoFar l.u l.request.wishes.now l.c l.d l.leaving.keys l.request.goals.now l.place l.edges.keys l.staying.keys
