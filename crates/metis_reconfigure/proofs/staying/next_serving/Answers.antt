use Rattle.std.proofs.Common.{◌≡◌, sym, ap, ◌∙◌, rules}
use Rattle.metis_reconfigure.proofs.WhatStays.{comes_here, comes_later, first_next, next_found}
use Rattle.metis_reconfigure.proofs.staying.next_serving.Goals as goal

pub loop-z-init : goal.loop-z-init
loop-z-init c =
    let all : c.args.c.now.instances ≡ c.into_iter-z-iterator.result = search rules in
    next_found c.args.u.now c.args.c.now c.args.leaving.now.keys c.args.staying.now.keys c.args.goal c.keeps_invariant.ensures
    ∙ ap (first_next c.args.u.now c.args.leaving.now.keys c.args.staying.now.keys c.args.goal) all

pub returns-then-comes_next : goal.returns-then-comes_next
returns-then-comes_next c =
    sym (c.loop-z.invariant ∙ comes_here c.args.u.now c.args.leaving.now.keys c.args.staying.now.keys c.args.goal (c.in-Some.z, c.in-Some.p) c.loop-z.z-iterator c.next.new.self c.in-Some.ensures.steps (sym c.comes_next.ensures ∙ c.if-comes_next.true))

pub loop-z-preserved : goal.loop-z-preserved
loop-z-preserved c =
    c.loop-z.invariant ∙ comes_later c.args.u.now c.args.leaving.now.keys c.args.staying.now.keys c.args.goal (c.in-Some.z, c.in-Some.p) c.loop-z.z-iterator c.next.new.self c.in-Some.ensures.steps (sym c.comes_next.ensures ∙ c.if-comes_next.false)
