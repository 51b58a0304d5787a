use Rattle.std.proofs.Common.{◌≡◌, true, false, not, ◌||◌, sym, ◌∙◌, rules}
use Rattle.std.specs.Prelude.{is_none}
use Rattle.metis_rollout.specs.Terms.{members}
use Rattle.metis_universe.specs.Terms.{has, pair_of}
use Rattle.metis_reconfigure.specs.Terms.{fresh_in}
use Rattle.metis_reconfigure.proofs.Choosing.{one_skipped, one_taken}
use Rattle.metis_reconfigure.proofs.WhatStays.{not_member}
use Rattle.metis_reconfigure.proofs.staying.add_fresh.Goals as goal

pub loop-z-preserved-in_ok-insert : goal.loop-z-preserved-in_ok-insert
loop-z-preserved-in_ok-insert c =
    let old = c.args.c.now in
    let new : is_none (pair_of old c.in-Some.z) ≡ true = search rules in
    one_taken (λ z. not (has (members old) z)) (λ z. has c.args.set.now.keys z || has (fresh_in old c.args.d.now) z) c.loop-z.set.keys c.insert.new.self.keys (c.in-Some.z, c.in-Some.field-0-1)
    c.loop-z.z-iterator c.next.new.self c.in-Some.ensures.steps (sym (not_member old c.in-Some.z) ∙ new) c.in_ok-insert.ensures.keys c.loop-z.invariant

pub loop-z-preserved : goal.loop-z-preserved
loop-z-preserved c =
    let old = c.args.c.now in
    let there : is_none (pair_of old c.in-Some.z) ≡ false = search rules in
    one_skipped (λ z. not (has (members old) z)) (λ z. has c.args.set.now.keys z || has (fresh_in old c.args.d.now) z) c.loop-z.set.keys (c.in-Some.z, c.in-Some.field-0-1)
    c.loop-z.z-iterator c.next.new.self c.in-Some.ensures.steps (sym (not_member old c.in-Some.z) ∙ there) c.loop-z.invariant
