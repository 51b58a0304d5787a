use Rattle.std.proofs.Common.{◌≡◌, ltb, List, ℕ, ◌+◌, Bor, false, drop, map, sym, ap, ◌∙◌, subst, arith}
use Rattle.std.specs.List.{list_any}
use Rattle.metis_sim.specs.Asked.{is_undo}
use Rattle.metis_sim.specs.Terms.{IsReplyOf, replies_to}
use Rattle.metis_sim.proofs.KeptLines.{never_ended, none_from, replies_from}
use Rattle.metis_sim.proofs.SessionEnds.{lines_from, replies_to-ended, reply_has_lines}
use Rattle.metis_sim.proofs.script.Replies.next_reply.Goals as goal

abbrev bytes : Bor (List ℕ) → List ℕ
bytes line = line.now

pub returns-then-has_ended-clause-none : goal.returns-then-has_ended-clause-none
returns-then-has_ended-clause-none c =
    let r = c.self.inside in
    sym c.self.view_is ∙ replies_to-ended r.universe.now r.session (sym c.has_ended.ensures ∙ c.if-has_ended.true) (map bytes (drop r.at r.script.items))

pub returns-then-has_ended-clause-ended : goal.returns-then-has_ended-clause-ended
returns-then-has_ended-clause-ended c =
    let r = c.self.inside in
    sym c.self.view_is ∙ replies_to-ended r.universe.now r.session (sym c.has_ended.ensures ∙ c.if-has_ended.true) (map bytes (drop r.at r.script.items))

pub reply_to-reply-requires : goal.reply_to-reply-requires
reply_to-reply-requires c behind =
    let r = c.self.inside in
    let next = lines_from bytes r.script.items r.at c.index.result.now (omega (arith, c.if-self-len.false)) c.index.ensures in
    (none_from bytes r.undone r.at r.script.items c.index.result.now behind c.self.invariant.1 next).0

pub reply_lines-requires : goal.reply_lines-requires
reply_lines-requires c =
    let r = c.self.inside in
    let e = c.reply_to-reply.ensures.answer c.in_default.not-NoMemory in
    let other = never_ended c.index.result.now.now r.session c.reply_to-reply.new.self c.reply_to-reply.result (ltb r.at r.undone) e (sym c.has_ended.ensures ∙ c.if-has_ended.false) in
    record {
      reply = subst (λ v. IsReplyOf v c.reply_to-reply.result) c.self.invariant.0 (c.reply_to-reply.ensures.numbers other c.in_default.not-NoMemory);
      session = c.reply_to-reply.ensures.universe ∙ c.self.invariant.0;
    }

pub returns-clause-replies : goal.returns-clause-replies
returns-clause-replies c =
    let r = c.self.inside in
    let w = c.index.result.now in
    let e = c.reply_to-reply.ensures.answer c.in_default.not-NoMemory in
    let next = lines_from bytes r.script.items r.at w (omega (arith, c.if-self-len.false)) c.index.ensures in
    let others : ltb r.at r.undone ≡ false → list_any is_undo (map bytes (drop (r.at + 1) r.script.items)) ≡ false = λ behind. (none_from bytes r.undone r.at r.script.items w behind c.self.invariant.1 next).1 in
    sym c.self.view_is ∙ ap (replies_to r.universe.now r.session) next
    ∙ replies_from w.now r.session c.reply_to-reply.new.self c.reply_to-reply.result r.universe.now (ltb r.at r.undone) e _ (map bytes (drop (r.at + 1) r.script.items)) c.in-Ok.ensures others

pub returns-clause-some : goal.returns-clause-some
returns-clause-some c none =
    let r = c.self.inside in
    let t = c.reply_to-reply.new.self in
    let e = c.reply_to-reply.ensures.answer c.in_default.not-NoMemory in
    let other = never_ended c.index.result.now.now r.session t c.reply_to-reply.result (ltb r.at r.undone) e (sym c.has_ended.ensures ∙ c.if-has_ended.false) in
    reply_has_lines r.universe.now t.config c.reply_to-reply.result (subst (λ v. IsReplyOf v c.reply_to-reply.result) c.self.invariant.0 (c.reply_to-reply.ensures.numbers other c.in_default.not-NoMemory)) (sym c.in-Ok.ensures ∙ none)
