use Rattle.std.proofs.Common.{◌≡◌, ◌∙◌, ◌+◌, suc, length, ap, sym, subst, arith}
use Rattle.metis_control.specs.Terms.{Adds, IsAnswered, IsHeard, IsReached, WorldValue, ordered, state_of}
use Rattle.metis_control.specs.declared.happening.Leave.TheVariants as left
use Rattle.metis_control.specs.declared.happening.Told.{Told}
use Rattle.metis_control.specs.declared.happening.Told.TheVariants as told
use Rattle.metis_control.proofs.Happened.{ordered_answer, sent_reached}
use Rattle.metis_control.proofs.world.World.order.Goals.{in-Ok, in-Err}
use Rattle.metis_control.proofs.world.World.order.Goals as goal

pub returns-in-NoAction-clause-heard : goal.returns-in-NoAction-clause-heard
returns-in-NoAction-clause-heard c =
    let f = c.self.inside in
    let w = state_of f.packets.items f.controller.acked f.agents.entries f.ran.items in
    subst (λ (v : WorldValue). IsAnswered (told.NoAction c.args.k) (ordered v.actions v.state c.args.k) v.state) c.self.view_is (ordered_answer f.actions.now f.controller.each w c.args.k c.self.invariant.listed left.NoAction c.in-NoAction.ensures)

pub returns-in-Acked-clause-heard : goal.returns-in-Acked-clause-heard
returns-in-Acked-clause-heard c =
    let f = c.self.inside in
    let w = state_of f.packets.items f.controller.acked f.agents.entries f.ran.items in
    subst (λ (v : WorldValue). IsAnswered (told.Acked c.args.k) (ordered v.actions v.state c.args.k) v.state) c.self.view_is (ordered_answer f.actions.now f.controller.each w c.args.k c.self.invariant.listed left.Acked c.in-Acked.ensures)

pub returns-in-Held-clause-heard : goal.returns-in-Held-clause-heard
returns-in-Held-clause-heard c =
    let f = c.self.inside in
    let w = state_of f.packets.items f.controller.acked f.agents.entries f.ran.items in
    subst (λ (v : WorldValue). IsAnswered (told.Held c.args.k c.in-Held.m) (ordered v.actions v.state c.args.k) v.state) c.self.view_is (ordered_answer f.actions.now f.controller.each w c.args.k c.self.invariant.listed (left.Held c.in-Held.m) c.in-Held.ensures)

pub invariant_of-self : goal.invariant_of-self
invariant_of-self c =
    let f = c.self.inside in
    let w = state_of f.packets.items f.controller.acked f.agents.entries f.ran.items in
    let old = c.self.invariant in
    elim c.match-push.branch [
      | in-Ok v ↦ record {
        few = old.few;
        listed = old.listed;
        owned = old.owned;
        reached = subst (λ ps. IsReached f.actions.now (state_of ps f.controller.acked f.agents.entries f.ran.items)) (sym v.in-Ok.ensures.items) (sent_reached f.actions.now f.controller.each w c.args.k old.listed old.reached c.in-Send.ensures);
      }
      | in-Err v ↦ record {
        few = old.few;
        listed = old.listed;
        owned = old.owned;
        reached = subst (λ ps. IsReached f.actions.now (state_of ps f.controller.acked f.agents.entries f.ran.items)) (sym v.in-Err.ensures.items) old.reached;
      }
    ]

pub returns-after-push-clause-heard : goal.returns-after-push-clause-heard
returns-after-push-clause-heard c =
    let f = c.self.inside in
    let w = state_of f.packets.items f.controller.acked f.agents.entries f.ran.items in
    let new = state_of c.push.new.self.items f.controller.acked f.agents.entries f.ran.items in
    let now = c.args.self.now in
    let answer = ordered_answer f.actions.now f.controller.each w c.args.k c.self.invariant.listed left.Send c.in-Send.ensures in
    elim c.match-push.branch [
      | in-Ok v ↦
          let number : c.len.result + 1 ≡ suc (length f.packets.items) = omega (arith, c.len.ensures, f.packets.ok) in
          subst (λ (t : Told). IsHeard t now.state (ordered now.actions now.state c.args.k) new) (sym v.result-is)
          (subst (λ (u : WorldValue). IsAnswered (told.Sent (c.len.result + 1)) (ordered u.actions u.state c.args.k) new) c.self.view_is
          (ap told.Sent number ∙ answer.0, ap (λ ps. state_of ps f.controller.acked f.agents.entries f.ran.items) v.in-Ok.ensures.items ∙ answer.1))
      | in-Err v ↦
          subst (λ (t : Told). IsHeard t now.state (ordered now.actions now.state c.args.k) new) (sym v.result-is) (
            ap (λ ps. state_of ps f.controller.acked f.agents.entries f.ran.items) v.in-Err.ensures.items ∙ ap (λ (u : WorldValue). u.state) c.self.view_is,
            subst (λ (u : WorldValue). Adds (ordered u.actions u.state c.args.k).0) c.self.view_is (subst Adds answer.0 tt),
          )
    ]
