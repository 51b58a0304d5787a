use Rattle.std.proofs.Common.{◌<◌, ◌+◌, true, cond, position, nat_eq, arith, ap, sym, ◌∙◌, subst}
use Rattle.metis_config.specs.Terms.{Crowd, weight}
use Rattle.metis_config.proofs.Weights.{found_pair, weight-absent, weight-le-total}
use Rattle.metis_config.proofs.crowd.Crowd.leave.Goals as goal

pub unreachable-requires : goal.unreachable-requires
unreachable-requires c =
    let some = subst (λ (k : Crowd). 0 < weight (λ q. nat_eq q c.args.pair) k.shares) (sym c.self.view_is) c.requires in
    let place = ap (position (λ s. nat_eq s.0 c.args.pair)) (sym c.deref.ensures.value) ∙ sym c.place_of.ensures ∙ c.in-None.is in
    omega (arith, some, weight-absent c.args.pair c.self.inside.shares.items place)

pub overflow_sub-self : goal.overflow_sub-self
overflow_sub-self c =
    let some = subst (λ (k : Crowd). 0 < weight (λ q. nat_eq q c.args.pair) k.shares) (sym c.self.view_is) c.requires in
    omega (arith, some, weight-le-total (λ q. nat_eq q c.args.pair) c.self.inside.shares.items, c.self.invariant.sum)

pub invariant_of-self : goal.invariant_of-self
invariant_of-self c =
    let one = c.take_one.ensures.weight (λ _. true) in
    record {
      sum = omega (arith, c.self.invariant.sum, one);
      some = c.take_one.ensures.some;
      fits = omega (arith, c.self.invariant.fits, one, c.take_one.ensures.room);
    }

pub returns-clause-weight : goal.returns-clause-weight
returns-clause-weight c = λ f.
    let is = ap (λ (k : Crowd). weight f k.shares) c.self.view_is in
    let place = ap (position (λ s. nat_eq s.0 c.args.pair)) (sym c.deref.ensures.value) ∙ sym c.place_of.ensures ∙ c.in-Some.is in
    let found = found_pair c.args.pair c.self.inside.shares.items c.in-Some.place place in
    sym (ap (λ q. weight f c.take_one.new.shares.items + cond (f q) 1 0) found.1) ∙ c.take_one.ensures.weight f ∙ is

pub returns-clause-room : goal.returns-clause-room
returns-clause-room c =
    let one = c.take_one.ensures.weight (λ _. true) in
    omega (arith, c.self.invariant.fits, one, c.take_one.ensures.room)
