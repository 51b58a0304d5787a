use Rattle.std.proofs.Common.{◌≡◌, ◌∷◌, ◌+◌, ℕ, false, true, cond, ◌&&◌, nat_eq, sym, ap, ◌∙◌, subst, arith}
use Rattle.std.specs.List.{AllByRecursion, filter, list_any}
use Rattle.std.specs.Map.Iter.{deref}
use Rattle.std.proofs.lemmas.Bool.{and_parts, eqb-true, not-true, not-false}
use Rattle.std.proofs.lemmas.Map.Iter.{rest_more}
use Rattle.metis_universe.specs.Terms.{Binding, is_tie}
use Rattle.metis_config.specs.Terms.{has_client, weight_at}
use Rattle.metis_config.proofs.GivenUp.{each_from_in, each_in, is_in}
use Rattle.metis_config.proofs.Prefixes.{IsRest, IsRest-filter, IsRest-tail, any-from, any_none, each_weaker, has_head-from, no_head_after, is_from}
use Rattle.metis_config.proofs.Shifted.{all_done, is_done, none_done, not_yet, one_done, one_moved}
use Rattle.metis_config.proofs.crowds.Crowds.shift_all.Goals as goal

front_of : (z w r : ℕ) (b : Binding) → is_tie z w r b ≡ true → nat_eq b.0 z ≡ true
front_of z w r b h = (and_parts (nat_eq b.0 z) _ (and_parts (nat_eq b.0 z && nat_eq b.1 w) _ h).0).0

pub loop-client-init : goal.loop-client-init
loop-client-init c =
    let start : Binding = (c.args.z, 0, 0) in
    let all = c.args.clients.now.keys in
    let rest = c.into_iter-client-iterator.result in
    let is : rest ≡ filter (is_from start) all = c.into_iter-client-iterator.ensures.into_iter_gives ∙ c.range-client-items.ensures.between tt in
    let none = λ (w r : ℕ). none_done all rest c.args.z w r (ap (list_any (is_tie c.args.z w r)) is ∙ any-from start (is_tie c.args.z w r) (λ b h. has_head-from c.args.z b (front_of c.args.z w r b h)) all) in
    record {
      moved = λ w r f. ap (λ b. weight_at c.args.self.now.map w r f + cond (b && f c.args.from) 1 0) (none w r) ∙ sym (ap (λ b. weight_at c.args.self.now.map w r f + cond (b && f c.args.to) 1 0) (none w r));
      rest = subst (IsRest start) (sym is) (IsRest-filter start all c.range-client-items.ensures.ordered);
      there = subst (AllByRecursion (is_in all)) (sym is) (each_from_in start all all (each_in all));
    }

pub returns-then-ne : goal.returns-then-ne
returns-then-ne c = λ w r f.
    let start : Binding = (c.args.z, 0, 0) in
    let e = rest_more deref _ _ _ _ c.in-Some.is c.next.ensures.steps in
    let other = not-true _ (sym c.ne.ensures ∙ c.if-ne.true) in
    let rest = c.in-Some.client.now ∷ c.next.new.self in
    let none = no_head_after c.args.z c.in-Some.client.now c.next.new.self (subst (IsRest start) e c.loop-client.invariant.rest) other in
    let gone : has_client c.loop-client.client-iterator c.args.z w r ≡ false = ap (list_any (is_tie c.args.z w r)) e ∙ any_none (is_tie c.args.z w r) rest (each_weaker (λ b. nat_eq b.0 c.args.z) (is_tie c.args.z w r) (λ b n. ap (λ v. v && nat_eq b.1 w && nat_eq b.2 r) n) rest none) in
    let all = all_done c.args.clients.now.keys c.loop-client.client-iterator c.args.z w r gone in
    ap (λ b. weight_at c.loop-client.self.map w r f + cond (b && f c.args.from) 1 0) (sym all) ∙ c.loop-client.invariant.moved w r f ∙ ap (λ b. weight_at c.args.self.now.map w r f + cond (b && f c.args.to) 1 0) all

pub shift-requires : goal.shift-requires
shift-requires c =
    let x = c.in-Some.client.now in
    let e = rest_more deref _ _ _ _ c.in-Some.is c.next.ensures.steps in
    let own = eqb-true x.0 c.args.z (not-false _ (sym c.ne.ensures ∙ c.if-ne.false)) in
    let f = λ (q : ℕ). nat_eq q c.args.from in
    let there = subst (AllByRecursion (is_in c.args.clients.now.keys)) e c.loop-client.invariant.there in
    let bound : has_client c.args.clients.now.keys c.args.z x.1 x.2 ≡ true = ap (λ y. has_client c.args.clients.now.keys y x.1 x.2) (sym own) ∙ there.0 in
    let some = c.requires x.1 x.2 bound in
    let none : is_done c.args.clients.now.keys c.loop-client.client-iterator c.args.z x.1 x.2 ≡ false = ap (λ l. is_done c.args.clients.now.keys l c.args.z x.1 x.2) e ∙ not_yet c.args.clients.now.keys c.next.new.self x c.args.z own in
    let moved : weight_at c.loop-client.self.map x.1 x.2 f + cond (false && f c.args.from) 1 0 ≡ weight_at c.args.self.now.map x.1 x.2 f + cond (false && f c.args.to) 1 0 =
    subst (λ b. weight_at c.loop-client.self.map x.1 x.2 f + cond (b && f c.args.from) 1 0 ≡ weight_at c.args.self.now.map x.1 x.2 f + cond (b && f c.args.to) 1 0) none (c.loop-client.invariant.moved x.1 x.2 f) in
    omega (arith, some, moved)

pub loop-client-preserved : goal.loop-client-preserved
loop-client-preserved c =
    let start : Binding = (c.args.z, 0, 0) in
    let x = c.in-Some.client.now in
    let all = c.args.clients.now.keys in
    let e = rest_more deref _ _ _ _ c.in-Some.is c.next.ensures.steps in
    let own = eqb-true x.0 c.args.z (not-false _ (sym c.ne.ensures ∙ c.if-ne.false)) in
    let rest = subst (IsRest start) e c.loop-client.invariant.rest in
    let there = subst (AllByRecursion (is_in all)) e c.loop-client.invariant.there in
    record {
      moved = λ w r f.
          let done = one_done all c.next.new.self x c.args.z rest there.0 own w r in
          let before = is_done all (x ∷ c.next.new.self) c.args.z w r in
          let old = subst (λ l. weight_at c.loop-client.self.map w r f + cond (is_done all l c.args.z w r && f c.args.from) 1 0 ≡ weight_at c.args.self.now.map w r f + cond (is_done all l c.args.z w r && f c.args.to) 1 0) e (c.loop-client.invariant.moved w r f) in
          let apart = λ (h : (nat_eq w x.1 && nat_eq r x.2) ≡ true). let p = and_parts (nat_eq w x.1) _ h in (λ i. is_done all (x ∷ c.next.new.self) c.args.z (eqb-true w x.1 p.0 i) (eqb-true r x.2 p.1 i)) ∙ not_yet all c.next.new.self x c.args.z own in
          ap (λ b. weight_at c.shift.new.self.map w r f + cond (b && f c.args.from) 1 0) done
          ∙ one_moved (weight_at c.args.self.now.map w r f) (weight_at c.loop-client.self.map w r f) (weight_at c.shift.new.self.map w r f) before (nat_eq w x.1 && nat_eq r x.2) (f c.args.from) (f c.args.to) apart old (c.shift.ensures w r f)
          ∙ sym (ap (λ b. weight_at c.args.self.now.map w r f + cond (b && f c.args.to) 1 0) done);
      rest = IsRest-tail start x c.next.new.self rest;
      there = there.1;
    }
