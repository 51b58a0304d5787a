use Rattle.std.proofs.Common.{◌≡◌, ◌+◌, ℕ, cond, Some, None, IsSome, ap, ◌∙◌, arith, rules}
use Rattle.std.specs.BTreeMap.{get, is_at}
use Rattle.std.specs.Map.{lookup}
use Rattle.metis_config.specs.Terms.{key_cmp, weight}
use Rattle.metis_config.specs.declared.supply.Supply.TheVariants.{One}
use Rattle.metis_config.proofs.Tallies.{entered, on_err, on_ok, same, weighed}
use Rattle.metis_config.proofs.Weights.{weight-one}
use Rattle.metis_config.proofs.crowds.Crowds.enter.Goals as goal

pub returns-in-Some-clause-ok : goal.returns-in-Some-clause-ok
returns-in-Some-clause-ok c =
    let m = c.args.self.now.map in
    let at : Some c.in-Some.supply.now ≡ get key_cmp m (c.args.w, c.args.r) = search rules in
    let there : IsSome (get key_cmp m (c.args.w, c.args.r)) = search rules in
    let x = c.enter.new.self in
    let up : (q : ℕ × ℕ) → get key_cmp (c.get_mut.follows.lender x) q ≡ cond (is_at (key_cmp (c.args.w, c.args.r)) q) (Some x) (get key_cmp m q) = ((c.get_mut.follows.holds x).3 there).0 in
    on_ok c.enter.result (λ one. entered m (c.get_mut.follows.lender x) c.args.w c.args.r (Some x) up c.args.pair (λ f. one f ∙ ap (λ o. weighed f o + cond (f c.args.pair) 1 0) at)) c.enter.ensures.ok

pub returns-in-Some-clause-err : goal.returns-in-Some-clause-err
returns-in-Some-clause-err c =
    let m = c.args.self.now.map in
    let at : Some c.in-Some.supply.now ≡ get key_cmp m (c.args.w, c.args.r) = search rules in
    let there : IsSome (get key_cmp m (c.args.w, c.args.r)) = search rules in
    let x = c.enter.new.self in
    let up : (q : ℕ × ℕ) → get key_cmp (c.get_mut.follows.lender x) q ≡ cond (is_at (key_cmp (c.args.w, c.args.r)) q) (Some x) (get key_cmp m q) = ((c.get_mut.follows.holds x).3 there).0 in
    on_err c.enter.result (λ kept. same m (c.get_mut.follows.lender x) c.args.w c.args.r (Some x) up (λ f. ap (weight f) kept ∙ ap (weighed f) at)) c.enter.ensures.err

pub returns-clause-ok : goal.returns-clause-ok
returns-clause-ok c =
    let m = c.args.self.now.map in
    let kept : (c.get_mut.follows.lender-at-none).entries ≡ m.entries = search rules in
    let none : None ≡ get key_cmp m (c.args.w, c.args.r) = search rules in
    let x = One c.args.pair in
    let up : (q : ℕ × ℕ) → get key_cmp c.insert.new.self q ≡ cond (is_at (key_cmp (c.args.w, c.args.r)) q) (Some x) (get key_cmp m q) = λ q. c.in_ok-insert.ensures.updates.0 q ∙ ap (λ es. cond (is_at (key_cmp (c.args.w, c.args.r)) q) (Some x) (lookup (is_at (key_cmp q)) es)) kept in
    entered m c.insert.new.self c.args.w c.args.r (Some x) up c.args.pair (λ f. let one = weight-one f c.args.pair in let before = ap (weighed f) none in omega (arith, one, before))
