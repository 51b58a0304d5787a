use Rattle.std.proofs.Common.{◌≡◌, ◌+◌, ℕ, cond, Some, IsSome, ap, ◌∙◌, rules}
use Rattle.std.specs.BTreeMap.{get, is_at}
use Rattle.metis_config.specs.Terms.{key_cmp}
use Rattle.metis_config.proofs.Tallies.{shifted, weighed}
use Rattle.metis_config.proofs.crowds.Crowds.shift.Goals as goal

pub returns-in-Some : goal.returns-in-Some
returns-in-Some c =
    let m = c.args.self.now.map in
    let at : Some c.in-Some.supply.now ≡ get key_cmp m (c.args.w, c.args.r) = search rules in
    let there : IsSome (get key_cmp m (c.args.w, c.args.r)) = search rules in
    let x = c.shift.new.self in
    let up : (q : ℕ × ℕ) → get key_cmp (c.get_mut.follows.lender x) q ≡ cond (is_at (key_cmp (c.args.w, c.args.r)) q) (Some x) (get key_cmp m q) = ((c.get_mut.follows.holds x).3 there).0 in
    shifted m (c.get_mut.follows.lender x) c.args.w c.args.r (Some x) up c.args.from c.args.to (λ f. c.shift.ensures f ∙ ap (λ o. weighed f o + cond (f c.args.to) 1 0) at)
