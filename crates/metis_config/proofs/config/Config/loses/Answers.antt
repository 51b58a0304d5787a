use Rattle.std.proofs.Common.{◌≡◌, ◌<◌, ◌&&◌, Bool, true, false, leb, not, refl, sym, ap, ◌∙◌, subst}
use Rattle.std.proofs.lemmas.Bool.{lt-ltb}
use Rattle.metis_universe.specs.Terms.{pair_of}
use Rattle.metis_universe.proofs.Demands.{gives}
use Rattle.metis_config.specs.Terms.{demanded}
use Rattle.metis_config.proofs.GivenUp.{given_up}
use Rattle.metis_config.proofs.Providers.{one_fewer, required_demanded}
use Rattle.metis_config.proofs.Unmets.{lacks}
use Rattle.metis_config.proofs.config.Config.loses.Goals as goal
use Rattle.metis_config.proofs.config.Config.loses.Goals.{then-not-gives-via-then-not-gives, then-not-gives-via-else-not-gives+then-gives}

kept : (a b : Bool) → (a && false && b) ≡ false
kept true b = refl
kept false b = refl

pub returns-then-not-gives : goal.returns-then-not-gives
returns-then-not-gives c =
    let u = c.args.u.now in
    let d = c.args.self.now in
    let z = c.args.change.now.inst in
    let o = c.args.change.now.to in
    let rest = lacks u d z o c.args.w c.args.r in
    let all = given_up u d c.requires.correct z o c.args.w c.args.r in
    elim c.then-not-gives.branch [
      | then-not-gives-via-then-not-gives w ↦
          let none : gives u c.args.r (pair_of d z) ≡ false = ap (gives u c.args.r) (sym c.requires.from) ∙ sym c.gives.ensures ∙ w.if-not-gives.true in
          sym (ap (λ b. b && not (gives u c.args.r o) && rest) none) ∙ all
      | then-not-gives-via-else-not-gives+then-gives w ↦
          let given : gives u c.args.r o ≡ true = sym w.gives-else-not-gives.ensures ∙ w.if-gives.true in
          sym (ap (λ b. gives u c.args.r (pair_of d z) && not b && rest) given ∙ kept (gives u c.args.r (pair_of d z)) rest) ∙ all
    ]

pub returns-then-wanted-gt0 : goal.returns-then-wanted-gt0
returns-then-wanted-gt0 c =
    let u = c.args.u.now in
    let d = c.args.self.now in
    let z = c.args.change.now.inst in
    let n = demanded u d c.args.w c.args.r in
    let some : 0 < n = subst (λ m. 0 < m) c.demanded-wanted.ensures c.if-wanted-gt0.true in
    let given : gives u c.args.r (pair_of d z) ≡ true = ap (gives u c.args.r) (sym c.requires.from) ∙ sym c.gives.ensures ∙ c.if-not-gives.false in
    let lost : gives u c.args.r c.args.change.now.to ≡ false = sym c.gives-else-not-gives.ensures ∙ c.if-gives.false in
    let needed = required_demanded u d c.args.w c.args.r ∙ lt-ltb 0 n some in
    let few = one_fewer u d c.keeps_invariant.ensures z c.args.change.now.to c.args.w c.args.r n c.requires.bound given lost in
    (λ i. leb (c.giving.ensures i) (c.demanded-wanted.ensures i)) ∙ sym (λ i. needed i && few i)
