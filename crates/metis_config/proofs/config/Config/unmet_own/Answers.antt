use Rattle.std.proofs.Common.{◌≡◌, ◌&&◌, ℕ, List, [], ◌∷◌, Some, cond, nat_lt, not, refl, sym, ap, ◌∙◌}
use Rattle.std.specs.List.{find}
use Rattle.std.specs.Option.{option_and_then}
use Rattle.metis_universe.specs.Terms.{demand_of, is_met, required_of}
use Rattle.metis_config.specs.Terms.{demanded, is_met_if}
use Rattle.metis_config.proofs.GivenUp.{new_ports}
use Rattle.metis_config.proofs.Providers.{own_met}
use Rattle.metis_config.proofs.config.Config.unmet_own.Goals as goal

pub returns : goal.returns
returns c =
    let u = c.args.u.now in
    let d = c.args.self.now in
    let z = c.args.change.now.inst in
    let o = c.args.change.now.to in
    let q = c.in_ok-q.q in
    c.new_unmet.ensures ∙ alike (required_of u q)
    ∙ new_ports u d c.requires.correct z o c.requires.config q (required_of u q)
    ∙ sym (ap (λ o'. option_and_then (λ q. find (λ r. not (is_met_if u d z o z r (demand_of u q r))) (required_of u q)) o') c.in_ok-q.was)
  where
    alike : (ports : List ℕ) → find (λ r. nat_lt (demanded c.args.u.now c.args.self.now c.args.change.now.inst r) (demand_of c.args.u.now c.in_ok-q.q r) && not (is_met c.args.u.now c.args.self.now c.args.change.now.inst r (demand_of c.args.u.now c.in_ok-q.q r))) ports
        ≡ find (λ r. nat_lt (demanded c.args.u.now c.args.self.now c.args.change.now.inst r) (demand_of c.args.u.now c.in_ok-q.q r) && not (is_met_if c.args.u.now c.args.self.now c.args.change.now.inst c.args.change.now.to c.args.change.now.inst r (demand_of c.args.u.now c.in_ok-q.q r))) ports
    alike [] = refl
    alike (r ∷ ports) = λ i. cond (nat_lt (demanded c.args.u.now c.args.self.now c.args.change.now.inst r) (demand_of c.args.u.now c.in_ok-q.q r) && not (own_met c.args.u.now c.args.self.now c.requires.config c.args.change.now.inst c.args.change.now.to r (demand_of c.args.u.now c.in_ok-q.q r) i)) (Some r) (alike ports i)
