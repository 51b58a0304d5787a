use Rattle.std.proofs.Common.{◌+◌, not, sym, ap, ◌∙◌, option_map}
use Rattle.metis_universe.specs.Terms.{NeedRow, is_name, names_needed}
use Rattle.metis_universe.specs.declared.faults.RowFault.TheVariants.{PortName}
use Rattle.metis_universe.proofs.FirstFault.{first_from-unless}
use Rattle.metis_universe.proofs.Named.{position-map}
use Rattle.metis_universe.proofs.check.fault_of_needed.Goals as goal

pub returns-in_err-k : goal.returns-in_err-k
returns-in_err-k c =
    let needs = c.args.needs.now in
    c.from_residual.ensures ∙ ap (option_map (λ i. PortName c.args.t c.args.s (c.args.place + i))) (sym c.in_err-k.was ∙ c.place_of_no_port.ensures ∙ sym (position-map (λ (n : NeedRow). n.port) (λ name. not (is_name name)) needs))
    ∙ sym (first_from-unless is_name (λ k. PortName c.args.t c.args.s k) c.args.place (names_needed needs))

pub returns : goal.returns
returns c =
    let needs = c.args.needs.now in
    ap (option_map (λ i. PortName c.args.t c.args.s (c.args.place + i))) (sym c.in_ok-k.was ∙ c.place_of_no_port.ensures ∙ sym (position-map (λ (n : NeedRow). n.port) (λ name. not (is_name name)) needs))
    ∙ sym (first_from-unless is_name (λ k. PortName c.args.t c.args.s k) c.args.place (names_needed needs))
