use Rattle.std.proofs.Common.{ℕ, Bool, List, false, get_or, sym, ap, ◌∙◌, subst}
use Rattle.metis_layers.specs.Terms.{IsRead}
use Rattle.metis_layers.proofs.WorkFacts.{read_more}
use Rattle.metis_layers.proofs.work.Work.visit.Goals as goal

pub returns-clause-tally : goal.returns-clause-tally
returns-clause-tally g c =
    let u = g.R.Reading.universe c.args.r.now in
    let old = c.args.self.now in
    let new = c.provide.new.self in
    let p = c.args.p in
    let leads = c.in_ok-lead_on.ensures.leads in
    let provides = c.in_ok-provide.ensures.provides in
    let counting = c.in_ok-provide.ensures.counting in
    let read = read_more u old.counters.led new.counters.led old.counters.unmet new.counters.unmet old.first.items new.first.items old.order.items p c.requires.tally.read
    counting.ports (λ q. ap (λ (v : List Bool). get_or v q false) provides.led ∙ leads.led q) provides.first counting.tallied in
    record {
      counting = counting;
      read = subst (λ (d : List ℕ). IsRead u new.counters.led new.counters.unmet new.first.items d) (sym (provides.order ∙ c.in_ok-push.ensures.items)) read;
    }
