use Rattle.std.proofs.Common.{◌≡◌, false, sym, ap, ◌∙◌}
use Rattle.std.specs.Ordering.{nat_cmp}
use Rattle.std.specs.BTreeSet.{insert_key}
use Rattle.metis_ids.specs.Terms.{has}
use Rattle.metis_sort.specs.Terms.{offers}
use Rattle.metis_sort.proofs.ReadyFacts.{insert_apart, offers-insert, ok_or_err}
use Rattle.metis_sort.proofs.ready.Ready.add.Goals as goal

pub invariant_of-self-else-eq : goal.invariant_of-self-else-eq
invariant_of-self-else-eq c =
    let r = c.args.self.now in
    let keys = c.insert.new.self.keys in
    let other = sym c.eq.ensures ∙ c.if-eq.false in
    record {
      apart = ok_or_err c.insert.result (keys ≡ insert_key nat_cmp r.others.keys c.args.node) (keys ≡ r.others.keys) (has keys r.last ≡ false)
          (λ e. ap (λ ks. has ks r.last) e ∙ insert_apart r.others.keys r.last c.args.node r.apart other)
          (λ e. ap (λ ks. has ks r.last) e ∙ r.apart)
          c.insert.ensures.keys c.insert.ensures.err;
    }

pub returns-in_ok-insert-clause-added : goal.returns-in_ok-insert-clause-added
returns-in_ok-insert-clause-added c = λ n.
    let r = c.args.self.now in
    ap (λ ks. offers ks r.last r.with_last n) c.in_ok-insert.ensures.keys
    ∙ offers-insert r.others.keys r.last c.args.node r.with_last (sym c.eq.ensures ∙ c.if-eq.false) n
