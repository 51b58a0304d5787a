use Rattle.std.proofs.Common.{◌≡◌, ◌+◌, ◌++◌, ℕ, Some, nat_eq, true, length, map, arith, ap, sym, ◌∙◌}
use Rattle.std.specs.Map.{lookup}
use Rattle.metis_layers.specs.Terms.{place_of}
use Rattle.metis_rollout.proofs.Listed.{renamed}
use Rattle.metis_rollout.specs.Terms.{free_number, named, news_of, renumber}
use Rattle.metis_universe.specs.Terms.{has}
use Rattle.metis_reconfigure.proofs.Making.{name_found}
use Rattle.metis_reconfigure.proofs.reconfiguring.rename.Goals as goal

pub names_for-requires-clause-steadfast : goal.names_for-requires-clause-steadfast
names_for-requires-clause-steadfast c = (c.requires.steadfast.0, c.requires.steadfast.1.steadfast)

pub names_for-requires-clause-next : goal.names_for-requires-clause-next
names_for-requires-clause-next c = (0, c.in_ok-free.ensures.next, omega (arith, c.in_ok-free.ensures.few, c.requires.few))

pub returns-clause-actions : goal.returns-clause-actions
returns-clause-actions c =
    let used = c.in_ok-free.free.used.keys in
    let fresh = c.args.fresh.now in
    let table = c.in_ok-names.names.entries in
    let names : (z : ℕ) → has (news_of fresh) z ≡ true → lookup (nat_eq z) table ≡ Some (free_number used (place_of (news_of fresh) z)) = λ z there.
    let same : 0 + place_of (news_of fresh) z ≡ place_of (news_of fresh) z = omega arith in
    c.in_ok-names.ensures.names 0 c.in_ok-free.ensures.next z there ∙ ap (λ k. Some (free_number used k)) same in
    c.in_ok-push_renumbered.ensures ∙ ap (λ l. l ++ map (renumber (named table)) fresh) c.new-actions.ensures.items
    ∙ renamed c.requires.steadfast.0 c.args.old.now fresh used table c.requires.steadfast.1 c.in_ok-free.ensures.used names

pub returns-clause-names : goal.returns-clause-names
returns-clause-names c = λ z there.
    let used = c.in_ok-free.free.used.keys in
    let fresh = c.args.fresh.now in
    let same : 0 + place_of (news_of fresh) z ≡ place_of (news_of fresh) z = omega arith in
    name_found c.args.old.now fresh used c.in_ok-names.names.entries z c.in_ok-free.ensures.used (c.in_ok-names.ensures.names 0 c.in_ok-free.ensures.next z there ∙ ap (λ k. Some (free_number used k)) same)

pub returns-clause-used : goal.returns-clause-used
returns-clause-used c = λ z. ap (λ s. has s.keys z) c.in_ok-names.ensures.used ∙ c.in_ok-free.ensures.used z

pub returns-clause-few : goal.returns-clause-few
returns-clause-few c = omega (arith, ap (λ s. length s.keys) c.in_ok-names.ensures.used, c.in_ok-free.ensures.few)

pub returns-clause-next : goal.returns-clause-next
returns-clause-next c =
    let count = length (news_of c.args.fresh.now) in
    let same : 0 + count ≡ count = omega arith in
    c.in_ok-names.ensures.next 0 c.in_ok-free.ensures.next ∙ ap (free_number c.in_ok-free.free.used.keys) same ∙ ap (λ s. free_number s.keys count) (sym c.in_ok-names.ensures.used)
