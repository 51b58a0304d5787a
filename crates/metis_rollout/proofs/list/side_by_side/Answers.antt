use Rattle.std.proofs.Common.{◌≡◌, ◌+◌, ◌++◌, ◌∙◌, ap, arith, length, map, ℕ, Some, nat_eq, true}
use Rattle.std.specs.Map.{lookup}
use Rattle.metis_layers.specs.Terms.{place_of}
use Rattle.metis_universe.specs.Terms.{has}
use Rattle.metis_rollout.proofs.Listed.{renamed}
use Rattle.metis_rollout.specs.Terms.{free_number, named, news_of, renumber}
use Rattle.metis_rollout.proofs.list.side_by_side.Goals as goal

pub names_for-requires-clause-steadfast : goal.names_for-requires-clause-steadfast
names_for-requires-clause-steadfast c = (c.requires.steadfast.0, c.requires.steadfast.1.steadfast)

pub names_for-requires-clause-next : goal.names_for-requires-clause-next
names_for-requires-clause-next c = (0, c.requires.next, omega (arith, c.requires.few))

pub returns-clause-list : goal.returns-clause-list
returns-clause-list c =
    let used = c.args.free.now.used.keys in
    let fresh = c.args.fresh.now in
    let table = c.in_ok-names.names.entries in
    let first = c.in_ok-extend_from_slice.ensures.items ∙ ap (λ l. l ++ c.args.old.now) c.new-actions.ensures.items in
    let names : (z : ℕ) → has (news_of fresh) z ≡ true → lookup (nat_eq z) table ≡ Some (free_number used (place_of (news_of fresh) z)) = λ z there.
    let same : 0 + place_of (news_of fresh) z ≡ place_of (news_of fresh) z = omega arith in
    c.in_ok-names.ensures.names 0 c.requires.next z there ∙ ap (λ k. Some (free_number used k)) same in
    c.in_ok-push_renumbered.ensures ∙ ap (λ l. l ++ map (renumber (named table)) fresh) first ∙ ap (λ l. c.args.old.now ++ l) (renamed c.requires.steadfast.0 c.args.old.now fresh used table c.requires.steadfast.1 c.requires.used names)

pub returns-clause-next : goal.returns-clause-next
returns-clause-next c =
    let count = length (news_of c.args.fresh.now) in
    let same : 0 + count ≡ count = omega arith in
    c.in_ok-names.ensures.next 0 c.requires.next ∙ ap (free_number c.args.free.now.used.keys) same
