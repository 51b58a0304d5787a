use Rattle.std.proofs.Common.{◌+◌, ◌∙◌, Some, ap, sym, arith}
use Rattle.metis_place.specs.Terms.{first_place}
use Rattle.metis_ids.specs.Terms.{greatest}
use Rattle.metis_place.proofs.Trees.{at_fork, place_first, place_low, place_neither, place_none, place_other, rooms_most}
use Rattle.metis_place.proofs.rooms.Rooms.+first.Goals as goal

pub returns-then-self-from : goal.returns-then-self-from
returns-then-self-from t c =
    let most = rooms_most _ _ c.self.invariant ∙ ap greatest c.self.view_is in
    sym (place_none c.args.size c.args.self.now (omega arith))

pub overflow_add-result : goal.overflow_add-result
overflow_add-result t c =
    let f = at_fork c.self.inside.most c.self.view_is c.self.invariant c.in-Fork.is in
    let low = place_low c.args.size c.in-Fork.others.value c.in-Some-first.place (sym (c.in-Some-first.ensures ∙ ap (first_place c.args.size) c.deref-in-None.ensures)) in
    let count = f.count in
    let total = f.total in
    omega arith

pub returns-in-Some : goal.returns-in-Some
returns-in-Some t c =
    let f = at_fork c.self.inside.most c.self.view_is c.self.invariant c.in-Fork.is in
    place_first c.args.size c.in-Fork.first.value c.in-Fork.others.value c.in-Some.place (c.in-Some.ensures ∙ ap (first_place c.args.size) c.deref.ensures) ∙ ap (first_place c.args.size) (sym f.is)

pub returns-in-Some-first : goal.returns-in-Some-first
returns-in-Some-first t c =
    let f = at_fork c.self.inside.most c.self.view_is c.self.invariant c.in-Fork.is in
    ap (λ n. Some (n + c.in-Some-first.place)) f.count ∙ place_other c.args.size c.in-Fork.first.value c.in-Fork.others.value c.in-Some-first.place (c.in-None.ensures ∙ ap (first_place c.args.size) c.deref.ensures) (c.in-Some-first.ensures ∙ ap (first_place c.args.size) c.deref-in-None.ensures) ∙ ap (first_place c.args.size) (sym f.is)

pub returns-in-None-first : goal.returns-in-None-first
returns-in-None-first t c =
    let f = at_fork c.self.inside.most c.self.view_is c.self.invariant c.in-Fork.is in
    place_neither c.args.size c.in-Fork.first.value c.in-Fork.others.value (c.in-None.ensures ∙ ap (first_place c.args.size) c.deref.ensures) (c.in-None-first.ensures ∙ ap (first_place c.args.size) c.deref-in-None.ensures) ∙ ap (first_place c.args.size) (sym f.is)
