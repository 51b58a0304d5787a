use Rattle.std.proofs.Common.{◌≡◌, ◌+◌, ◌++◌, ◌∷◌, [], get_or, set, subst, ap, sym, ◌∙◌, arith}
use Rattle.std.proofs.lemmas.List.{get_or_default}
use Rattle.metis_sort.specs.Terms.{IsRoomy, filling_of}
use Rattle.metis_sort.proofs.RowFacts.{one_filled, place_within, row_room, row_within, still_roomy}
use Rattle.metis_sort.proofs.filling.Filling.push.Goals as goal

pub index_mut-requires : goal.index_mut-requires
index_mut-requires c =
    let starts = c.self.inside.starts.items in
    let ends = c.self.inside.ends.items in
    let nodes = c.self.inside.nodes.items in
    let ok = c.self.invariant in
    let x = c.row.inside.0 in
    let low = row_within starts ends nodes ok c.args.self.now c.self.view_is c.args.row x c.row.view_is c.requires.within in
    let free = row_room starts ends nodes ok c.args.self.now c.self.view_is c.args.row x c.row.view_is c.requires.within c.requires.room in
    let end : c.index-end.result.now ≡ get_or ends x 0 = c.index-end.ensures ∙ get_or_default ends x c.index-end.result.now 0 low in
    let within = place_within starts ends nodes ok x c.args.node low free in
    let held = c.self.inside.nodes.ok.0 in
    omega arith

pub overflow_add-end : goal.overflow_add-end
overflow_add-end c =
    let starts = c.self.inside.starts.items in
    let ends = c.self.inside.ends.items in
    let nodes = c.self.inside.nodes.items in
    let ok = c.self.invariant in
    let x = c.row.inside.0 in
    let low = row_within starts ends nodes ok c.args.self.now c.self.view_is c.args.row x c.row.view_is c.requires.within in
    let free = row_room starts ends nodes ok c.args.self.now c.self.view_is c.args.row x c.row.view_is c.requires.within c.requires.room in
    let end : c.index-end.result.now ≡ get_or ends x 0 = c.index-end.ensures ∙ get_or_default ends x c.index-end.result.now 0 low in
    let within = place_within starts ends nodes ok x c.args.node low free in
    let few = ok.few in
    omega (arith, end, within, few)

pub invariant_of-self : goal.invariant_of-self
invariant_of-self c =
    let starts = c.self.inside.starts.items in
    let ends = c.self.inside.ends.items in
    let nodes = c.self.inside.nodes.items in
    let ok = c.self.invariant in
    let x = c.row.inside.0 in
    let low = row_within starts ends nodes ok c.args.self.now c.self.view_is c.args.row x c.row.view_is c.requires.within in
    let free = row_room starts ends nodes ok c.args.self.now c.self.view_is c.args.row x c.row.view_is c.requires.within c.requires.room in
    let end : c.index-end.result.now ≡ get_or ends x 0 = c.index-end.ensures ∙ get_or_default ends x c.index-end.result.now 0 low in
    subst (λ k. IsRoomy starts (set ends x (k + 1)) (set nodes k c.args.node)) (sym end) (still_roomy starts ends nodes ok x c.args.node low free)

pub returns-clause-rows : goal.returns-clause-rows
returns-clause-rows c =
    let starts = c.self.inside.starts.items in
    let ends = c.self.inside.ends.items in
    let nodes = c.self.inside.nodes.items in
    let ok = c.self.invariant in
    let x = c.row.inside.0 in
    let low = row_within starts ends nodes ok c.args.self.now c.self.view_is c.args.row x c.row.view_is c.requires.within in
    let free = row_room starts ends nodes ok c.args.self.now c.self.view_is c.args.row x c.row.view_is c.requires.within c.requires.room in
    let end : c.index-end.result.now ≡ get_or ends x 0 = c.index-end.ensures ∙ get_or_default ends x c.index-end.result.now 0 low in
    ap (λ k. (filling_of starts (set ends x (k + 1)) (set nodes k c.args.node)).rows) end
    ∙ one_filled starts ends nodes ok x c.args.node low free
    ∙ (λ i. set (c.self.view_is i).rows (c.row.view_is i) (get_or (c.self.view_is i).rows (c.row.view_is i) [] ++ c.args.node ∷ []))
