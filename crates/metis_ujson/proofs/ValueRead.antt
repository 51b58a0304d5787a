-- The text of a document's value is read as that value.
use Rattle.std.proofs.Common.{◌≡◌, ℕ, suc, ◌<◌, ◌≤◌, ◌^◌, max, true, false, cond, nat_eq, List, [], ◌∷◌, map, Some, option_map, option_and_then, refl, sym, ap, ap₂, ◌∙◌, append-nil, arith}
use Rattle.std.specs.List.{AllByRecursion}
use Rattle.metis_ids.proofs.Lists.{each_weaker}
use Rattle.json.specs.Json as json
use Rattle.json.specs.Tree as tree
use Rattle.json.proofs.Printed.Decimals.{IsNumber-decimal}
use Rattle.json.proofs.Printed.Tokens.{tokens-print}
use Rattle.json.proofs.Printed.Trees.{ArePrintable-json_tokens, value-json_tokens}
use Rattle.serde_json.specs.Data.{Data, null, boolean, number, string, array, object, Items, no_items, item, Members, no_members, member, depth, items_depth, members_depth}
use Rattle.serde_json.specs.Read.{of_json, of_items, max_depth, read}
use Rattle.serde_json.specs.View.{items_of}
use Rattle.serde_json.specs.Written.{compact_text, outline, items_outline, members_outline}
use Rattle.serde_json.proofs.Numbers.{number_of-decimal}
use Rattle.serde_json.proofs.Texts.{print-outline}
use Rattle.metis_universe.specs.Terms.{NeedRow, StateRow, TypeRow}
use Rattle.metis_ujson.specs.Terms.{counted_value, document_of, list_of, need_value, state_value, type_value}
use Rattle.metis_ujson.proofs.Fitting.{FitRows, FitsNeed, FitsState, FitsType}
use Rattle.metis_ujson.proofs.Plain.{shallow}

-- ---- the outline of any value is as deep as the value

mutual
  depth-outline : (d : Data) → tree.depth (outline d) ≡ depth d
  depth-outline null = refl
  depth-outline (boolean b) = refl
  depth-outline (number n) = refl
  depth-outline (string s) = refl
  depth-outline (array ds) = ap suc (depth-items_outline ds)
  depth-outline (object ms) = ap suc (depth-members_outline ms)

  depth-items_outline : (ds : Items) → tree.items_depth (items_outline ds) ≡ items_depth ds
  depth-items_outline no_items = refl
  depth-items_outline (item d ds) = ap₂ max (depth-outline d) (depth-items_outline ds)

  depth-members_outline : (ms : Members) → tree.members_depth (members_outline ms) ≡ members_depth ms
  depth-members_outline no_members = refl
  depth-members_outline (member k d ms) = ap₂ max (depth-outline d) (depth-members_outline ms)

-- ---- the numbers of a document

numbers-list : {A : Type 0} (value : A → Data) (xs : List A) → AllByRecursion (λ x. tree.HasNumbers (outline (value x))) xs → tree.HasNumbers (outline (list_of value xs))
numbers-list value [] h = tt
numbers-list value (x ∷ xs) h = (h.0, numbers-list value xs h.1)

numbers-texts : (xs : List (List ℕ)) → tree.HasNumbers (outline (list_of string xs))
numbers-texts [] = tt
numbers-texts (x ∷ xs) = (tt, numbers-texts xs)

small : (n : ℕ) → n ≤ 16 → n < 2 ^ 64
small n h = omega arith

numbers-need : (v : ℕ) (n : NeedRow) → FitsNeed v n → tree.HasNumbers (outline (need_value n))
numbers-need v n h = elim (nat_eq n.count 1) as (λ b. tree.HasNumbers (outline (cond b (string n.port) (counted_value n)))) [ true ↦ tt | false ↦ (IsNumber-decimal n.count (small n.count h.1), (tt, tt)) ]

numbers-state : (v : ℕ) (row : StateRow) → FitsState v row → tree.HasNumbers (outline (state_value row))
numbers-state v row h =
    let require = numbers-list need_value row.require (each_weaker (FitsNeed v) (λ n. tree.HasNumbers (outline (need_value n))) row.require (numbers-need v) h) in
    (tt, (numbers-texts row.next, (numbers-texts row.provide, (require, tt))))

numbers-type : (v : ℕ) (row : TypeRow) → FitsType v row → tree.HasNumbers (outline (type_value row))
numbers-type v row h =
    let states = numbers-list state_value row.states (each_weaker (FitsState v) (λ s. tree.HasNumbers (outline (state_value s))) row.states (numbers-state v) h) in
    (tt, (tt, (states, tt)))

numbers : (v : ℕ) (rows : List TypeRow) → v ≤ 16 → FitRows v rows → tree.HasNumbers (outline (document_of v rows))
numbers v rows low h =
    let types = numbers-list type_value rows (each_weaker (FitsType v) (λ t. tree.HasNumbers (outline (type_value t))) rows (numbers-type v) h) in
    (IsNumber-decimal v (small v low), (types, tt))

-- ---- the outline of a document is that document

back-items : {A : Type 0} (value : A → Data) (xs : List A) → AllByRecursion (λ x. of_json (outline (value x)) ≡ Some (value x)) xs → of_items (items_outline (items_of (map value xs))) ≡ Some (items_of (map value xs))
back-items value [] h = refl
back-items value (x ∷ xs) h =
    ap (option_and_then (λ d. option_map (item d) (of_items (items_outline (items_of (map value xs)))))) h.0
    ∙ ap (option_map (item (value x))) (back-items value xs h.1)

back-texts : (xs : List (List ℕ)) → of_items (items_outline (items_of (map string xs))) ≡ Some (items_of (map string xs))
back-texts [] = refl
back-texts (x ∷ xs) = ap (option_map (item (string x))) (back-texts xs)

back-need : (v : ℕ) (n : NeedRow) → FitsNeed v n → of_json (outline (need_value n)) ≡ Some (need_value n)
back-need v n h = elim (nat_eq n.count 1) as (λ b. of_json (outline (cond b (string n.port) (counted_value n))) ≡ Some (cond b (string n.port) (counted_value n))) [
  | true ↦ refl
  | false ↦ rw (number_of-decimal n.count (small n.count h.1)) refl
]

back-state : (v : ℕ) (row : StateRow) → FitsState v row → of_json (outline (state_value row)) ≡ Some (state_value row)
back-state v row h =
    let require = back-items need_value row.require (each_weaker (FitsNeed v) (λ n. of_json (outline (need_value n)) ≡ Some (need_value n)) row.require (back-need v) h) in
    rw (back-texts row.next, back-texts row.provide, require) refl

back-type : (v : ℕ) (row : TypeRow) → FitsType v row → of_json (outline (type_value row)) ≡ Some (type_value row)
back-type v row h =
    let states = back-items state_value row.states (each_weaker (FitsState v) (λ s. of_json (outline (state_value s)) ≡ Some (state_value s)) row.states (back-state v) h) in
    rw states refl

back : (v : ℕ) (rows : List TypeRow) → v ≤ 16 → FitRows v rows → of_json (outline (document_of v rows)) ≡ Some (document_of v rows)
back v rows low h =
    let types = back-items type_value rows (each_weaker (FitsType v) (λ t. of_json (outline (type_value t)) ≡ Some (type_value t)) rows (back-type v) h) in
    rw (number_of-decimal v (small v low), types) refl

-- ---- reading

pub read-compact_text : (v : ℕ) (rows : List TypeRow) → v ≤ 16 → FitRows v rows → read (compact_text (document_of v rows)) ≡ Some (document_of v rows)
read-compact_text v rows few fit =
    let j = outline (document_of v rows) in
    let low : tree.depth j ≤ max_depth = omega (arith, depth-outline (document_of v rows), shallow v rows) in
    ap read (sym (print-outline (document_of v rows)))
    ∙ ap (λ ts. option_and_then of_json (option_and_then (λ p. json.if_last p.0 p.1) (json.value max_depth ts)))
    (tokens-print (tree.json_tokens j) (ArePrintable-json_tokens j (numbers v rows few fit)) ∙ sym (append-nil (tree.json_tokens j)))
    ∙ ap (λ o. option_and_then of_json (option_and_then (λ p. json.if_last p.0 p.1) o)) (value-json_tokens j max_depth [] low)
    ∙ back v rows few fit
