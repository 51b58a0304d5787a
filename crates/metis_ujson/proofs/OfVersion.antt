-- What a document of version 1 spells asks for one provider of each port.
use Rattle.std.proofs.Common.{◌≡◌, ◌⊎◌, ℕ, ◌+◌, ◌||◌, true, false, cond, nat_eq, List, [], ◌∷◌, Option, Some, None, Result, Ok, Err, codes, option_and_then, refl, sym, ap, ◌∙◌, subst, inl, inr}
use Rattle.std.specs.List.{All, AllByRecursion}
use Rattle.std.proofs.lemmas.Bool.{eqb-true, or_cases}
use Rattle.std.proofs.lemmas.List.Elements.{All-from_recursion}
use Rattle.metis_ids.proofs.Lists.{each_weaker}
use Rattle.serde_json.specs.Data.{Data, Items, no_items, item}
use Rattle.serde_json.specs.Find.{as_array, as_str, get}
use Rattle.metis_universe.specs.Terms.{IsOfVersion, NeedRow, StateRow, TypeRow}
use Rattle.metis_ujson.specs.Terms.{Spelled, json_of, list_at, need_in, needs_in, needs_or_none, number_at, one_or_two, rows_in, rows_or_not_json, spelled, state_in, state_with, states_from, text_at, text_or_object, texts_or_none, type_in, type_of_states, type_with, types_from, types_with, version_in, with_first, with_state, with_type}
use Rattle.metis_ujson.specs.declared.faults.UFault.{UFault}
use Rattle.metis_ujson.specs.declared.faults.UFault.TheVariants.{StateForm}

-- ---- each entry of version 1 asks for one provider

abbrev One : NeedRow → Type 0
One n = n.count ≡ 1

abbrev OneEach : StateRow → Type 0
OneEach state = AllByRecursion One state.require

abbrev OneEachOf : TypeRow → Type 0
OneEachOf row = AllByRecursion OneEach row.states

need_one : (o : Option (List ℕ)) (n : NeedRow) → text_or_object o None ≡ Some n → One n
need_one None n h = cc
need_one (Some port) n h = let same : record { port = port; count = 1 } ≡ n = cc in ap (λ (n : NeedRow). n.count) (sym same)

first_of : {A : Type 0} (P : A → Type 0) (o : Option A) (rest : Option (List A)) (xs : List A) → ((x : A) → o ≡ Some x → P x) → ((ys : List A) → rest ≡ Some ys → AllByRecursion P ys) → with_first o rest ≡ Some xs → AllByRecursion P xs
first_of P None rest xs p q h = cc
first_of P (Some x) None xs p q h = cc
first_of P (Some x) (Some ys) xs p q h = let same : x ∷ ys ≡ xs = cc in subst (AllByRecursion P) same (p x refl, q ys refl)

needs_one : (ds : Items) (ns : List NeedRow) → needs_in 1 ds ≡ Some ns → AllByRecursion One ns
needs_one no_items ns h = let none : [] ≡ ns = cc in subst (AllByRecursion One) none tt
needs_one (item d ds) ns h = first_of One (need_in 1 d) (needs_in 1 ds) ns (λ n e. need_one (as_str d) n e) (λ ms e. needs_one ds ms e) h

listed_one : (o : Option Items) (ns : List NeedRow) → option_and_then (needs_in 1) o ≡ Some ns → AllByRecursion One ns
listed_one None ns h = cc
listed_one (Some ds) ns h = needs_one ds ns h

maybe_one : (o : Option Data) (ns : List NeedRow) → needs_or_none 1 o ≡ Some ns → AllByRecursion One ns
maybe_one None ns h = let none : [] ≡ ns = cc in subst (AllByRecursion One) none tt
maybe_one (Some d) ns h = listed_one (as_array d) ns h

state_one : (name : Option (List ℕ)) (provide : Option (List (List ℕ))) (require : Option (List NeedRow)) (next : Option (List (List ℕ))) (state : StateRow) →
    ((ns : List NeedRow) → require ≡ Some ns → AllByRecursion One ns) → state_with name provide require next ≡ Some state → OneEach state
state_one None provide require next state one h = cc
state_one (Some n) None require next state one h = cc
state_one (Some n) (Some p) None next state one h = cc
state_one (Some n) (Some p) (Some r) None state one h = cc
state_one (Some n) (Some p) (Some r) (Some x) state one h =
    let same : record { name = n; provide = p; require = r; next = x } ≡ state = cc in
    subst OneEach same (one r refl)

with_state_one : (row : Option StateRow) (fault : UFault) (rest : Result (List StateRow) UFault) (rows : List StateRow) → ((s : StateRow) → row ≡ Some s → OneEach s) →
    ((ss : List StateRow) → rest ≡ Ok ss → AllByRecursion OneEach ss) → with_state row fault rest ≡ Ok rows → AllByRecursion OneEach rows
with_state_one None fault rest rows p q h = cc
with_state_one (Some s) fault (Err later) rows p q h = cc
with_state_one (Some s) fault (Ok ss) rows p q h = let same : s ∷ ss ≡ rows = cc in subst (AllByRecursion OneEach) same (p s refl, q ss refl)

states_one : (t s : ℕ) (ds : Items) (rows : List StateRow) → states_from 1 t s ds ≡ Ok rows → AllByRecursion OneEach rows
states_one t s no_items rows h = let none : [] ≡ rows = cc in subst (AllByRecursion OneEach) none tt
states_one t s (item d ds) rows h =
    with_state_one (state_in 1 d) (StateForm t s) (states_from 1 t (s + 1) ds) rows
    (λ state e. state_one (text_at (codes "name") d) (texts_or_none (get (codes "provide") d)) (needs_or_none 1 (get (codes "require") d)) (texts_or_none (get (codes "next") d)) state (maybe_one (get (codes "require") d)) e)
    (λ ss e. states_one t (s + 1) ds ss e) h

type_of_states_one : (name initial : List ℕ) (states : Result (List StateRow) UFault) (row : TypeRow) → ((ss : List StateRow) → states ≡ Ok ss → AllByRecursion OneEach ss) → type_of_states name initial states ≡ Ok row → OneEachOf row
type_of_states_one name initial (Err fault) row p h = cc
type_of_states_one name initial (Ok ss) row p h =
    let same : record { name = name; initial = initial; states = ss } ≡ row = cc in
    subst OneEachOf same (p ss refl)

type_with_one : (t : ℕ) (name initial : Option (List ℕ)) (states : Option Items) (row : TypeRow) → type_with 1 t name initial states ≡ Ok row → OneEachOf row
type_with_one t None initial states row h = cc
type_with_one t (Some n) None states row h = cc
type_with_one t (Some n) (Some i) None row h = cc
type_with_one t (Some n) (Some i) (Some ds) row h = type_of_states_one n i (states_from 1 t 0 ds) row (λ ss e. states_one t 0 ds ss e) h

with_type_one : (row : Result TypeRow UFault) (rest : Result (List TypeRow) UFault) (rows : List TypeRow) → ((r : TypeRow) → row ≡ Ok r → OneEachOf r) →
    ((rs : List TypeRow) → rest ≡ Ok rs → AllByRecursion OneEachOf rs) → with_type row rest ≡ Ok rows → AllByRecursion OneEachOf rows
with_type_one (Err fault) rest rows p q h = cc
with_type_one (Ok r) (Err later) rows p q h = cc
with_type_one (Ok r) (Ok rs) rows p q h = let same : r ∷ rs ≡ rows = cc in subst (AllByRecursion OneEachOf) same (p r refl, q rs refl)

types_one : (t : ℕ) (ds : Items) (rows : List TypeRow) → types_from 1 t ds ≡ Ok rows → AllByRecursion OneEachOf rows
types_one t no_items rows h = let none : [] ≡ rows = cc in subst (AllByRecursion OneEachOf) none tt
types_one t (item d ds) rows h =
    with_type_one (type_in 1 t d) (types_from 1 (t + 1) ds) rows
    (λ r e. type_with_one t (text_at (codes "name") d) (text_at (codes "initial") d) (list_at (codes "states") d) r e)
    (λ rs e. types_one (t + 1) ds rs e) h

-- ---- the version

version_is : (o : Option ℕ) (v : ℕ) → one_or_two o ≡ Some v → (v ≡ 1) ⊎ (v ≡ 2)
version_is None v h = cc
version_is (Some n) v h =
    elim (nat_eq n 1 || nat_eq n 2) as (λ b. (nat_eq n 1 || nat_eq n 2) ≡ b → cond b (Some n) None ≡ Some v → (v ≡ 1) ⊎ (v ≡ 2)) [
      | true ↦ λ is e.
          let same : n ≡ v = cc in
          elim (or_cases (nat_eq n 1) (nat_eq n 2) is) [
            | inl one ↦ inl (sym same ∙ eqb-true n 1 one)
            | inr two ↦ inr (sym same ∙ eqb-true n 2 two)
          ]
      | false ↦ λ _ e. cc
    ] refl h

single : (rows : List TypeRow) → AllByRecursion OneEachOf rows → All (λ row. All (λ state. All One state.require) row.states) rows
single rows each =
    let States : TypeRow → Type 0 = λ row. All (λ state. All One state.require) row.states in
    let Needs : StateRow → Type 0 = λ state. All One state.require in
    All-from_recursion States rows (each_weaker OneEachOf States rows
    (λ row of. All-from_recursion Needs row.states (each_weaker OneEach Needs row.states (λ state one. All-from_recursion One state.require one) of)) each)

spelled_fits : (v : ℕ) (types : Result (List TypeRow) UFault) (s : Spelled) → ((v ≡ 1) ⊎ (v ≡ 2)) → ((rows : List TypeRow) → v ≡ 1 → types ≡ Ok rows → AllByRecursion OneEachOf rows) → spelled v types ≡ Ok s → IsOfVersion s.version s.types
spelled_fits v (Err fault) s is one h = cc
spelled_fits v (Ok rows) s is one h =
    let same : record { version = v; types = rows } ≡ s = cc in
    let Fits : Spelled → Type 0 = λ s. IsOfVersion s.version s.types in
    subst Fits same (record { version = is; single = λ e. single rows (one rows e refl) })

types_fit : (version : Option ℕ) (types : Option Items) (s : Spelled) → ((v : ℕ) → version ≡ Some v → (v ≡ 1) ⊎ (v ≡ 2)) → types_with version types ≡ Ok s → IsOfVersion s.version s.types
types_fit None types s is h = cc
types_fit (Some v) None s is h = cc
types_fit (Some v) (Some ds) s is h = spelled_fits v (types_from v 0 ds) s (is v refl) (λ rows e made. types_one 0 ds rows (ap (λ w. types_from w 0 ds) (sym e) ∙ made)) h

json_fits : (json : Option Data) (s : Spelled) → rows_or_not_json json ≡ Ok s → IsOfVersion s.version s.types
json_fits None s h = cc
json_fits (Some d) s h = types_fit (version_in d) (list_at (codes "types") d) s (λ v e. version_is (number_at (codes "aeolus") d) v e) h

pub rows_in-of_version : (bytes : List ℕ) (s : Spelled) → rows_in bytes ≡ Ok s → IsOfVersion s.version s.types
rows_in-of_version bytes s h = json_fits (json_of bytes) s h
