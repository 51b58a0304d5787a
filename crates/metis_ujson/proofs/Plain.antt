-- The value of a document: it has no float, and few levels.
use Rattle.std.proofs.Common.{◌≡◌, ℕ, suc, ◌≤◌, List, [], ◌∷◌, true, false, cond, nat_eq, refl, arith}
use Rattle.serde_json.specs.Data.{Data, string, depth}
use Rattle.serde_json.specs.Written.{has_float}
use Rattle.metis_universe.specs.Terms.{NeedRow, StateRow, TypeRow}
use Rattle.metis_ujson.specs.Terms.{counted_value, document_of, list_of, need_value, state_value, type_value}

no_float-list : {A : Type 0} (value : A → Data) → ((x : A) → has_float (value x) ≡ false) → (xs : List A) → has_float (list_of value xs) ≡ false
no_float-list value none [] = refl
no_float-list value none (x ∷ xs) = rw (none x) (no_float-list value none xs)

no_float-need : (n : NeedRow) → has_float (need_value n) ≡ false
no_float-need n = elim (nat_eq n.count 1) as (λ b. has_float (cond b (string n.port) (counted_value n)) ≡ false) [ true ↦ refl | false ↦ refl ]

no_float-state : (row : StateRow) → has_float (state_value row) ≡ false
no_float-state row = rw (no_float-list string (λ s. refl) row.next, no_float-list string (λ s. refl) row.provide, no_float-list need_value no_float-need row.require) refl

no_float-type : (row : TypeRow) → has_float (type_value row) ≡ false
no_float-type row = rw (no_float-list state_value no_float-state row.states) refl

pub no_float : (version : ℕ) (rows : List TypeRow) → has_float (document_of version rows) ≡ false
no_float version rows = rw (no_float-list type_value no_float-type rows) refl

shallow-list : {A : Type 0} (value : A → Data) (k : ℕ) → ((x : A) → depth (value x) ≤ k) → (xs : List A) → depth (list_of value xs) ≤ suc k
shallow-list value k each [] = omega arith
shallow-list value k each (x ∷ xs) = let here = each x in let later = shallow-list value k each xs in omega arith

shallow-need : (n : NeedRow) → depth (need_value n) ≤ 1
shallow-need n = elim (nat_eq n.count 1) as (λ b. depth (cond b (string n.port) (counted_value n)) ≤ 1) [ true ↦ omega arith | false ↦ omega arith ]

shallow-state : (row : StateRow) → depth (state_value row) ≤ 3
shallow-state row =
    let none : (s : List ℕ) → depth (string s) ≤ 0 = λ s. omega arith in
    let next = shallow-list string 0 none row.next in
    let provide = shallow-list string 0 none row.provide in
    let require = shallow-list need_value 1 shallow-need row.require in
    omega arith

shallow-type : (row : TypeRow) → depth (type_value row) ≤ 5
shallow-type row = let states = shallow-list state_value 3 shallow-state row.states in omega arith

pub shallow : (version : ℕ) (rows : List TypeRow) → depth (document_of version rows) ≤ 127
shallow version rows = let types = shallow-list type_value 5 shallow-type rows in omega arith
