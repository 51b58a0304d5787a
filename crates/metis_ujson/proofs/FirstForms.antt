-- The fault of form that is told of a document is the first.
use Rattle.std.proofs.Common.{◌≡◌, ℕ, zero, suc, ◌+◌, ◌⊎◌, true, false, is_some, List, ◌∷◌, Option, Some, None, Result, Ok, Err, codes, inl, inr, refl, ap, sym, ◌∙◌, subst, arith}
use Rattle.std.specs.Prelude.{IsNone, IsSome, slice_get}
use Rattle.serde_json.specs.Data.{Data, Items, no_items, item}
use Rattle.metis_ids.proofs.Options.{none_from_IsNone}
use Rattle.metis_universe.specs.Terms.{StateRow, TypeRow}
use Rattle.metis_ujson.specs.Terms.{EachBefore, HasForm, IsFirstFault, IsFirstType, IsRead, IsWhole, LacksForm, Spelled, Spells, json_of, list_at, rows_in, rows_of, rows_or_not_json, spelled, state_in, states_from, text_at, type_in, type_of_states, type_with, types_from, types_with, values_of, version_in, with_state, with_type}
use Rattle.metis_ujson.specs.declared.faults.UFault.{UFault}
use Rattle.metis_ujson.specs.declared.faults.UFault.TheVariants as faults
use Rattle.metis_ujson.specs.declared.faults.UFault.TheVariants.{NotJson, NotUniverse, TypeForm, StateForm}

none_some : {A : Type 0} {x : A} → None ≡ Some x → ⊥
none_some e = cc

same_some : {A : Type 0} (x y : A) → Some x ≡ Some y → x ≡ y
same_some x y e = cc

ok_err : {A : Type 0} {x : A} {f : UFault} → Ok x ≡ Err f → ⊥
ok_err e = cc

same_err : {A : Type 0} (f g : UFault) → ◌≡◌ {A = Result A UFault} (Err f) (Err g) → f ≡ g
same_err f g e = cc

some_is : {A : Type 0} (o : Option A) → IsSome o → (x : A) × (o ≡ Some x)
some_is None h = absurd (false_true h) where
  false_true : false ≡ true → ⊥
  false_true e = cc
some_is (Some x) h = (x, refl)

before_tail : (P : Data → Type 0) (d : Data) (ds : List Data) (i : ℕ) → EachBefore P (d ∷ ds) (suc i) → EachBefore P ds i
before_tail P d ds i h k x l at = h (suc k) x (omega arith) at

before_cons : (P : Data → Type 0) (d : Data) (ds : List Data) (i : ℕ) → P d → EachBefore P ds i → EachBefore P (d ∷ ds) (suc i)
before_cons P d ds i p h zero x l at = subst P (same_some d x at) p
before_cons P d ds i p h (suc k) x l at = h k x (omega arith) at

before_none : (P : Data → Type 0) (ds : List Data) → EachBefore P ds 0
before_none P ds k x l at = absurd (omega arith)

-- ---- states

record IsFirstState (v : ℕ) (ds : List Data) (i : ℕ) (x : Data) : Type 0 where
  pub at : slice_get ds i ≡ Some x
  pub lacks : IsNone (state_in v x)
  pub before : EachBefore (IsRead v) ds i

module _ (v t : ℕ) where
  -- where a state has no form, the first of these is told
  states_told : (s : ℕ) (ds : Items) (i : ℕ) (x : Data) → IsFirstState v (values_of ds) i x → states_from v t s ds ≡ Err (StateForm t (s + i))
  states_told s no_items i x h = absurd (none_some h.at)
  states_told s (item d ds) zero x h =
      let is = same_some d x h.at in
      let zero : s ≡ s + 0 = omega arith in
      ap (λ o. with_state o (StateForm t s) (states_from v t (s + 1) ds)) (ap (state_in v) is ∙ none_from_IsNone (state_in v x) h.lacks) ∙ ap (λ n. Err (StateForm t n)) zero
  states_told s (item d ds) (suc i) x h =
      let row = some_is (state_in v d) (h.before 0 d (omega arith) refl) in
      let rest = states_told (s + 1) ds i x (record { at = h.at; lacks = h.lacks; before = before_tail (IsRead v) d (values_of ds) i h.before }) in
      let e : s + 1 + i ≡ s + suc i = omega arith in
      (λ j. with_state (row.1 j) (StateForm t s) (rest j)) ∙ ap (λ n. Err (StateForm t n)) e

  record IsToldState (s : ℕ) (ds : List Data) (f : UFault) : Type 0 where
    pub i : ℕ
    pub x : Data
    pub first : IsFirstState v ds i x
    pub is : f ≡ StateForm t (s + i)

  -- and only this
  states_first : (s : ℕ) (ds : Items) (f : UFault) → states_from v t s ds ≡ Err f → IsToldState s (values_of ds) f
  states_first s no_items f e = absurd (ok_err e)
  states_first s (item d ds) f e =
      elim (state_in v d) as (λ o. state_in v d ≡ o → with_state o (StateForm t s) (states_from v t (s + 1) ds) ≡ Err f → IsToldState s (d ∷ values_of ds) f) [
        | None ↦ λ lacks told.
            let zero : s ≡ s + 0 = omega arith in
            record { i = 0; x = d; first = record { at = refl; lacks = ap is_some lacks; before = before_none (IsRead v) (d ∷ values_of ds) }; is = sym (same_err {A = List StateRow} _ _ told) ∙ ap (StateForm t) zero }
        | Some row ↦ λ read told.
            elim (states_from v t (s + 1) ds) as (λ r. states_from v t (s + 1) ds ≡ r → with_state (Some row) (StateForm t s) r ≡ Err f → IsToldState s (d ∷ values_of ds) f) [
              | Ok rows ↦ λ _ not. absurd (ok_err not)
              | Err later ↦ λ q same.
                  let rest = states_first (s + 1) ds later q in
                  let e : s + 1 + rest.i ≡ s + suc rest.i = omega arith in
                  record {
                    i = suc rest.i;
                    x = rest.x;
                    first = record { at = rest.first.at; lacks = rest.first.lacks; before = before_cons (IsRead v) d (values_of ds) rest.i (ap is_some read) rest.first.before };
                    is = sym (same_err {A = List StateRow} later f same) ∙ rest.is ∙ ap (StateForm t) e;
                  }
            ] refl told
      ] refl e

  states_read : (s : ℕ) (ds : Items) (rows : List StateRow) → states_from v t s ds ≡ Ok rows → (k : ℕ) (x : Data) → slice_get (values_of ds) k ≡ Some x → IsRead v x
  states_read s no_items rows e k x at = absurd (none_some at)
  states_read s (item d ds) rows e k x at =
      elim (state_in v d) as (λ o. state_in v d ≡ o → with_state o (StateForm t s) (states_from v t (s + 1) ds) ≡ Ok rows → IsRead v x) [
        | None ↦ λ _ not. absurd (ok_err (sym not))
        | Some row ↦ λ read told.
            elim (states_from v t (s + 1) ds) as (λ r. states_from v t (s + 1) ds ≡ r → with_state (Some row) (StateForm t s) r ≡ Ok rows → IsRead v x) [
              | Err later ↦ λ _ not. absurd (ok_err (sym not))
              | Ok rest ↦ λ q _. by k read (λ j low. states_read (s + 1) ds rest q j x low) at
            ] refl told
      ] refl e
    where
      by : (k : ℕ) {row : StateRow} → state_in v d ≡ Some row → ((j : ℕ) → slice_get (values_of ds) j ≡ Some x → IsRead v x) → slice_get (d ∷ values_of ds) k ≡ Some x → IsRead v x
      by zero read rest at = subst (IsRead v) (same_some d x at) (ap is_some read)
      by (suc k) read rest at = rest k at

-- ---- types

text_none : (d : Data) (o : Option (List ℕ)) → o ≡ None → IsSome o → ⊥
text_none d o e h = some_none (sym (ap is_some e) ∙ h) where
  some_none : false ≡ true → ⊥
  some_none e = cc

module _ (v t : ℕ) (d : Data) where
  abbrev name_of : Option (List ℕ)
  name_of = text_at (codes "name") d

  abbrev initial_of : Option (List ℕ)
  initial_of = text_at (codes "initial") d

  abbrev states_of : Option Items
  states_of = list_at (codes "states") d

  record IsToldType (f : UFault) : Type 0 where
    pub either : (LacksForm d × (f ≡ TypeForm t)) ⊎ ((states : List Data) × HasForm d states × IsToldState v t 0 states f)

  record HasParts : Type 0 where
    pub name : List ℕ
    pub initial : List ℕ
    pub items : Items
    pub name_is : name_of ≡ Some name
    pub initial_is : initial_of ≡ Some initial
    pub items_is : states_of ≡ Some items

  -- a value has its three parts, or one is missing
  parts : HasParts ⊎ (LacksForm d × (type_in v t d ≡ Err (TypeForm t)))
  parts = elim name_of as (λ o. name_of ≡ o → HasParts ⊎ (LacksForm d × (type_with v t o initial_of states_of ≡ Err (TypeForm t)))) [
    | None ↦ λ e. inr ((λ states h. text_none d name_of e h.name), refl)
    | Some n ↦ λ e. elim initial_of as (λ o. initial_of ≡ o → HasParts ⊎ (LacksForm d × (type_with v t (Some n) o states_of ≡ Err (TypeForm t)))) [
      | None ↦ λ q. inr ((λ states h. text_none d initial_of q h.initial), refl)
      | Some i ↦ λ q. elim states_of as (λ o. states_of ≡ o → HasParts ⊎ (LacksForm d × (type_with v t (Some n) (Some i) o ≡ Err (TypeForm t)))) [
        | None ↦ λ r. inr ((λ states h. none_some (sym r ∙ h.list)), refl)
        | Some items ↦ λ r. inl (record { name = n; initial = i; items = items; name_is = e; initial_is = q; items_is = r })
      ] refl
    ] refl
  ] refl

  form_of : (h : HasParts) → HasForm d (values_of h.items)
  form_of h = record { items = h.items; name = ap is_some h.name_is; initial = ap is_some h.initial_is; list = h.items_is; values = refl }

  type_is : (h : HasParts) → type_in v t d ≡ type_of_states h.name h.initial (states_from v t 0 h.items)
  type_is h = λ i. type_with v t (h.name_is i) (h.initial_is i) (h.items_is i)

  states_same : (h : HasParts) (states : List Data) → HasForm d states → states ≡ values_of h.items
  states_same h states form = form.values ∙ ap values_of (same_some form.items h.items (sym form.list ∙ h.items_is))

  type_first : (f : UFault) → type_in v t d ≡ Err f → IsToldType f
  type_first f e = elim parts [
    | inl h ↦
        let is = type_is h in
        elim (states_from v t 0 h.items) as (λ r. states_from v t 0 h.items ≡ r → type_of_states h.name h.initial r ≡ Err f → IsToldType f) [
          | Ok rows ↦ λ _ not. absurd (ok_err not)
          | Err g ↦ λ q same. record { either = inr (values_of h.items, form_of h, subst (IsToldState v t 0 (values_of h.items)) (same_err {A = TypeRow} g f same) (states_first v t 0 h.items g q)) }
        ] refl (sym is ∙ e)
    | inr none ↦ record { either = inl (none.0, sym (same_err {A = TypeRow} _ f (sym none.1 ∙ e))) }
  ]

  type_lacks : LacksForm d → type_in v t d ≡ Err (TypeForm t)
  type_lacks lacks = elim parts [
    | inl h ↦ absurd (lacks (values_of h.items) (form_of h))
    | inr none ↦ none.1
  ]

  type_states : (states : List Data) → HasForm d states → (i : ℕ) (x : Data) → IsFirstState v states i x → type_in v t d ≡ Err (StateForm t i)
  type_states states form i x first = elim parts [
    | inl h ↦
        let zero : 0 + i ≡ i = omega arith in
        type_is h ∙ ap (type_of_states h.name h.initial) (states_told v t 0 h.items i x (subst (λ ds. IsFirstState v ds i x) (states_same h states form) first)) ∙ ap (λ n. Err (StateForm t n)) zero
    | inr none ↦ absurd (none.0 states form)
  ]

  whole_of : (row : TypeRow) → type_in v t d ≡ Ok row → IsWhole v d
  whole_of row e = elim parts [
    | inl h ↦
        elim (states_from v t 0 h.items) as (λ r. states_from v t 0 h.items ≡ r → type_of_states h.name h.initial r ≡ Ok row → IsWhole v d) [
          | Ok rows ↦ λ q _. record { states = values_of h.items; form = form_of h; each = states_read v t 0 h.items rows q }
          | Err g ↦ λ _ not. absurd (ok_err (sym not))
        ] refl (sym (type_is h) ∙ e)
    | inr none ↦ absurd (ok_err (sym e ∙ none.1))
  ]

  row_of : IsWhole v d → (row : TypeRow) × (type_in v t d ≡ Ok row)
  row_of whole = elim (type_in v t d) as (λ r. type_in v t d ≡ r → (row : TypeRow) × (r ≡ Ok row)) [
    | Ok row ↦ λ _. (row, refl)
    | Err f ↦ λ e. absurd (elim (type_first f e).either [
      | inl lacks ↦ lacks.0 whole.states whole.form
      | inr told ↦ unread told.0 told.1 told.2
    ])
  ] refl where
    unread : {f : UFault} (states : List Data) → HasForm d states → IsToldState v t 0 states f → ⊥
    unread states form told =
        let same : states ≡ whole.states = form.values ∙ ap values_of (same_some form.items whole.form.items (sym form.list ∙ whole.form.list)) ∙ sym whole.form.values in
        let read = whole.each told.i told.x (subst (λ ds. slice_get ds told.i ≡ Some told.x) same told.first.at) in
        some_none (sym told.first.lacks ∙ read) where
          some_none : false ≡ true → ⊥
          some_none e = cc

module _ (v : ℕ) where
  record IsToldAt (t : ℕ) (ds : List Data) (f : UFault) : Type 0 where
    pub i : ℕ
    pub d : Data
    pub at : slice_get ds i ≡ Some d
    pub before : EachBefore (IsWhole v) ds i
    pub fault : type_in v (t + i) d ≡ Err f

  types_told : (t : ℕ) (ds : Items) (f : UFault) → IsToldAt t (values_of ds) f → types_from v t ds ≡ Err f
  types_told t no_items f h = absurd (none_some h.at)
  types_told t (item d ds) f h = by h.i h.d h.at h.before h.fault (λ k. types_told (t + 1) ds f k) where
    by : (i : ℕ) (x : Data) → slice_get (d ∷ values_of ds) i ≡ Some x → EachBefore (IsWhole v) (d ∷ values_of ds) i → type_in v (t + i) x ≡ Err f → (IsToldAt (t + 1) (values_of ds) f → types_from v (t + 1) ds ≡ Err f) →
        with_type (type_in v t d) (types_from v (t + 1) ds) ≡ Err f
    by zero x at before fault rest =
        let zero : t + 0 ≡ t = omega arith in
        let is : type_in v t d ≡ Err f = ap (type_in v t) (same_some d x at) ∙ ap (λ n. type_in v n x) (sym zero) ∙ fault in
        ap (λ r. with_type r (types_from v (t + 1) ds)) is
    by (suc i) x at before fault rest =
        let row = row_of v t d (before 0 d (omega arith) refl) in
        let e : t + suc i ≡ t + 1 + i = omega arith in
        let told = rest (record { i = i; d = x; at = at; before = before_tail (IsWhole v) d (values_of ds) i before; fault = ap (λ n. type_in v n x) (sym e) ∙ fault }) in
        λ j. with_type (row.1 j) (told j)

  types_first : (t : ℕ) (ds : Items) (f : UFault) → types_from v t ds ≡ Err f → IsToldAt t (values_of ds) f
  types_first t no_items f e = absurd (ok_err e)
  types_first t (item d ds) f e =
      elim (type_in v t d) as (λ r. type_in v t d ≡ r → with_type r (types_from v (t + 1) ds) ≡ Err f → IsToldAt t (d ∷ values_of ds) f) [
        | Err g ↦ λ told same.
            let zero : t + 0 ≡ t = omega arith in
            record { i = 0; d = d; at = refl; before = before_none (IsWhole v) (d ∷ values_of ds); fault = ap (λ n. type_in v n d) zero ∙ told ∙ same_fault g f same }
        | Ok row ↦ λ whole told.
            elim (types_from v (t + 1) ds) as (λ r. types_from v (t + 1) ds ≡ r → with_type (Ok row) r ≡ Err f → IsToldAt t (d ∷ values_of ds) f) [
              | Ok rows ↦ λ _ not. absurd (ok_err not)
              | Err g ↦ λ q same.
                  let rest = types_first (t + 1) ds g q in
                  let e : t + suc rest.i ≡ t + 1 + rest.i = omega arith in
                  record {
                    i = suc rest.i;
                    d = rest.d;
                    at = rest.at;
                    before = before_cons (IsWhole v) d (values_of ds) rest.i (whole_of v t d row whole) rest.before;
                    fault = ap (λ n. type_in v n rest.d) e ∙ rest.fault ∙ same_fault g f same;
                  }
            ] refl told
      ] refl e
    where
      same_fault : (g f : UFault) → ◌≡◌ {A = Result (List TypeRow) UFault} (Err g) (Err f) → ◌≡◌ {A = Result TypeRow UFault} (Err g) (Err f)
      same_fault g f e = ap Err (same_err {A = List TypeRow} g f e)

-- ---- the document

module _ (bytes : List ℕ) where
  of_types : (root : Data) (v : ℕ) (items : Items) → json_of bytes ≡ Some root → version_in root ≡ Some v → list_at (codes "types") root ≡ Some items → rows_in bytes ≡ spelled v (types_from v 0 items)
  of_types root v items json version list = ap rows_or_not_json json ∙ (λ i. types_with (version i) (list i))

  first_type : (root : Data) (v : ℕ) (items : Items) → json_of bytes ≡ Some root → version_in root ≡ Some v → list_at (codes "types") root ≡ Some items → (i : ℕ) (d : Data) → slice_get (values_of items) i ≡ Some d →
      EachBefore (IsWhole v) (values_of items) i → IsFirstType bytes i d v
  first_type root v items json version list i d at before =
      record { root = root; types = values_of items; json = json; spells = record { items = items; version = version; list = list; values = refl }; at = at; before = before }

  first_of_types : (root : Data) (v : ℕ) (items : Items) (f : UFault) → json_of bytes ≡ Some root → version_in root ≡ Some v → list_at (codes "types") root ≡ Some items → types_from v 0 items ≡ Err f → IsFirstFault bytes f
  first_of_types root v items f json version list e =
      let told = types_first v 0 items f e in
      let zero : 0 + told.i ≡ told.i = omega arith in
      let at = first_type root v items json version list told.i told.d told.at told.before in
      let fault : type_in v told.i told.d ≡ Err f = ap (λ n. type_in v n told.d) (sym zero) ∙ told.fault in
      elim (type_first v told.i told.d f fault).either [
        | inl lacks ↦ subst (IsFirstFault bytes) (sym lacks.1) (v, told.d, at, lacks.0)
        | inr some ↦
            let state = some.2 in
            let zero : 0 + state.i ≡ state.i = omega arith in
            subst (IsFirstFault bytes) (sym (state.is ∙ ap (StateForm told.i) zero)) (v, told.d, some.0, state.x, at, some.1, state.first.at, state.first.lacks, state.first.before)
      ]

  first_of_root : (root : Data) (f : UFault) → json_of bytes ≡ Some root → rows_of root ≡ Err f → IsFirstFault bytes f
  first_of_root root f json e =
      elim (version_in root) as (λ o. version_in root ≡ o → types_with o (list_at (codes "types") root) ≡ Err f → IsFirstFault bytes f) [
        | None ↦ λ none same. subst (IsFirstFault bytes) (same_err {A = Spelled} NotUniverse f same) (root, json, λ v types h. none_some (sym none ∙ h.version))
        | Some v ↦ λ version told.
            elim (list_at (codes "types") root) as (λ o. list_at (codes "types") root ≡ o → types_with (Some v) o ≡ Err f → IsFirstFault bytes f) [
              | None ↦ λ none same. subst (IsFirstFault bytes) (same_err {A = Spelled} NotUniverse f same) (root, json, λ v types h. none_some (sym none ∙ h.list))
              | Some items ↦ λ list told.
                  elim (types_from v 0 items) as (λ r. types_from v 0 items ≡ r → spelled v r ≡ Err f → IsFirstFault bytes f) [
                    | Ok rows ↦ λ _ not. absurd (ok_err not)
                    | Err g ↦ λ q same. subst (IsFirstFault bytes) (same_err {A = Spelled} g f same) (first_of_types root v items g json version list q)
                  ] refl told
            ] refl told
      ] refl e

  pub told_is_first : (f : UFault) → rows_in bytes ≡ Err f → IsFirstFault bytes f
  told_is_first f e =
      elim (json_of bytes) as (λ o. json_of bytes ≡ o → rows_or_not_json o ≡ Err f → IsFirstFault bytes f) [
        | None ↦ λ none same. subst (IsFirstFault bytes) (same_err {A = Spelled} NotJson f same) none
        | Some root ↦ λ json told. first_of_root root f json told
      ] refl e

  told_at : (t : ℕ) (d : Data) (v : ℕ) (f : UFault) → IsFirstType bytes t d v → type_in v t d ≡ Err f → rows_in bytes ≡ Err f
  told_at t d v f h e =
      let items = h.spells.items in
      let zero : 0 + t ≡ t = omega arith in
      of_types h.root v items h.json h.spells.version h.spells.list
      ∙ ap (spelled v) (types_told v 0 items f (record {
        i = t;
        d = d;
        at = subst (λ ds. slice_get ds t ≡ Some d) h.spells.values h.at;
        before = subst (λ ds. EachBefore (IsWhole v) ds t) h.spells.values h.before;
        fault = ap (λ n. type_in v n d) zero ∙ e;
      }))

  no_universe : (root : Data) → ((v : ℕ) (types : List Data) → Spells root v types → ⊥) → rows_of root ≡ Err NotUniverse
  no_universe root none = elim (version_in root) as (λ o. version_in root ≡ o → types_with o (list_at (codes "types") root) ≡ Err NotUniverse) [
    | None ↦ λ _. refl
    | Some v ↦ λ version. elim (list_at (codes "types") root) as (λ o. list_at (codes "types") root ≡ o → types_with (Some v) o ≡ Err NotUniverse) [
      | None ↦ λ _. refl
      | Some items ↦ λ list. absurd (none v (values_of items) (record { items = items; version = version; list = list; values = refl }))
    ] refl
  ] refl

  pub first_is_told : (f : UFault) → IsFirstFault bytes f → rows_in bytes ≡ Err f
  first_is_told faults.NotJson h = ap rows_or_not_json h
  first_is_told faults.NotUniverse h = ap rows_or_not_json h.1 ∙ no_universe h.0 h.2
  first_is_told (faults.TypeForm t) h = told_at t h.1 h.0 (TypeForm t) h.2 (type_lacks h.0 t h.1 h.3)
  first_is_told (faults.StateForm t s) h = told_at t h.1 h.0 (StateForm t s) h.4 (type_states h.0 t h.1 h.2 h.5 s h.3 (record { at = h.6; lacks = h.7; before = h.8 }))
  first_is_told _ h = absurd h
