-- The universe of rows without a fault has what the rows say.
use Rattle.std.proofs.Common.{◌≡◌, ℕ, ◌+◌, ◌-◌, ◌<◌, Bool, true, false, cond, IsTrue, ◌&&◌, ◌||◌, List, [], ◌∷◌, length, map, fold, get_or, position, unwrap_or, nat_eq, Some, None, refl, ap, sym, ◌∙◌, subst, arith}
use Rattle.std.specs.BTreeSet.{insert_key}
use Rattle.std.specs.List.{AllByRecursion, list_any, position_or_len}
use Rattle.std.specs.Option.{option_and_then, option_map_or}
use Rattle.std.specs.Ordering.{nat_cmp}
use Rattle.std.specs.Str.{bytes_eq}
use Rattle.std.proofs.lemmas.Bool.{and_from, and_parts, both_ways, eq-eqb, eqb-true, false_from_ne_true, ne_eqb}
use Rattle.std.proofs.lemmas.List.{get_or-map}
use Rattle.std.proofs.lemmas.List.Folds.{list_any_at}
use Rattle.std.proofs.lemmas.List.Quantifiers.{position-Some}
use Rattle.std.proofs.lemmas.List.Sums.{position_or_len_is}
use Rattle.std.proofs.lemmas.Slice.Eq.{bytes_eq-Decides}
use Rattle.metis_ids.proofs.Finding.{position_here}
use Rattle.metis_universe.specs.Terms.{IsOfVersion, IsTable, Kind, Pair, Spells, StateRow, TypeRow, Universe, ascending, demand_in, demand_named, demand_of, first_fault, greatest_count, has, has_state, initial_of, is_initial, is_listed, kind_at, leads_to, names_needed, next_of, no_kind, no_pair, number_of, pair_at, pair_count, pair_from, pair_named, ports_of, provides, provides_named, state_named, state_number, type_count, type_named, type_of, universe_from}
use Rattle.metis_universe.proofs.Ascending.{at_seen, has-insert_key}
use Rattle.metis_universe.proofs.Blocks.{first_of, length-kinds_from, no_row, no_state, row_at, states_at}
use Rattle.metis_universe.proofs.ClearRows.{IsClear-from_first_fault, some_counts}
use Rattle.metis_universe.proofs.FirstFault.{list_any-from_position}
use Rattle.metis_universe.proofs.FirstSights.{each_parts}
use Rattle.metis_universe.proofs.FromRows.{IsTable-universe_from, kind_is, named_back, pair_is, pair_within, place, seen_in, type_at_place}
use Rattle.metis_universe.proofs.Gathered.{greatest_from-unnamed, greatest-some}
use Rattle.metis_universe.proofs.Initials.{is_initial-own}

-- ---- lists

-- what is put in ascending order is what was there
has_fold : (keys xs : List ℕ) (n : ℕ) → has (fold (insert_key nat_cmp) keys xs) n ≡ (has keys n || has xs n)
has_fold keys [] n = sym (or_none (has keys n)) where
  or_none : (a : Bool) → (a || false) ≡ a
  or_none true = refl
  or_none false = refl
has_fold keys (x ∷ xs) n = has_fold (insert_key nat_cmp keys x) xs n ∙ ap (λ b. b || has xs n) (has-insert_key n x keys) ∙ turned (nat_eq x n) (has keys n) (has xs n) where
  turned : (a b c : Bool) → ((a || b) || c) ≡ (b || (a || c))
  turned true true c = refl
  turned true false c = refl
  turned false true c = refl
  turned false false c = refl

pub has_ascending : (xs : List ℕ) (n : ℕ) → has (ascending xs) n ≡ has xs n
has_ascending xs n = has_fold [] xs n

swap_bytes : (a b : List ℕ) → bytes_eq a b ≡ bytes_eq b a
swap_bytes a b = elim (bytes_eq a b) as (λ v. bytes_eq a b ≡ v → v ≡ bytes_eq b a) [
  | true ↦ λ e. sym ((bytes_eq-Decides b a).1 (sym ((bytes_eq-Decides a b).0 e)))
  | false ↦ λ e. sym (false_from_ne_true _ (λ same. both_ways _ e ((bytes_eq-Decides a b).1 (sym ((bytes_eq-Decides b a).0 same)))))
] refl

-- the numbers of names have one exactly where the names have that of the number
numbered : (P : List ℕ → Type 0) (f : List ℕ → ℕ) (n : List ℕ) (r : ℕ) → ((name : List ℕ) → P name → nat_eq (f name) r ≡ bytes_eq n name) → (names : List (List ℕ)) → AllByRecursion P names →
    has (map f names) r ≡ is_listed n names
numbered P f n r same [] all = refl
numbered P f n r same (name ∷ names) all = λ i. same name all.0 i || numbered P f n r same names all.1 i

abbrev Seen : List (List ℕ) → List ℕ → Type 0
Seen ports name = IsTrue (list_any (bytes_eq name) ports)

-- the number of a name that was seen is that of a port exactly where it is the port's name
seen_number : (ports : List (List ℕ)) (n : List ℕ) (r : ℕ) → position (bytes_eq n) ports ≡ Some r → (name : List ℕ) → Seen ports name → nat_eq (number_of ports name) r ≡ bytes_eq n name
seen_number ports n r e name seen =
    let at = position-Some (bytes_eq n) ports r [] e in
    let is : n ≡ get_or ports r [] = (bytes_eq-Decides n (get_or ports r [])).0 at.1 in
    elim (bytes_eq n name) as (λ v. bytes_eq n name ≡ v → nat_eq (number_of ports name) r ≡ v) [
      | true ↦ λ same. eq-eqb _ r (ap (number_of ports) (sym ((bytes_eq-Decides n name).0 same)) ∙ ap (λ o. unwrap_or o 0) e)
      | false ↦ λ other. ne_eqb _ r (λ q. both_ways _ other ((bytes_eq-Decides n name).1 (is ∙ sym (ap (λ k. get_or ports k []) q) ∙ named_back ports name seen)))
    ] refl

-- a name that is no port stands in no list of names that were seen
unseen : (ports : List (List ℕ)) (n : List ℕ) (names : List (List ℕ)) → AllByRecursion (Seen ports) names → position (bytes_eq n) ports ≡ None → is_listed n names ≡ false
unseen ports n names all e = false_from_ne_true _ (λ there. both_ways _ (list_any-from_position (bytes_eq n) ports e) (at_seen (Seen ports) names n all there))

-- where a number stands in a list, it is the one at its place
at_place : (xs : List ℕ) (r : ℕ) → has xs r ≡ true → (position_or_len (λ s. nat_eq s r) xs < length xs) × (get_or xs (position_or_len (λ s. nat_eq s r) xs) 0 ≡ r)
at_place xs r there =
    let t : ℕ → Bool = λ s. nat_eq s r in
    elim (position t xs) as (λ o. position t xs ≡ o → (position_or_len t xs < length xs) × (get_or xs (position_or_len t xs) 0 ≡ r)) [
      | None ↦ λ e. absurd (both_ways _ (list_any-from_position t xs e) there)
      | Some k ↦ λ e.
          let at = position-Some t xs k 0 e in
          let is : position_or_len t xs ≡ k = position_or_len_is t xs k 0 (omega (arith, at.0)) at.2 (λ _. at.1) in
          (omega (arith, is, at.0), ap (λ n. get_or xs n 0) is ∙ eqb-true _ r at.1)
    ] refl

-- ---- one state of the rows

module _ (version : ℕ) (rows : List TypeRow) (fits : IsOfVersion version rows) (none : first_fault rows ≡ None) (t s : ℕ) (l : t < length rows) (m : s < length (states_at rows t)) where
  abbrev u : Universe
  u = universe_from version rows

  abbrev ports : List (List ℕ)
  ports = ports_of rows

  abbrev row : TypeRow
  row = row_at rows t

  abbrev state_of : ℕ → StateRow
  state_of i = get_or (states_at rows t) i no_state

  abbrev p : ℕ
  p = first_of rows t + s

  table : IsTable u
  table = IsTable-universe_from version rows fits none

  within : (i : ℕ) → i < length (states_at rows t) → first_of rows t + i < pair_count u
  within i n = pair_within version rows t i l n

  is_pair : (i : ℕ) → i < length (states_at rows t) → pair_at u (first_of rows t + i) ≡ pair_from ports t (first_of rows t) row (state_of i)
  is_pair i n = pair_is version rows t i l n

  is_of : (i : ℕ) → i < length (states_at rows t) → type_of u (first_of rows t + i) ≡ t
  is_of i n = ap (λ (x : Pair). x.kind) (is_pair i n)

  is_named : (i : ℕ) → i < length (states_at rows t) → (pair_at u (first_of rows t + i)).state ≡ (state_of i).name
  is_named i n = ap (λ (x : Pair). x.state) (is_pair i n)

  -- ---- names

  type_there : type_named u row.name ≡ Some t
  type_there =
      let name : (kind_at u t).name ≡ row.name = ap (λ (k : Kind). k.name) (kind_is version rows t l) in
      let below : t < type_count u = omega (arith, length-kinds_from 0 rows) in
      position_here (λ (k : Kind). bytes_eq row.name k.name) u.kinds t no_kind below ((bytes_eq-Decides row.name (kind_at u t).name).1 (sym name))
      (λ k low. false_from_ne_true _ (λ same.
      let e = table.named.types_apart k t (omega arith) below (sym ((bytes_eq-Decides row.name (kind_at u k).name).0 same) ∙ sym name) in omega (arith, e)))

  state_there : (i : ℕ) → i < length (states_at rows t) → state_named u t (state_of i).name ≡ Some (first_of rows t + i)
  state_there i n =
      let q = first_of rows t + i in
      let name = is_named i n in
      position_here (λ (x : Pair). nat_eq x.kind t && bytes_eq (state_of i).name x.state) u.pairs q no_pair (within i n)
      (and_from _ _ (eq-eqb _ t (is_of i n)) ((bytes_eq-Decides (state_of i).name (pair_at u q).state).1 (sym name)))
      (λ k low. false_from_ne_true _ (λ same.
      let parts = and_parts (nat_eq (pair_at u k).kind t) _ same in
      let e = table.named.states_apart k q (omega (arith, within i n)) (within i n) (eqb-true _ t parts.0 ∙ sym (is_of i n)) (sym ((bytes_eq-Decides (state_of i).name (pair_at u k).state).0 parts.1) ∙ sym name) in omega (arith, e)))

  -- the number of a name that a state has is that of another state exactly where it is this state's name
  number_same : (name : List ℕ) → IsTrue (has_state row name) → (i : ℕ) → i < length (states_at rows t) → nat_eq (first_of rows t + state_number row name) (first_of rows t + i) ≡ bytes_eq name (state_of i).name
  number_same name there i n =
      let test : StateRow → Bool = λ x. bytes_eq name x.name in
      elim (position test row.states) as (λ o. position test row.states ≡ o → nat_eq (first_of rows t + unwrap_or o 0) (first_of rows t + i) ≡ bytes_eq name (state_of i).name) [
        | None ↦ λ e. absurd (both_ways _ (list_any-from_position test row.states e) there)
        | Some j ↦ λ e.
            let at = position-Some test row.states j no_state e in
            let is : name ≡ (state_of j).name = (bytes_eq-Decides name (state_of j).name).0 at.1 in
            elim (bytes_eq name (state_of i).name) as (λ v. bytes_eq name (state_of i).name ≡ v → nat_eq (first_of rows t + j) (first_of rows t + i) ≡ v) [
              | true ↦ λ same. eq-eqb _ _ (table.named.states_apart (first_of rows t + j) (first_of rows t + i) (within j at.0) (within i n) (is_of j at.0 ∙ sym (is_of i n))
                  (is_named j at.0 ∙ sym is ∙ (bytes_eq-Decides name (state_of i).name).0 same ∙ sym (is_named i n)))
              | false ↦ λ other. ne_eqb _ _ (λ q. let e : j ≡ i = omega (arith, q) in both_ways _ other ((bytes_eq-Decides name (state_of i).name).1 (is ∙ ap (λ k. (state_of k).name) e)))
            ] refl
      ] refl

  pair_there : pair_named u row.name (state_of s).name ≡ Some p
  pair_there = ap (option_and_then (λ k. state_named u k (state_of s).name)) type_there ∙ state_there s m

  initial_there : is_initial u p ≡ bytes_eq row.initial (state_of s).name
  initial_there =
      let has_initial : IsTrue (has_state row row.initial) = ((IsClear-from_first_fault rows none).types t no_row l).initial in
      let at : initial_of u (type_of u p) ≡ first_of rows t + state_number row row.initial = ap (initial_of u) (is_of s m) ∙ ap (λ (k : Kind). k.initial) (kind_is version rows t l) in
      sym (is_initial-own u table.universe p (within s m)) ∙ ap (λ q. nat_eq q p) at ∙ number_same row.initial has_initial s m

  -- ---- ports

  seen_both : AllByRecursion (Seen ports) (state_of s).provide × AllByRecursion (Seen ports) (names_needed (state_of s).require)
  seen_both = each_parts (Seen ports) (state_of s).provide (names_needed (state_of s).require) (seen_in version rows t s l m)

  provided_there : (n : List ℕ) → provides_named u p n ≡ is_listed n (state_of s).provide
  provided_there n =
      let names = (state_of s).provide in
      elim (position (bytes_eq n) ports) as (λ o. position (bytes_eq n) ports ≡ o → option_map_or (provides u p) o false ≡ is_listed n names) [
        | None ↦ λ e. sym (unseen ports n names seen_both.0 e)
        | Some r ↦ λ e. ap (λ (x : Pair). has x.provided r) (is_pair s m) ∙ has_ascending (map (number_of ports) names) r ∙ numbered (Seen ports) (number_of ports) n r (seen_number ports n r e) names seen_both.0
      ] refl

  demanded_there : (n : List ℕ) → demand_named u p n ≡ greatest_count (state_of s).require n
  demanded_there n =
      let needs = (state_of s).require in
      let names = names_needed needs in
      elim (position (bytes_eq n) ports) as (λ o. position (bytes_eq n) ports ≡ o → option_map_or (demand_of u p) o 0 ≡ greatest_count needs n) [
        | None ↦ λ e. sym (greatest_from-unnamed needs n 0 (unseen ports n names seen_both.1 e))
        | Some r ↦ λ e.
            let x = pair_from ports t (first_of rows t) row (state_of s) in
            let there = has_ascending (map (number_of ports) names) r ∙ numbered (Seen ports) (number_of ports) n r (seen_number ports n r e) names seen_both.1 in
            let k = position_or_len (λ s. nat_eq s r) x.required in
            let is : n ≡ get_or ports r [] = (bytes_eq-Decides n (get_or ports r [])).0 (position-Some (bytes_eq n) ports r [] e).1 in
            ap (λ (x : Pair). demand_in x r) (is_pair s m) ∙ ap (λ b. cond b (1 + get_or x.further k 0) 0) there
            ∙ elim (is_listed n names) as (λ v. is_listed n names ≡ v → cond v (1 + get_or x.further k 0) 0 ≡ greatest_count needs n) [
              | true ↦ λ listed.
                  let at = at_place x.required r (there ∙ listed) in
                  let further : get_or x.further k 0 ≡ greatest_count needs n - 1 =
                  get_or-map (λ r. greatest_count needs (get_or ports r []) - 1) x.required k 0 0 at.0 ∙ ap (λ q. greatest_count needs (get_or ports q []) - 1) at.1 ∙ ap (λ name. greatest_count needs name - 1) (sym is) in
                  omega (arith, further, greatest-some needs n (some_counts needs (((IsClear-from_first_fault rows none).types t no_row l).states s no_state m).demands) listed)
              | false ↦ λ other. sym (greatest_from-unnamed needs n 0 other)
            ] refl
      ] refl

  -- ---- next states

  leads_there : (n : List ℕ) → leads_to u p n ≡ is_listed n (state_of s).next
  leads_there n =
      let next = (state_of s).next in
      let f : List ℕ → ℕ = λ name. first_of rows t + state_number row name in
      let Has : List ℕ → Type 0 = λ name. IsTrue (has_state row name) in
      let all : AllByRecursion Has next = (((IsClear-from_first_fault rows none).types t no_row l).states s no_state m).next in
      let test : Pair → Bool = λ x. nat_eq x.kind t && bytes_eq n x.state in
      ap (λ k. option_map_or (has (next_of u p)) (state_named u k n) false) (is_of s m)
      ∙ elim (position test u.pairs) as (λ o. position test u.pairs ≡ o → option_map_or (has (next_of u p)) o false ≡ is_listed n next) [
        | None ↦ λ e. sym (false_from_ne_true _ (λ listed.
            let there = at_seen Has next n all listed in
            let state : StateRow → Bool = λ x. bytes_eq n x.name in
            elim (position state row.states) as (λ o. position state row.states ≡ o → ⊥) [
              | None ↦ λ q. both_ways _ (list_any-from_position state row.states q) there
              | Some j ↦ λ q.
                  let at = position-Some state row.states j no_state q in
                  both_ways _ (list_any-from_position test u.pairs e) (list_any_at test u.pairs (first_of rows t + j) no_pair (within j at.0)
                  (and_from _ _ (eq-eqb _ t (is_of j at.0)) ((bytes_eq-Decides n _).1 ((bytes_eq-Decides n (state_of j).name).0 at.1 ∙ sym (is_named j at.0)))))
            ] refl))
        | Some q ↦ λ e.
            let hit = position-Some test u.pairs q no_pair e in
            let parts = and_parts (nat_eq (pair_at u q).kind t) _ hit.1 in
            let at = place version rows q hit.0 in
            let same : at.t ≡ t = sym (type_at_place version rows q at) ∙ eqb-true _ t parts.0 in
            let below : at.i < length (states_at rows t) = subst (λ k. at.i < length (states_at rows k)) same at.below in
            let is : q ≡ first_of rows t + at.i = at.is ∙ ap (λ k. first_of rows k + at.i) same in
            let name : n ≡ (state_of at.i).name = (bytes_eq-Decides n (pair_at u q).state).0 parts.1 ∙ ap (λ k. (pair_at u k).state) is ∙ is_named at.i below in
            ap (λ (x : Pair). has x.next q) (is_pair s m) ∙ has_ascending (map f next) q
            ∙ numbered Has f n q (λ x there. ap (nat_eq (f x)) is ∙ number_same x there at.i below ∙ ap (bytes_eq x) (sym name) ∙ swap_bytes x n) next all
      ] refl

  pub spelled : Spells u p row (state_of s)
  spelled = record { named = pair_there; initial = initial_there; provides = provided_there; demands = demanded_there; leads = leads_there }
