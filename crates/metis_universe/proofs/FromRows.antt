-- The universe of rows without a fault has what every universe has.
use Rattle.std.proofs.Common.{◌≡◌, ℕ, suc, ◌+◌, ◌-◌, ◌<◌, ◌≤◌, Bool, true, IsTrue, List, [], ◌∷◌, length, take, get_or, map, sum_by, position, unwrap_or, flat_map, None, Some, inl, inr, refl, ap, sym, ◌∙◌, subst, zero-add, arith}
use Rattle.std.specs.List.{list_any, slice_index_or, AllByRecursion, All}
use Rattle.std.specs.List.Sorted.{IsNonDecreasingBy, IsStrictlyIncreasing}
use Rattle.std.specs.Str.{bytes_eq}
use Rattle.std.proofs.lemmas.Bool.{both_ways, cases_lt, cases_order, or_left, or_right}
use Rattle.std.proofs.lemmas.List.{get_or-take, get_or_default, length-take-le, length-map}
use Rattle.std.proofs.lemmas.List.Elements.{All-from_get_or, All-from_recursion, recursion_from_All}
use Rattle.std.proofs.lemmas.List.Folds.{list_any_at}
use Rattle.std.proofs.lemmas.List.Quantifiers.{position-Some}
use Rattle.std.proofs.lemmas.List.Sums.{sum_by-cons, sum_by_more_le}
use Rattle.std.proofs.lemmas.Map.Keys.{apart_from_distinct}
use Rattle.std.proofs.lemmas.Slice.Eq.{bytes_eq-Decides}
use Rattle.metis_ids.proofs.Lists.{each_weaker}
use Rattle.metis_ids.proofs.Tests.{bytes_same}
use Rattle.metis_universe.specs.Terms.{IsBySight, IsNamed, IsOfVersion, IsTable, IsUniverse, IsWithinLimits, Kind, NeedRow, Pair, StateRow, TypeRow, ascending, demand_sum, demand_total, first_fault, further_from, greatest_count, has_state, initial_of, is_name, kind_at, kind_from, names_needed, no_kind, no_pair, number_of, pair_at, pair_count, pair_from, pairs_from, pairs_of_type, port_count, ports_of, ports_of_state, ports_of_type, state_number, state_total, states_of_type, type_count, type_of, universe_from}
use Rattle.metis_universe.proofs.Ascending.{number_within, IsStrictlyIncreasing-ascending, All-ascending, each_ascending, each_map}
use Rattle.metis_universe.proofs.DemandSums.{demands-le}
use Rattle.metis_universe.proofs.Gathered.{greatest-le, greatest-some}
use Rattle.metis_universe.proofs.Blocks.{no_state, no_row, row_at, states_at, first_of, state_total-cons, length-pairs_from, length-kinds_from, get_or-kinds_from, get_or-pairs_from, Place, place_of, first_of-more, first_of-within}
use Rattle.metis_universe.proofs.BySight.{IsBySight-universe_from}
use Rattle.metis_universe.proofs.ClearRows.{IsClear, IsClear-from_first_fault, low_counts, some_counts}
use Rattle.metis_universe.proofs.FirstFault.{list_any-from_position}
use Rattle.metis_universe.proofs.FirstSights.{each_seen, each_append, each_parts, sights_keep, sights_distinct, distinct_none, each_of_flat_map, flat_map_each}
use Rattle.metis_universe.proofs.OfType.{of_type}

-- ---- what is demanded besides one

further_fits : (ports : List (List ℕ)) (needs : List NeedRow) (numbers : List ℕ) → AllByRecursion (λ n. n.count ≤ 16) needs → (length (further_from ports needs numbers) ≡ length numbers) × All (λ n. n < 16) (further_from ports needs numbers)
further_fits ports needs numbers low = (length-map numbers (λ r. greatest_count needs (slice_index_or ports r []) - 1), All-from_recursion (λ n. n < 16) (further_from ports needs numbers) (each numbers)) where
  each : (numbers : List ℕ) → AllByRecursion (λ n. n < 16) (further_from ports needs numbers)
  each [] = tt
  each (r ∷ numbers) = (omega (arith, greatest-le needs (slice_index_or ports r []) 16 low), each numbers)

none_further : (ports : List (List ℕ)) (needs : List NeedRow) (numbers : List ℕ) → AllByRecursion (λ n. n.count ≡ 1) needs → All (λ n. n ≡ 0) (further_from ports needs numbers)
none_further ports needs numbers one = All-from_recursion (λ n. n ≡ 0) (further_from ports needs numbers) (each numbers) where
  low : AllByRecursion (λ n. n.count ≤ 1) needs
  low = each_weaker (λ (n : NeedRow). n.count ≡ 1) (λ n. n.count ≤ 1) needs (λ n e. omega arith) one

  each : (numbers : List ℕ) → AllByRecursion (λ n. n ≡ 0) (further_from ports needs numbers)
  each [] = tt
  each (r ∷ numbers) = (omega (arith, greatest-le needs (slice_index_or ports r []) 1 low), each numbers)

each_both : {A : Type 0} (P Q : A → Type 0) (xs : List A) → AllByRecursion P xs → AllByRecursion Q xs → AllByRecursion (λ x. P x × Q x) xs
each_both P Q [] h k = tt
each_both P Q (x ∷ xs) h k = ((h.0, k.0), each_both P Q xs h.1 k.1)

-- each name is among them
each_listed : (names : List (List ℕ)) → AllByRecursion (λ name. list_any (bytes_eq name) names ≡ true) names
each_listed [] = tt
each_listed (name ∷ names) = (
  or_left (bytes_eq name name) (list_any (bytes_eq name) names) (bytes_same name),
  each_weaker (λ m. list_any (bytes_eq m) names ≡ true) (λ m. list_any (bytes_eq m) (name ∷ names) ≡ true) names (λ m h. or_right (bytes_eq m name) (list_any (bytes_eq m) names) h) (each_listed names),
)

-- the port of a name that was seen has this name
pub named_back : (ports : List (List ℕ)) (name : List ℕ) → IsTrue (list_any (bytes_eq name) ports) → slice_index_or ports (number_of ports name) [] ≡ name
named_back ports name seen =
    let p = bytes_eq name in
    elim (position p ports) as (λ o. position p ports ≡ o → slice_index_or ports (unwrap_or o 0) [] ≡ name) [
      | None ↦ λ e. absurd (both_ways (list_any p ports) (list_any-from_position p ports e) seen)
      | Some i ↦ λ e. sym ((bytes_eq-Decides name (get_or ports i [])).0 (position-Some p ports i [] e).1)
    ] refl

-- what a pair demands together is no more than the entries of its state do
pair_demands-le : (ports : List (List ℕ)) (t f : ℕ) (row : TypeRow) (state : StateRow) → AllByRecursion (λ name. IsTrue (list_any (bytes_eq name) ports)) (names_needed state.require) →
    AllByRecursion (λ n. 1 ≤ n.count) state.require → demand_total (pair_from ports t f row state) ≤ demand_sum state.require
pair_demands-le ports t f row state seen some =
    let names = names_needed state.require in
    let Named : List ℕ → Type 0 = λ name. slice_index_or ports (number_of ports name) [] ≡ name in
    let Some : ℕ → Type 0 = λ r. 1 ≤ greatest_count state.require (slice_index_or ports r []) in
    let Both : List ℕ → Type 0 = λ name. IsTrue (list_any (bytes_eq name) ports) × (list_any (bytes_eq name) names ≡ true) in
    let named = each_weaker (λ name. IsTrue (list_any (bytes_eq name) ports)) Named names (named_back ports) seen in
    let both = each_both (λ name. IsTrue (list_any (bytes_eq name) ports)) (λ name. list_any (bytes_eq name) names ≡ true) names seen (each_listed names) in
    let each = each_weaker Both (λ name. Some (number_of ports name)) names
    (λ name h. subst (λ m. 1 ≤ greatest_count state.require m) (sym (named_back ports name h.0)) (greatest-some state.require name some h.1)) both in
    demands-le ports state.require named (each_ascending Some (map (number_of ports) names) (each_map Some (number_of ports) names each))

required-le : (ports : List (List ℕ)) (t f : ℕ) (row : TypeRow) (states : List StateRow) → AllByRecursion (λ state. AllByRecursion (λ name. IsTrue (list_any (bytes_eq name) ports)) (names_needed state.require) × AllByRecursion (λ n. 1 ≤ n.count) state.require) states →
    sum_by demand_total (map (pair_from ports t f row) states) ≤ sum_by (λ (state : StateRow). demand_sum state.require) states
required-le ports t f row [] all = omega arith
required-le ports t f row (state ∷ states) all =
    omega (arith, pair_demands-le ports t f row state all.0.0 all.0.1, required-le ports t f row states all.1, sum_by-cons demand_total (pair_from ports t f row state) (map (pair_from ports t f row) states), sum_by-cons (λ (s : StateRow). demand_sum s.require) state states)

length-le-state_total : (rows : List TypeRow) → ((t : ℕ) (d : TypeRow) → t < length rows → 1 ≤ length (get_or rows t d).states) → length rows ≤ state_total rows
length-le-state_total [] h = omega arith
length-le-state_total (row ∷ rows) h =
    let one : 1 ≤ length row.states = h 0 row (omega arith) in
    let rest : length rows ≤ state_total rows = length-le-state_total rows (λ t d l. h (suc t) d (omega arith)) in
    omega (arith, state_total-cons row rows)

pub types-le : (rows : List TypeRow) → IsClear rows → length rows ≤ 2000
types-le rows clear =
    let each : (t : ℕ) (d : TypeRow) → t < length rows → 1 ≤ length (get_or rows t d).states =
    λ t d l. let m = number_within (λ (state : StateRow). bytes_eq (get_or rows t d).initial state.name) (get_or rows t d).states (clear.types t d l).initial in omega arith in
    omega (arith, length-le-state_total rows each, clear.pairs)

module _ (version : ℕ) where
  -- ---- reads

  abbrev pub state_at : List TypeRow → ℕ → ℕ → StateRow
  state_at rows t i = get_or (states_at rows t) i no_state

  pub kind_is : (rows : List TypeRow) (t : ℕ) → t < length rows → kind_at (universe_from version rows) t ≡ kind_from (first_of rows t) (row_at rows t)
  kind_is rows t l = get_or-kinds_from 0 rows t no_kind l ∙ ap (λ n. kind_from n (row_at rows t)) (zero-add (first_of rows t))

  pub pair_is : (rows : List TypeRow) (t i : ℕ) → t < length rows → i < length (states_at rows t) → pair_at (universe_from version rows) (first_of rows t + i) ≡ pair_from (ports_of rows) t (first_of rows t) (row_at rows t) (state_at rows t i)
  pair_is rows t i l m =
      get_or-pairs_from (ports_of rows) 0 0 rows t i no_pair l m
      ∙ (λ j. pair_from (ports_of rows) (zero-add t j) (zero-add (first_of rows t) j) (row_at rows t) (state_at rows t i))

  pub pair_at_place : (rows : List TypeRow) (p : ℕ) (at : Place rows p) → pair_at (universe_from version rows) p ≡ pair_from (ports_of rows) at.t (first_of rows at.t) (row_at rows at.t) (state_at rows at.t at.i)
  pair_at_place rows p at = ap (pair_at (universe_from version rows)) at.is ∙ pair_is rows at.t at.i at.within at.below

  pub type_at_place : (rows : List TypeRow) (p : ℕ) (at : Place rows p) → type_of (universe_from version rows) p ≡ at.t
  type_at_place rows p at = ap (λ (x : Pair). x.kind) (pair_at_place rows p at)

  pub place : (rows : List TypeRow) (p : ℕ) → p < pair_count (universe_from version rows) → Place rows p
  place rows p h = place_of rows p (omega (arith, length-pairs_from (ports_of rows) 0 0 rows))

  row_within : (rows : List TypeRow) (t : ℕ) → t < type_count (universe_from version rows) → t < length rows
  row_within rows t h = omega (arith, length-kinds_from 0 rows)

  pub pair_within : (rows : List TypeRow) (t i : ℕ) → t < length rows → i < length (states_at rows t) → first_of rows t + i < pair_count (universe_from version rows)
  pair_within rows t i l m = omega (arith, length-pairs_from (ports_of rows) 0 0 rows, first_of-within rows t i l m)

  -- ---- numbers

  ports_of_names : (rows : List TypeRow) (names : List (List ℕ)) → AllByRecursion (λ name. IsTrue (list_any (bytes_eq name) (ports_of rows))) names →
      IsStrictlyIncreasing (ascending (map (number_of (ports_of rows)) names)) × All (λ r. r < port_count (universe_from version rows)) (ascending (map (number_of (ports_of rows)) names))
  ports_of_names rows names h =
      let P : ℕ → Type 0 = λ r. r < length (ports_of rows) in
      let Q : List ℕ → Type 0 = λ name. IsTrue (list_any (bytes_eq name) (ports_of rows)) in (
        IsStrictlyIncreasing-ascending (map (number_of (ports_of rows)) names),
        All-ascending P (map (number_of (ports_of rows)) names)
            (each_map P (number_of (ports_of rows)) names (each_weaker Q (λ name. P (number_of (ports_of rows) name)) names (λ name e. number_within (bytes_eq name) (ports_of rows) e) h)),
      )

  pub seen_in : (rows : List TypeRow) (t i : ℕ) → t < length rows → i < length (states_at rows t) → AllByRecursion (λ name. IsTrue (list_any (bytes_eq name) (ports_of rows))) (ports_of_state (state_at rows t i))
  seen_in rows t i l m =
      let Q : List ℕ → Type 0 = λ name. IsTrue (list_any (bytes_eq name) (ports_of rows)) in
      each_of_flat_map Q ports_of_state (states_at rows t) (each_of_flat_map Q ports_of_type rows (each_seen [] _) t no_row l) i no_state m

  initial_within : (rows : List TypeRow) → IsClear rows → (t : ℕ) → t < length rows → state_number (row_at rows t) (row_at rows t).initial < length (states_at rows t)
  initial_within rows clear t l = number_within (λ state. bytes_eq (row_at rows t).initial state.name) (states_at rows t) (clear.types t no_row l).initial

  -- ---- the universe

  nondecreasing : (rows : List TypeRow) → IsNonDecreasingBy (λ (p : Pair). p.kind) (pairs_from (ports_of rows) 0 0 rows)
  nondecreasing rows i j d le h =
      let a = place rows i (omega arith) in
      let b = place rows j h in
      let pairs = pairs_from (ports_of rows) 0 0 rows in
      let before : i < length pairs = omega arith in
      let ka : (get_or pairs i d).kind ≡ a.t = ap (λ (x : Pair). x.kind) (get_or_default pairs i d no_pair before) ∙ type_at_place rows i a in
      let kb : (get_or pairs j d).kind ≡ b.t = ap (λ (x : Pair). x.kind) (get_or_default pairs j d no_pair h) ∙ type_at_place rows j b in
      elim (cases_lt b.t a.t) [
        | inl less ↦ absurd (omega (arith, first_of-more rows b.t a.t less b.within, a.is, b.is, b.below))
        | inr more ↦ omega arith
      ]

  IsUniverse-universe_from : (rows : List TypeRow) → IsOfVersion version rows → IsClear rows → IsUniverse (universe_from version rows)
  IsUniverse-universe_from rows fits clear = record {
    by_type = nondecreasing rows;
    types = λ p h. let at = place rows p h in omega (arith, type_at_place rows p at, at.within, length-kinds_from 0 rows);
    initials = λ t h.
        let l = row_within rows t h in
        let m = initial_within rows clear t l in
        let e : initial_of (universe_from version rows) t ≡ first_of rows t + state_number (row_at rows t) (row_at rows t).initial = ap (λ (k : Kind). k.initial) (kind_is rows t l) in
        let n = pair_within rows t (state_number (row_at rows t) (row_at rows t).initial) l m in
        (omega arith, ap (type_of (universe_from version rows)) e ∙ ap (λ (x : Pair). x.kind) (pair_is rows t _ l m));
    provided = λ p h.
        let at = place rows p h in
        let T : Pair → Type 0 = λ x. IsStrictlyIncreasing x.provided × All (λ r. r < port_count (universe_from version rows)) x.provided in
        let state = state_at rows at.t at.i in
        subst T (sym (pair_at_place rows p at)) (ports_of_names rows state.provide (each_parts _ state.provide (names_needed state.require) (seen_in rows at.t at.i at.within at.below)).0);
    required = λ p h.
        let at = place rows p h in
        let T : Pair → Type 0 = λ x. IsStrictlyIncreasing x.required × All (λ r. r < port_count (universe_from version rows)) x.required in
        let state = state_at rows at.t at.i in
        subst T (sym (pair_at_place rows p at)) (ports_of_names rows (names_needed state.require) (each_parts _ state.provide (names_needed state.require) (seen_in rows at.t at.i at.within at.below)).1);
    version = fits.version;
    single = λ one p h.
        let at = place rows p h in
        let needs = (state_at rows at.t at.i).require in
        let alone = fits.single one at.t no_row at.within at.i no_state at.below in
        subst (λ (x : Pair). All (λ n. n ≡ 0) x.further) (sym (pair_at_place rows p at))
        (none_further (ports_of rows) needs (ascending (map (number_of (ports_of rows)) (names_needed needs))) (recursion_from_All (λ (n : NeedRow). n.count ≡ 1) needs alone));
    demands = λ p h.
        let at = place rows p h in
        let T : Pair → Type 0 = λ x. (length x.further ≡ length x.required) × All (λ n. n < 16) x.further in
        let needs = (state_at rows at.t at.i).require in
        let low = recursion_from_All (λ (n : NeedRow). n.count ≤ 16) needs (low_counts needs ((clear.types at.t no_row at.within).states at.i no_state at.below).demands) in
        subst T (sym (pair_at_place rows p at)) (further_fits (ports_of rows) needs (ascending (map (number_of (ports_of rows)) (names_needed needs))) low);
    next = λ p h.
        let at = place rows p h in
        let row = row_at rows at.t in
        let state = state_at rows at.t at.i in
        let Q : ℕ → Type 0 = λ q. (q < pair_count (universe_from version rows)) × (type_of (universe_from version rows) q ≡ type_of (universe_from version rows) p) in
        let T : Pair → Type 0 = λ x. IsStrictlyIncreasing x.next × All Q x.next in
        let number = λ (name : List ℕ). first_of rows at.t + state_number row name in
        let H : List ℕ → Type 0 = λ name. IsTrue (has_state row name) in
        let there : (name : List ℕ) → H name → Q (number name) = λ name e.
        let m = number_within (λ (state : StateRow). bytes_eq name state.name) row.states e in (
          pair_within rows at.t (state_number row name) at.within m,
          ap (λ (x : Pair). x.kind) (pair_is rows at.t (state_number row name) at.within m) ∙ sym (type_at_place rows p at),
        ) in
        let next = ((clear.types at.t no_row at.within).states at.i no_state at.below).next in
        subst T (sym (pair_at_place rows p at)) (IsStrictlyIncreasing-ascending (map number state.next), All-ascending Q (map number state.next) (each_map Q number state.next (each_weaker H (λ name. Q (number name)) state.next there next)));
  }

  -- ---- names

  not_before : {A : Type 0} (p : A → Bool) (xs : List A) (s t : ℕ) (d : A) → position p (take t xs) ≡ None → s < t → t < length xs → p (get_or xs s d) ≡ true → ⊥
  not_before p xs s t d none l m h =
      let e : length (take t xs) ≡ t = length-take-le t xs (omega arith) in
      let w : s < length (take t xs) = omega arith in
      both_ways (list_any p (take t xs)) (list_any-from_position p (take t xs) none) (list_any_at p (take t xs) s d w (ap p (get_or-take t xs s d l) ∙ h))

  -- elements of which none has the name of an earlier one
  apart_by : {A : Type 0} (name : A → List ℕ) (xs : List A) (d : A) → ((t : ℕ) → t < length xs → position (λ e. bytes_eq (name (get_or xs t d)) (name e)) (take t xs) ≡ None) →
      (s t : ℕ) → s < length xs → t < length xs → name (get_or xs s d) ≡ name (get_or xs t d) → s ≡ t
  apart_by name xs d none s t ls lt e =
      elim (cases_order s t) [
        | inl same ↦ same
        | inr apart ↦ elim apart [
          | inl less ↦ absurd (not_before (λ x. bytes_eq (name (get_or xs t d)) (name x)) xs s t d (none t lt) less lt ((bytes_eq-Decides (name (get_or xs t d)) (name (get_or xs s d))).1 (sym e)))
          | inr more ↦ absurd (not_before (λ x. bytes_eq (name (get_or xs s d)) (name x)) xs t s d (none s ls) more ls ((bytes_eq-Decides (name (get_or xs s d)) (name (get_or xs t d))).1 e))
        ]
      ]

  same_place : (rows : List TypeRow) → IsClear rows → (t u i j : ℕ) → t ≡ u → t < length rows → i < length (states_at rows t) → j < length (states_at rows u) → (state_at rows t i).name ≡ (state_at rows u j).name →
      first_of rows t + i ≡ first_of rows u + j
  same_place rows clear t u i j e l m n names =
      let P : ℕ → Type 0 = λ u. j < length (states_at rows u) → (state_at rows t i).name ≡ (state_at rows u j).name → first_of rows t + i ≡ first_of rows u + j in
      subst P e (λ n' names'. ap (λ k. first_of rows t + k) (apart_by (λ (s : StateRow). s.name) (states_at rows t) no_state (λ s l'. ((clear.types t no_row l).states s no_state l').apart) i j m n' names')) n names

  each_port_named : (rows : List TypeRow) → IsClear rows → AllByRecursion (λ name. IsTrue (is_name name)) (ports_of rows)
  each_port_named rows clear =
      let P : List ℕ → Type 0 = λ name. IsTrue (is_name name) in
      sights_keep P [] _ tt (flat_map_each P ports_of_type rows (λ t d l. flat_map_each P ports_of_state (get_or rows t d).states (λ i e m.
      let c = (clear.types t d l).states i e m in
      each_append P (get_or (get_or rows t d).states i e).provide (names_needed (get_or (get_or rows t d).states i e).require) c.provide c.require)))

  pub IsNamed-universe_from : (rows : List TypeRow) → IsClear rows → IsNamed (universe_from version rows)
  IsNamed-universe_from rows clear = record {
    types = λ t h. let l = row_within rows t h in let T : Kind → Type 0 = λ k. IsTrue (is_name k.name) in subst T (sym (kind_is rows t l)) (clear.types t no_row l).name;
    states = λ p h.
        let at = place rows p h in
        let T : Pair → Type 0 = λ x. IsTrue (is_name x.state) in
        subst T (sym (pair_at_place rows p at)) ((clear.types at.t no_row at.within).states at.i no_state at.below).name;
    ports = λ r h. All-from_recursion (λ name. IsTrue (is_name name)) (ports_of rows) (each_port_named rows clear) r [] h;
    types_apart = λ s t hs ht e.
        let ls = row_within rows s hs in
        let lt = row_within rows t ht in
        apart_by (λ (row : TypeRow). row.name) rows no_row (λ t l. (clear.types t no_row l).apart) s t ls lt (sym (ap (λ (k : Kind). k.name) (kind_is rows s ls)) ∙ e ∙ ap (λ (k : Kind). k.name) (kind_is rows t lt));
    states_apart = λ p q hp hq et en.
        let a = place rows p hp in
        let b = place rows q hq in
        a.is ∙ same_place rows clear a.t b.t a.i b.i (sym (type_at_place rows p a) ∙ et ∙ type_at_place rows q b) a.within a.below b.below
        (sym (ap (λ (x : Pair). x.state) (pair_at_place rows p a)) ∙ en ∙ ap (λ (x : Pair). x.state) (pair_at_place rows q b)) ∙ sym b.is;
    ports_apart = λ r s hr hs e.
        let distinct = sights_distinct [] (flat_map ports_of_type rows) distinct_none in
        let same = λ (m n : List ℕ) (e : m ≡ n). (bytes_eq-Decides m n).1 e in
        elim (cases_order r s) [
          | inl same' ↦ same'
          | inr apart ↦ elim apart [
            | inl less ↦ absurd (both_ways _ (apart_from_distinct bytes_eq (ports_of rows) r s [] distinct less hs) (same _ _ e))
            | inr more ↦ absurd (both_ways _ (apart_from_distinct bytes_eq (ports_of rows) s r [] distinct more hr) (same _ _ (sym e)))
          ]
        ];
  }

  -- ---- limits

  -- the ports of each state of the type were seen, and each count is 1 or more
  each_state : (rows : List TypeRow) → IsClear rows → (t : ℕ) → t < length rows →
      AllByRecursion (λ state. AllByRecursion (λ name. IsTrue (list_any (bytes_eq name) (ports_of rows))) (names_needed state.require) × AllByRecursion (λ n. 1 ≤ n.count) state.require) (states_at rows t)
  each_state rows clear t l =
      let Seen : List ℕ → Type 0 = λ name. IsTrue (list_any (bytes_eq name) (ports_of rows)) in
      let Both : StateRow → Type 0 = λ state. AllByRecursion Seen (names_needed state.require) × AllByRecursion (λ n. 1 ≤ n.count) state.require in
      recursion_from_All Both (states_at rows t) (All-from_get_or Both (states_at rows t) no_state (λ i m. (
        (each_parts Seen (state_at rows t i).provide (names_needed (state_at rows t i).require) (seen_in rows t i l m)).1,
        some_counts (state_at rows t i).require ((clear.types t no_row l).states i no_state m).demands,
      )))

  IsWithinLimits-universe_from : (rows : List TypeRow) → IsClear rows → IsWithinLimits (universe_from version rows)
  IsWithinLimits-universe_from rows clear = record {
    types = omega (arith, length-kinds_from 0 rows, types-le rows clear);
    pairs = omega (arith, length-pairs_from (ports_of rows) 0 0 rows, clear.pairs);
    ports = clear.ports;
    states = λ t. elim (of_type (ports_of rows) 0 0 rows t) [
      | inl none ↦ omega (arith, ap length none)
      | inr some ↦
          let e : length (states_of_type (universe_from version rows) t) ≡ length (states_at rows some.k) = ap length some.are ∙ length-map (states_at rows some.k) (pair_from (ports_of rows) t some.first (row_at rows some.k)) in
          omega (arith, (clear.types some.k no_row some.within).few)
    ];
    required = λ t.
        let total = λ (pairs : List Pair). sum_by demand_total pairs in
        elim (of_type (ports_of rows) 0 0 rows t) [
          | inl none ↦ omega (arith, ap total none)
          | inr some ↦
              let e : total (states_of_type (universe_from version rows) t) ≡ total (pairs_of_type (ports_of rows) t some.first (row_at rows some.k)) = ap total some.are in
              omega (arith, required-le (ports_of rows) t some.first (row_at rows some.k) (states_at rows some.k) (each_state rows clear some.k some.within), (clear.types some.k no_row some.within).required)
        ];
  }

  pub IsTable-universe_from : (rows : List TypeRow) → IsOfVersion version rows → first_fault rows ≡ None → IsTable (universe_from version rows)
  IsTable-universe_from rows fits none =
      let clear = IsClear-from_first_fault rows none in
      let named = IsNamed-universe_from rows clear in
      record { universe = IsUniverse-universe_from rows fits clear; named = named; limits = IsWithinLimits-universe_from rows clear }

  pub is_by_sight : (rows : List TypeRow) → first_fault rows ≡ None → IsBySight (universe_from version rows)
  is_by_sight rows none = IsBySight-universe_from version rows (IsNamed-universe_from rows (IsClear-from_first_fault rows none)).ports_apart

-- ---- while the tables are made

-- the pairs so far are those of the types before t, and there is room for the next type's
pub record HasRoom (rows : List TypeRow) (t : ℕ) (row : TypeRow) (pairs : List Pair) : Type 0 where
  pub first : length pairs ≡ first_of rows t
  pub fits : length pairs + length row.states ≤ 2000
  pub place : t < 2000

pub has_room : (rows : List TypeRow) → first_fault rows ≡ None → (t : ℕ) (row : TypeRow) → t < length rows → row ≡ get_or rows t row → (ports : List (List ℕ)) (pairs : List Pair) → pairs ≡ pairs_from ports 0 0 (take t rows) → HasRoom rows t row pairs
has_room rows none t row l is ports pairs are =
    let clear = IsClear-from_first_fault rows none in
    let e : length pairs ≡ first_of rows t = ap length are ∙ length-pairs_from ports 0 0 (take t rows) in
    let n : length row.states ≡ length (get_or rows t row).states = ap (λ (row : TypeRow). length row.states) is in
    record {
      first = e;
      fits = omega (arith, clear.pairs, sum_by_more_le (λ (row : TypeRow). length row.states) rows t row l);
      place = omega (arith, types-le rows clear);
    }

pub ports_fit : (rows : List TypeRow) → first_fault rows ≡ None → length (ports_of rows) ≤ 4000
ports_fit rows none = (IsClear-from_first_fault rows none).ports
