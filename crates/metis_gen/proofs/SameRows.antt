-- The generated rows are those that spell the tables, and so they have no fault and stand for them.
use Rattle.std.proofs.Common.{◌≡◌, ℕ, suc, zero, ◌+◌, ◌*◌, ◌/◌, ◌%◌, ◌<◌, ◌≤◌, ◌||◌, Bool, true, false, not, cond, nat_eq, inl, List, [], ◌∷◌, length, map, get_or, None, Ok, refl, ap, sym, ◌∙◌, subst, zero-add, arith}
use Rattle.std.specs.Prelude.{codes}
use Rattle.std.specs.List.{All, AllByRecursion, range_with_len, slice_index_or}
use Rattle.std.proofs.lemmas.Bool.{eq-eqb}
use Rattle.std.proofs.lemmas.List.Elements.{All-from_recursion}
use Rattle.std.proofs.lemmas.List.FromFn.{fill_by_all}
use Rattle.metis_universe.specs.Terms.{IsOfVersion, IsTable, Kind, NeedRow, Pair, RowsFit, StateFits, StateRow, TypeFits, TypeRow, demand_in, first_fault, initial_of, meaning_of, no_pair, or_universe, port_name_of, state_name_of, states_of_type, type_count, universe_from}
use Rattle.metis_universe.proofs.FirstSights.{flat_map_each}
use Rattle.metis_ujson.specs.Terms.{need_row, rows_of_universe, state_row, type_row}
use Rattle.metis_ujson.proofs.Clear.{no_fault}
use Rattle.metis_ujson.proofs.Rebuilt.{rebuilt}
use Rattle.metis_gen.specs.Terms.{earlier_z, earlier_z_number, generated, generated_rows, left_pairs, left_row, one_of, pair_row, pairs_at, right_pairs, right_row, rows_at, tables, x_port, y_port, z_port}
use Rattle.metis_gen.proofs.BySight.{tables_by_sight}
use Rattle.metis_gen.proofs.Named.{tables_named}
use Rattle.metis_gen.proofs.Numbers.{tables_universe}
use Rattle.metis_gen.proofs.OfType.{left_of_type, right_of_type, tables_limits}
use Rattle.metis_gen.proofs.Pieces.{length_pieces, piece_at}
use Rattle.metis_gen.proofs.Places.{types_counted, kind_in, pair_in, port_in, each_of_two}

pub tables_are_a_table : (n : ℕ) → n ≤ 250 → IsTable (tables n)
tables_are_a_table n most = record {
  universe = tables_universe n;
  named = tables_named n (omega arith);
  limits = tables_limits n most;
}

-- ---- the rows of a place

module _ (n i : ℕ) (l : i < n) where
  x_name : port_name_of (tables n) (3 * i) ≡ x_port i
  x_name = let here : 3 * i ≡ 3 * i + 0 = omega arith in ap (port_name_of (tables n)) here ∙ port_in n i 0 l (omega arith)

  y_name : port_name_of (tables n) (3 * i + 1) ≡ y_port i
  y_name = port_in n i 1 l (omega arith)

  z_name : port_name_of (tables n) (3 * i + 2) ≡ z_port i
  z_name = port_in n i 2 l (omega arith)

  state_in : (k : ℕ) → k < 8 → state_name_of (tables n) (8 * i + k) ≡ (get_or (pairs_at i) k no_pair).state
  state_in k lk = ap (λ (p : Pair). p.state) (pair_in n i k l lk)

-- a pair that requires one port demands one provider of it
one_demanded : (n k r : ℕ) (state provided next name : List ℕ) → port_name_of (tables n) r ≡ name → map (need_row (tables n) (pair_row k state provided (r ∷ []) next)) (r ∷ []) ≡ map one_of (name ∷ [])
one_demanded n k r state provided next name is =
    let test : nat_eq r r ≡ true = eq-eqb r r refl in
    let more = λ (b : Bool). 1 + slice_index_or (0 ∷ []) (cond (not b) (1 + 0) 0) 0 in
    let one : demand_in (pair_row k state provided (r ∷ []) next) r ≡ 1 = (λ i. cond (test i || false) (more (test i)) 0) in
    (λ i. record { port = is i; count = one i } ∷ [])

earlier_demanded : (n i k : ℕ) (state provided next : List ℕ) → i < n → map (need_row (tables n) (pair_row k state provided (earlier_z_number i) next)) (earlier_z_number i) ≡ map one_of (earlier_z i)
earlier_demanded n zero k state provided next l = refl
earlier_demanded n (suc h) k state provided next l = one_demanded n k (3 * h + 2) state provided next (z_port h) (z_name n h (omega arith))

abbrev spelled : List ℕ → List (List ℕ) → List NeedRow → List (List ℕ) → StateRow
spelled name provide require next = record { name = name; provide = provide; require = require; next = next }

-- what the tables name, place by place
module _ (n i : ℕ) (l : i < n) where
  abbrev port_list : List ℕ → List (List ℕ)
  port_list rs = map (port_name_of (tables n)) rs

  abbrev next_list : List ℕ → List (List ℕ)
  next_list qs = map (state_name_of (tables n)) qs

  next_in : (k : ℕ) → k < 8 → next_list ((8 * i + k) ∷ []) ≡ (get_or (pairs_at i) k no_pair).state ∷ []
  next_in k lk = ap (λ name. name ∷ []) (state_in n i l k lk)

  left_states : map (state_row (tables n)) (left_pairs i) ≡ (left_row i).states
  left_states = λ j.
      spelled (codes "a0") [] [] (next_in 1 (omega arith) j)
      ∷ spelled (codes "a1") (x_name n i l j ∷ []) (earlier_demanded n i (2 * i) (codes "a1") ((3 * i) ∷ []) ((8 * i + 2) ∷ []) l j) (next_in 2 (omega arith) j)
      ∷ spelled (codes "a2") [] (one_demanded n (2 * i) (3 * i + 1) (codes "a2") [] ((8 * i + 3) ∷ []) (y_port i) (y_name n i l) j) (next_in 3 (omega arith) j)
      ∷ spelled (codes "a3") [] [] []
      ∷ []

  right_states : map (state_row (tables n)) (right_pairs i) ≡ (right_row i).states
  right_states = λ j.
      spelled (codes "b0") [] [] (next_in 5 (omega arith) j)
      ∷ spelled (codes "b1") (y_name n i l j ∷ []) [] (next_in 6 (omega arith) j)
      ∷ spelled (codes "b2") [] (one_demanded n (2 * i + 1) (3 * i) (codes "b2") [] ((8 * i + 7) ∷ []) (x_port i) (x_name n i l) j) (next_in 7 (omega arith) j)
      ∷ spelled (codes "b3") (z_name n i l j ∷ []) [] []
      ∷ []

  abbrev spelled_type : List ℕ → List ℕ → List StateRow → TypeRow
  spelled_type name initial states = record { name = name; initial = initial; states = states }

  left_same : type_row (tables n) (2 * i + 0) ≡ left_row i
  left_same =
      let kind = kind_in n i 0 l (omega arith) in
      let here : 2 * i + 0 ≡ 2 * i = omega arith in
      let start : 8 * i ≡ 8 * i + 0 = omega arith in
      let initial : state_name_of (tables n) (initial_of (tables n) (2 * i + 0)) ≡ codes "a0" =
      ap (λ (k : Kind). state_name_of (tables n) k.initial) kind ∙ ap (state_name_of (tables n)) start ∙ state_in n i l 0 (omega arith) in
      let states : map (state_row (tables n)) (states_of_type (tables n) (2 * i + 0)) ≡ (left_row i).states =
      ap (λ t. map (state_row (tables n)) (states_of_type (tables n) t)) here ∙ ap (map (state_row (tables n))) (left_of_type n i l) ∙ left_states in
      λ j. spelled_type ((kind j).name) (initial j) (states j)

  right_same : type_row (tables n) (2 * i + 1) ≡ right_row i
  right_same =
      let kind = kind_in n i 1 l (omega arith) in
      let initial : state_name_of (tables n) (initial_of (tables n) (2 * i + 1)) ≡ codes "b0" =
      ap (λ (k : Kind). state_name_of (tables n) k.initial) kind ∙ state_in n i l 4 (omega arith) in
      let states : map (state_row (tables n)) (states_of_type (tables n) (2 * i + 1)) ≡ (right_row i).states =
      ap (map (state_row (tables n))) (right_of_type n i l) ∙ right_states in
      λ j. spelled_type ((kind j).name) (initial j) (states j)

-- ---- all rows

row_in : (n i k : ℕ) → i < n → k < 2 → get_or (rows_at i) k (left_row 0) ≡ type_row (tables n) (2 * i + k)
row_in n i k l = each_of_two (λ k. get_or (rows_at i) k (left_row 0) ≡ type_row (tables n) (2 * i + k)) (sym (left_same n i l)) (sym (right_same n i l)) k

row_at : (n t : ℕ) → t < 2 * n → get_or (generated_rows n) t (left_row 0) ≡ type_row (tables n) t
unfolding generated_rows
row_at n t l =
    let is : 2 * (t / 2) + t % 2 ≡ t = omega arith in
    let place : t / 2 < n = omega arith in
    let rest : t % 2 < 2 = omega arith in
    let Here : ℕ → Type 0 = λ s. get_or (generated_rows n) s (left_row 0) ≡ type_row (tables n) s in
    subst Here is
    (piece_at rows_at 2 (λ j. refl) 0 n (t / 2) (t % 2) (left_row 0) place rest
    ∙ ap (λ j. get_or (rows_at j) (t % 2) (left_row 0)) (zero-add (t / 2))
    ∙ row_in n (t / 2) (t % 2) place rest)

pub rows_counted : (n : ℕ) → length (generated_rows n) ≡ 2 * n
unfolding generated_rows
rows_counted n = length_pieces rows_at 2 (λ i. refl) 0 n

pub rows_same : (n : ℕ) → generated_rows n ≡ rows_of_universe (tables n)
rows_same n =
    fill_by_all (type_row (tables n)) (generated_rows n) (type_count (tables n)) (left_row 0) (rows_counted n ∙ sym (types_counted n)) (λ t l. row_at n t (omega (arith, types_counted n)))

-- ---- what they mean

pub rows_without_fault : (n : ℕ) → n ≤ 250 → first_fault (generated_rows n) ≡ None
rows_without_fault n most =
    let t = tables_are_a_table n most in
    ap first_fault (rows_same n) ∙ no_fault (tables n) t.universe t.named t.limits (tables_by_sight n)

pub generated_tables : (n : ℕ) → n ≤ 250 → generated n ≡ tables n
unfolding generated tables
generated_tables n most =
    let t = tables_are_a_table n most in
    ap (universe_from 1) (rows_same n) ∙ rebuilt (tables n) t.universe t.named (tables_by_sight n)

pub rows_mean : (n : ℕ) → n ≤ 250 → meaning_of 1 (generated_rows n) ≡ Ok (generated n)
unfolding generated tables
rows_mean n most = ap (λ o. or_universe o (universe_from 1 (generated_rows n))) (rows_without_fault n most)

-- ---- each port is required of one provider

ones : (names : List (List ℕ)) → AllByRecursion (λ (n : NeedRow). n.count ≡ 1) (map one_of names)
ones [] = tt
ones (name ∷ names) = (refl, ones names)

abbrev One : NeedRow → Type 0
One n = n.count ≡ 1

abbrev OneEach : StateRow → Type 0
OneEach state = All One state.require

abbrev OneEachOf : TypeRow → Type 0
OneEachOf row = All OneEach row.states

left_one : (i : ℕ) → OneEachOf (left_row i)
left_one i = All-from_recursion OneEach (left_row i).states (
  All-from_recursion One [] tt,
  (All-from_recursion One (map one_of (earlier_z i)) (ones (earlier_z i)), (All-from_recursion One (map one_of (y_port i ∷ [])) (ones (y_port i ∷ [])), (All-from_recursion One [] tt, tt))),
)

right_one : (i : ℕ) → OneEachOf (right_row i)
right_one i = All-from_recursion OneEach (right_row i).states (
  All-from_recursion One [] tt,
  (All-from_recursion One [] tt, (All-from_recursion One (map one_of (x_port i ∷ [])) (ones (x_port i ∷ [])), (All-from_recursion One [] tt, tt))),
)

one_everywhere : (n : ℕ) → All OneEachOf (generated_rows n)
unfolding generated_rows
one_everywhere n = All-from_recursion OneEachOf (generated_rows n) (flat_map_each OneEachOf rows_at (range_with_len 0 n) (λ k d l. let i = get_or (range_with_len 0 n) k d in (left_one i, (right_one i, tt))))

pub rows_of_version : (n : ℕ) → IsOfVersion 1 (generated_rows n)
rows_of_version n = record { version = inl refl; single = λ one. one_everywhere n }

-- ---- no list of theirs is long

short_state : (row : StateRow) → length row.provide ≤ 1 → length row.require ≤ 1 → length row.next ≤ 1 → StateFits row
short_state row a b c = record { provide = omega arith; require = omega arith; next = omega arith }

earlier_short : (i : ℕ) → length (map one_of (earlier_z i)) ≤ 1
earlier_short zero = omega arith
earlier_short (suc h) = omega arith

left_fits : (i : ℕ) → TypeFits (left_row i)
left_fits i = record {
  states = omega arith;
  each = All-from_recursion StateFits (left_row i).states (
    short_state _ (omega arith) (omega arith) (omega arith),
    (
      short_state _ (omega arith) (earlier_short i) (omega arith),
      (
        short_state _ (omega arith) (omega arith) (omega arith),
        (short_state _ (omega arith) (omega arith) (omega arith), tt),
      ),
    ),
  );
}

right_fits : (i : ℕ) → TypeFits (right_row i)
right_fits i = record {
  states = omega arith;
  each = All-from_recursion StateFits (right_row i).states (
    short_state _ (omega arith) (omega arith) (omega arith),
    (
      short_state _ (omega arith) (omega arith) (omega arith),
      (
        short_state _ (omega arith) (omega arith) (omega arith),
        (short_state _ (omega arith) (omega arith) (omega arith), tt),
      ),
    ),
  );
}

pub rows_fit : (n : ℕ) → n ≤ 128 → RowsFit (generated_rows n)
unfolding generated_rows
rows_fit n most = record {
  types = omega (arith, rows_counted n);
  each = All-from_recursion TypeFits (generated_rows n) (flat_map_each TypeFits rows_at (range_with_len 0 n) (λ k d l. let i = get_or (range_with_len 0 n) k d in (left_fits i, (right_fits i, tt))));
}
