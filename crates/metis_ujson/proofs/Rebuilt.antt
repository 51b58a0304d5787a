-- The rows of a universe stand for that universe.
use Rattle.std.proofs.Common.{◌≡◌, ℕ, suc, zero, ◌+◌, ◌<◌, ◌≤◌, List, [], ◌∷◌, ◌++◌, length, get_or, map, drop, position, unwrap_or, flat_map, Some, refl, ap, ap₂, sym, ◌∙◌, subst, append_assoc, append-nil, arith}
use Rattle.std.specs.List.{AllByRecursion, All, range_with_len}
use Rattle.std.specs.List.Sorted.{IsStrictlyIncreasing}
use Rattle.std.specs.Str.{bytes_eq}
use Rattle.std.proofs.lemmas.Bool.{eqb-true}
use Rattle.std.proofs.lemmas.List.{get_or_default, drop_more, drop_all, length-map, map-append}
use Rattle.std.proofs.lemmas.List.Concat.{flat_map-append}
use Rattle.std.proofs.lemmas.List.Elements.{filter_passes, recursion_from_All}
use Rattle.std.proofs.lemmas.List.Folds.{flat_map-map}
use Rattle.std.proofs.lemmas.Simd.{map-map}
use Rattle.metis_universe.specs.Terms.{IsBySight, IsNamed, IsUniverse, Pair, StateRow, Universe, ascending, first_sights, further_from, initial_of, kind_at, kind_from, kinds_from, next_of, no_kind, no_pair, number_of, pair_at, pair_count, pair_from, pairs_from, pairs_of_type, port_count, port_name_of, port_names_of_pair, ports_of, ports_of_state, ports_of_type, provided_of, required_of, state_name_of, state_number, type_count, type_name_of, type_of, universe_from, universe_of}
use Rattle.metis_universe.proofs.Named.{position-map}
use Rattle.metis_ujson.specs.Terms.{need_row, rows_of_universe, state_row, type_row}
use Rattle.metis_ujson.proofs.Demanded.{further_back, names_are}
use Rattle.metis_ujson.proofs.Grouped.{is_of, below, of_type, AtLeast, Stands, stands, none_below, all_below, one_more, first_more, first_within, own_at, Spot, spot}
use Rattle.metis_ujson.proofs.Numbers.{place_of_name, ascending-same}

each_same : {A : Type 0} (f : A → A) (xs : List A) → AllByRecursion (λ x. f x ≡ x) xs → map f xs ≡ xs
each_same f [] h = refl
each_same f (x ∷ xs) h = ap₂ (λ y ys. y ∷ ys) h.0 (each_same f xs h.1)

all_at_least : (xs : List Pair) → AtLeast 0 xs
all_at_least [] = tt
all_at_least (x ∷ xs) = (omega arith, all_at_least xs)

module _ (u : Universe) (is : IsUniverse u) where
  pub placed : Stands u.pairs
  placed = stands u.pairs is.by_type

  -- the pairs of type t, and the number of the first one
  abbrev pub own : ℕ → List Pair
  own t = of_type t u.pairs

  abbrev pub first : ℕ → ℕ
  first t = length (below t u.pairs)

  pub own_is : (t k : ℕ) → k < length (own t) → pair_at u (first t + k) ≡ get_or (own t) k no_pair
  own_is t k l = own_at t k u.pairs no_pair placed l

  pub own_within : (t k : ℕ) → k < length (own t) → first t + k < pair_count u
  own_within t k l = omega (arith, first_within t u.pairs placed)

  pub own_type : (t k : ℕ) → k < length (own t) → type_of u (first t + k) ≡ t
  own_type t k l = ap (λ (p : Pair). p.kind) (own_is t k l) ∙ eqb-true (get_or (own t) k no_pair).kind t (filter_passes (is_of t) u.pairs k no_pair l)

  pub spot_of : (t q : ℕ) → q < pair_count u → type_of u q ≡ t → Spot u.pairs t q
  spot_of t q l e = spot t q u.pairs no_pair placed l e

  pub first_next : (t : ℕ) → first t + length (type_row u t).states ≡ first (t + 1)
  first_next t = ap (λ n. first t + n) (length-map (own t) (state_row u)) ∙ first_more t u.pairs placed

  kinds_below : (t : ℕ) → type_count u ≤ t → AllByRecursion (λ p. p.kind < t) u.pairs
  kinds_below t l = recursion_from_All (λ (p : Pair). p.kind < t) u.pairs (λ k d m. let here : type_of u k < type_count u = is.types k m in subst (λ (p : Pair). p.kind < t) (get_or_default u.pairs k no_pair d m) (omega arith))

module _ (u : Universe) (is : IsUniverse u) (named : IsNamed u) where
  -- ---- ports

  port_number : (r : ℕ) → r < port_count u → number_of u.ports (port_name_of u r) ≡ r
  port_number r l = ap (λ o. unwrap_or o 0) (place_of_name (λ n. n) u.ports r [] l (λ k less e. let same : r ≡ k = named.ports_apart r k l (omega arith) e in omega arith))

  port_numbers : (rs : List ℕ) → AllByRecursion (λ r. r < port_count u) rs → map (number_of u.ports) (map (port_name_of u) rs) ≡ rs
  port_numbers [] h = refl
  port_numbers (r ∷ rs) h = ap₂ (λ x xs. x ∷ xs) (port_number r h.0) (port_numbers rs h.1)

  ports_back : (rs : List ℕ) → IsStrictlyIncreasing rs → All (λ r. r < port_count u) rs → ascending (map (number_of u.ports) (map (port_name_of u) rs)) ≡ rs
  ports_back rs up within = ap ascending (port_numbers rs (recursion_from_All (λ r. r < port_count u) rs within)) ∙ ascending-same rs up

  -- ---- states

  pub own_apart : (t i k : ℕ) → i < length (own u is t) → k < length (own u is t) → (get_or (own u is t) i no_pair).state ≡ (get_or (own u is t) k no_pair).state → i ≡ k
  own_apart t i k li lk e =
      let state = λ (p : Pair). p.state in
      let same : first u is t + i ≡ first u is t + k =
      named.states_apart (first u is t + i) (first u is t + k) (own_within u is t i li) (own_within u is t k lk) (own_type u is t i li ∙ sym (own_type u is t k lk))
      (ap state (own_is u is t i li) ∙ e ∙ sym (ap state (own_is u is t k lk))) in
      omega arith

  -- the place of a pair's state among those of its type
  pub state_place : (t q : ℕ) (at : Spot u.pairs t q) → position (λ (s : StateRow). bytes_eq (state_name_of u q) s.name) (type_row u t).states ≡ Some at.i
  state_place t q at =
      let here : get_or (own u is t) at.i no_pair ≡ pair_at u q = sym (own_is u is t at.i at.within) ∙ ap (pair_at u) (sym at.is) in
      let name : List ℕ → Type 0 = λ n. position (λ (p : Pair). bytes_eq n p.state) (own u is t) ≡ Some at.i in
      position-map (state_row u) (λ (s : StateRow). bytes_eq (state_name_of u q) s.name) (own u is t)
      ∙ subst name (ap (λ (p : Pair). p.state) here)
      (place_of_name (λ (p : Pair). p.state) (own u is t) at.i no_pair at.within (λ k less e. let same : at.i ≡ k = own_apart t at.i k at.within (omega (arith, at.within)) e in omega arith))

  state_back : (t q : ℕ) → q < pair_count u → type_of u q ≡ t → first u is t + state_number (type_row u t) (state_name_of u q) ≡ q
  state_back t q l e =
      let at = spot_of u is t q l e in
      ap (λ o. first u is t + unwrap_or o 0) (state_place t q at) ∙ sym at.is

  states_back : (t : ℕ) (qs : List ℕ) → AllByRecursion (λ q. (q < pair_count u) × (type_of u q ≡ t)) qs → map (λ name. first u is t + state_number (type_row u t) name) (map (state_name_of u) qs) ≡ qs
  states_back t [] h = refl
  states_back t (q ∷ qs) h = ap₂ (λ x xs. x ∷ xs) (state_back t q h.0.0 h.0.1) (states_back t qs h.1)

  next_back : (t q : ℕ) → q < pair_count u → type_of u q ≡ t → ascending (map (λ name. first u is t + state_number (type_row u t) name) (map (state_name_of u) (next_of u q))) ≡ next_of u q
  next_back t q l e =
      let next = is.next q l in
      let own_next : All (λ p. (p < pair_count u) × (type_of u p ≡ t)) (next_of u q) = λ k d m. let here = next.1 k d m in (here.0, here.1 ∙ e) in
      ap ascending (states_back t (next_of u q) (recursion_from_All (λ p. (p < pair_count u) × (type_of u p ≡ t)) (next_of u q) own_next)) ∙ ascending-same (next_of u q) next.0

  -- ---- pairs

  pair_back : (t q : ℕ) → q < pair_count u → type_of u q ≡ t → pair_from u.ports t (first u is t) (type_row u t) (state_row u (pair_at u q)) ≡ pair_at u q
  pair_back t q l e =
      let kind = sym e in
      let provided = ports_back (provided_of u q) (is.provided q l).0 (is.provided q l).1 in
      let p = pair_at u q in
      let required = ap (λ names. ascending (map (number_of u.ports) names)) (names_are u p p.required) ∙ ports_back (required_of u q) (is.required q l).0 (is.required q l).1 in
      let further = ap (further_from u.ports (map (need_row u p) p.required)) required ∙ further_back u named p (is.required q l).0 (is.required q l).1 (is.demands q l).0 in
      let next = next_back t q l e in
      λ j. record { kind = kind j; state = state_name_of u q; provided = provided j; required = required j; further = further j; next = next j }

  block_back : (t : ℕ) → pairs_of_type u.ports t (first u is t) (type_row u t) ≡ own u is t
  block_back t =
      let made : Pair → Pair = λ p. pair_from u.ports t (first u is t) (type_row u t) (state_row u p) in
      let same : Pair → Type 0 = λ p. made p ≡ p in
      map-map (pair_from u.ports t (first u is t) (type_row u t)) (state_row u) (own u is t)
      ∙ each_same made (own u is t) (recursion_from_All same (own u is t) (λ k d l.
      subst same (own_is u is t k l ∙ get_or_default (own u is t) k no_pair d l) (pair_back t (first u is t + k) (own_within u is t k l) (own_type u is t k l))))

  pairs_back : (n t : ℕ) → t + n ≡ type_count u → below t u.pairs ++ pairs_from u.ports t (first u is t) (map (type_row u) (range_with_len t n)) ≡ u.pairs
  pairs_back zero t e = append-nil (below t u.pairs) ∙ all_below t u.pairs (kinds_below u is t (omega arith))
  pairs_back (suc n) t e =
      let rest = map (type_row u) (range_with_len (t + 1) n) in
      let later = λ (f : ℕ). pairs_from u.ports (t + 1) f rest in
      ap (λ b. below t u.pairs ++ (b ++ later (first u is t + length (type_row u t).states))) (block_back t)
      ∙ sym (append_assoc (below t u.pairs) (own u is t) (later (first u is t + length (type_row u t).states)))
      ∙ ap (λ l. l ++ later (first u is t + length (type_row u t).states)) (one_more t u.pairs (placed u is))
      ∙ ap (λ f. below (t + 1) u.pairs ++ later f) (first_next u is t)
      ∙ pairs_back n (t + 1) (omega arith)

  -- ---- types

  kind_back : (t : ℕ) → t < type_count u → kind_from (first u is t) (type_row u t) ≡ kind_at u t
  kind_back t l =
      let initial = state_back t (initial_of u t) (is.initials t l).0 (is.initials t l).1 in
      λ j. record { name = type_name_of u t; initial = initial j }

  kinds_back : (n t : ℕ) → t + n ≡ type_count u → kinds_from (first u is t) (map (type_row u) (range_with_len t n)) ≡ drop t u.kinds
  kinds_back zero t e = sym (drop_all t u.kinds (omega arith))
  kinds_back (suc n) t e =
      let rest = map (type_row u) (range_with_len (t + 1) n) in
      ap₂ (λ k ks. k ∷ ks) (kind_back t (omega arith)) (ap (λ f. kinds_from f rest) (first_next u is t) ∙ kinds_back n (t + 1) (omega arith))
      ∙ sym (drop_more u.kinds t no_kind (omega arith))

  -- ---- names of ports

  names_of_type : (t : ℕ) → ports_of_type (type_row u t) ≡ flat_map (port_names_of_pair u) (own u is t)
  names_of_type t =
      flat_map-map ports_of_state (state_row u) (own u is t)
      ∙ (λ j. flat_map (λ (p : Pair). map (port_name_of u) p.provided ++ names_are u p p.required j) (own u is t))
      ∙ (λ j. flat_map (λ (p : Pair). (sym (map-append (port_name_of u) p.provided p.required)) j) (own u is t))

  names_back : (n t : ℕ) → t + n ≡ type_count u → flat_map (port_names_of_pair u) (below t u.pairs) ++ flat_map ports_of_type (map (type_row u) (range_with_len t n)) ≡ flat_map (port_names_of_pair u) u.pairs
  names_back zero t e = append-nil (flat_map (port_names_of_pair u) (below t u.pairs)) ∙ ap (flat_map (port_names_of_pair u)) (all_below t u.pairs (kinds_below u is t (omega arith)))
  names_back (suc n) t e =
      let rest = flat_map ports_of_type (map (type_row u) (range_with_len (t + 1) n)) in
      let names = flat_map (port_names_of_pair u) in
      ap (λ b. names (below t u.pairs) ++ (b ++ rest)) (names_of_type t)
      ∙ sym (append_assoc (names (below t u.pairs)) (names (own u is t)) rest)
      ∙ ap (λ l. l ++ rest) (sym (flat_map-append (port_names_of_pair u) (below t u.pairs) (own u is t)) ∙ ap names (one_more t u.pairs (placed u is)))
      ∙ names_back n (t + 1) (omega arith)

  -- ---- all

  none_first : below 0 u.pairs ≡ []
  none_first = none_below 0 u.pairs (all_at_least u.pairs)

  pub pairs_same : pairs_from u.ports 0 0 (rows_of_universe u) ≡ u.pairs
  pairs_same =
      ap (λ f. pairs_from u.ports 0 f (rows_of_universe u)) (sym (ap length none_first))
      ∙ ap (λ l. l ++ pairs_from u.ports 0 (first u is 0) (rows_of_universe u)) (sym none_first)
      ∙ pairs_back (type_count u) 0 (omega arith)

  kinds_same : kinds_from 0 (rows_of_universe u) ≡ u.kinds
  kinds_same = ap (λ f. kinds_from f (rows_of_universe u)) (sym (ap length none_first)) ∙ kinds_back (type_count u) 0 (omega arith)

  pub ports_same : IsBySight u → ports_of (rows_of_universe u) ≡ u.ports
  ports_same sights =
      ap first_sights (ap (λ l. flat_map (port_names_of_pair u) l ++ flat_map ports_of_type (rows_of_universe u)) (sym none_first) ∙ names_back (type_count u) 0 (omega arith)) ∙ sights

  pub rebuilt : IsBySight u → universe_from u.version (rows_of_universe u) ≡ u
  rebuilt sights =
      let ports = ports_same sights in
      let pairs = pairs_same in
      let kinds = kinds_same in
      (λ j. universe_of u.version (kinds_from 0 (rows_of_universe u)) (pairs_from (ports j) 0 0 (rows_of_universe u)) (ports j)) ∙ (λ j. universe_of u.version (kinds j) (pairs j) u.ports)
