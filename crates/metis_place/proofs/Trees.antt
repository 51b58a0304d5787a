-- The free rooms of a tree.
use Rattle.std.proofs.Common.{◌≡◌, ℕ, zero, suc, ◌+◌, ◌<◌, ◌≤◌, Bool, true, false, cond, List, [], ◌∷◌, ◌++◌, Some, None, Option, Box, refl, sym, ap, ◌∙◌, subst, arith, leb, get_or, max, length, length-append}
use Rattle.std.specs.Prelude.{option_map, slice_index}
use Rattle.std.specs.List.{find, range_with_len}
use Rattle.std.specs.Option.{option_or}
use Rattle.std.specs.declared.alloc.Global.{Global}
use Rattle.std.proofs.Math.ListN.{set}
use Rattle.std.proofs.lemmas.Bool.{le-leb, lt-leb}
use Rattle.metis_place.specs.Terms.{IsRooms, first_place, rooms}
use Rattle.metis_ids.specs.Terms.{greatest}
use Rattle.metis_place.specs.declared.rooms.Rooms.{Rooms}
use Rattle.metis_place.specs.declared.rooms.Node.{Node}
use Rattle.metis_place.specs.declared.rooms.Node.TheVariants.{Empty, Leaf, Fork}
use Rattle.metis_place.proofs.Searches.{find_same}

pub greatest_append : (xs ys : List ℕ) → greatest (xs ++ ys) ≡ max (greatest xs) (greatest ys)
greatest_append [] ys = omega arith
greatest_append (x ∷ xs) ys = let rest = greatest_append xs ys in omega arith

pub rooms_most : (most : ℕ) (n : Node) → IsRooms most n → most ≡ greatest (rooms most n)
rooms_most most Empty h = h
rooms_most most Leaf h = omega arith
rooms_most most (Fork first count others) h = h.0 ∙ sym (greatest_append first.value others.value)

-- what is known of the rooms d once the node is a fork
pub record AtFork (d l : List ℕ) (k : ℕ) (r : List ℕ) : Type 0 where
  pub is : d ≡ l ++ r
  pub count : k ≡ length l
  pub total : length d ≡ length l + length r
  pub some : (1 ≤ length l) × (1 ≤ length r)

pub at_fork : {n : Node} {d : List ℕ} (most : ℕ) {l r : Box Rooms Global} {k : ℕ} → rooms most n ≡ d → IsRooms most n → n ≡ Fork l k r → AtFork d l.value k r.value
at_fork {n} {d} most {l} {r} {k} view_is good is =
    let e = sym view_is ∙ ap (rooms most) is in
    let known = subst (IsRooms most) is good in
    record { is = e; count = known.1; total = ap length e ∙ length-append l.value r.value; some = (known.2, known.3) }

pub place_none : (size : ℕ) (xs : List ℕ) → greatest xs < size → first_place size xs ≡ None
place_none size [] h = refl
place_none size (x ∷ xs) h =
    (λ j. cond {A = Option ℕ} (lt-leb size x (omega arith) j) (Some 0) (option_map (λ i. i + 1) (place_none size xs (omega arith) j)))

pub place_one : (size x : ℕ) → size ≤ x → first_place size (x ∷ []) ≡ Some 0
place_one size x h = ap (λ b. cond {A = Option ℕ} b (Some 0) None) (le-leb size x h)

pub place_append : (size : ℕ) (xs ys : List ℕ) → first_place size (xs ++ ys) ≡ option_or (first_place size xs) (option_map (λ i. length xs + i) (first_place size ys))
place_append size [] ys = by (first_place size ys) where
  by : (o : Option ℕ) → o ≡ option_map (λ i. 0 + i) o
  by None = refl
  by (Some i) = ap Some (omega arith)
place_append size (x ∷ xs) ys = by (leb size x) (first_place size xs) (first_place size ys) (place_append size xs ys) where
  by : (b : Bool) (o p : Option ℕ) → first_place size (xs ++ ys) ≡ option_or o (option_map (λ i. length xs + i) p) → cond {A = Option ℕ} b (Some 0) (option_map (λ i. i + 1) (first_place size (xs ++ ys))) ≡ option_or (cond {A = Option ℕ} b (Some 0) (option_map (λ i. i + 1) o)) (option_map (λ i. length (x ∷ xs) + i) p)
  by true o p e = refl
  by false None None e = ap (option_map (λ i. i + 1)) e
  by false None (Some i) e = ap (option_map (λ i. i + 1)) e ∙ ap Some (omega arith)
  by false (Some i) p e = ap (option_map (λ i. i + 1)) e

pub place_first : (size : ℕ) (xs ys : List ℕ) (i : ℕ) → Some i ≡ first_place size xs → Some i ≡ first_place size (xs ++ ys)
place_first size xs ys i e = ap (λ o. option_or o (option_map (λ i. length xs + i) (first_place size ys))) e ∙ sym (place_append size xs ys)

pub place_other : (size : ℕ) (xs ys : List ℕ) (i : ℕ) → None ≡ first_place size xs → Some i ≡ first_place size ys → Some (length xs + i) ≡ first_place size (xs ++ ys)
place_other size xs ys i none e = (λ j. option_or (none j) (option_map (λ i. length xs + i) (e j))) ∙ sym (place_append size xs ys)

pub place_neither : (size : ℕ) (xs ys : List ℕ) → None ≡ first_place size xs → None ≡ first_place size ys → None ≡ first_place size (xs ++ ys)
place_neither size xs ys none e = (λ j. option_or (none j) (option_map (λ i. length xs + i) (e j))) ∙ sym (place_append size xs ys)

pub place_low : (size : ℕ) (xs : List ℕ) (i : ℕ) → first_place size xs ≡ Some i → i < length xs
place_low size [] i e = cc
place_low size (x ∷ xs) i e = by (leb size x) (first_place size xs) refl (λ k. place_low size xs k) e where
  by : (b : Bool) (o : Option ℕ) → first_place size xs ≡ o → ((k : ℕ) → first_place size xs ≡ Some k → k < length xs) → cond {A = Option ℕ} b (Some 0) (option_map (λ i. i + 1) o) ≡ Some i → i < length (x ∷ xs)
  by true o is rest e = let zero_is : 0 ≡ i = cc in omega arith
  by false None is rest e = cc
  by false (Some k) is rest e = let low = rest k is in let same : k + 1 ≡ i = cc in omega arith

-- ---- a place among them

pub get_left : (xs ys : List ℕ) (i : ℕ) → i < length xs → get_or (xs ++ ys) i 0 ≡ get_or xs i 0
get_left [] ys i less = absurd (omega arith)
get_left (x ∷ xs) ys zero less = refl
get_left (x ∷ xs) ys (suc i) less = get_left xs ys i (omega arith)

pub get_right : (xs ys : List ℕ) (i : ℕ) → get_or (xs ++ ys) (length xs + i) 0 ≡ get_or ys i 0
get_right [] ys i = let same : 0 + i ≡ i = omega arith in ap (λ k. get_or ys k 0) same
get_right (x ∷ xs) ys i = let same : length (x ∷ xs) + i ≡ suc (length xs + i) = omega arith in ap (λ k. get_or (x ∷ (xs ++ ys)) k 0) same ∙ get_right xs ys i

pub set_left : (xs ys : List ℕ) (i v : ℕ) → i < length xs → set (xs ++ ys) i v ≡ set xs i v ++ ys
set_left [] ys i v less = absurd (omega arith)
set_left (x ∷ xs) ys zero v less = refl
set_left (x ∷ xs) ys (suc i) v less = ap (λ l. x ∷ l) (set_left xs ys i v (omega arith))

pub set_right : (xs ys : List ℕ) (i v : ℕ) → set (xs ++ ys) (length xs + i) v ≡ xs ++ set ys i v
set_right [] ys i v = let same : 0 + i ≡ i = omega arith in ap (λ k. set ys k v) same
set_right (x ∷ xs) ys i v = let same : length (x ∷ xs) + i ≡ suc (length xs + i) = omega arith in ap (λ k. set (x ∷ (xs ++ ys)) k v) same ∙ ap (λ l. x ∷ l) (set_right xs ys i v)

-- ---- the search over places

shifted : (t : ℕ → Bool) (a n : ℕ) → find t (range_with_len (a + 1) n) ≡ option_map (λ i. i + 1) (find (λ i. t (i + 1)) (range_with_len a n))
shifted t a zero = refl
shifted t a (suc n) = by (t (a + 1)) (shifted t (a + 1) n) where
  by : (b : Bool) → find t (range_with_len (a + 1 + 1) n) ≡ option_map (λ i. i + 1) (find (λ i. t (i + 1)) (range_with_len (a + 1) n)) → cond {A = Option ℕ} b (Some (a + 1)) (find t (range_with_len (a + 1 + 1) n)) ≡ option_map (λ i. i + 1) (cond {A = Option ℕ} b (Some a) (find (λ i. t (i + 1)) (range_with_len (a + 1) n)))
  by true e = refl
  by false e = e

pub place_is : (size : ℕ) (xs : List ℕ) → first_place size xs ≡ find (λ i. leb size (slice_index xs i)) (range_with_len 0 (length xs))
place_is size [] = refl
place_is size (x ∷ xs) =
    let next : (i : ℕ) → suc i ≡ i + 1 = λ i. omega arith in
    ap (λ o. cond {A = Option ℕ} (leb size x) (Some 0) (option_map (λ i. i + 1) o)) (place_is size xs ∙ find_same (λ i. leb size (slice_index xs i)) (λ i. leb size (slice_index (x ∷ xs) (i + 1))) 0 (length xs) (λ k low less. ap (λ m. leb size (get_or (x ∷ xs) m 0)) (next k)))
    ∙ ap (λ o. cond {A = Option ℕ} (leb size x) (Some 0) o) (sym (shifted (λ i. leb size (slice_index (x ∷ xs) i)) 0 (length xs)))
