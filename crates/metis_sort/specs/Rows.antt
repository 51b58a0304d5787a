-- Rows of nodes that stand in one list, one behind the other.
--     part nodes start end      the nodes from one place up to another
--     rows_from count start end nodes      so many rows, each from its start up to its end
--     rows_by starts nodes      each row from its start up to the start of the next one; the last start is of no row
--     joined rows      the nodes of all rows
--     IsSpread starts nodes      the starts ascend from 0 up to the number of the nodes, and the nodes can be counted
--     Filling, filling_of starts ends nodes      rows that still have room: each goes up to its end, and may go on up to the start of the next one
--     HasRoom f x n, IsFull f x      row x may go on by n nodes;  by none
--     AreSpaced starts counts      each row has room for so many nodes
--     IsRoomy starts ends nodes      each end stands between two starts, and these go from 0 up to the number of the nodes
use Rattle.std.specs.Prelude.{ℕ, ◌≡◌, ◌+◌, ◌-◌, ◌<◌, ◌≤◌, ◌^◌, List, [], drop, length, map, slice_index, slice_index_or, take}
use Rattle.std.specs.List.{flat_map, range_with_len}

abbrev pub part : List ℕ → ℕ → ℕ → List ℕ
part nodes start end = drop start (take end nodes)

abbrev pub rows_from : ℕ → (ℕ → ℕ) → (ℕ → ℕ) → List ℕ → List (List ℕ)
rows_from count start end nodes = map (λ i. part nodes (start i) (end i)) (range_with_len 0 count)

abbrev pub rows_by : List ℕ → List ℕ → List (List ℕ)
rows_by starts nodes = rows_from (length starts - 1) (slice_index starts) (λ i. slice_index starts (i + 1)) nodes

abbrev pub joined : List (List ℕ) → List ℕ
joined rows = flat_map (λ i. slice_index_or rows i []) (range_with_len 0 (length rows))

pub record IsSpread (starts nodes : List ℕ) : Type 0 where
  pub some : 0 < length starts
  pub first : slice_index starts 0 ≡ 0
  pub ascend : (i : ℕ) → i + 1 < length starts → slice_index starts i ≤ slice_index starts (i + 1)
  pub within : (i : ℕ) → i < length starts → slice_index starts i ≤ length nodes
  pub last : slice_index starts (length starts - 1) ≡ length nodes
  pub few : length nodes < 2 ^ 32

pub record Filling : Type 0 where
  pub rows : List (List ℕ)
  pub starts : List ℕ

abbrev pub filling_of : List ℕ → List ℕ → List ℕ → Filling
filling_of starts ends nodes = record { rows = rows_from (length ends) (slice_index starts) (slice_index ends) nodes; starts = starts }

abbrev pub HasRoom : Filling → ℕ → ℕ → Type 0
HasRoom f x n = slice_index f.starts x + length (slice_index_or f.rows x []) + n ≤ slice_index f.starts (x + 1)

abbrev pub IsFull : Filling → ℕ → Type 0
IsFull f x = slice_index f.starts x + length (slice_index_or f.rows x []) ≡ slice_index f.starts (x + 1)

abbrev pub AreSpaced : List ℕ → List ℕ → Type 0
AreSpaced starts counts = (x : ℕ) → x < length counts → slice_index starts (x + 1) ≡ slice_index starts x + slice_index counts x

pub record IsRoomy (starts ends nodes : List ℕ) : Type 0 where
  pub size : length starts ≡ length ends + 1
  pub first : slice_index starts 0 ≡ 0
  pub begun : (i : ℕ) → i < length ends → slice_index starts i ≤ slice_index ends i
  pub room : (i : ℕ) → i < length ends → slice_index ends i ≤ slice_index starts (i + 1)
  pub last : slice_index starts (length ends) ≡ length nodes
  pub few : length nodes < 2 ^ 32
