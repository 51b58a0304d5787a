-- Numbers of names, found by the bucket of a name: each bucket is a chain of numbers that fall.
--     hash_of bytes, bucket_of count bytes      a number from these bytes;  their bucket among so many
--     name_numbered names n, bucket_numbered names count n      the name of this number;  its bucket
--     IsChained bucket count lasts befores      of the numbers below the count, each bucket has the last one, and each number the one before it in its bucket, in both lists raised by one, and 0 where there is none
use Rattle.std.specs.Prelude.{◌≡◌, ℕ, suc, ◌+◌, ◌*◌, ◌%◌, ◌<◌, List, [], fold, length}
use Rattle.std.specs.List.{slice_index_or}

unfoldable pub hash_of : List ℕ → ℕ
hash_of bytes = fold (λ hash byte. (hash * 31 + byte) % 4294967296) 0 bytes

abbrev pub bucket_of : ℕ → List ℕ → ℕ
bucket_of count bytes = hash_of bytes % count

abbrev pub name_numbered : List (List ℕ) → ℕ → List ℕ
name_numbered names n = slice_index_or names n []

abbrev pub bucket_numbered : List (List ℕ) → ℕ → ℕ → ℕ
bucket_numbered names count n = bucket_of count (name_numbered names n)

pub record IsChained (bucket : ℕ → ℕ) (count : ℕ) (lasts befores : List ℕ) : Type 0 where
  pub sized : length befores ≡ count
  pub last : (m : ℕ) → m < count → m < slice_index_or lasts (bucket m) 0
  pub last_own : (b n : ℕ) → slice_index_or lasts b 0 ≡ suc n → (n < count) × (bucket n ≡ b)
  pub before : (m n : ℕ) → m < n → n < count → bucket m ≡ bucket n → m < slice_index_or befores n 0
  pub before_own : (n k : ℕ) → n < count → slice_index_or befores n 0 ≡ suc k → (k < n) × (bucket k ≡ bucket n)
