-- Lists one behind the other in one list, told apart by where each ends.
--     rows_from a ns ends      the lists in ns, the first of which begins at a
--     start_at a ends i      where list i begins
--     IsParted a ns ends      the ends do not fall, from a on, and the last is that of ns
use Rattle.std.specs.Prelude.{◌≡◌, ◌≤◌, ℕ, zero, suc, ◌-◌, List, [], ◌∷◌, length, take, drop, slice_index}

abbrev pub rows_from : ℕ → List ℕ → List ℕ → List (List ℕ)
rows_from a ns [] = []
rows_from a ns (e ∷ es) = take (e - a) (drop a ns) ∷ rows_from e ns es

-- where the list before it ends
abbrev pub start_at : ℕ → List ℕ → ℕ → ℕ
start_at a es zero = a
start_at a es (suc i) = slice_index es i

abbrev pub IsParted : ℕ → List ℕ → List ℕ → Type 0
IsParted a ns [] = a ≡ length ns
IsParted a ns (e ∷ es) = (a ≤ e) × IsParted e ns es
