-- Names, each with a number.
--     Entries, entries_of es      names with numbers, in their order;  those that are kept as texts
--     has_name es name, number_of es name      whether one of them has the name;  the number of that, or 1 where there is none
use Rattle.std.specs.Prelude.{ℕ, Bool, List, map, String, string_bytes}
use Rattle.std.specs.Map.{lookup}
use Rattle.std.specs.Option.{is_some, unwrap_or}
use Rattle.std.specs.Str.{bytes_eq}
use Rattle.std.specs.declared.alloc.Global.{Global}

abbrev pub Entries : Type 0
Entries = List (List ℕ × ℕ)

abbrev pub entries_of : List (String Global × ℕ) → Entries
entries_of es = map (λ e. (string_bytes e.0, e.1)) es

abbrev pub has_name : Entries → List ℕ → Bool
has_name es name = is_some (lookup (bytes_eq name) es)

abbrev pub number_of : Entries → List ℕ → ℕ
number_of es name = unwrap_or (lookup (bytes_eq name) es) 1
