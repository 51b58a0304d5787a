-- Names with numbers, as a map keeps them.
use Rattle.std.proofs.Common.{◌≡◌, ℕ, true, false, cond, List, [], ◌∷◌, ◌++◌, length, Some, String, string_bytes, string_eq, refl, ap}
use Rattle.std.specs.Prelude.{is_some, option_map, slice_get}
use Rattle.std.specs.declared.alloc.Global.{Global}
use Rattle.std.specs.Map.{lookup}
use Rattle.std.specs.Str.{bytes_eq}
use Rattle.std.proofs.lemmas.Bool.{true≢false}
use Rattle.std.proofs.lemmas.List.{length-map}
use Rattle.std.proofs.lemmas.Option.{slice_get-map}
use Rattle.indexmap.specs.IndexMap.{insert_entry}
use Rattle.metis_place.specs.Terms.{entries_of, has_name}

abbrev entry : String Global × ℕ → List ℕ × ℕ
entry e = (string_bytes e.0, e.1)

pub length-entries_of : (es : List (String Global × ℕ)) → length (entries_of es) ≡ length es
length-entries_of es = length-map es entry

pub get-entries_of : (es : List (String Global × ℕ)) (i : ℕ) → slice_get (entries_of es) i ≡ option_map entry (slice_get es i)
get-entries_of es i = slice_get-map entry es i

-- what a map has at a name
pub lookup-entries_of : (name : List ℕ) (es : List (String Global × ℕ)) → lookup (λ k. bytes_eq name (string_bytes k)) es ≡ lookup (bytes_eq name) (entries_of es)
lookup-entries_of name [] = refl
lookup-entries_of name (e ∷ es) = ap (λ o. cond (bytes_eq name (string_bytes e.0)) (Some e.1) o) (lookup-entries_of name es)

-- a new name goes last
pub entries_of-insert : (es : List (String Global × ℕ)) (key : String Global) (n : ℕ) → has_name (entries_of es) (string_bytes key) ≡ false → entries_of (insert_entry string_eq es key n) ≡ entries_of es ++ (string_bytes key, n) ∷ []
entries_of-insert [] key n h = refl
entries_of-insert (e ∷ es) key n h =
    elim (string_eq key e.0) as (λ b. is_some (cond b (Some e.1) (lookup (bytes_eq (string_bytes key)) (entries_of es))) ≡ false →
    entries_of (cond b ((e.0, n) ∷ es) (e ∷ insert_entry string_eq es key n)) ≡ entries_of (e ∷ es) ++ (string_bytes key, n) ∷ []) [
      | true ↦ λ no'. absurd (true≢false no')
      | false ↦ λ rest. ap (λ ks. entry e ∷ ks) (entries_of-insert es key n rest)
    ] h
