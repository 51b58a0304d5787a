-- What is wrong with a line of the text of hosts that cannot be taken in, by its own words and by the lines before it.
--     next_number hosts sizes      the number of the line behind those of these hosts and sizes
--     EntryKind, entry_words kind name digits      the line of a host, or of the size of a type;  such a line as it is written
--     MayStand, earlier hosts sizes kind      a host may stand where no size does, and a size where a host does;  what stands before it of its kind
--     IsFormed hosts sizes line      it is a line that may stand there, with a name and a number
--     IsTypeThere u kind name, IsInRange digits      the universe has the type whose size it is;  the number is below 2^32
--     IsHostsFlaw u hosts sizes line f      the line's flaw: its form, or else its number, or else its type, or else that its name is there twice
use Rattle.std.specs.Prelude.{◌≡◌, ◌≢◌, ◌<◌, ◌≤◌, ◌^◌, ◌+◌, ℕ, List, [], ◌∷◌, IsTrue, None, codes, length, ⊤}
use Rattle.std.specs.List.{Contains}
use Rattle.std.specs.Map.{keys_of}
use Rattle.std.specs.Str.Parse.{digits_value}
use Rattle.metis_tokens.specs.Terms.{is_number, words}
use Rattle.metis_universe.specs.Terms.{Universe, is_name, type_named}
use Rattle.metis_place.specs.Entries.{Entries}
use Rattle.metis_place.specs.declared.hosts_fault.HFault.{HFault}
use Rattle.metis_place.specs.declared.hosts_fault.HFault.TheVariants.{Line, Short, Number, Name, Twice, NoMemory}

abbrev pub next_number : Entries → Entries → ℕ
next_number hosts sizes = length hosts + length sizes + 2

-- ---- lines that may stand there

pub data EntryKind : Type 0 where
  of_host : EntryKind
  of_size : EntryKind

abbrev pub entry_words : EntryKind → List ℕ → List ℕ → List ℕ
entry_words of_host name digits = words (codes "host" ∷ name ∷ digits ∷ [])
entry_words of_size name digits = words (codes "size" ∷ name ∷ digits ∷ [])

abbrev pub MayStand : Entries → Entries → EntryKind → Type 0
MayStand hosts sizes of_host = sizes ≡ []
MayStand hosts sizes of_size = 1 ≤ length hosts

abbrev pub earlier : Entries → Entries → EntryKind → Entries
earlier hosts sizes of_host = hosts
earlier hosts sizes of_size = sizes

pub record IsFormed (hosts sizes : Entries) (line : List ℕ) : Type 0 where
  pub kind : EntryKind
  pub name : List ℕ
  pub digits : List ℕ
  pub stands : MayStand hosts sizes kind
  pub named : IsTrue (is_name name)
  pub numbered : IsTrue (is_number digits)
  pub text : line ≡ entry_words kind name digits

-- ---- what is wrong

-- a host is of no type
abbrev pub IsTypeThere : Universe → EntryKind → List ℕ → Type 0
IsTypeThere u of_host name = ⊤
IsTypeThere u of_size name = type_named u name ≢ None

abbrev pub IsInRange : List ℕ → Type 0
IsInRange digits = digits_value 10 digits < 2 ^ 32

-- line n has no form that may stand there, or a number out of range, or else a type that is not there, or else a name that stands before it
abbrev pub IsHostsFlaw : Universe → Entries → Entries → List ℕ → HFault → Type 0
IsHostsFlaw u hosts sizes line (Line n) = (n ≡ next_number hosts sizes) × (IsFormed hosts sizes line → ⊥)
IsHostsFlaw u hosts sizes line (Number n) = (n ≡ next_number hosts sizes) × (l : IsFormed hosts sizes line)
    × (2 ^ 32 ≤ digits_value 10 l.digits)
IsHostsFlaw u hosts sizes line (Name n) = (n ≡ next_number hosts sizes) × (l : IsFormed hosts sizes line) × IsInRange l.digits
    × (IsTypeThere u l.kind l.name → ⊥)
IsHostsFlaw u hosts sizes line (Twice n) = (n ≡ next_number hosts sizes) × (l : IsFormed hosts sizes line) × IsInRange l.digits
    × IsTypeThere u l.kind l.name × Contains (keys_of (earlier hosts sizes l.kind)) l.name
IsHostsFlaw u hosts sizes line Short = ⊥
IsHostsFlaw u hosts sizes line NoMemory = ⊥
