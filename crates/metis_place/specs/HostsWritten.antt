-- The text of hosts as it is written: each host with its room, and then the sizes of some types.
--     host_line e, size_line e      the line of a host;  of the size of a type
--     hosts_lines hosts sizes, hosts_bytes hosts sizes      the lines of the whole text;  its bytes
--     each_new earlier es, are_apart es      each name stands on no earlier line
--     IsHostsText u hosts sizes      what a text says that can be read
--     IsTextOf u h bytes      the bytes are such a text, and it says these hosts and the size of each type
use Rattle.std.specs.Prelude.{◌≡◌, ◌≤◌, ◌<◌, ◌^◌, ℕ, ◌&&◌, not, Bool, true, List, [], ◌∷◌, ◌++◌, IsTrue, codes, decimal, length, map}
use Rattle.std.specs.List.{All, concat}
use Rattle.std.specs.Option.{is_some}
use Rattle.metis_tokens.specs.Terms.{end_line, line}
use Rattle.metis_universe.specs.Terms.{Universe, is_name, type_named}
use Rattle.metis_place.specs.Entries.{Entries, has_name}
use Rattle.metis_place.specs.HostsText.{sizes_of}
use Rattle.metis_place.specs.Placement.{HostLists}

abbrev pub hosts_header : List ℕ
hosts_header = line (codes "metis" ∷ codes "hosts" ∷ codes "1" ∷ [])

abbrev pub host_line : List ℕ × ℕ → List ℕ
host_line e = line (codes "host" ∷ e.0 ∷ decimal e.1 ∷ [])

abbrev pub size_line : List ℕ × ℕ → List ℕ
size_line e = line (codes "size" ∷ e.0 ∷ decimal e.1 ∷ [])

abbrev pub hosts_lines : Entries → Entries → List (List ℕ)
hosts_lines hosts sizes = hosts_header ∷ (map host_line hosts ++ (map size_line sizes ++ end_line ∷ []))

abbrev pub hosts_bytes : Entries → Entries → List ℕ
hosts_bytes hosts sizes = concat (hosts_lines hosts sizes)

-- each name is none of the earlier ones
abbrev pub each_new : Entries → Entries → Bool
each_new earlier [] = true
each_new earlier (e ∷ es) = not (has_name earlier e.0) && each_new (earlier ++ e ∷ []) es

abbrev pub are_apart : Entries → Bool
are_apart es = each_new [] es

-- a name, and a number in range
abbrev pub IsEntry : List ℕ × ℕ → Type 0
IsEntry e = IsTrue (is_name e.0) × (e.1 < 2 ^ 32)

-- at least one host, and types of the universe
pub record IsHostsText (u : Universe) (hosts sizes : Entries) : Type 0 where
  pub some : 1 ≤ length hosts
  pub hosts_are : All IsEntry hosts
  pub hosts_apart : IsTrue (are_apart hosts)
  pub sizes_are : All IsEntry sizes
  pub sizes_apart : IsTrue (are_apart sizes)
  pub types : All (λ e. IsTrue (is_some (type_named u e.0))) sizes

pub record IsTextOf (u : Universe) (h : HostLists) (bytes : List ℕ) : Type 0 where
  pub sizes : Entries
  pub formed : IsHostsText u h.hosts sizes
  pub text : bytes ≡ hosts_bytes h.hosts sizes
  pub sized : h.sizes ≡ sizes_of u sizes
