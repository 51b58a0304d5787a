-- Where the faults of the text of hosts come from.
--     NoFeed line      it has no line feed
--     IsBegun u hosts sizes, begun_bytes hosts sizes      what the lines of a text say that can be read so far;  these lines, the first one before them
--     IsTooShort, IsOfFirst, IsOfLine, IsPastEnd u bytes f      the bytes end before the last line does;  the first line is another;  the line behind those that can be read has a flaw, and is told;  more stands behind the last line
--     IsHostsFault u bytes f      one of these
use Rattle.std.specs.Prelude.{◌≡◌, ◌≢◌, ◌≤◌, ℕ, ◌+◌, ◌==◌, not, List, ◌∷◌, ◌++◌, Result, Ok, Err, IsTrue, IsFalse, codes, length, map, ⊤}
use Rattle.std.specs.List.{All, concat, list_all}
use Rattle.std.specs.Option.{is_some}
use Rattle.metis_universe.specs.Terms.{Universe, type_named}
use Rattle.metis_place.specs.Entries.{Entries}
use Rattle.metis_place.specs.HostsFlaws.{IsHostsFlaw, next_number}
use Rattle.metis_place.specs.HostsText.{is_last, seen_lines, with_line}
use Rattle.metis_place.specs.HostsWritten.{IsEntry, IsHostsText, are_apart, host_line, hosts_bytes, hosts_header, size_line}
use Rattle.metis_place.specs.declared.hosts_fault.HFault.{HFault}
use Rattle.metis_place.specs.declared.hosts_fault.HFault.TheVariants.{Line, Short, NoMemory}

abbrev pub NoFeed : List ℕ → Type 0
NoFeed line = IsTrue (list_all (λ b. not (b == 10)) line)

pub record IsBegun (u : Universe) (hosts sizes : Entries) : Type 0 where
  pub hosts_are : All IsEntry hosts
  pub hosts_apart : IsTrue (are_apart hosts)
  pub sizes_are : All IsEntry sizes
  pub sizes_apart : IsTrue (are_apart sizes)
  pub types : All (λ e. IsTrue (is_some (type_named u e.0))) sizes

abbrev pub begun_bytes : Entries → Entries → List ℕ
begun_bytes hosts sizes = concat (hosts_header ∷ (map host_line hosts ++ map size_line sizes))

-- nothing but the beginning of a line stands behind lines that can be read, or the first line has no end
pub data IsTooShort (u : Universe) (bytes : List ℕ) (f : HFault) : Type 0 where
  in_first : NoFeed bytes → f ≡ Short → IsTooShort u bytes f
  in_later : (hosts sizes : Entries) (piece : List ℕ) → IsBegun u hosts sizes → bytes ≡ begun_bytes hosts sizes ++ piece → NoFeed piece → f ≡ Short → IsTooShort u bytes f

pub record IsOfFirst (bytes : List ℕ) (f : HFault) : Type 0 where
  pub line : List ℕ
  pub behind : List ℕ
  pub text : bytes ≡ line ++ (codes "\n" ++ behind)
  pub no_feed : NoFeed line
  pub other : line ≢ codes "metis hosts 1"
  pub fault : f ≡ Line 1

-- the line is not the last one, and it cannot be taken in, for what is wrong with it
pub record IsOfLine (u : Universe) (bytes : List ℕ) (f : HFault) : Type 0 where
  pub hosts : Entries
  pub sizes : Entries
  pub line : List ℕ
  pub behind : List ℕ
  pub begun : IsBegun u hosts sizes
  pub text : bytes ≡ begun_bytes hosts sizes ++ (line ++ (codes "\n" ++ behind))
  pub no_feed : NoFeed line
  pub goes_on : IsFalse (is_last (seen_lines hosts sizes) line)
  pub fault : with_line u (next_number hosts sizes) (seen_lines hosts sizes) line ≡ Err f
  pub wrong : IsHostsFlaw u hosts sizes line f

pub record IsPastEnd (u : Universe) (bytes : List ℕ) (f : HFault) : Type 0 where
  pub hosts : Entries
  pub sizes : Entries
  pub more : List ℕ
  pub formed : IsHostsText u hosts sizes
  pub text : bytes ≡ hosts_bytes hosts sizes ++ more
  pub some : 1 ≤ length more
  pub fault : f ≡ Line (next_number hosts sizes + 1)

pub data IsHostsFault (u : Universe) (bytes : List ℕ) (f : HFault) : Type 0 where
  too_short : IsTooShort u bytes f → IsHostsFault u bytes f
  of_first : IsOfFirst bytes f → IsHostsFault u bytes f
  of_line : IsOfLine u bytes f → IsHostsFault u bytes f
  past_end : IsPastEnd u bytes f → IsHostsFault u bytes f
