-- What the text of hosts says, line by line, or its first fault.
--     SeenLines, nothing      the hosts with their rooms, and the types with their sizes, of the lines so far;  of no line
--     entry_in name number      the name and the number that two tokens are
--     with_line u n seen line      what is seen with line n, or its fault
--     sizes_of u sizes      the size of each type: that of its line, or 1
--     lines_from u seen n lines rest, text_of u lines rest      the lines from line n on, or all, and what stands behind the last of them
--     hosts_in u bytes      what the bytes say
--     ReadsHosts result meaning      what was read is what was meant, unless memory ran out
use Rattle.std.specs.Prelude.{◌≡◌, ◌≢◌, ℕ, ◌==◌, ◌&&◌, not, Bool, List, [], ◌∷◌, ◌++◌, codes, length, map, Result, Ok, Err, if◌then◌else◌}
use Rattle.std.specs.Option.{is_some}
use Rattle.std.specs.Str.{bytes_eq}
use Rattle.metis_tokens.specs.OwnTexts as own
use Rattle.metis_tokens.specs.Terms.{LineRules, line_fault, line_rules, made, number_in, tokens}
use Rattle.metis_tokens.specs.declared.flaw.Flaw.{Flaw}
use Rattle.metis_tokens.specs.declared.flaw.Flaw.TheVariants as flaw
use Rattle.metis_universe.specs.Terms.{Universe, is_name, type_named}
use Rattle.metis_place.specs.Entries.{Entries, has_name, number_of}
use Rattle.metis_place.specs.Placement.{HostLists}
use Rattle.metis_place.specs.declared.hosts_fault.HFault.{HFault}
use Rattle.metis_place.specs.declared.hosts_fault.HFault.TheVariants.{Line, Short, Number, Name, Twice, NoMemory}

-- ---- one line

pub record SeenLines : Type 0 where
  pub hosts : Entries
  pub sizes : Entries

abbrev pub seen_lines : Entries → Entries → SeenLines
seen_lines hosts sizes = record { hosts = hosts; sizes = sizes }

abbrev pub nothing : SeenLines
nothing = seen_lines [] []

abbrev pub entry_in : List ℕ → List ℕ → Result (List ℕ × ℕ) Flaw
entry_in name number = if is_name name then made (λ k. (name, k)) (number_in number) else Err flaw.Form

-- one more name, which stands on no earlier line of its kind
abbrev pub with_entry : ℕ → Entries → List ℕ × ℕ → Result Entries HFault
with_entry n es e = if has_name es e.0 then Err (Twice n) else Ok (es ++ e ∷ [])

abbrev pub with_host : ℕ → SeenLines → Result (List ℕ × ℕ) Flaw → Result SeenLines HFault
with_host n seen (Ok e) = made (λ hosts. seen_lines hosts seen.sizes) (with_entry n seen.hosts e)
with_host n seen (Err f) = Err (line_fault Line Number Name n f)

abbrev pub with_size : Universe → ℕ → SeenLines → Result (List ℕ × ℕ) Flaw → Result SeenLines HFault
with_size u n seen (Ok e) = if is_some (type_named u e.0) then made (λ sizes. seen_lines seen.hosts sizes) (with_entry n seen.sizes e) else Err (Name n)
with_size u n seen (Err f) = Err (line_fault Line Number Name n f)

-- a host stands before all sizes, and a size behind a host
abbrev pub with_words : Universe → ℕ → SeenLines → List ℕ → Result (List ℕ × ℕ) Flaw → Result SeenLines HFault
with_words u n seen word entry =
    if bytes_eq word (codes "host") && (length seen.sizes == 0) then with_host n seen entry
    else (if bytes_eq word (codes "size") && not (length seen.hosts == 0) then with_size u n seen entry else Err (Line n))

abbrev pub with_tokens : Universe → ℕ → SeenLines → List (List ℕ) → Result SeenLines HFault
with_tokens u n seen (word ∷ name ∷ number ∷ []) = with_words u n seen word (entry_in name number)
with_tokens u n seen _ = Err (Line n)

abbrev pub with_line : Universe → ℕ → SeenLines → List ℕ → Result SeenLines HFault
with_line u n seen line = with_tokens u n seen (tokens line)

-- ---- all lines

abbrev pub sizes_of : Universe → Entries → List ℕ
sizes_of u sizes = map (λ kind. number_of sizes kind.name) u.kinds

abbrev pub hosts_of : Universe → SeenLines → HostLists
hosts_of u seen = record { hosts = seen.hosts; sizes = sizes_of u seen.sizes }

-- the last line stands behind a host
abbrev pub is_last : SeenLines → List ℕ → Bool
is_last seen line = bytes_eq line (codes "end") && not (length seen.hosts == 0)

abbrev pub host_line_rules : Universe → LineRules SeenLines HFault
host_line_rules u = line_rules is_last (with_line u) Line Short

-- line n and what stands behind it: nothing, once the last line was read
abbrev pub end_from : Universe → SeenLines → ℕ → List (List ℕ) → List ℕ → Result HostLists HFault
end_from u seen n lines rest = own.end_from (host_line_rules u) (hosts_of u) seen n lines rest

-- the lines from line n on, and what stands behind the last of them
abbrev pub lines_from : Universe → SeenLines → ℕ → List (List ℕ) → List ℕ → Result HostLists HFault
lines_from u seen n lines rest = own.lines_from (host_line_rules u) (hosts_of u) seen n lines rest

abbrev pub text_of : Universe → List (List ℕ) → List ℕ → Result HostLists HFault
text_of u lines rest = own.text_from (codes "metis hosts 1") (host_line_rules u) (hosts_of u) nothing lines rest

abbrev pub hosts_in : Universe → List ℕ → Result HostLists HFault
hosts_in u bytes = own.own_text (codes "metis hosts 1") (host_line_rules u) (hosts_of u) nothing bytes

-- ---- what is told

abbrev pub ReadsHosts : Result HostLists HFault → Result HostLists HFault → Type 0
ReadsHosts (Ok h) meaning = meaning ≡ Ok h
ReadsHosts (Err fault) meaning = fault ≢ NoMemory → meaning ≡ Err fault
