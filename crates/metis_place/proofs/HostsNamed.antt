-- A fault of a text of hosts is no want of memory.
use Rattle.std.proofs.Common.{◌≡◌, ℕ, ◌+◌, ◌&&◌, not, Bool, true, false, List, [], ◌∷◌, length, Result, Ok, Err}
use Rattle.std.specs.Prelude.{codes}
use Rattle.std.specs.Bool.{◌==◌, if◌then◌else◌}
use Rattle.std.specs.Option.{is_some}
use Rattle.std.specs.Str.{bytes_eq}
use Rattle.metis_tokens.specs.Terms.{and_then, last_piece, line_fault, made, pieces, tokens, whole_lines}
use Rattle.metis_tokens.specs.declared.flaw.Flaw.{Flaw}
use Rattle.metis_tokens.specs.declared.flaw.Flaw.TheVariants as flaw
use Rattle.metis_universe.specs.Terms.{Universe, type_named}
use Rattle.metis_place.specs.Terms.{Entries, SeenLines, entry_in, has_name, hosts_in, hosts_of, is_last, lines_from, nothing, text_of, with_entry, with_host, with_line, with_size, with_tokens, with_words}
use Rattle.metis_place.specs.declared.hosts_fault.HFault.{HFault}
use Rattle.metis_place.specs.declared.hosts_fault.HFault.TheVariants.{Line, Name, NoMemory, Number}

abbrev IsNamed : {A : Type 0} → Result A HFault → Type 0
IsNamed r = r ≡ Err NoMemory → ⊥

if_named : {A : Type 0} (b : Bool) (x y : Result A HFault) → IsNamed x → IsNamed y → IsNamed (if b then x else y)
if_named true x y first second = first
if_named false x y first second = second

made_named : {A B : Type 0} (make : A → B) (r : Result A HFault) → IsNamed r → IsNamed (made make r)
made_named make (Ok a) named h = cc
made_named make (Err f) named h = named (cc)

and_then_named : {A B : Type 0} (r : Result A HFault) (next : A → Result B HFault) → IsNamed r → ((a : A) → IsNamed (next a)) → IsNamed (and_then r next)
and_then_named (Ok a) next named later h = later a h
and_then_named (Err f) next named later h = named (cc)

fault_at_named : {A : Type 0} (n : ℕ) (f : Flaw) → IsNamed {A = A} (Err (line_fault Line Number Name n f))
fault_at_named n flaw.Form h = cc
fault_at_named n flaw.Number h = cc
fault_at_named n flaw.Name h = cc

line_named : {A : Type 0} (n : ℕ) → IsNamed {A = A} (Err (Line n))
line_named n h = cc

with_entry_named : (n : ℕ) (es : Entries) (e : List ℕ × ℕ) → IsNamed (with_entry n es e)
with_entry_named n es e = if_named (has_name es e.0) _ _ (λ h. cc) (λ h. cc)

module _ (u : Universe) (n : ℕ) (seen : SeenLines) where
  host_named : (r : Result (List ℕ × ℕ) Flaw) → IsNamed (with_host n seen r)
  host_named (Ok e) = made_named _ (with_entry n seen.hosts e) (with_entry_named n seen.hosts e)
  host_named (Err f) = fault_at_named n f

  size_named : (r : Result (List ℕ × ℕ) Flaw) → IsNamed (with_size u n seen r)
  size_named (Ok e) = if_named (is_some (type_named u e.0)) _ _ (made_named _ (with_entry n seen.sizes e) (with_entry_named n seen.sizes e)) (λ h. cc)
  size_named (Err f) = fault_at_named n f

  words_named : (word name number : List ℕ) → IsNamed (with_words u n seen word (entry_in name number))
  words_named word name number =
      if_named (bytes_eq word (codes "host") && (length seen.sizes == 0)) _ _ (host_named (entry_in name number))
      (if_named (bytes_eq word (codes "size") && not (length seen.hosts == 0)) _ _ (size_named (entry_in name number)) (line_named n))

  tokens_named : (ts : List (List ℕ)) → IsNamed (with_tokens u n seen ts)
  tokens_named [] = line_named n
  tokens_named (a ∷ []) = line_named n
  tokens_named (a ∷ b ∷ []) = line_named n
  tokens_named (word ∷ name ∷ number ∷ []) = words_named word name number
  tokens_named (a ∷ b ∷ c ∷ d ∷ ts) = line_named n

lines_named : (u : Universe) (seen : SeenLines) (n : ℕ) (lines : List (List ℕ)) (rest : List ℕ) → IsNamed (lines_from u seen n lines rest)
lines_named u seen n [] rest = λ h. cc
lines_named u seen n (line ∷ lines) rest =
    if_named (is_last seen line) _ _ (if_named ((length lines == 0) && (length rest == 0)) (Ok (hosts_of u seen)) _ (λ h. cc) (line_named (n + 1)))
    (and_then_named (with_line u n seen line) (λ s. lines_from u s (n + 1) lines rest) (tokens_named u n seen (tokens line)) (λ s. lines_named u s (n + 1) lines rest))

text_named : (u : Universe) (lines : List (List ℕ)) (rest : List ℕ) → IsNamed (text_of u lines rest)
text_named u [] rest = λ h. cc
text_named u (header ∷ lines) rest = if_named (bytes_eq header (codes "metis hosts 1")) _ _ (lines_named u nothing 2 lines rest) (line_named 1)

pub hosts_in_named : (u : Universe) (bytes : List ℕ) → hosts_in u bytes ≡ Err NoMemory → ⊥
hosts_in_named u bytes = text_named u (whole_lines (pieces bytes)) (last_piece (pieces bytes))
