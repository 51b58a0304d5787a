-- A fault of lines is no want of memory.
use Rattle.std.proofs.Common.{◌≡◌, ℕ, ◌+◌, true, false, List, length, position, Option, Some, None, Result, Ok, Err}
use Rattle.std.specs.Bool.{◌==◌, if◌then◌else◌}
use Rattle.metis_tokens.specs.Terms.{Cursor, and_then, ended, fault_at, is_feed, line_to, made, next_line, read_next, told}
use Rattle.metis_tokens.specs.declared.fault.TFault.{TFault}
use Rattle.metis_tokens.specs.declared.fault.TFault.TheVariants.{Line, NoMemory}
use Rattle.metis_tokens.specs.declared.flaw.Flaw.{Flaw}
use Rattle.metis_tokens.specs.declared.flaw.Flaw.TheVariants.{Form, Name, Number}

abbrev pub IsNamed : {A : Type 0} → Result A TFault → Type 0
IsNamed r = r ≡ Err NoMemory → ⊥

pub and_then_named : {A B : Type 0} (r : Result A TFault) (next : A → Result B TFault) → IsNamed r → ((a : A) → IsNamed (next a)) → IsNamed (and_then r next)
and_then_named (Ok a) next named later h = later a h
and_then_named (Err fault) next named later h = named (cc)

pub made_named : {A B : Type 0} (make : A → B) (r : Result A TFault) → IsNamed r → IsNamed (made make r)
made_named make (Ok a) named h = cc
made_named make (Err fault) named h = named (cc)

pub fault_at_named : (n : ℕ) (flaw : Flaw) → fault_at n flaw ≡ NoMemory → ⊥
fault_at_named n Form h = cc
fault_at_named n Number h = cc
fault_at_named n Name h = cc

pub told_named : {A : Type 0} (l : Cursor) (x : Result A Flaw) → IsNamed (told l x)
told_named l (Ok a) h = cc
told_named l (Err flaw) h = fault_at_named l.number flaw (cc)

pub line_to_named : (l : Cursor) (end : Option ℕ) → IsNamed (line_to l end)
line_to_named l None h = cc
line_to_named l (Some end) h = cc

pub read_next_named : {A : Type 0} (read : List ℕ → Result A Flaw) (l : Cursor) → IsNamed (read_next read l)
read_next_named read l =
    and_then_named (next_line l) (λ p. made (λ a. (a, p.1)) (told p.1 (read p.0))) (line_to_named l (position is_feed l.rest))
    (λ p. made_named (λ a. (a, p.1)) (told p.1 (read p.0)) (told_named p.1 (read p.0)))

pub ended_named : (l : Cursor) → IsNamed (ended l)
ended_named l = elim (length l.rest == 0) as (λ b. IsNamed {A = Unit {0}} (if b then Ok tt else Err (Line (l.number + 1)))) [ true ↦ λ h. cc | false ↦ λ h. cc ]
