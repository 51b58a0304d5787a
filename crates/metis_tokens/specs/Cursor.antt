-- The lines of a text, one after another.
--     Cursor, next_line l      what is left of a text, with how many lines were read;  the next line, and what is left then
--     fault_at n f      the fault of a text whose line n has the flaw
--     told l x      what was read in the last line, or the fault of that line
--     read_next read l      reads the next line, and goes on behind it
--     exactly bytes line, ended l      that the line is these bytes;  that nothing stands behind the line that was read last
--     Reads view r l meaning      what was read, seen by view, and the lines that are left are what was meant, unless memory ran out
--     ReadsLine      the same of a line
use Rattle.std.specs.Prelude.{◌≡◌, ◌≢◌, ℕ, ◌+◌, ◌==◌, Bool, List, length, take, drop, Option, Some, None, Result, Ok, Err, if◌then◌else◌}
use Rattle.std.specs.List.{position}
use Rattle.std.specs.Str.{bytes_eq}
use Rattle.metis_tokens.specs.declared.flaw.Flaw.{Flaw}
use Rattle.metis_tokens.specs.declared.flaw.Flaw.TheVariants.{Form}
use Rattle.metis_tokens.specs.declared.flaw.Flaw.TheVariants as flaw
use Rattle.metis_tokens.specs.declared.fault.TFault.{TFault}
use Rattle.metis_tokens.specs.declared.fault.TFault.TheVariants.{Line, Short, Name, NoMemory, Number}
use Rattle.metis_tokens.specs.Flaws.{and_then, made}
use denote.Ref.{Bor}

pub record Cursor : Type 0 where
  pub rest : List ℕ
  pub number : ℕ

abbrev pub lines_of : List ℕ → ℕ → Cursor
lines_of rest number = record { rest = rest; number = number }

abbrev pub is_feed : ℕ → Bool
is_feed byte = byte == 10

-- the line that ends at this place
abbrev pub line_to : Cursor → Option ℕ → Result (List ℕ × Cursor) TFault
line_to l None = Err Short
line_to l (Some end) = Ok (take end l.rest, lines_of (drop (end + 1) l.rest) (l.number + 1))

abbrev pub next_line : Cursor → Result (List ℕ × Cursor) TFault
next_line l = line_to l (position is_feed l.rest)

-- the fault of the line that was read last
abbrev pub fault_at : ℕ → Flaw → TFault
fault_at n flaw.Form = Line n
fault_at n flaw.Number = Number n
fault_at n flaw.Name = Name n

abbrev pub told : {A : Type 0} → Cursor → Result A Flaw → Result A TFault
told l (Ok a) = Ok a
told l (Err f) = Err (fault_at l.number f)

-- reads the next line, and goes on behind it
abbrev pub read_next : {A : Type 0} → (List ℕ → Result A Flaw) → Cursor → Result (A × Cursor) TFault
read_next read l = and_then (next_line l) (λ p. made (λ a. (a, p.1)) (told p.1 (read p.0)))

-- the line is these bytes
abbrev pub exactly : List ℕ → List ℕ → Result (Unit {0}) Flaw
exactly bytes line = if bytes_eq line bytes then Ok tt else Err Form

-- nothing stands behind the line that was read last
abbrev pub ended : Cursor → Result (Unit {0}) TFault
ended l = if length l.rest == 0 then Ok tt else Err (Line (l.number + 1))

abbrev pub Reads : {X Y : Type 0} → (Y → X) → Result Y TFault → Cursor → Result (X × Cursor) TFault → Type 0
Reads view (Ok y) l meaning = meaning ≡ Ok (view y, l)
Reads view (Err fault) l meaning = fault ≢ NoMemory → meaning ≡ Err fault

abbrev pub ReadsLine : Result (Bor (List ℕ)) TFault → Cursor → Result (List ℕ × Cursor) TFault → Type 0
ReadsLine result l meaning = Reads (λ line. line.now) result l meaning
