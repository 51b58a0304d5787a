-- A line that is known, and the end of a text.
use Rattle.std.proofs.Common.{◌≡◌, ℕ, ◌+◌, List, [], length, Ok}
use Rattle.std.specs.Bool.{◌==◌}
use Rattle.std.specs.Str.{bytes_eq}
use Rattle.std.proofs.lemmas.Bool.{eqb-true}
use Rattle.std.proofs.lemmas.List.{nil_from_length}
use Rattle.std.proofs.lemmas.Slice.Eq.{bytes_eq-Decides}
use Rattle.metis_tokens.specs.Terms.{Cursor, ended, exactly}
use Rattle.metis_tokens.specs.declared.fault.TFault.TheVariants.{Line}
use Rattle.metis_tokens.specs.declared.flaw.Flaw.TheVariants.{Form}
use Rattle.metis_tokens.proofs.Outcomes.{if_is}

pub exactly_is : (bytes line : List ℕ) (x : Unit {0}) → exactly bytes line ≡ Ok x → line ≡ bytes
exactly_is bytes line x h = (bytes_eq-Decides line bytes).0 (if_is (bytes_eq line bytes) (Ok tt) Form x h).0

pub ended_is : (l : Cursor) (x : Unit {0}) → ended l ≡ Ok x → l.rest ≡ []
ended_is l x h = nil_from_length l.rest (eqb-true (length l.rest) 0 (if_is (length l.rest == 0) (Ok tt) (Line (l.number + 1)) x h).0)
