-- A fault of a text is no want of memory.
use Rattle.std.proofs.Common.{◌≡◌, ℕ, List, Err}
use Rattle.metis_tokens.specs.Terms.{fault_at}
use Rattle.metis_tokens.specs.declared.fault.TFault.TheVariants.{NoMemory}
use Rattle.metis_tokens.specs.declared.flaw.Flaw.{Flaw}
use Rattle.metis_tokens.specs.declared.flaw.Flaw.TheVariants.{Form, Name, Number}
use Rattle.metis_universe.specs.Terms.{Universe}
use Rattle.metis_why_text.proofs.WhyFaults.{told_is_fault}
use Rattle.metis_why_text.specs.Terms.{IsWhyFault, why_in}
use Rattle.metis_why_text.specs.WhyFaults.{of_line, past_end, too_short}

of_flaw : (n : ℕ) (flaw : Flaw) → NoMemory ≡ fault_at n flaw → ⊥
of_flaw n Form h = cc
of_flaw n Number h = cc
of_flaw n Name h = cc

pub why_in_named : (u : Universe) (bytes : List ℕ) → why_in u bytes ≡ Err NoMemory → ⊥
why_in_named u bytes is = by (told_is_fault u bytes NoMemory is) where
  by : IsWhyFault u bytes NoMemory → ⊥
  by (too_short e) = cc
  by (of_line l) = of_flaw _ l.flaw l.fault
  by (past_end p) = let told = p.told in cc
