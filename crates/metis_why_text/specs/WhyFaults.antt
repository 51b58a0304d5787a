-- Where the faults of the texts of explanations come from.
--     IsPastWhy u bytes f      more stands behind the text of an explanation
--     IsWhyFault u bytes f      the bytes end too early, or a line has a flaw, or it is this
use Rattle.std.specs.Prelude.{◌≡◌, ◌≤◌, ◌+◌, ℕ, List, ◌++◌, length}
use Rattle.metis_ids.specs.declared.goals.Goal.{Goal}
use Rattle.metis_tokens.specs.Terms.{IsOfLine}
use Rattle.metis_tokens.specs.declared.fault.TFault.{TFault}
use Rattle.metis_tokens.specs.declared.fault.TFault.TheVariants as faults
use Rattle.metis_universe.specs.Terms.{Universe}
use Rattle.metis_why.specs.declared.reason.Line.{Line}
use Rattle.metis_why_text.specs.WhyReading.{why_in}
use Rattle.metis_why_text.specs.WhyText.{IsWhyText, why_bytes, why_lines}

-- the fault is told of the line behind the last one, whether it has an end or not
pub record IsPastWhy (u : Universe) (bytes : List ℕ) (f : TFault) : Type 0 where
  pub lacks : Goal
  pub lines : List Line
  pub more : List ℕ
  pub text : bytes ≡ why_bytes u lacks lines ++ more
  pub formed : IsWhyText u lacks lines
  pub some : 1 ≤ length more
  pub told : f ≡ faults.Line (length (why_lines u lacks lines) + 1)

pub data IsWhyFault (u : Universe) (bytes : List ℕ) (f : TFault) : Type 0 where
  too_short : f ≡ faults.Short → IsWhyFault u bytes f
  of_line : IsOfLine (why_in u) bytes f → IsWhyFault u bytes f
  past_end : IsPastWhy u bytes f → IsWhyFault u bytes f
