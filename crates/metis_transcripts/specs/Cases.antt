-- The lines of a file of cases, and what is put of each.
--     role_of line      what the line is, by its first byte: `#` a comment, `>` input, `!` a call that is to fail, and else a case
--     words_in line      its parts between spaces
--     plain_line line      what is put of a line that is no case
--     case_head line      what is put of a case, before its answer
--     single_foot status      what is put behind the answer
--     piped_foot first second      the same of two commands of which the second reads what the first puts
use Rattle.std.specs.Prelude.{ℕ, List, [], ◌∷◌, ◌++◌, ◌==◌, codes, decimal, if◌then◌else◌}
use Rattle.std.specs.List.{slice_split}
use Rattle.metis_output.specs.declared.status.Status.{Status}
use Rattle.metis_output.specs.Terms.{code_of}
use Rattle.metis_transcripts.specs.declared.words.Role.{Role}
use Rattle.metis_transcripts.specs.declared.words.Role.TheVariants.{Remark, Input, Failing, Case}

abbrev pub role_of : List ℕ → Role
role_of [] = Remark
role_of (first ∷ line) = if first == 35 then Remark else if first == 62 then Input else if first == 33 then Failing else Case

abbrev pub words_in : List ℕ → List (List ℕ)
words_in line = slice_split (λ b. b == 32) line

abbrev pub plain_line : List ℕ → List ℕ
plain_line line = line ++ codes "\n"

abbrev pub case_head : List ℕ → List ℕ
case_head line = codes "$ " ++ (line ++ codes "\n")

abbrev pub single_foot : Status → List ℕ
single_foot status = codes "status " ++ (decimal (code_of status) ++ codes "\n")

abbrev pub piped_foot : Status → Status → List ℕ
piped_foot first second = codes "status " ++ (decimal (code_of first) ++ (codes " | " ++ (decimal (code_of second) ++ codes "\n")))
