-- What the text of wishes says, line by line, or its first fault.
--     wish_in u tokens      the wish that the tokens of a line are
--     with_wish u n wishes line      the wish of line n, behind these
--     more_wishes u n wishes line, is_last wishes line      the wishes with it;  whether it is the last line
--     wishes_in u bytes      what the bytes say
--     IsSaidBy u wishes lines      there are as many lines as wishes, and each says its wish
--     HaveOwnSubjects wishes      no two of them are about the same
use Rattle.std.specs.Prelude.{◌≡◌, ℕ, ◌==◌, Bool, List, [], ◌∷◌, ◌++◌, codes, position, Result, Ok, Err, IsFalse, if◌then◌else◌, ⊤}
use Rattle.std.specs.List.{All}
use Rattle.std.specs.Option.{is_some}
use Rattle.std.specs.Str.{bytes_eq}
use Rattle.metis_tokens.specs.Terms.{LineRules, line_fault, line_rules, made, named, number_in, own_text, pair_in, tokens}
use Rattle.metis_tokens.specs.declared.flaw.Flaw.{Flaw}
use Rattle.metis_tokens.specs.declared.flaw.Flaw.TheVariants as flaw
use Rattle.metis_universe.specs.Terms.{Universe, type_named}
use Rattle.metis_wishes.specs.Wishes.{is_about, is_same, subject_of}
use Rattle.metis_wishes.specs.declared.fault.WishFault.{WishFault}
use Rattle.metis_wishes.specs.declared.fault.WishFault.TheVariants.{Line, Short, Number, Name, Twice}
use Rattle.metis_wishes.specs.declared.wish.Wish.{Wish}
use Rattle.metis_wishes.specs.declared.wish.Wish.TheVariants.{Keep, KeepAll, Rebind, Retire, AvoidType, AvoidPair}

-- ---- one line

abbrev pub instance_in : List ℕ → Result ℕ Flaw
instance_in subject = number_in subject

abbrev pub kept_in : List ℕ → Result Wish Flaw
kept_in subject = if bytes_eq subject (codes "all") then Ok KeepAll else made Keep (instance_in subject)

-- a colon stands between a type and a state
abbrev pub avoided_in : Universe → List ℕ → Result Wish Flaw
avoided_in u subject =
    if is_some (position (λ b. b == 58) subject) then made AvoidPair (pair_in u subject)
    else made AvoidType (named (type_named u) subject)

abbrev pub wish_of : Universe → List ℕ → List ℕ → Result Wish Flaw
wish_of u word subject =
    if bytes_eq word (codes "keep") then kept_in subject
    else if bytes_eq word (codes "rebind") then made Rebind (instance_in subject)
    else if bytes_eq word (codes "retire") then made Retire (instance_in subject)
    else if bytes_eq word (codes "avoid") then avoided_in u subject
    else Err flaw.Form

abbrev pub wish_in : Universe → List (List ℕ) → Result Wish Flaw
wish_in u (word ∷ subject ∷ []) = wish_of u word subject
wish_in u _ = Err flaw.Form

-- no earlier line is about the same
abbrev pub unless_twice : ℕ → List Wish → Result Wish Flaw → Result Wish WishFault
unless_twice n wishes (Ok wish) = if is_about wishes wish then Err (Twice n) else Ok wish
unless_twice n wishes (Err f) = Err (line_fault Line Number Name n f)

abbrev pub with_wish : Universe → ℕ → List Wish → List ℕ → Result Wish WishFault
with_wish u n wishes line = unless_twice n wishes (wish_in u (tokens line))

-- ---- all lines

-- the wishes with that of line n
abbrev pub more_wishes : Universe → ℕ → List Wish → List ℕ → Result (List Wish) WishFault
more_wishes u n wishes line = made (λ wish. wishes ++ wish ∷ []) (with_wish u n wishes line)

abbrev pub is_last : List Wish → List ℕ → Bool
is_last wishes line = bytes_eq line (codes "end")

abbrev pub wish_lines : Universe → LineRules (List Wish) WishFault
wish_lines u = line_rules is_last (more_wishes u) Line Short

abbrev pub wishes_in : Universe → List ℕ → Result (List Wish) WishFault
wishes_in u bytes = own_text (codes "metis wishes 1") (wish_lines u) (λ wishes. wishes) [] bytes

-- ---- what holds of them

abbrev pub IsSaidBy : Universe → List Wish → List (List ℕ) → Type 0
IsSaidBy u [] [] = ⊤
IsSaidBy u [] (line ∷ lines) = ⊥
IsSaidBy u (wish ∷ wishes) [] = ⊥
IsSaidBy u (wish ∷ wishes) (line ∷ lines) = (wish_in u (tokens line) ≡ Ok wish) × IsSaidBy u wishes lines

abbrev pub HaveOwnSubjects : List Wish → Type 0
HaveOwnSubjects [] = ⊤
HaveOwnSubjects (wish ∷ wishes) = All (λ later. IsFalse (is_same (subject_of wish) (subject_of later))) wishes × HaveOwnSubjects wishes
