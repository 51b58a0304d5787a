-- Which fault bytes have that are no text of a refusal: by the lines before it, and by what its own line says.
--     AreTwoNames word      it is two names with a colon between them
--     lacks_with word, size_with digits      the line of the goal with this word;  that of the number with these digits
--     IsLacksFlaw u line f, IsSizeFlaw line f, IsPairFlaw u set line f      what is wrong with the line of the goal;  with that of the number of pairs;  with that of a pair behind these
--     Due, HasFlaw u due line f      which line is due;  where that one is due, this one has the flaw and no graver one
--     IsBegun u lines due      the lines are the beginning of a text, and this one is due behind them
--     HasRefusalFault u bytes f      nothing but a piece without a line feed stands behind a beginning, or the line that is due has a flaw, or more stands behind the text of a refusal
use Rattle.std.specs.Prelude.{◌≡◌, ◌≢◌, ◌<◌, ◌≤◌, ◌^◌, ℕ, List, [], ◌∷◌, ◌++◌, IsTrue, codes, length, map}
use Rattle.std.specs.List.{All}
use Rattle.std.specs.List.Sorted.{IsStrictlyIncreasing}
use Rattle.std.specs.Str.Parse.{digits_value}
use Rattle.metis_ids.specs.declared.goals.Goal.{Goal}
use Rattle.metis_tokens.specs.Terms.{is_number, words}
use Rattle.metis_tokens.specs.declared.fault.TFault.{TFault}
use Rattle.metis_tokens.specs.declared.flaw.Flaw.{Flaw}
use Rattle.metis_tokens.specs.declared.flaw.Flaw.TheVariants.{Form, Number, Name}
use Rattle.metis_universe.specs.Terms.{IsWordable, Universe, goal_word, is_name, pair_count, pair_word}
use Rattle.metis_text.specs.DueLines.{HasEnded, IsOfDue, IsOther}
use Rattle.metis_text.specs.Faults.{IsPastRefusal}
use Rattle.metis_text.specs.RefusalText.{lacks_line, pair_line, pairs_line, refusal_header}

pub record AreTwoNames (word : List ℕ) : Type 0 where
  pub kind : List ℕ
  pub name : List ℕ
  pub first : IsTrue (is_name kind)
  pub second : IsTrue (is_name name)
  pub text : word ≡ kind ++ (codes ":" ++ name)

abbrev pub lacks_with : List ℕ → List ℕ
lacks_with word = words (codes "lacks" ∷ word ∷ [])

abbrev pub size_with : List ℕ → List ℕ
size_with digits = words (codes "pairs" ∷ digits ∷ [])

-- ---- what is wrong with a line

-- the word is no two names, or no goal has it
abbrev pub IsLacksFlaw : Universe → List ℕ → Flaw → Type 0
IsLacksFlaw u line Form = (word : List ℕ) → AreTwoNames word → line ≢ lacks_with word
IsLacksFlaw u line Number = ⊥
IsLacksFlaw u line Name = (word : List ℕ) × AreTwoNames word × (line ≡ lacks_with word) × ((g : Goal) → IsWordable u g → word ≢ goal_word u g)

-- there is no number, or it is out of range
abbrev pub IsSizeFlaw : List ℕ → Flaw → Type 0
IsSizeFlaw line Form = (digits : List ℕ) → IsTrue (is_number digits) → line ≢ size_with digits
IsSizeFlaw line Number = (digits : List ℕ) × IsTrue (is_number digits) × (line ≡ size_with digits) × (2 ^ 32 ≤ digits_value 10 digits)
IsSizeFlaw line Name = ⊥

-- the line is no two names, or no pair has them, or its pair does not stand behind all of these
abbrev pub IsPairFlaw : Universe → List ℕ → List ℕ → Flaw → Type 0
IsPairFlaw u set line Form = AreTwoNames line → ⊥
IsPairFlaw u set line Number = (p : ℕ) × (p < pair_count u) × (line ≡ pair_word u p) × (All (λ q. q < p) set → ⊥)
IsPairFlaw u set line Name = AreTwoNames line × ((p : ℕ) → p < pair_count u → line ≢ pair_word u p)

-- ---- which line is due

pub data Due : Type 0 where
  first_line : Due
  goal_line : Due
  size_line : Due
  next_pair : List ℕ → Due
  last_line : Due

abbrev pub HasFlaw : Universe → Due → List ℕ → Flaw → Type 0
HasFlaw u first_line line f = IsOther (codes "metis refusal 1") line f
HasFlaw u goal_line line f = IsLacksFlaw u line f
HasFlaw u size_line line f = IsSizeFlaw line f
HasFlaw u (next_pair set) line f = IsPairFlaw u set line f
HasFlaw u last_line line f = IsOther (codes "end") line f

-- what the lines up to a pair say
pub record AreBegun (u : Universe) (lacks : Goal) (size : ℕ) (set : List ℕ) : Type 0 where
  pub lacking : IsWordable u lacks
  pub few : size < 2 ^ 32
  pub ascending : IsStrictlyIncreasing set
  pub pairs : All (λ p. p < pair_count u) set

abbrev pub begun_lines : Universe → Goal → ℕ → List ℕ → List (List ℕ)
begun_lines u lacks size set = refusal_header ∷ lacks_line u lacks ∷ pairs_line size ∷ map (pair_line u) set

pub data IsBegun (u : Universe) (lines : List (List ℕ)) (due : Due) : Type 0 where
  with_none : lines ≡ [] → due ≡ first_line → IsBegun u lines due
  with_first : lines ≡ refusal_header ∷ [] → due ≡ goal_line → IsBegun u lines due
  with_goal : (lacks : Goal) → IsWordable u lacks → lines ≡ refusal_header ∷ lacks_line u lacks ∷ [] → due ≡ size_line → IsBegun u lines due
  with_pairs : (lacks : Goal) (size : ℕ) (set : List ℕ) → AreBegun u lacks size set → length set < size → lines ≡ begun_lines u lacks size set → due ≡ next_pair set → IsBegun u lines due
  with_all : (lacks : Goal) (set : List ℕ) → AreBegun u lacks (length set) set → lines ≡ begun_lines u lacks (length set) set → due ≡ last_line → IsBegun u lines due

-- ---- which fault the bytes have

pub data HasRefusalFault (u : Universe) (bytes : List ℕ) (f : TFault) : Type 0 where
  too_short : HasEnded (IsBegun u) bytes f → HasRefusalFault u bytes f
  of_line : IsOfDue (IsBegun u) (HasFlaw u) bytes f → HasRefusalFault u bytes f
  past_end : IsPastRefusal u bytes f → HasRefusalFault u bytes f
