-- Which fault bytes have that are no text of an explanation: by the lines before it, and by what its own line says.
--     BeginsWith ts line      the line is these words, or one space and more stand behind them
--     NamesNoGoal u line      the line begins with `lacks` and two names, and no goal has these
--     IsGoalFlaw u line f      what is wrong with the line of the goal
--     count_with digits      the line of the number with these digits
--     IsCountFlaw line f      what is wrong with the line of how many pairs there are with a reason
--     ReasonWords, reason_words w      how a reason begins, and as it is written
--     IsFormedReason w, IsPortThere u w      the name in it is a name;  and that of a port
--     NamesNone u line      the line begins with two names and a reason, and a pair or a port of these names is not there
--     IsItemFlaw u line f      what is wrong with the line of a pair with its reason
--     WhyDue, HasWhyFlaw u due line f      which line is due;  where that one is due, this one has the flaw
--     AreTold u lacks count lines      what the lines up to a pair with its reason may say
--     begun_why u lacks count lines      the lines of a text so far, where the third one says that there are so many pairs
--     IsWhyBegun u lines due      the lines are the beginning of a text, and this one is due behind them
--     HasWhyFault u bytes f      nothing but a piece without a line feed stands behind a beginning, or the line that is due has a flaw, or more stands behind the text of an explanation
use Rattle.std.specs.Prelude.{◌≡◌, ◌≢◌, ◌<◌, ◌≤◌, ◌^◌, ℕ, List, [], ◌∷◌, ◌++◌, IsTrue, None, codes, length, map, ⊤}
use Rattle.std.specs.List.{All}
use Rattle.std.specs.Str.Parse.{digits_value}
use Rattle.metis_ids.specs.declared.goals.Goal.{Goal}
use Rattle.metis_text.specs.Terms.{AreTwoNames, HasEnded, IsOfDue, IsOther, IsPairThere}
use Rattle.metis_tokens.specs.Terms.{is_number, words}
use Rattle.metis_tokens.specs.declared.fault.TFault.{TFault}
use Rattle.metis_tokens.specs.declared.flaw.Flaw.{Flaw}
use Rattle.metis_tokens.specs.declared.flaw.Flaw.TheVariants.{Form, Number, Name}
use Rattle.metis_universe.specs.Terms.{IsWordable, Universe, goal_word, is_name, port_named}
use Rattle.metis_why.specs.Terms.{IsTellable}
use Rattle.metis_why.specs.declared.reason.Line.{Line}
use Rattle.metis_why_text.specs.WhyFaults.{IsPastWhy}
use Rattle.metis_why_text.specs.WhyText.{count_line, lacks_line, lacks_tokens, line_text, line_tokens, why_header}

abbrev pub BeginsWith : List (List ℕ) → List ℕ → Type 0
BeginsWith ts line = (more : List (List ℕ)) × (line ≡ words (ts ++ more))

-- ---- what is wrong with the line of the goal

pub record NamesNoGoal (u : Universe) (line : List ℕ) : Type 0 where
  pub word : List ℕ
  pub two : AreTwoNames word
  pub begins : BeginsWith (codes "lacks" ∷ word ∷ []) line
  pub none : (g : Goal) → IsWordable u g → word ≢ goal_word u g

-- it names no goal, or else it is the line of none
abbrev pub IsGoalFlaw : Universe → List ℕ → Flaw → Type 0
IsGoalFlaw u line Form = ((g : Goal) → IsWordable u g → line ≢ words (lacks_tokens u g)) × (NamesNoGoal u line → ⊥)
IsGoalFlaw u line Number = ⊥
IsGoalFlaw u line Name = NamesNoGoal u line

-- ---- with that of how many pairs there are

abbrev pub count_with : List ℕ → List ℕ
count_with digits = words (codes "lines" ∷ digits ∷ [])

-- there is no number, or it is out of range
abbrev pub IsCountFlaw : List ℕ → Flaw → Type 0
IsCountFlaw line Form = (digits : List ℕ) → IsTrue (is_number digits) → line ≢ count_with digits
IsCountFlaw line Number = (digits : List ℕ) × IsTrue (is_number digits) × (line ≡ count_with digits) × (2 ^ 32 ≤ digits_value 10 digits)
IsCountFlaw line Name = ⊥

-- ---- with that of a pair with its reason

-- a port of this name is needed, or the reason is one of moves; what stands behind these words follows from the pair and the port
pub data ReasonWords : Type 0 where
  needs_port : (port : List ℕ) → ReasonWords
  comes : ReasonWords
  starts : ReasonWords

abbrev pub reason_words : ReasonWords → List (List ℕ)
reason_words (needs_port port) = codes "needs" ∷ port ∷ []
reason_words comes = codes "comes" ∷ []
reason_words starts = codes "starts" ∷ []

abbrev pub IsFormedReason : ReasonWords → Type 0
IsFormedReason (needs_port port) = IsTrue (is_name port)
IsFormedReason comes = ⊤
IsFormedReason starts = ⊤

abbrev pub IsPortThere : Universe → ReasonWords → Type 0
IsPortThere u (needs_port port) = port_named u port ≢ None
IsPortThere u comes = ⊤
IsPortThere u starts = ⊤

pub record NamesNone (u : Universe) (line : List ℕ) : Type 0 where
  pub word : List ℕ
  pub reason : ReasonWords
  pub two : AreTwoNames word
  pub formed : IsFormedReason reason
  pub begins : BeginsWith (word ∷ reason_words reason) line
  pub none : IsPairThere u word × IsPortThere u reason → ⊥

-- it names a pair or a port that is not there, or else it is the line of no pair with a reason that may be told of it
abbrev pub IsItemFlaw : Universe → List ℕ → Flaw → Type 0
IsItemFlaw u line Form = ((l : Line) → IsTellable u l → line ≢ words (line_tokens u l)) × (NamesNone u line → ⊥)
IsItemFlaw u line Number = ⊥
IsItemFlaw u line Name = NamesNone u line

-- ---- which line is due

pub data WhyDue : Type 0 where
  first_line : WhyDue
  goal_line : WhyDue
  number_line : WhyDue
  next_item : WhyDue
  last_line : WhyDue

abbrev pub HasWhyFlaw : Universe → WhyDue → List ℕ → Flaw → Type 0
HasWhyFlaw u first_line line f = IsOther (codes "metis why 1") line f
HasWhyFlaw u goal_line line f = IsGoalFlaw u line f
HasWhyFlaw u number_line line f = IsCountFlaw line f
HasWhyFlaw u next_item line f = IsItemFlaw u line f
HasWhyFlaw u last_line line f = IsOther (codes "end") line f

-- the goal is the universe's, and the one that its word asks for, and each reason may be told of its pair
pub record AreTold (u : Universe) (lacks : Goal) (count : ℕ) (lines : List Line) : Type 0 where
  pub lacking : IsWordable u lacks
  pub few : count < 2 ^ 32
  pub tellable : All (IsTellable u) lines

abbrev pub begun_why : Universe → Goal → ℕ → List Line → List (List ℕ)
begun_why u lacks count lines = why_header ∷ lacks_line u lacks ∷ count_line count ∷ map (line_text u) lines

pub data IsWhyBegun (u : Universe) (lines : List (List ℕ)) (due : WhyDue) : Type 0 where
  with_none : lines ≡ [] → due ≡ first_line → IsWhyBegun u lines due
  with_first : lines ≡ why_header ∷ [] → due ≡ goal_line → IsWhyBegun u lines due
  with_goal : (lacks : Goal) → IsWordable u lacks → lines ≡ why_header ∷ lacks_line u lacks ∷ [] → due ≡ number_line → IsWhyBegun u lines due
  with_items : (lacks : Goal) (count : ℕ) (items : List Line) → AreTold u lacks count items → length items < count → lines ≡ begun_why u lacks count items → due ≡ next_item → IsWhyBegun u lines due
  with_all : (lacks : Goal) (items : List Line) → AreTold u lacks (length items) items → lines ≡ begun_why u lacks (length items) items → due ≡ last_line → IsWhyBegun u lines due

-- ---- which fault the bytes have

pub data HasWhyFault (u : Universe) (bytes : List ℕ) (f : TFault) : Type 0 where
  too_short : HasEnded (IsWhyBegun u) bytes f → HasWhyFault u bytes f
  of_line : IsOfDue (IsWhyBegun u) (HasWhyFlaw u) bytes f → HasWhyFault u bytes f
  past_end : IsPastWhy u bytes f → HasWhyFault u bytes f
