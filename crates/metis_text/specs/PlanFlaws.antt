-- Which fault bytes have that are no text of a plan: by the lines before it, and by its own line.
--     counts_with a b c      the second line with these digits
--     IsCountsFlaw line f      what is wrong with the second line
--     ActionWords, row_words number a after      an action as it is written;  a line with this number, action, and words of its list
--     IsFormedRow, IsRowWithin, AreNamesThere      these are numbers and names;  the numbers may stand there;  the names are there
--     IsRowFlaw u earlier line f      what is wrong with the line of the action behind these
--     dup_words number word events      a dup's line with this number, word and events
--     IsFormedDup, IsDupWithin, IsPairThere      these are numbers, two names and events;  the numbers may stand there;  the pair is there
--     IsDupFlaw u k line f      what is wrong with the line of dup number k
--     PlanDue, HasPlanFlaw u due line f      which line is due;  where that one is due, this one has the flaw
--     begun_plan u p after actions dups      the lines of a plan with lists so far, where the second line says that it has so many actions and dups
--     IsPlanBegun u lines due      the lines are the beginning of a text, and this one is due behind them
--     HasPlanFault u bytes f      nothing but a piece without a line feed stands behind a beginning, or the line that is due has a flaw, or more stands behind the text, or the instances are not counted
use Rattle.std.specs.Prelude.{◌≡◌, ◌≢◌, ◌⊎◌, ◌<◌, ◌^◌, ◌+◌, ℕ, List, [], ◌∷◌, ◌++◌, IsTrue, None, codes, length, map, ⊤}
use Rattle.std.specs.List.{AllByRecursion, after_first, before_first}
use Rattle.std.specs.Option.{option_and_then}
use Rattle.std.specs.Str.Parse.{digits_value}
use Rattle.metis_ids.specs.Terms.{Plan}
use Rattle.metis_ids.specs.declared.actions.Action.{Action}
use Rattle.metis_tokens.specs.Terms.{is_number, words}
use Rattle.metis_tokens.specs.declared.fault.TFault.{TFault}
use Rattle.metis_tokens.specs.declared.flaw.Flaw.{Flaw}
use Rattle.metis_tokens.specs.declared.flaw.Flaw.TheVariants.{Form, Number, Name}
use Rattle.metis_universe.specs.Terms.{Universe, is_name, pair_named, port_named, state_named, type_named}
use Rattle.metis_text.specs.ActionLine.{rise}
use Rattle.metis_text.specs.DueLines.{HasEnded, IsOfDue, IsOther}
use Rattle.metis_text.specs.DupLine.{is_point}
use Rattle.metis_text.specs.Faults.{IsMiscounted, IsPastEnd, IsWellFormedButCount}
use Rattle.metis_text.specs.RefusalFlaws.{AreTwoNames}
use Rattle.metis_text.specs.PlanText.{action_lines, counts_line, dup_lines, last_kind, plan_header}

abbrev pub counts_with : List ℕ → List ℕ → List ℕ → List ℕ
counts_with a b c = words (codes "instances" ∷ a ∷ codes "actions" ∷ b ∷ codes "dups" ∷ c ∷ [])

pub record AreNumbers (a b c : List ℕ) : Type 0 where
  pub first : IsTrue (is_number a)
  pub second : IsTrue (is_number b)
  pub third : IsTrue (is_number c)

abbrev pub AreInRange : List ℕ → List ℕ → List ℕ → Type 0
AreInRange a b c = (digits_value 10 a < 2 ^ 32) × (digits_value 10 b < 2 ^ 32) × (digits_value 10 c < 2 ^ 32)

-- there are no three numbers, or not all of them are in range
abbrev pub IsCountsFlaw : List ℕ → Flaw → Type 0
IsCountsFlaw line Form = (a b c : List ℕ) → AreNumbers a b c → line ≢ counts_with a b c
IsCountsFlaw line Number = (a : List ℕ) × (b : List ℕ) × (c : List ℕ) × AreNumbers a b c × (line ≡ counts_with a b c) × (AreInRange a b c → ⊥)
IsCountsFlaw line Name = ⊥

-- ---- the line of an action

-- what stands behind an action's number: its verb, and its numbers and names as they are written
pub data ActionWords : Type 0 where
  new_of : (z kind : List ℕ) → ActionWords
  delete_of : (z : List ℕ) → ActionWords
  bind_of : (r z y : List ℕ) → ActionWords
  unbind_of : (r z y : List ℕ) → ActionWords
  move_of : (z p q : List ℕ) → ActionWords

abbrev pub action_words : ActionWords → List (List ℕ)
action_words (new_of z kind) = codes "new" ∷ z ∷ kind ∷ []
action_words (delete_of z) = codes "delete" ∷ z ∷ []
action_words (bind_of r z y) = codes "bind" ∷ r ∷ z ∷ y ∷ []
action_words (unbind_of r z y) = codes "unbind" ∷ r ∷ z ∷ y ∷ []
action_words (move_of z p q) = codes "move" ∷ z ∷ p ∷ q ∷ []

abbrev pub IsNumeral : List ℕ → Type 0
IsNumeral t = IsTrue (is_number t)

abbrev pub IsInRange : List ℕ → Type 0
IsInRange t = digits_value 10 t < 2 ^ 32

-- the numbers are numbers, and the names are names
abbrev pub IsFormedAction : ActionWords → Type 0
IsFormedAction (new_of z kind) = IsNumeral z × IsTrue (is_name kind)
IsFormedAction (delete_of z) = IsNumeral z
IsFormedAction (bind_of r z y) = IsTrue (is_name r) × (IsNumeral z × IsNumeral y)
IsFormedAction (unbind_of r z y) = IsTrue (is_name r) × (IsNumeral z × IsNumeral y)
IsFormedAction (move_of z p q) = IsNumeral z × (IsTrue (is_name p) × IsTrue (is_name q))

abbrev pub IsActionWithin : ActionWords → Type 0
IsActionWithin (new_of z kind) = IsInRange z
IsActionWithin (delete_of z) = IsInRange z
IsActionWithin (bind_of r z y) = IsInRange z × IsInRange y
IsActionWithin (unbind_of r z y) = IsInRange z × IsInRange y
IsActionWithin (move_of z p q) = IsInRange z

-- the type that the last New of the instance names, if there is one, has a state of this name
abbrev pub IsStateThere : Universe → List Action → List ℕ → List ℕ → Type 0
IsStateThere u earlier z name = option_and_then (λ t. state_named u t name) (last_kind (digits_value 10 z) earlier) ≢ None

abbrev pub AreNamesThere : Universe → List Action → ActionWords → Type 0
AreNamesThere u earlier (new_of z kind) = type_named u kind ≢ None
AreNamesThere u earlier (delete_of z) = ⊤
AreNamesThere u earlier (bind_of r z y) = port_named u r ≢ None
AreNamesThere u earlier (unbind_of r z y) = port_named u r ≢ None
AreNamesThere u earlier (move_of z p q) = IsStateThere u earlier z p × IsStateThere u earlier z q

-- what stands behind an action: nothing, or `after` and one number or more
abbrev pub IsFormedAfter : List (List ℕ) → Type 0
IsFormedAfter [] = ⊤
IsFormedAfter (word ∷ []) = ⊥
IsFormedAfter (word ∷ t ∷ more) = (word ≡ codes "after") × AllByRecursion IsNumeral (t ∷ more)

-- the numbers are in range, ascend, and lie below that of the action
abbrev pub IsAfterWithin : ℕ → List (List ℕ) → Type 0
IsAfterWithin k [] = ⊤
IsAfterWithin k (word ∷ ts) = AllByRecursion IsInRange ts × IsTrue (rise 0 k (map (digits_value 10) ts))

abbrev pub row_words : List ℕ → ActionWords → List (List ℕ) → List ℕ
row_words number a after = words (number ∷ (action_words a ++ after))

abbrev pub IsFormedRow : List ℕ → ActionWords → List (List ℕ) → Type 0
IsFormedRow number a after = IsNumeral number × (IsFormedAction a × IsFormedAfter after)

-- the number is the one that is due
abbrev pub IsRowWithin : ℕ → List ℕ → ActionWords → List (List ℕ) → Type 0
IsRowWithin k number a after = ((digits_value 10 number ≡ k) × (k < 2 ^ 32)) × (IsActionWithin a × IsAfterWithin k after)

-- the line has no such words, or one of its numbers is wrong, or else one of its names is not there
abbrev pub IsRowFlaw : Universe → List Action → List ℕ → Flaw → Type 0
IsRowFlaw u earlier line Form = (number : List ℕ) (a : ActionWords) (after : List (List ℕ)) → IsFormedRow number a after → line ≢ row_words number a after
IsRowFlaw u earlier line Number = (number : List ℕ) × (a : ActionWords) × (after : List (List ℕ)) × IsFormedRow number a after × (line ≡ row_words number a after) × (IsRowWithin (length earlier + 1) number a after → ⊥)
IsRowFlaw u earlier line Name = (number : List ℕ) × (a : ActionWords) × (after : List (List ℕ)) × IsFormedRow number a after × (line ≡ row_words number a after) × IsRowWithin (length earlier + 1) number a after × (AreNamesThere u earlier a → ⊥)

-- ---- the line of a dup

-- `end`, or two numbers with a point between them
abbrev pub IsFormedEvent : List ℕ → Type 0
IsFormedEvent t = (t ≡ codes "end") ⊎ (IsNumeral (before_first is_point t) × IsNumeral (after_first is_point t))

abbrev pub IsEventWithin : List ℕ → Type 0
IsEventWithin t = t ≢ codes "end" → IsInRange (before_first is_point t) × IsInRange (after_first is_point t)

-- two or more
abbrev pub AreFormedEvents : List (List ℕ) → Type 0
AreFormedEvents [] = ⊥
AreFormedEvents (first ∷ []) = ⊥
AreFormedEvents (first ∷ second ∷ more) = AllByRecursion IsFormedEvent (first ∷ second ∷ more)

abbrev pub dup_words : List ℕ → List ℕ → List (List ℕ) → List ℕ
dup_words number word events = words (codes "dup" ∷ number ∷ word ∷ codes "cycle" ∷ events)

abbrev pub IsFormedDup : List ℕ → List ℕ → List (List ℕ) → Type 0
IsFormedDup number word events = IsNumeral number × (AreTwoNames word × AreFormedEvents events)

abbrev pub IsDupWithin : ℕ → List ℕ → List (List ℕ) → Type 0
IsDupWithin k number events = ((digits_value 10 number ≡ k) × (k < 2 ^ 32)) × AllByRecursion IsEventWithin events

abbrev pub IsPairThere : Universe → List ℕ → Type 0
IsPairThere u word = (two : AreTwoNames word) → pair_named u two.kind two.name ≢ None

-- the line has no such words, or one of its numbers is wrong, or else its pair is not there
abbrev pub IsDupFlaw : Universe → ℕ → List ℕ → Flaw → Type 0
IsDupFlaw u k line Form = (number word : List ℕ) (events : List (List ℕ)) → IsFormedDup number word events → line ≢ dup_words number word events
IsDupFlaw u k line Number = (number : List ℕ) × (word : List ℕ) × (events : List (List ℕ)) × IsFormedDup number word events × (line ≡ dup_words number word events) × (IsDupWithin k number events → ⊥)
IsDupFlaw u k line Name = (number : List ℕ) × (word : List ℕ) × (events : List (List ℕ)) × IsFormedDup number word events × (line ≡ dup_words number word events) × IsDupWithin k number events × (IsPairThere u word → ⊥)

-- ---- which line is due

pub data PlanDue : Type 0 where
  first_line : PlanDue
  second_line : PlanDue
  next_action : List Action → PlanDue
  next_dup : ℕ → PlanDue
  last_line : PlanDue

abbrev pub HasPlanFlaw : Universe → PlanDue → List ℕ → Flaw → Type 0
HasPlanFlaw u first_line line f = IsOther (codes "metis plan 1") line f
HasPlanFlaw u second_line line f = IsCountsFlaw line f
HasPlanFlaw u (next_action earlier) line f = IsRowFlaw u earlier line f
HasPlanFlaw u (next_dup k) line f = IsDupFlaw u k line f
HasPlanFlaw u last_line line f = IsOther (codes "end") line f

abbrev pub begun_plan : Universe → Plan → List (List ℕ) → ℕ → ℕ → List (List ℕ)
begun_plan u p after actions dups = plan_header ∷ counts_line p.instances actions dups ∷ (action_lines u p.actions after ++ dup_lines u p.dups)

-- a plan with lists, and how many actions and dups it is said to have
pub record AreSaid (u : Universe) (p : Plan) (after : List (List ℕ)) (actions dups : ℕ) : Type 0 where
  pub formed : IsWellFormedButCount u p after
  pub few_actions : actions < 2 ^ 32
  pub few_dups : dups < 2 ^ 32

pub data IsPlanBegun (u : Universe) (lines : List (List ℕ)) (due : PlanDue) : Type 0 where
  with_none : lines ≡ [] → due ≡ first_line → IsPlanBegun u lines due
  with_first : lines ≡ plan_header ∷ [] → due ≡ second_line → IsPlanBegun u lines due
  with_actions : (p : Plan) (after : List (List ℕ)) (actions dups : ℕ) → AreSaid u p after actions dups → lines ≡ begun_plan u p after actions dups
      → p.dups ≡ [] → length p.actions < actions → due ≡ next_action p.actions → IsPlanBegun u lines due
  with_dups : (p : Plan) (after : List (List ℕ)) (dups : ℕ) → AreSaid u p after (length p.actions) dups → lines ≡ begun_plan u p after (length p.actions) dups
      → length p.dups < dups → due ≡ next_dup (length p.dups + 1) → IsPlanBegun u lines due
  with_all : (p : Plan) (after : List (List ℕ)) → AreSaid u p after (length p.actions) (length p.dups) → lines ≡ begun_plan u p after (length p.actions) (length p.dups)
      → due ≡ last_line → IsPlanBegun u lines due

pub data HasPlanFault (u : Universe) (bytes : List ℕ) (f : TFault) : Type 0 where
  too_short : HasEnded (IsPlanBegun u) bytes f → HasPlanFault u bytes f
  of_line : IsOfDue (IsPlanBegun u) (HasPlanFlaw u) bytes f → HasPlanFault u bytes f
  past_end : IsPastEnd u bytes f → HasPlanFault u bytes f
  miscounted : IsMiscounted u bytes f → HasPlanFault u bytes f
