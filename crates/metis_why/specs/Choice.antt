-- Which explanation is given. Of the barred sets that cover the goal it is the one that does without the farthest pairs, and of the
-- reasons of each pair the one whose port the fewest pairs provide. So there is one, and it is a function of the universe and the goal.
--     noted list pairs      the list, and behind it those of the pairs that are not in it, each once
--     read_to names first n      the first pairs, each once, and then for each of the first n places in turn what the pair there names, where it is new
--     IsReadTo names first list n      the list is that, and each of these places is one of it
--     IsFollowed names first list      and it has no further place
--     all_in x pairs      the pairs, where x has them all, and else none
--     may_name u x q      the pairs for which q may wait, by any reason, where it waits for pairs of x: port by port, and then those from which a move leads to it
--     IsAsked u q reason      q requires the port of the reason, if it has one
--     IsStep u x q reason p      q waits by this reason for pairs of x alone, and p is one of them
--     IsCost u x g p n      n is what a way from the goal to p costs: nothing where the goal wants p, and with each step as many more as its reason names
--     IsDistance u x g p n      n is the least that such a way costs
--     IsBefore far p q      p is nearer than q, or as near and has the lower number
--     Ascends far order      each pair of the order is before all that stand behind it
--     IsByDistance u x g order      the order has the pairs to which a way from the goal leads, from near to far, and those that are as near by their numbers
--     place_in order p      how far p is: its place, and past all places where it has none
--     IsNearest u g order x      x is barred and covers the goal; of the barred sets that do it is the one that lacks the farthest pair by which it differs from another
--     fewer u best r, fewest_port u test ports      the port that fewer pairs provide, the first where as many do;  of the ports that pass the test
--     reason_in u x q      that q needs the port that the fewest pairs provide, of those that only pairs of x do; where there is none, that it comes from pairs of x alone
--     line_in u x q, lines_in u x pairs, names_in u x q      the line with this reason;  one for each pair;  the pairs that it names
--     IsTold u g x lines      the lines have this reason each: of the pairs that the goal wants, and then line by line of those that it names
--     IsByChoice u g lines      they tell of the nearest set of the pairs that are not attainable
use Rattle.std.specs.Prelude.{◌≡◌, ◌≤◌, ◌<◌, ◌+◌, ◌⊎◌, ◌==◌, ℕ, zero, suc, Bool, List, [], ◌∷◌, ◌++◌, length, map, fold, nat_lt, Option, Some, None, IsTrue, if◌then◌else◌}
use Rattle.std.specs.List.{flat_map, list_all, slice_index_or}
use Rattle.metis_ids.specs.declared.goals.Goal.{Goal}
use Rattle.metis_universe.specs.Terms.{Universe, has, providers_of, required_of, requires}
use Rattle.metis_why.specs.Answer.{IsLacking}
use Rattle.metis_why.specs.Barred.{Covers, IsBarred, before_of, named_by, wanted_by}
use Rattle.metis_why.specs.Flags.{IsInside}
use Rattle.metis_why.specs.declared.reason.Line.{Line}
use Rattle.metis_why.specs.declared.reason.Reason.{Reason}
use Rattle.metis_why.specs.declared.reason.Reason.TheVariants.{Needs, Comes}

-- ---- pairs, and the pairs that they name

abbrev pub noted : List ℕ → List ℕ → List ℕ
noted list [] = list
noted list (p ∷ pairs) = noted (if has list p then list else (list ++ p ∷ [])) pairs

abbrev pub read_to : (ℕ → List ℕ) → List ℕ → ℕ → List ℕ
read_to names first zero = noted [] first
read_to names first (suc n) = noted (read_to names first n) (names (slice_index_or (read_to names first n) n 0))

pub record IsReadTo (names : ℕ → List ℕ) (first list : List ℕ) (count : ℕ) : Type 0 where
  pub is : list ≡ read_to names first count
  pub within : (n : ℕ) → n < count → n < length (read_to names first n)

pub record IsFollowed (names : ℕ → List ℕ) (first list : List ℕ) : Type 0 where
  pub count : ℕ
  pub read : IsReadTo names first list count
  pub whole : length list ≤ count

-- ---- from near to far

abbrev pub all_in : (ℕ → Bool) → List ℕ → List ℕ
all_in x pairs = if list_all x pairs then pairs else []

abbrev pub may_name : Universe → (ℕ → Bool) → ℕ → List ℕ
may_name u x q = flat_map (λ r. all_in x (providers_of u r)) (required_of u q) ++ all_in x (before_of u q)

-- what a step asks of q alone
abbrev pub IsAsked : Universe → ℕ → Reason → Type 0
IsAsked u q (Needs r) = IsTrue (requires u q r)
IsAsked u q Comes = Unit {0}

pub record IsStep (u : Universe) (x : ℕ → Bool) (q : ℕ) (reason : Reason) (p : ℕ) : Type 0 where
  pub asked : IsAsked u q reason
  pub waits : IsTrue (list_all x (named_by u q reason))
  pub names : IsTrue (has (named_by u q reason) p)

pub data IsCost (u : Universe) (x : ℕ → Bool) (g : Goal) : ℕ → ℕ → Type 0 where
  wanted : (p : ℕ) → IsTrue (has (wanted_by u g) p) → IsCost u x g p 0
  further : (q n p : ℕ) (reason : Reason) → IsCost u x g q n → IsStep u x q reason p → IsCost u x g p (n + length (named_by u q reason))

pub record IsDistance (u : Universe) (x : ℕ → Bool) (g : Goal) (p n : ℕ) : Type 0 where
  pub cost : IsCost u x g p n
  pub least : (m : ℕ) → IsCost u x g p m → n ≤ m

abbrev pub IsBefore : (ℕ → ℕ) → ℕ → ℕ → Type 0
IsBefore far p q = (far p < far q) ⊎ ((far p ≡ far q) × (p < q))

abbrev pub Ascends : (ℕ → ℕ) → List ℕ → Type 0
Ascends far [] = Unit {0}
Ascends far (p ∷ order) = ((q : ℕ) → IsTrue (has order q) → IsBefore far p q) × Ascends far order

-- far says how far each pair of the order is
pub record IsByDistance (u : Universe) (x : ℕ → Bool) (g : Goal) (order : List ℕ) : Type 0 where
  pub far : ℕ → ℕ
  pub distance : (p : ℕ) → IsTrue (has order p) → IsDistance u x g p (far p)
  pub all : (p n : ℕ) → IsCost u x g p n → IsTrue (has order p)
  pub ascends : Ascends far order

abbrev pub place_in : List ℕ → ℕ → ℕ
place_in [] p = 0
place_in (q ∷ order) p = if q == p then 0 else suc (place_in order p)

-- each pair of x is in each barred set that covers the goal and has, of the pairs that are farther, only those of x
pub record IsNearest (u : Universe) (g : Goal) (order : List ℕ) (x : ℕ → Bool) : Type 0 where
  pub barred : IsBarred u x
  pub covers : Covers u x g
  pub inside : IsInside x (has order)
  pub near : (y : ℕ → Bool) → IsBarred u y → Covers u y g → (q : ℕ) → IsTrue (x q) → ((p : ℕ) → place_in order q < place_in order p → IsTrue (y p) → IsTrue (x p)) → IsTrue (y q)

-- ---- reasons

abbrev pub fewer : Universe → Option ℕ → ℕ → ℕ
fewer u None r = r
fewer u (Some s) r = if nat_lt (length (providers_of u r)) (length (providers_of u s)) then r else s

abbrev pub fewest_port : Universe → (ℕ → Bool) → List ℕ → Option ℕ
fewest_port u test ports = fold (λ best r. if test r then Some (fewer u best r) else best) None ports

abbrev pub reason_by : Option ℕ → Reason
reason_by None = Comes
reason_by (Some r) = Needs r

abbrev pub reason_in : Universe → (ℕ → Bool) → ℕ → Reason
reason_in u x q = reason_by (fewest_port u (λ r. list_all x (providers_of u r)) (required_of u q))

-- ---- lines

abbrev pub line_in : Universe → (ℕ → Bool) → ℕ → Line
line_in u x q = record { pair = q; reason = reason_in u x q }

abbrev pub lines_in : Universe → (ℕ → Bool) → List ℕ → List Line
lines_in u x pairs = map (line_in u x) pairs

abbrev pub names_in : Universe → (ℕ → Bool) → ℕ → List ℕ
names_in u x q = named_by u q (reason_in u x q)

pub record IsTold (u : Universe) (g : Goal) (x : ℕ → Bool) (lines : List Line) : Type 0 where
  pub pairs : List ℕ
  pub followed : IsFollowed (names_in u x) (wanted_by u g) pairs
  pub are : lines ≡ lines_in u x pairs

pub record IsByChoice (u : Universe) (g : Goal) (lines : List Line) : Type 0 where
  pub lacking : ℕ → Bool
  pub are_lacking : IsLacking u lacking
  pub order : List ℕ
  pub by_distance : IsByDistance u lacking g order
  pub needed : ℕ → Bool
  pub nearest : IsNearest u g order needed
  pub told : IsTold u g needed lines
