-- What an operator wishes of what stands, line by line.
--     subject_of wish, is_same a b      what the wish is about;  whether both are one thing
--     is_about wishes wish      whether one of the wishes is about the same as this one
--     kept wishes, rebound wishes, retired wishes      the instances of the lines of each kind, in order
--     named wishes      the instances of all these lines, in order
--     keeps_all wishes      whether all that does not leave is to stay
--     is_avoided u wishes p, avoided u wishes      whether the pair, or its type, is avoided;  these pairs, ascending
use Rattle.std.specs.Prelude.{ℕ, ◌==◌, Bool, true, false, List, Option, Some, None}
use Rattle.std.specs.List.{filter, filter_map, list_any}
use Rattle.metis_universe.specs.Terms.{Universe, all_pairs, type_of}
use Rattle.metis_wishes.specs.declared.wish.Subject.{Subject}
use Rattle.metis_wishes.specs.declared.wish.Subject.TheVariants.{Instance, Everything, Kind, Pair}
use Rattle.metis_wishes.specs.declared.wish.Wish.{Wish}
use Rattle.metis_wishes.specs.declared.wish.Wish.TheVariants.{Keep, KeepAll, Rebind, Retire, AvoidType, AvoidPair}

abbrev pub subject_of : Wish → Subject
subject_of (Keep z) = Instance z
subject_of KeepAll = Everything
subject_of (Rebind z) = Instance z
subject_of (Retire z) = Instance z
subject_of (AvoidType t) = Kind t
subject_of (AvoidPair p) = Pair p

abbrev pub is_instance : Subject → ℕ → Bool
is_instance (Instance y) z = y == z
is_instance _ z = false

abbrev pub is_everything : Subject → Bool
is_everything Everything = true
is_everything _ = false

abbrev pub is_kind : Subject → ℕ → Bool
is_kind (Kind s) t = s == t
is_kind _ t = false

abbrev pub is_pair : Subject → ℕ → Bool
is_pair (Pair q) p = q == p
is_pair _ p = false

abbrev pub is_same : Subject → Subject → Bool
is_same (Instance z) other = is_instance other z
is_same Everything other = is_everything other
is_same (Kind t) other = is_kind other t
is_same (Pair p) other = is_pair other p

abbrev pub is_about : List Wish → Wish → Bool
is_about wishes wish = list_any (λ earlier. is_same (subject_of earlier) (subject_of wish)) wishes

-- ---- the wishes by kind

abbrev pub kept_of : Wish → Option ℕ
kept_of (Keep z) = Some z
kept_of _ = None

abbrev pub rebound_of : Wish → Option ℕ
rebound_of (Rebind z) = Some z
rebound_of _ = None

abbrev pub retired_of : Wish → Option ℕ
retired_of (Retire z) = Some z
retired_of _ = None

abbrev pub instance_of : Subject → Option ℕ
instance_of (Instance z) = Some z
instance_of _ = None

abbrev pub kept : List Wish → List ℕ
kept wishes = filter_map kept_of wishes

abbrev pub rebound : List Wish → List ℕ
rebound wishes = filter_map rebound_of wishes

abbrev pub retired : List Wish → List ℕ
retired wishes = filter_map retired_of wishes

abbrev pub named : List Wish → List ℕ
named wishes = filter_map (λ wish. instance_of (subject_of wish)) wishes

abbrev pub is_keep_all : Wish → Bool
is_keep_all KeepAll = true
is_keep_all _ = false

abbrev pub keeps_all : List Wish → Bool
keeps_all wishes = list_any is_keep_all wishes

abbrev pub avoids : Universe → ℕ → Wish → Bool
avoids u p (AvoidType t) = type_of u p == t
avoids u p (AvoidPair q) = p == q
avoids u p _ = false

abbrev pub is_avoided : Universe → List Wish → ℕ → Bool
is_avoided u wishes p = list_any (avoids u p) wishes

abbrev pub avoided : Universe → List Wish → List ℕ
avoided u wishes = filter (is_avoided u wishes) (all_pairs u)
