-- Sets of pairs as flags, and what the pairs outside such a set give.
--     IsInside y x      y has only pairs of x
--     IsWithin u x      x has only pairs of the universe
--     AreGiven u x given      the flags of the ports that pairs outside x provide are set, and no others
--     AreLed u x led      and those of the pairs to which moves lead from pairs outside x
--     HasReason u x q o      o is a reason of q, or no barred set inside x has q
--     IsGreatest u x z      z is barred and inside x, and each barred set inside x is inside z
--     IsOnlyReason u x q o      o is the one reason of q, if there is one, and a reason can be told
--     IsMissed u g x q      each barred set inside x that covers the goal has q
use Rattle.std.specs.Prelude.{◌≡◌, ◌<◌, ℕ, Bool, List, IsTrue, IsFalse, Option, MatchOption}
use Rattle.metis_ids.specs.declared.goals.Goal.{Goal}
use Rattle.metis_refusal.specs.Terms.{flag}
use Rattle.metis_universe.specs.Terms.{Universe, has, next_of, pair_count, port_count, provides}
use Rattle.metis_why.specs.Barred.{Covers, IsBarred, IsNameable, IsReason}
use Rattle.metis_why.specs.declared.reason.Reason.{Reason}

abbrev pub IsInside : (ℕ → Bool) → (ℕ → Bool) → Type 0
IsInside y x = (p : ℕ) → IsTrue (y p) → IsTrue (x p)

abbrev pub IsWithin : Universe → (ℕ → Bool) → Type 0
IsWithin u x = (p : ℕ) → IsTrue (x p) → p < pair_count u

pub record AreGiven (u : Universe) (x : ℕ → Bool) (given : List Bool) : Type 0 where
  pub by_some : (r : ℕ) → IsTrue (flag given r) → (y : ℕ) × (y < pair_count u) × IsFalse (x y) × IsTrue (provides u y r)
  pub by_each : (y r : ℕ) → y < pair_count u → IsFalse (x y) → IsTrue (provides u y r) → IsTrue (flag given r)

pub record AreLed (u : Universe) (x : ℕ → Bool) (led : List Bool) : Type 0 where
  pub by_some : (q : ℕ) → IsTrue (flag led q) → (y : ℕ) × (y < pair_count u) × IsFalse (x y) × IsTrue (has (next_of u y) q)
  pub by_each : (y q : ℕ) → y < pair_count u → IsFalse (x y) → IsTrue (has (next_of u y) q) → IsTrue (flag led q)

abbrev pub HasReason : Universe → (ℕ → Bool) → ℕ → Option Reason → Type 0
HasReason u x q o = MatchOption o ((y : ℕ → Bool) → IsBarred u y → IsInside y x → IsFalse (y q)) (IsReason u x q)

pub record IsGreatest (u : Universe) (x z : ℕ → Bool) : Type 0 where
  pub barred : IsBarred u z
  pub inside : IsInside z x
  pub greatest : (y : ℕ → Bool) → IsBarred u y → IsInside y x → IsInside y z

abbrev pub IsMissed : Universe → Goal → (ℕ → Bool) → ℕ → Type 0
IsMissed u g x q = (y : ℕ → Bool) → IsBarred u y → Covers u y g → IsInside y x → IsTrue (y q)

abbrev pub IsPorts : Universe → Option ℕ → ℕ → Type 0
IsPorts u best port = MatchOption best (Unit {0}) (λ r. r < port_count u) × (port < port_count u)

-- each reason of q is this one, whose port is the universe's
abbrev pub IsOnlyReason : Universe → (ℕ → Bool) → ℕ → Option Reason → Type 0
IsOnlyReason u x q o = MatchOption o (Unit {0}) (λ only. IsNameable u only × ((reason : Reason) → IsReason u x q reason → reason ≡ only))
