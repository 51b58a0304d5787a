-- Pairs that have no reason are taken out of a set: one after the other, and then in rounds.
--     held flags      how many flags are set
--     IsShrunk u x z      z is inside x, and each barred set inside x is inside z
--     AreReached required given n      of the first n of these ports each one's flag is set
--     IsFrom u f      pairs outside the set provide the ports whose flags are set, and lead to the pairs whose flags are set; and of the ports
--                     that each pair requires, the first ones that were reached are such ports
--     Falls u f g      from f on pairs fell, each noted, and g is what is known then
--     IsGoing u x z more n      what is known in a round that came to pair n
--     IsRound u x z more      z is x without some pairs; where none was taken out it is x, and barred
use Rattle.std.specs.Prelude.{◌≡◌, ◌+◌, ◌<◌, ◌≤◌, ℕ, Bool, List, length, IsTrue, IsFalse}
use Rattle.std.specs.List.{count_by, slice_index_or}
use Rattle.metis_universe.specs.Terms.{Universe, has, next_of, pair_count, provides, required_of}
use Rattle.metis_why.specs.Barred.{IsBarred, IsReason}
use Rattle.metis_why.specs.declared.falling.Falling.{Falling}
use Rattle.metis_why.specs.declared.reason.Reason.{Reason}
use Rattle.metis_why.specs.Flags.{IsInside}
use Rattle.metis_refusal.specs.Terms.{flag}

abbrev pub held : List Bool → ℕ
held flags = count_by (λ b. b) flags

pub record IsShrunk (u : Universe) (x z : ℕ → Bool) : Type 0 where
  pub inside : IsInside z x
  pub keeps : (y : ℕ → Bool) → IsBarred u y → IsInside y x → IsInside y z

abbrev pub AreReached : List ℕ → List Bool → ℕ → Type 0
AreReached required given n = (k : ℕ) → k < n → k < length required → IsTrue (flag given (slice_index_or required k 0))

pub record IsFrom (u : Universe) (f : Falling) : Type 0 where
  pub ports : (r : ℕ) → IsTrue (flag f.given r) → (y : ℕ) × (y < pair_count u) × IsFalse (flag f.held y) × IsTrue (provides u y r)
  pub pairs : (q : ℕ) → IsTrue (flag f.led q) → (y : ℕ) × (y < pair_count u) × IsFalse (flag f.held y) × IsTrue (has (next_of u y) q)
  pub reached : (q : ℕ) → AreReached (required_of u q) f.given (slice_index_or f.reached q 0)

pub record Falls (u : Universe) (f g : Falling) : Type 0 where
  pub shrunk : IsShrunk u (flag f.held) (flag g.held)
  pub from : IsFrom u g
  pub noted : held g.held + length g.fallen.items ≤ held f.held + length f.fallen.items

pub record IsRound (u : Universe) (x z : List Bool) (more : Bool) : Type 0 where
  pub shrunk : IsShrunk u (flag x) (flag z)
  pub fewer : IsTrue more → held z < held x
  pub settled : IsFalse more → IsBarred u (flag z)

pub record IsGoing (u : Universe) (x z : List Bool) (more : Bool) (n : ℕ) : Type 0 where
  pub shrunk : IsShrunk u (flag x) (flag z)
  pub few : held z ≤ held x
  pub fewer : IsTrue more → held z < held x
  pub same : IsFalse more → z ≡ x
  pub reasons : IsFalse more → (q : ℕ) → q < n → IsTrue (flag x q) → (reason : Reason) × IsReason u (flag x) q reason
