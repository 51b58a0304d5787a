-- Leaving pairs out of a set.
--     IsEnough u g x      x is a barred set of pairs of the universe that covers the goal
--     IsLess u g x z      z is inside x, and enough too
--     AreForced u g x forced      each pair whose flag is set is missed
--     AreMarked u g x list forced      so is each that is listed
--     IsKept u g k      what is known of the set is so, and each pair whose flag is set is missed
use Rattle.std.specs.Prelude.{ℕ, Bool, List, IsTrue}
use Rattle.std.specs.List.{All}
use Rattle.metis_ids.specs.declared.goals.Goal.{Goal}
use Rattle.metis_universe.specs.Terms.{Universe}
use Rattle.metis_why.specs.Barred.{Covers, IsBarred}
use Rattle.metis_why.specs.Flags.{IsInside, IsMissed, IsWithin}
use Rattle.metis_why.specs.Settling.{IsFrom}
use Rattle.metis_why.specs.declared.minimizing.Kept.{Kept}
use Rattle.metis_refusal.specs.Terms.{flag}

pub record IsEnough (u : Universe) (g : Goal) (x : ℕ → Bool) : Type 0 where
  pub within : IsWithin u x
  pub barred : IsBarred u x
  pub covers : Covers u x g

pub record IsLess (u : Universe) (g : Goal) (x z : ℕ → Bool) : Type 0 where
  pub inside : IsInside z x
  pub enough : IsEnough u g z

abbrev pub AreForced : Universe → Goal → (ℕ → Bool) → List Bool → Type 0
AreForced u g x forced = (q : ℕ) → IsTrue (flag forced q) → IsMissed u g x q

pub record AreMarked (u : Universe) (g : Goal) (x : ℕ → Bool) (list : List ℕ) (forced : List Bool) : Type 0 where
  pub listed : All (IsMissed u g x) list
  pub flagged : AreForced u g x forced

pub record IsKept (u : Universe) (g : Goal) (k : Kept) : Type 0 where
  pub from : IsFrom u k.known
  pub forced : AreForced u g (flag k.known.held) k.forced
