-- What clauses and proofs cite of this crate, by one module.
pub use Rattle.metis_why.specs.Answer.{IfAllAttained, IfAttained, IfLacks, IfWhy, IsFirstUnattained, IsLacking}
pub use Rattle.metis_why.specs.Barred.{AreOnce, Covers, IsBarred, IsNameable, IsNeeded, IsOwn, IsReason, IsWhy, before_of, listed, named_by, outside, wanted_by}
pub use Rattle.metis_why.specs.Choice.{Ascends, IsBefore, IsByChoice, IsByDistance, IsCost, IsFollowed, IsNearest, IsReadTo, IsStep, IsTold, all_in, fewer, fewest_port, further, line_in, lines_in, may_name, names_in, noted, place_in, read_to, reason_by, reason_in, wanted}
pub use Rattle.metis_why.specs.Circles.{AreNamed, IsCircle, IsNaming}
pub use Rattle.metis_why.specs.Confirm.{IsHeldUp, IsLineOf, IsTellable, covered, first_bad, line_holds, own_holds, verdict, verdict_by}
pub use Rattle.metis_why.specs.Costs.{IsFirst, IsNext, IsReaching, far_in, least_of, led_by, led_by_moves, led_by_ports, led_on, lowered, never}
pub use Rattle.metis_why.specs.Flags.{AreGiven, AreLed, HasReason, IsGreatest, IsInside, IsMissed, IsOnlyReason, IsPorts, IsWithin}
pub use Rattle.metis_why.specs.Leaving.{AreForced, AreMarked, IsEnough, IsKept, IsLess}
pub use Rattle.metis_why.specs.Listing.{AreListed, AreReasons, IsGrown, IsListing, IsSound, unlisted}
pub use Rattle.metis_why.specs.Nearing.{AreApart, AreChosen, IsChosen, IsFront, IsNearing}
pub use Rattle.metis_why.specs.Open.{AreOpen, HaveMoved, IsLedOn, NoneBefore, StayOpen, times}
pub use Rattle.metis_why.specs.Settling.{AreReached, Falls, IsFrom, IsGoing, IsRound, IsShrunk, held}
pub use Rattle.metis_why.specs.Steps.{IsCalledFor, IsFromNearToFar, IsWithinCost, some_names}
pub use Rattle.metis_why.specs.Trying.{AreTried, IsFewest, IsWaitedFor, without}
