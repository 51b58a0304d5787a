-- Lines are added for pairs, one after the other.
use Rattle.std.proofs.Common.{◌≡◌, ℕ, ◌+◌, ◌<◌, Bool, true, false, List, [], ◌∷◌, ◌++◌, length, take, set, Some, None, get_or}
use Rattle.std.specs.List.{list_all}
use Rattle.std.proofs.lemmas.Bool.{both_ways}
use Rattle.metis_universe.specs.Terms.{Universe, pair_count}
use Rattle.metis_why.proofs.Chosen.{told_more, told_new, told_there}
use Rattle.metis_why.proofs.Listed.{all_listed_more, flags_more, grown_by, grown_same, grown_then, listed_push}
use Rattle.metis_why.specs.Terms.{AreListed, HasReason, IsBarred, IsChosen, IsGrown, lines_in, listed, noted}
use Rattle.metis_why.specs.declared.reason.Line.{Line}
use Rattle.metis_why.specs.declared.reason.Reason.{Reason}

-- to the lines of the start came one for each of the first n pairs that had none, and their flags are set
pub record IsAdded (u : Universe) (x : ℕ → Bool) (start lines : List Line) (seen : List Bool) (pairs : List ℕ) (n : ℕ) : Type 0 where
  pub grown : IsGrown u x start lines
  pub flags : AreListed seen lines
  pub there : list_all (listed lines) (take n pairs) ≡ true
  pub told : (list : List ℕ) → start ≡ lines_in u x list → lines ≡ lines_in u x (noted list (take n pairs))

module _ (u : Universe) (x : ℕ → Bool) (start lines : List Line) (seen : List Bool) (pairs : List ℕ) (n p : ℕ) (before : IsAdded u x start lines seen pairs n) (low : n < length pairs) (at : p ≡ get_or pairs n p) where
  pub added_before : listed lines p ≡ true → IsAdded u x start lines seen pairs (n + 1)
  added_before here = record {
    grown = before.grown;
    flags = before.flags;
    there = all_listed_more u x lines lines pairs n p low (grown_same u x lines) before.there at here;
    told = λ list are. told_more u x lines list pairs n p low at (told_there u x lines (noted list (take n pairs)) p (before.told list are) here);
  }

  module _ (away : listed lines p ≡ false) (held : x p ≡ true) where
    pub added_now : (new : List Line) (reason : Reason) → p < pair_count u → p < 2000 → HasReason u x p (Some reason) → IsChosen u x p (Some reason) → new ≡ lines ++ record { pair = p; reason = reason } ∷ [] →
        IsAdded u x start new (set seen p true) pairs (n + 1)
    added_now new reason within few why chosen is =
        let grown = grown_by u x lines new p reason is away within held why in
        record {
          grown = grown_then u x start lines new before.grown grown;
          flags = flags_more seen lines new p reason before.flags few is;
          there = all_listed_more u x lines new pairs n p low grown before.there at (listed_push lines new p reason is);
          told = λ list are. told_more u x new list pairs n p low at (told_new u x lines new (noted list (take n pairs)) p reason (before.told list are) away is chosen);
        }

    -- each pair of a barred set has a reason
    pub no_reason : IsBarred u x → HasReason u x p None → ⊥
    no_reason barred none = both_ways (x p) (none x barred (λ q there. there)) held
