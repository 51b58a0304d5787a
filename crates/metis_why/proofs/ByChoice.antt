-- What is told of the nearest set is an explanation.
use Rattle.std.proofs.Common.{◌≡◌, ℕ, ◌<◌, Bool, true, List, [], ◌∷◌, refl, sym, ◌∙◌, subst, nat_eq}
use Rattle.std.specs.List.{All}
use Rattle.std.proofs.lemmas.Bool.{eq-eqb, or_left, or_right}
use Rattle.std.proofs.lemmas.List.Elements.{All-cons, All-nil}
use Rattle.metis_ids.proofs.Lists.{has_one}
use Rattle.metis_ids.specs.declared.goals.Goal.{Goal}
use Rattle.metis_ids.specs.declared.goals.Goal.TheVariants.{Pair, Port}
use Rattle.metis_universe.proofs.Correctness.{all_from_has, all_has}
use Rattle.metis_universe.specs.Terms.{IsGoalOf, Universe, has, next_of, pair_count, provides}
use Rattle.metis_why.proofs.Chosen.{listed_in}
use Rattle.metis_why.proofs.Followed.{followed_apart, followed_done, followed_starts, reading_each}
use Rattle.metis_why.proofs.Found.{reason_best}
use Rattle.metis_why.proofs.Nearest.{needed_where_nearest}
use Rattle.metis_why.proofs.Soundness.{passes_of}
use Rattle.metis_why.specs.Terms.{AreApart, AreOnce, IsByChoice, IsFollowed, IsNearest, IsReason, IsWhy, line_in, lines_in, listed, named_by, names_in, reason_in, wanted_by}
use Rattle.metis_why.specs.declared.reason.Line.{Line}
use Rattle.metis_why.specs.declared.reason.Reason.{Reason}
use Rattle.metis_why.specs.declared.reason.Reason.TheVariants.{Needs, Comes}

-- ---- pairs of the universe

wanted_of : (u : Universe) (g : Goal) → IsGoalOf u g → (p : ℕ) → has (wanted_by u g) p ≡ true → p < pair_count u
wanted_of u (Pair q) low p there = subst (λ r. r < pair_count u) (has_one q p there) low
wanted_of u (Port r) low p there = (passes_of u (λ z. provides u z r) p there).1

named_of : (u : Universe) (q : ℕ) (reason : Reason) (p : ℕ) → has (named_by u q reason) p ≡ true → p < pair_count u
named_of u q (Needs r) p there = (passes_of u (λ z. provides u z r) p there).1
named_of u q Comes p there = (passes_of u (λ z. has (next_of u z) q) p there).1

-- ---- lines of pairs

module _ (u : Universe) (x : ℕ → Bool) where
  once_by : (pairs : List ℕ) → AreApart pairs → AreOnce (lines_in u x pairs)
  once_by [] apart = tt
  once_by (p ∷ pairs) apart = (listed_in u x pairs p ∙ apart.0, once_by pairs apart.1)

  all_lines : (P : Line → Type 0) (pairs : List ℕ) → ((q : ℕ) → has pairs q ≡ true → P (line_in u x q)) → All P (lines_in u x pairs)
  all_lines P [] each = All-nil P
  all_lines P (q ∷ pairs) each =
      All-cons P (line_in u x q) (lines_in u x pairs) (each q (or_left (nat_eq q q) (has pairs q) (eq-eqb q q refl))) (all_lines P pairs (λ r there. each r (or_right (nat_eq q r) (has pairs r) there)))

  module _ (g : Goal) (low : IsGoalOf u g) (order : List ℕ) (nearest : IsNearest u g order x) (pairs : List ℕ) (f : IsFollowed (names_in u x) (wanted_by u g) pairs) where
    reason_here : (q : ℕ) → x q ≡ true → IsReason u x q (reason_in u x q)
    reason_here q on = let why = nearest.barred q on in reason_best u x q why.0 why.1

    pairs_inside : (p : ℕ) → has pairs p ≡ true → x p ≡ true
    pairs_inside p there =
        reading_each (names_in u x) (wanted_by u g) (λ r. x r ≡ true) (λ r wanted. all_has x r (wanted_by u g) nearest.covers wanted)
        (λ q on r named. all_has x r (names_in u x q) (reason_here q on).waits named) pairs f.count f.read p there

    pairs_low : (p : ℕ) → has pairs p ≡ true → p < pair_count u
    pairs_low p there =
        reading_each (names_in u x) (wanted_by u g) (λ r. r < pair_count u) (λ r wanted. wanted_of u g low r wanted)
        (λ q on r named. named_of u q (reason_in u x q) r named) pairs f.count f.read p there

    back : (p : ℕ) → listed (lines_in u x pairs) p ≡ true → has pairs p ≡ true
    back p there = sym (listed_in u x pairs p) ∙ there

    explained_by : IsWhy u g (lines_in u x pairs)
    explained_by = record {
      pairs = λ p there. pairs_low p (back p there);
      once = once_by pairs (followed_apart (names_in u x) (wanted_by u g) pairs f);
      reasons = all_lines (λ l. IsReason u (listed (lines_in u x pairs)) l.pair l.reason) pairs (λ q there. record {
        own = (reason_here q (pairs_inside q there)).own;
        waits = all_from_has (listed (lines_in u x pairs)) (names_in u x q) (λ p named. listed_in u x pairs p ∙ followed_done (names_in u x) (wanted_by u g) pairs f q p there named);
      });
      needed = record {
        covers = all_from_has (listed (lines_in u x pairs)) (wanted_by u g) (λ p wanted. listed_in u x pairs p ∙ followed_starts (names_in u x) (wanted_by u g) pairs f p wanted);
        least = λ y barred covers inside p there.
            (needed_where_nearest u g order x nearest).least y barred covers (λ q on. pairs_inside q (back q (inside q on))) p (pairs_inside p (back p there));
      };
    }

pub explained : (u : Universe) (g : Goal) (lines : List Line) → IsGoalOf u g → IsByChoice u g lines → IsWhy u g lines
explained u g lines low choice = subst (IsWhy u g) (sym choice.told.are) (explained_by u choice.needed g low choice.order choice.nearest choice.told.pairs choice.told.followed)
