-- The tokens of each line are printed.
use Rattle.std.proofs.Common.{◌≡◌, ℕ, ◌<◌, true, false, List, [], ◌∷◌, Option, Some, None, map, refl, ◌∙◌}
use Rattle.std.specs.Prelude.{IfSome, slice_get}
use Rattle.std.specs.Bool.{if◌then◌else◌}
use Rattle.std.specs.List.{All, AllByRecursion, list_all}
use Rattle.std.proofs.lemmas.Bool.{and_from}
use Rattle.std.proofs.lemmas.List.Elements.{All-head, recursion_from_All}
use Rattle.std.proofs.lemmas.List.Folds.{list_all-append}
use Rattle.metis_ids.specs.declared.goals.Goal.{Goal}
use Rattle.metis_ids.specs.declared.goals.Goal.TheVariants.{Pair, Port}
use Rattle.metis_tokens.proofs.PairTokens.{pair_printed}
use Rattle.metis_tokens.proofs.GoalTokens.{goal_printed}
use Rattle.metis_tokens.proofs.Printed.{printed, printed_name}
use Rattle.metis_universe.specs.Terms.{IsNamed, IsUniverse, IsWordable, Universe, is_initial, pair_count, pair_word, port_count, port_name_of, providers_of, provides, required_of}
use Rattle.metis_why.specs.Terms.{IsLineOf, IsNameable, named_by}
use Rattle.metis_why.specs.declared.reason.Line.{Line}
use Rattle.metis_why.specs.declared.reason.Reason.{Reason}
use Rattle.metis_why.specs.declared.reason.Reason.TheVariants.{Needs, Comes}
use Rattle.metis_why_text.proofs.Named.{kept_below, named_below}
use Rattle.metis_why_text.specs.Terms.{comes_tokens, lacks_tokens, line_tokens, list_words, reason_tokens, start_port}

first_holds : (P : ℕ → Type 0) (xs : List ℕ) → All P xs → IfSome (slice_get xs 0) P
first_holds P [] all = tt
first_holds P (x ∷ xs) all = All-head P x xs all

module _ (u : Universe) (is : IsUniverse u) (names : IsNamed u) where
  pairs_printed : (pairs : List ℕ) → AllByRecursion (λ p. p < pair_count u) pairs → list_all printed (map (pair_word u) pairs) ≡ true
  pairs_printed [] low = refl
  pairs_printed (p ∷ pairs) low = and_from _ _ (pair_printed u is names p low.0) (pairs_printed pairs low.1)

  list_by : (pairs : List ℕ) → AllByRecursion (λ p. p < pair_count u) pairs → list_all printed (list_words u pairs) ≡ true
  list_by [] low = refl
  list_by (p ∷ pairs) low = pairs_printed (p ∷ pairs) low

  list_printed : (pairs : List ℕ) → All (λ p. p < pair_count u) pairs → list_all printed (list_words u pairs) ≡ true
  list_printed pairs low = list_by pairs (recursion_from_All (λ p. p < pair_count u) pairs low)

  port_printed : (r : ℕ) → r < port_count u → printed (port_name_of u r) ≡ true
  port_printed r low = printed_name (port_name_of u r) (names.ports r low)

  pub start_low : (q : ℕ) → q < pair_count u → IfSome (start_port u q) (λ r. r < port_count u)
  start_low q low = elim (is_initial u q) as (λ b. IfSome (if b then slice_get (required_of u q) 0 else None) (λ r. r < port_count u)) [
    | true ↦ first_holds (λ r. r < port_count u) (required_of u q) (is.required q low).1
    | false ↦ tt
  ]

  comes_printed : (o : Option ℕ) → IfSome o (λ r. r < port_count u) → list_all printed (comes_tokens u o) ≡ true
  comes_printed None low = refl
  comes_printed (Some r) low = and_from _ _ (port_printed r low) refl

  reason_printed : (q : ℕ) (reason : Reason) → q < pair_count u → IsNameable u reason → list_all printed (reason_tokens u q reason) ≡ true
  reason_printed q (Needs r) low port = and_from _ _ (port_printed r port) refl
  reason_printed q Comes low port = comes_printed (start_port u q) (start_low q low)

  pub line_printed : (l : Line) → IsLineOf u l → list_all printed (line_tokens u l) ≡ true
  line_printed l its =
      list_all-append printed (pair_word u l.pair ∷ reason_tokens u l.pair l.reason) (list_words u (named_by u l.pair l.reason))
      ∙ and_from _ _ (and_from _ _ (pair_printed u is names l.pair its.pair) (reason_printed l.pair l.reason its.pair its.port)) (list_printed (named_by u l.pair l.reason) (named_below u l.pair l.reason))

  pub lacks_printed : (g : Goal) → IsWordable u g → list_all printed (lacks_tokens u g) ≡ true
  lacks_printed (Pair p) its = and_from _ _ (goal_printed u is names (Pair p) its) refl
  lacks_printed (Port r) its = and_from _ _ (goal_printed u is names (Port r) its) (list_printed (providers_of u r) (kept_below u (λ p. provides u p r)))
