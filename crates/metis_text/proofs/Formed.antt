-- What holds of a plan that is read, and that its text is well formed, are one.
use Rattle.std.proofs.Common.{◌≡◌, ℕ, zero, suc, ◌+◌, ◌-◌, ◌<◌, ◌≤◌, true, List, [], length, get_or, take, Some, refl, sym, ap, ◌∙◌, subst, arith, inl, inr}
use Rattle.std.specs.List.{All}
use Rattle.std.specs.List.Sorted.{IsStrictlyIncreasing}
use Rattle.std.proofs.lemmas.Bool.{cases_lt}
use Rattle.std.proofs.lemmas.List.{get_or_past, length-map, length-take-le}
use Rattle.std.proofs.lemmas.List.Elements.{All-from_get_or, All-from_recursion, All-get_or, All-nil}
use Rattle.std.proofs.lemmas.List.Sums.{count_by-le-length}
use Rattle.std.proofs.lemmas.Option.{get_or_from_slice_get, slice_get-get_or, slice_get_within}
use Rattle.metis_ids.specs.declared.actions.Action.{Action}
use Rattle.metis_ids.specs.declared.actions.Action.TheVariants.{New, Delete, Bind, Unbind, Move}
use Rattle.metis_ids.specs.Terms.{Plan, makes}
use Rattle.metis_universe.specs.Terms.{IsOf, Universe, action_at, before, pair_count}
use Rattle.metis_text.specs.Terms.{IsActionInRange, IsEventInRange, IsMoveOf, IsWellFormed, after_of, dup_row, rise, said}
use Rattle.metis_text.proofs.ActionTokens.{Fits}
use Rattle.metis_text.proofs.Ascends.{is_rise, rise_is}
use Rattle.metis_text.proofs.DupPlaces.{all_dups, dups_from_all}
use Rattle.metis_text.proofs.PlanRead.{AreParts}
use Rattle.metis_text.proofs.RowLine.{IsRow}
use Rattle.metis_text.proofs.RowPlaces.{row_at, rows_from_places, rows_long}

-- ---- moves

-- each action fits those before it just where the moves do
pub moves_from_fits : (u : Universe) (actions : List Action) → ((i : ℕ) (d : Action) → i < length actions → Fits u (take i actions) (get_or actions i d))
    → (k z p q : ℕ) → action_at actions k ≡ Some (Move z p q) → IsMoveOf u (before k actions) z p q
moves_from_fits u actions fits zero z p q at = cc
moves_from_fits u actions fits (suc i) z p q at =
    let back : i ≡ suc i - 1 = omega arith in
    let is : get_or actions i (Move z p q) ≡ Move z p q = get_or_from_slice_get actions i (Move z p q) (Move z p q) at in
    subst (λ n. IsMoveOf u (take n actions) z p q) back (subst (Fits u (take i actions)) is (fits i (Move z p q) (slice_get_within actions i (Move z p q) at)))

fits_from_move : (u : Universe) (earlier : List Action) (a : Action) → ((z p q : ℕ) → a ≡ Move z p q → IsMoveOf u earlier z p q) → Fits u earlier a
fits_from_move u earlier (New z t) moves = tt
fits_from_move u earlier (Delete z) moves = tt
fits_from_move u earlier (Bind r z y) moves = tt
fits_from_move u earlier (Unbind r z y) moves = tt
fits_from_move u earlier (Move z p q) moves = moves z p q refl

fits_from_moves : (u : Universe) (actions : List Action) → ((k z p q : ℕ) → action_at actions k ≡ Some (Move z p q) → IsMoveOf u (before k actions) z p q)
    → (i : ℕ) (d : Action) → i < length actions → Fits u (take i actions) (get_or actions i d)
fits_from_moves u actions moves i d low =
    let back : suc i - 1 ≡ i = omega arith in
    fits_from_move u (take i actions) (get_or actions i d) (λ z p q is. subst (λ n. IsMoveOf u (take n actions) z p q) back (moves (suc i) z p q (slice_get-get_or actions i d low ∙ ap Some is)))

module _ (u : Universe) (p : Plan) (after : List (List ℕ)) where
  abbrev actions : List Action
  actions = p.actions

  -- ---- a plan that is read is well formed

  module _ (are : AreParts u (said p after)) where
    long : length after ≡ length actions
    long = rows_long u [] actions after are.rows

    row : (i : ℕ) (d : Action) → i < length actions → IsRow u (take i actions) (get_or actions i d, get_or after i [])
    row i d low = row_at u [] actions after are.rows i d low

    rises_at : (i : ℕ) → i < length actions → IsStrictlyIncreasing (get_or after i []) × All (λ m. (1 ≤ m) × (m < suc i)) (get_or after i [])
    rises_at i low =
        let size : length (take i actions) + 1 ≡ suc i = omega (arith, length-take-le i actions (omega arith)) in
        rise_is (suc i) (get_or after i []) (subst (λ n. rise 0 n (get_or after i []) ≡ true) size (row i (Delete 0) low).after)

    earlier_of : (k : ℕ) → All (λ m. (1 ≤ m) × (m < k)) (after_of after k)
    earlier_of zero = All-nil (λ m. (1 ≤ m) × (m < 0))
    earlier_of (suc i) = elim (cases_lt i (length actions)) [
      | inl low ↦ (rises_at i low).1
      | inr past ↦ subst (All (λ m. (1 ≤ m) × (m < suc i))) (sym (get_or_past after i [] (omega (arith, long)))) (All-nil (λ m. (1 ≤ m) × (m < suc i)))
    ]

    pub formed : IsWellFormed u p after
    formed = record {
      lists = long;
      ascending = All-from_get_or IsStrictlyIncreasing after [] (λ i low. (rises_at i (omega (arith, long, low))).0);
      earlier = earlier_of;
      moves = moves_from_fits u actions (λ i d low. (row i d low).said.fits);
      actions = All-from_get_or (IsOf u) actions (Delete 0) (λ i low. (row i (Delete 0) low).said.of);
      dups = all_dups u (λ d. d.pair < pair_count u) (λ k d is. is.pair) 1 p.dups are.dups;
      cycles = all_dups u (λ d. 2 ≤ length d.cycle) (λ k d is. is.long) 1 p.dups are.dups;
      in_range = record {
        actions = All-from_get_or IsActionInRange actions (Delete 0) (λ i low. (row i (Delete 0) low).said.in_range);
        events = all_dups u (λ d. All IsEventInRange d.cycle) (λ k d is. All-from_recursion IsEventInRange d.cycle is.events) 1 p.dups are.dups;
      };
      few_actions = are.counts.actions;
      few_dups = omega (arith, are.counts.dups, length-map p.dups dup_row);
      instances = sym are.counted;
    }

  -- ---- a plan that is well formed is what can be read

  module _ (formed_so : IsWellFormed u p after) where
    row_from : (i : ℕ) (d : Action) → i < length actions → IsRow u (take i actions) (get_or actions i d, get_or after i [])
    row_from i d low =
        let size : length (take i actions) + 1 ≡ suc i = omega (arith, length-take-le i actions (omega arith)) in
        let up = All-get_or IsStrictlyIncreasing after i [] (omega (arith, formed_so.lists, low)) formed_so.ascending in
        record {
          said = record {
            of = formed_so.actions i d low;
            in_range = formed_so.in_range.actions i d low;
            fits = fits_from_moves u actions formed_so.moves i d low;
          };
          after = subst (λ n. rise 0 n (get_or after i []) ≡ true) (sym size) (is_rise (suc i) (get_or after i []) up (formed_so.earlier (suc i)));
          number = omega (arith, size, low, formed_so.few_actions);
        }

    pub parts_of_formed : AreParts u (said p after)
    parts_of_formed = record {
      rows = rows_from_places u [] actions after formed_so.lists row_from;
      dups = dups_from_all u p.dups formed_so.few_dups formed_so.dups formed_so.cycles formed_so.in_range.events;
      counts = record {
        instances = omega (arith, formed_so.instances, count_by-le-length makes actions, formed_so.few_actions);
        actions = formed_so.few_actions;
        dups = omega (arith, formed_so.few_dups, length-map p.dups dup_row);
      };
      counted = sym formed_so.instances;
    }
