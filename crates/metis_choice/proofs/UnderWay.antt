-- The work list of a selection on its way from the targets to the whole selection.
use Rattle.std.proofs.Common.{◌≡◌, ℕ, ◌<◌, true, false, not, ◌&&◌, List, [], ◌∷◌, ◌++◌, refl, sym, ap, ◌∙◌, subst, arith, nat_eq, inl, inr}
use Rattle.std.specs.Prelude.{◌⊎◌}
use Rattle.std.specs.List.{All}
use Rattle.std.specs.List.Sorted.{IsStrictlyIncreasing}
use Rattle.std.specs.Option.{option_to_list}
use Rattle.std.proofs.lemmas.Bool.{false≢true, and_from, and_parts, or_cases, or_left, or_right, not_from_false}
use Rattle.std.proofs.lemmas.List.Folds.{list_any-append}
use Rattle.std.proofs.lemmas.Map.Keys.{sorted_from_strictly_increasing}
use Rattle.std.specs.Cmp.{both_ways as same_bool}
use Rattle.metis_ids.proofs.Lists.{has_here, has_one, has_range}
use Rattle.metis_universe.proofs.InOrder.{same_members}
use Rattle.metis_universe.proofs.Selected.{selected-least}
use Rattle.metis_universe.specs.Terms.{IsLeastSelection, Universe, all_pairs, has, needs_of, origin_of, pair_count, provider_of, providers_needed, required_of, selected}
use Rattle.metis_layers.proofs.Ways.{all_has}
use Rattle.metis_support.proofs.Lists.{has-append_cases}
use Rattle.metis_support.proofs.Selections.{ascending, has_option, mapped_from}
use Rattle.metis_choice.proofs.Below.{origin_low, provider_low}
use Rattle.metis_choice.specs.Terms.{Adds, WorkList}

-- ---- what a pair needs are pairs of the universe

module _ (u : Universe) where
  need_low : (q p : ℕ) → has (needs_of u q) p ≡ true → p < pair_count u
  need_low q p h = elim (has-append_cases (option_to_list (origin_of u q)) (providers_needed u q) p h) [
    | inl origin ↦ origin_low u q p (has_option (origin_of u q) p origin)
    | inr provider ↦ let from = mapped_from (provider_of u) (required_of u q) p provider in provider_low u from.0 p from.2
  ]

  in_all : (p : ℕ) → p < pair_count u → has (all_pairs u) p ≡ true
  in_all p low = has_range 0 (pair_count u) p (omega arith) (omega arith)

-- ---- on the way

-- All that is selected belongs to the selection, the targets do, and so do the needs of each pair that no longer waits.
pub record IsUnderWay (u : Universe) (g : List ℕ) (w : WorkList) : Type 0 where
  pub size : w.selected.size ≡ pair_count u
  pub low : (p : ℕ) → has w.selected.members p ≡ true → p < pair_count u
  pub sound : (p : ℕ) → has w.selected.members p ≡ true → has (selected u g) p ≡ true
  pub targets : (p : ℕ) → has g p ≡ true → has w.selected.members p ≡ true
  pub waits : (p : ℕ) → has w.waiting p ≡ true → has w.selected.members p ≡ true
  pub needs : (q p : ℕ) → has w.selected.members q ≡ true → has (needs_of u q) p ≡ true → (has w.waiting q ≡ true) ⊎ (has w.selected.members p ≡ true)

module _ (u : Universe) (g : List ℕ) where
  least : IsLeastSelection u g (selected u g)
  least = selected-least u g

  -- with the targets alone
  pub begun : (w v : WorkList) → w.selected.size ≡ pair_count u → w.selected.members ≡ [] → w.waiting ≡ [] → All (λ p. p < pair_count u) g → Adds g w v → IsUnderWay u g v
  begun w v size none idle within adds = record {
    size = adds.size ∙ size;
    low = λ p h. target_low p (target p h);
    sound = λ p h. least.targets p (in_all u p (target_low p (target p h))) (target p h);
    targets = there;
    waits = λ p h. elim (or_cases (has g p && not (has w.selected.members p)) (has w.waiting p) (sym (adds.waiting p) ∙ h)) [
      | inl new ↦ there p (and_parts (has g p) (not (has w.selected.members p)) new).0
      | inr before ↦ absurd (false≢true (ap (λ l. has l p) (sym idle) ∙ before))
    ];
    needs = λ q p h need. inl (adds.waiting q ∙ or_left (has g q && not (has w.selected.members q)) (has w.waiting q) (and_from (has g q) (not (has w.selected.members q)) (target q h) (ap (λ l. not (has l q)) none)));
  } where
    target_low : (p : ℕ) → has g p ≡ true → p < pair_count u
    target_low p h = all_has (λ q. q < pair_count u) g p within h

    target : (p : ℕ) → has v.selected.members p ≡ true → has g p ≡ true
    target p h = elim (or_cases (has g p) (has w.selected.members p) (sym (adds.selected p) ∙ h)) [
      | inl now ↦ now
      | inr before ↦ absurd (false≢true (ap (λ l. has l p) (sym none) ∙ before))
    ]

    there : (p : ℕ) → has g p ≡ true → has v.selected.members p ≡ true
    there p h = adds.selected p ∙ or_left (has g p) (has w.selected.members p) h

  -- one pair is taken from the list, and what it needs is added
  module _ (w v : WorkList) (x : ℕ) (way : IsUnderWay u g w) (same : v.selected ≡ w.selected) (taken : w.waiting ≡ v.waiting ++ x ∷ []) where
    taken_selected : has w.selected.members x ≡ true
    taken_selected = way.waits x (ap (λ l. has l x) taken ∙ list_any-append (λ y. nat_eq y x) v.waiting (x ∷ []) ∙ or_right (has v.waiting x) (has (x ∷ []) x) (has_here x []))

    pub taken_low : x < pair_count u
    taken_low = way.low x taken_selected

    kept : (p : ℕ) → has v.selected.members p ≡ has w.selected.members p
    kept p = ap (λ s. has s.members p) same

    module _ (after : WorkList) (adds : Adds (needs_of u x) v after) where
      still : (p : ℕ) → has w.selected.members p ≡ true → has after.selected.members p ≡ true
      still p h = adds.selected p ∙ or_right (has (needs_of u x) p) (has v.selected.members p) (kept p ∙ h)

      added : (p : ℕ) → has (needs_of u x) p ≡ true → has after.selected.members p ≡ true
      added p h = adds.selected p ∙ or_left (has (needs_of u x) p) (has v.selected.members p) h

      from : (p : ℕ) → has after.selected.members p ≡ true → (has (needs_of u x) p ≡ true) ⊎ (has w.selected.members p ≡ true)
      from p h = elim (or_cases (has (needs_of u x) p) (has v.selected.members p) (sym (adds.selected p) ∙ h)) [ inl new ↦ inl new | inr old ↦ inr (sym (kept p) ∙ old) ]

      waits_on : (p : ℕ) → has v.waiting p ≡ true → has after.waiting p ≡ true
      waits_on p h = adds.waiting p ∙ or_right (has (needs_of u x) p && not (has v.selected.members p)) (has v.waiting p) h

      -- a pair that was there before
      old_needs : (q p : ℕ) → has w.selected.members q ≡ true → has (needs_of u q) p ≡ true → (has after.waiting q ≡ true) ⊎ (has after.selected.members p ≡ true)
      old_needs q p h need = elim (way.needs q p h need) [
        | inr done ↦ inr (still p done)
        | inl waited ↦ elim (has-append_cases v.waiting (x ∷ []) q (ap (λ l. has l q) (sym taken) ∙ waited)) [
          | inl later ↦ inl (waits_on q later)
          | inr now ↦ inr (added p (subst (λ y. has (needs_of u y) p ≡ true) (sym (has_one x q now)) need))
        ]
      ]

      -- and one that comes now
      all_needs : (q p : ℕ) → has after.selected.members q ≡ true → has (needs_of u q) p ≡ true → (has after.waiting q ≡ true) ⊎ (has after.selected.members p ≡ true)
      all_needs q p h need = elim (has w.selected.members q) as (λ b. has w.selected.members q ≡ b → (has after.waiting q ≡ true) ⊎ (has after.selected.members p ≡ true)) [
        | true ↦ λ before. old_needs q p before need
        | false ↦ λ new. elim (from q h) [
          | inl comes ↦ inl (adds.waiting q ∙ or_left (has (needs_of u x) q && not (has v.selected.members q)) (has v.waiting q) (and_from (has (needs_of u x) q) (not (has v.selected.members q)) comes (not_from_false (has v.selected.members q) (kept q ∙ new))))
          | inr before ↦ absurd (false≢true (sym new ∙ before))
        ]
      ] refl

      pub onward : IsUnderWay u g after
      onward = record {
        size = adds.size ∙ ap (λ s. s.size) same ∙ way.size;
        low = λ p h. elim (from p h) [ inl new ↦ need_low u x p new | inr old ↦ way.low p old ];
        sound = λ p h. elim (from p h) [ inl new ↦ least.needs x p (in_all u p (need_low u x p new)) (way.sound x taken_selected) new | inr old ↦ way.sound p old ];
        targets = λ p h. still p (way.targets p h);
        waits = λ p h. elim (or_cases (has (needs_of u x) p && not (has v.selected.members p)) (has v.waiting p) (sym (adds.waiting p) ∙ h)) [
          | inl new ↦ added p (and_parts (has (needs_of u x) p) (not (has v.selected.members p)) new).0
          | inr old ↦ still p (way.waits p (ap (λ l. has l p) taken ∙ list_any-append (λ y. nat_eq y p) v.waiting (x ∷ []) ∙ or_left (has v.waiting p) (has (x ∷ []) p) old))
        ];
        needs = all_needs;
      }

  -- where no pair waits, all are selected
  pub arrived : (w : WorkList) → IsUnderWay u g w → w.waiting ≡ [] → IsStrictlyIncreasing w.selected.members → w.selected.members ≡ selected u g
  arrived w way idle ascends =
      same_members w.selected.members (selected u g) (sorted_from_strictly_increasing w.selected.members ascends) (sorted_from_strictly_increasing (selected u g) (ascending u g (pair_count u)))
      (λ p. same_bool (has w.selected.members p) (has (selected u g) p) (way.sound p) (least.least (has w.selected.members) way.targets closed p)) where
        closed : (q p : ℕ) → has w.selected.members q ≡ true → has (needs_of u q) p ≡ true → has w.selected.members p ≡ true
        closed q p h need = elim (way.needs q p h need) [
          | inl waits ↦ absurd (false≢true (ap (λ l. has l q) (sym idle) ∙ waits))
          | inr there ↦ there
        ]
