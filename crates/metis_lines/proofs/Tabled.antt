-- The table of the holders with a line of its own for one more pair.
use Rattle.std.proofs.Common.{◌≡◌, ℕ, ◌+◌, ◌-◌, ◌<◌, ◌≤◌, Bool, true, false, cond, List, [], ◌∷◌, ◌++◌, length, get_or, set, Option, Some, None, refl, sym, ap, ◌∙◌, subst, arith, nat_eq, inl, inr}
use Rattle.std.specs.List.{list_any}
use Rattle.std.proofs.lemmas.Bool.{cases_lt, cases_eq, cases_Bool, cond-true, cond-false, eq-eqb, eqb-false, ne_eqb, or_from, or_parts}
use Rattle.std.proofs.lemmas.List.{get_or_past, get_or-set_same, get_or-set_other, get_or-append_right, length-append, length-set, length_push}
use Rattle.std.proofs.lemmas.Map.Keys.{IsDistinct-push}
use Rattle.std.proofs.lemmas.Cmp.{nat_eq_equiv}
use Rattle.metis_ids.proofs.Lists.{has_here, has_one}
use Rattle.metis_universe.specs.Terms.{Universe, has}
use Rattle.metis_layers.specs.Terms.{place_of}
use Rattle.metis_support.specs.Terms.{IsKept, Support, is_selected, path_to, provider_pairs}
use Rattle.metis_support.proofs.Paths.{IsWay, place_at_end}
use Rattle.metis_support.proofs.Lists.{any-append_right, has-append_cases}
use Rattle.metis_lines.specs.Terms.{AreLines, IsTabled, LifeLines, first_count, first_slot, holder_line, holding, is_loose, later_ends, line_at, lines_by, lines_of, loose, other_ends, slot_line, slots}
use Rattle.metis_lines.proofs.Holders.{count, held_on, provider_chosen}
use Rattle.metis_lines.proofs.Blocks.{copies, place_fits}
use Rattle.metis_lines.proofs.Pushes.{new_first}
use Rattle.metis_lines.proofs.OwnLines.{chosen, less_loose, lines_are, longer, not_own, old_line, same_holder, way_to}

module _ (u : Universe) (s : Support) (kept : IsKept s) (g d : List ℕ) (p : ℕ) (targets : (q : ℕ) → has g q ≡ true → is_selected s q ≡ true) (own : (q : ℕ) → has d q ≡ true → is_selected s q ≡ true) (provider : has (provider_pairs s) p ≡ true) (loose_now : is_loose (lines_of u s g d) p ≡ true) where
  abbrev x : LifeLines
  x = lines_of u s g d

  abbrev y : LifeLines
  y = lines_of u s g (d ++ p ∷ [])

  picked : is_selected s p ≡ true
  picked = chosen u s kept.origin kept.ascends g d p targets own provider loose_now p provider

  new_line : holder_line y p ≡ length x.lines
  new_line =
      let fresh = not_own u s kept.origin kept.ascends g d p targets own provider loose_now in
      let place = new_first (λ q. nat_eq q p) d p fresh (eq-eqb p p refl) in
      let long = longer u s kept.origin kept.ascends g d p targets own provider loose_now in
      let more = length_push d p in
      let all = length-append (g ++ other_ends s g) (later_ends u s ++ d) in
      let behind = length-append (later_ends u s) d in
      let ends = count u s kept.origin g d targets own in
      let at : (length y.lines - length (d ++ p ∷ [])) + place_of (d ++ p ∷ []) p ≡ length x.lines = omega arith in
      cond-true (has (d ++ p ∷ []) p) _ _ (any-append_right (λ q. nat_eq q p) d (p ∷ []) (has_here p [])) ∙ at

  its_stations : line_at y (length x.lines) ≡ path_to s p
  its_stations =
      let none : length x.lines - length x.lines ≡ 0 = omega arith in
      ap (λ ls. get_or ls (length x.lines) []) (lines_are u s kept.origin kept.ascends g d p targets own provider loose_now)
      ∙ get_or-append_right x.lines (path_to s p ∷ []) (length x.lines) (length x.lines) [] refl (omega arith)
      ∙ ap (λ i. get_or (path_to s p ∷ []) i []) none

  way_there : IsWay s kept.origin p (path_to s p)
  way_there = way_to u s kept.origin kept.ascends g d p targets own provider loose_now

  -- the pair is held at the end of the new line
  held_new : first_slot y p ≡ Some (length x.lines, length (path_to s p) - 1)
  held_new =
      let place : (holding y p).1 ≡ length (path_to s p) - 1 = ap (λ l. place_of (line_at y l) p) new_line ∙ ap (λ line. place_of line p) its_stations ∙ place_at_end s kept.origin p (path_to s p) way_there in
      cond-true (has y.providers p) (Some (holding y p)) None provider ∙ (λ i. Some (new_line i, place i))

  held_old : (q : ℕ) → (q ≡ p → ⊥) → first_slot y q ≡ first_slot x q
  held_old q other = elim (cases_Bool (has (provider_pairs s) q)) [
    | inl listed ↦
        let there = chosen u s kept.origin kept.ascends g d p targets own provider loose_now q listed in
        let line = same_holder u s kept.origin kept.ascends g d p targets own provider loose_now q there other in
        let stations = old_line u s kept.origin kept.ascends g d p targets own provider loose_now (holder_line x q) (held_on u s kept.origin g d targets own q there).0 in
        let place : (holding y q).1 ≡ (holding x q).1 = ap (λ l. place_of (line_at y l) q) line ∙ ap (λ each. place_of each q) stations in
        cond-true (has (provider_pairs s) q) (Some (holding y q)) None listed ∙ (λ i. Some (line i, place i)) ∙ sym (cond-true (has (provider_pairs s) q) (Some (holding x q)) None listed)
    | inr not_listed ↦ cond-false (has (provider_pairs s) q) (Some (holding y q)) None not_listed ∙ sym (cond-false (has (provider_pairs s) q) (Some (holding x q)) None not_listed)
  ]

  module _ (holders : List (Option (ℕ × ℕ))) (counts seconds : List ℕ) (n : ℕ) (table : IsTabled x holders counts seconds n) where
    is_there : p < length holders
    is_there = elim (cases_lt p (length holders)) [
      | inl low ↦ low
      | inr past ↦ absurd (none_some (holding x p) (sym (get_or_past holders p None past) ∙ table.held p ∙ cond-true (has x.providers p) (Some (holding x p)) None provider))
    ] where
      none_some : (h : ℕ × ℕ) → None ≡ Some h → ⊥
      none_some h e = cc

    one_less : loose y + 1 ≡ loose x
    one_less = less_loose u s kept.origin kept.ascends g d p targets own provider loose_now

    -- no one is p, either way round
    apart_from : (xs : List ℕ) → has xs p ≡ false → list_any (nat_eq p) xs ≡ false
    apart_from [] none = refl
    apart_from (z ∷ xs) none =
        let parts = or_parts (nat_eq z p) (has xs p) none in
        or_from (nat_eq p z) (list_any (nat_eq p) xs) (ne_eqb p z (λ e. eqb-false z p parts.0 (sym e))) (apart_from xs parts.1)

    new_table : List (Option (ℕ × ℕ))
    new_table = set holders p (Some (length x.lines, length (path_to s p) - 1))

    same_length : length new_table ≡ length holders
    unfolding new_table
    same_length = length-set holders p (Some (length x.lines, length (path_to s p) - 1))

    held_all : (q : ℕ) → get_or new_table q None ≡ first_slot y q
    unfolding new_table
    held_all q = elim (cases_eq q p) [
      | inl same ↦ ap (λ r. get_or (set holders p (Some (length x.lines, length (path_to s p) - 1))) r None) same ∙ get_or-set_same holders p (Some (length x.lines, length (path_to s p) - 1)) None is_there ∙ sym held_new ∙ ap (first_slot y) (sym same)
      | inr other ↦ get_or-set_other holders p q (Some (length x.lines, length (path_to s p) - 1)) None other ∙ table.held q ∙ sym (held_old q other)
    ]

    -- there are as many first lines as before
    same_firsts : first_count y ≡ first_count x
    same_firsts =
        let long = longer u s kept.origin kept.ascends g d p targets own provider loose_now in
        let more = length_push d p in
        omega arith

    pub tabled : IsTabled y (set holders p (Some (length x.lines, length (path_to s p) - 1))) counts seconds (n - 1)
    unfolding new_table
    tabled =
        let long = longer u s kept.origin kept.ascends g d p targets own provider loose_now in
        let more = length_push d p in
        let less = one_less in
        let size = same_length in
        let few = table.few in
        let own_few = table.own_few in
        let counted = table.counted in
        record {
          few = omega arith;
          later_few = omega (arith, table.later_few, size);
          room = omega (arith, table.room, long, more);
          apart = IsDistinct-push nat_eq_equiv d p table.apart (apart_from d (not_own u s kept.origin kept.ascends g d p targets own provider loose_now));
          pairs = omega (arith, table.pairs);
          own_few = omega arith;
          provider_few = omega (arith, table.provider_few);
          held = held_all;
          slotted = table.slotted;
          second = λ q high. table.second q high ∙ ap (λ k. k + place_of (later_ends u s) q) (sym same_firsts);
          counted = omega arith;
        }

-- the same for any lines over the support
module _ (u : Universe) (s : Support) (kept : IsKept s) (x : LifeLines) (are : AreLines u s x) (p : ℕ) (provider : has x.providers p ≡ true) (loose_now : is_loose x p ≡ true) where
  same_providers : x.providers ≡ provider_pairs s
  same_providers = ap (λ (z : LifeLines). z.providers) are.are

  same_later : x.later ≡ later_ends u s
  same_later = ap (λ (z : LifeLines). z.later) are.are

  listed : (q : ℕ) → has x.providers q ≡ true → has (provider_pairs s) q ≡ true
  listed q h = ap (λ ps. has ps q) (sym same_providers) ∙ h

  selected_own : (q : ℕ) → has x.own q ≡ true → is_selected s q ≡ true
  selected_own q h = provider_chosen s q (listed q (are.own q h))

  still_loose : is_loose (lines_of u s x.targets x.own) p ≡ true
  still_loose = ap (λ z. is_loose z p) (sym are.are) ∙ loose_now

  pub pair_selected : is_selected s p ≡ true
  pair_selected = provider_chosen s p (listed p provider)

  abbrev pub grown : LifeLines
  grown = lines_by (x.lines ++ path_to s p ∷ []) x.targets (x.own ++ p ∷ []) x.providers x.later

  pub grown_is : grown ≡ lines_of u s x.targets (x.own ++ p ∷ [])
  grown_is =
      let lines : x.lines ++ path_to s p ∷ [] ≡ (lines_of u s x.targets (x.own ++ p ∷ [])).lines =
      ap (λ (z : LifeLines). z.lines ++ path_to s p ∷ []) are.are ∙ sym (lines_are u s kept.origin kept.ascends x.targets x.own p are.targets selected_own (listed p provider) still_loose) in
      (λ i. lines_by (lines i) x.targets (x.own ++ p ∷ []) (same_providers i) (same_later i))

  pub grown_loose : loose grown + 1 ≡ loose x
  grown_loose = ap (λ z. loose z + 1) grown_is ∙ less_loose u s kept.origin kept.ascends x.targets x.own p are.targets selected_own (listed p provider) still_loose ∙ ap loose (sym are.are)

  pub grown_are : AreLines u s grown
  grown_are = record {
    are = grown_is;
    targets = are.targets;
    own = λ q h. elim (has-append_cases x.own (p ∷ []) q h) [
      | inl before ↦ are.own q before
      | inr now ↦ subst (λ r. has x.providers r ≡ true) (has_one p q now) provider
    ];
  }

  module _ (holders : List (Option (ℕ × ℕ))) (counts seconds : List ℕ) (n : ℕ) (table : IsTabled x holders counts seconds n) where
    table_of : IsTabled (lines_of u s x.targets x.own) holders counts seconds n
    table_of = subst (λ z. IsTabled z holders counts seconds n) are.are table

    pub pair_there : p < length holders
    pair_there = is_there u s kept x.targets x.own p are.targets selected_own (listed p provider) still_loose holders counts seconds n table_of

    pub some_loose : 1 ≤ n
    some_loose = let less = grown_loose in let all = table.counted in omega arith

    pub grown_table : IsTabled grown (set holders p (Some (length x.lines, length (path_to s p) - 1))) counts seconds (n - 1)
    grown_table =
        let P : ℕ → LifeLines → Type 0 = λ m z. IsTabled z (set holders p (Some (m, length (path_to s p) - 1))) counts seconds (n - 1) in
        let count_same : length (lines_of u s x.targets x.own).lines ≡ length x.lines = ap (λ (z : LifeLines). length z.lines) (sym are.are) in
        subst (P (length x.lines)) (sym grown_is) (subst (λ m. P m (lines_of u s x.targets (x.own ++ p ∷ []))) count_same
        (tabled u s kept x.targets x.own p are.targets selected_own (listed p provider) still_loose holders counts seconds n table_of))

-- the line of a later slot is there
pub slot_line_low : (x : LifeLines) (holders : List (Option (ℕ × ℕ))) (counts seconds : List ℕ) (n p k : ℕ) → IsTabled x holders counts seconds n → 2 ≤ k → k ≤ slots x p → slot_line x p k < length x.lines
slot_line_low x holders counts seconds n p k table low high =
    let many : k ≤ 1 + copies x.later p = by (has x.providers p) high in
    let fits = place_fits x.later p in
    omega (arith, many, fits, low, table.room) where
      by : (b : Bool) → k ≤ cond b (1 + copies x.later p) 0 → k ≤ 1 + copies x.later p
      by true h = h
      by false h = absurd (omega (arith, h, low))
