-- Forced dups one after another: each is of a provider pair that is not yet doubled, and leaves one pair less whose slot 1 is a line that goes on.
use Rattle.std.proofs.Common.{◌≡◌, ℕ, zero, suc, ◌+◌, ◌<◌, ◌≤◌, true, List, [], ◌∷◌, ◌++◌, length, get_or, take, refl, sym, ap, ◌∙◌, subst, arith, nat_eq, inl, inr}
use Rattle.std.specs.Prelude.{IsSome}
use Rattle.std.specs.List.{IsDistinct, list_any}
use Rattle.std.proofs.lemmas.Bool.{and_parts, false≢true}
use Rattle.std.proofs.lemmas.Cmp.{nat_eq_equiv}
use Rattle.std.proofs.lemmas.List.{get_or_default, length-append, length-map, take_all}
use Rattle.std.proofs.lemmas.Map.Keys.{IsDistinct-from_apart, IsDistinct-push}
use Rattle.std.proofs.lemmas.Option.{slice_get-get_or}
use Rattle.metis_ids.specs.Terms.{Dup, Plan}
use Rattle.metis_ids.proofs.Lists.{at_range, has_one, is_member-has}
use Rattle.metis_universe.proofs.Rounds.{has-filter}
use Rattle.metis_universe.specs.Terms.{IsTable, IsUniverse, Universe, has, layer_of, provider_pairs as provider_pairs_in}
use Rattle.metis_support.proofs.Kept.{kept}
use Rattle.metis_support.proofs.Lists.{has-append_cases}
use Rattle.metis_support.proofs.Selections.{is_support, same_provider_pairs, targets_selected}
use Rattle.metis_support.specs.Terms.{IsKept, IsSupport, Support, is_number, is_selected, provider_pairs, support_of}
use Rattle.metis_lines.proofs.Few.{apart_first, few, still_apart}
use Rattle.metis_lines.proofs.Holders.{count}
use Rattle.metis_lines.proofs.Instances.{graph_sound}
use Rattle.metis_lines.proofs.OwnLines.{less_loose, not_own}
use Rattle.metis_lines.specs.Terms.{AreApart, AreLines, is_justified, is_justified_at, later_ends, lines_of, loose, other_ends, own_pairs}
use Rattle.metis_audit.proofs.Audited.{each_layered}
use Rattle.metis_audit.proofs.DupLines.{forced_here, own_more}
use Rattle.metis_audit.proofs.Loose.{goes_on}
use Rattle.metis_audit.specs.Terms.{IsAudited, IsDoubled}

module _ (u : Universe) (g : List ℕ) (table : IsTable u) (layered : (q : ℕ) → has g q ≡ true → IsSome (layer_of u q)) where
  universe : IsUniverse u
  universe = table.universe

  abbrev s : Support
  s = support_of u g

  over : IsSupport u s
  over = is_support u universe g layered

  keeps : IsKept s
  keeps = kept u table s over

  targets : (q : ℕ) → has g q ≡ true → is_selected s q ≡ true
  targets = targets_selected u universe g layered

  provider_chosen : (q : ℕ) → has (provider_pairs s) q ≡ true → is_selected s q ≡ true
  provider_chosen q h = (and_parts (list_any (is_number q) s.providers) (is_selected s q) (sym (has-filter (λ p. list_any (is_number p) s.providers) q s.selected.members) ∙ h)).1

  -- what is so of some doubled pairs
  record AreDoubled (d : List ℕ) (n : ℕ) : Type 0 where
    providers : (q : ℕ) → has d q ≡ true → has (provider_pairs s) q ≡ true
    once : IsDistinct nat_eq d
    apart : AreApart s g d
    fewer : loose (lines_of u s g d) + n ≡ loose (lines_of u s g [])

  none : AreDoubled [] 0
  none = record { providers = λ q h. absurd (false≢true h); once = IsDistinct-from_apart nat_eq [] (λ i j d low high. absurd (omega arith)); apart = apart_first s g keeps; fewer = omega arith }

  module _ (ds : List Dup) (forced : is_justified u g ds ≡ true) where
    one_more : (i : ℕ) → i < length ds → AreDoubled (own_pairs (take i ds)) i → AreDoubled (own_pairs (take (i + 1) ds)) (i + 1)
    one_more i low before =
        let first = first_dup ds low in
        let d = own_pairs (take i ds) in
        let e : Dup = get_or ds i first in
        let p = e.pair in
        let are : AreLines u s (lines_of u s g d) = record { are = refl; targets = targets; own = before.providers } in
        let own : (q : ℕ) → has d q ≡ true → is_selected s q ≡ true = λ q h. provider_chosen q (before.providers q h) in
        let here = sym (forced_here u s g ds i e (lines_of u s g d) (slice_get-get_or ds i first low) refl) ∙ at_range (is_justified_at u g ds) 0 (length ds) i forced (omega arith) (omega arith) in
        let on = goes_on u s over (lines_of u s g d) are p e.cycle here in
        let new = not_own u s keeps.origin keeps.ascends g d p targets own on.listed on.loose in
        let less = less_loose u s keeps.origin keeps.ascends g d p targets own on.listed on.loose in
        let sum = before.fewer in
        subst (λ ps. AreDoubled ps (i + 1)) (sym (own_more ds i e low (get_or_itself ds i first low))) (record {
          providers = λ q h. elim (has-append_cases d (p ∷ []) q h) [
            | inl old ↦ before.providers q old
            | inr now ↦ subst (λ r. has (provider_pairs s) r ≡ true) (has_one p q now) on.listed
          ];
          once = IsDistinct-push nat_eq_equiv d p before.once (is_member-has p d ∙ new);
          apart = still_apart u s keeps g d targets own p on.loose before.apart;
          fewer = omega arith;
        }) where
          first_dup : (ds : List Dup) → i < length ds → Dup
          first_dup [] low = absurd (omega arith)
          first_dup (d ∷ ds) low = d

          get_or_itself : (ds : List Dup) (i : ℕ) (d : Dup) → i < length ds → get_or ds i d ≡ get_or ds i (get_or ds i d)
          get_or_itself ds i d low = get_or_default ds i d (get_or ds i d) low

    so_far : (i : ℕ) → i ≤ length ds → AreDoubled (own_pairs (take i ds)) i
    so_far zero low = none
    so_far (suc i) low = let step : i + 1 ≡ suc i = omega arith in subst (λ k. AreDoubled (own_pairs (take k ds)) k) step (one_more i (omega arith) (so_far i (omega arith)))

    all : AreDoubled (own_pairs ds) (length ds)
    all = subst (λ es. AreDoubled (own_pairs es) (length ds)) (take_all (length ds) ds (omega arith)) (so_far (length ds) (omega arith))

pub doubled : (u : Universe) (g : List ℕ) (p : Plan) (after : List (List ℕ)) → IsTable u → IsAudited u g p after → IsDoubled u g p
doubled u g p after table audited =
    let followed = audited.steady.followed in
    let layered = each_layered u g followed.counted.forced.attained in
    let are = all u g table layered p.dups followed.counted.forced.justified in
    let same = same_provider_pairs u table.universe g layered in
    let listed : (q : ℕ) → has (own_pairs p.dups) q ≡ true → has (provider_pairs_in u g) q ≡ true = λ q h. ap (λ ps. has ps q) (sym same) ∙ are.providers q h in
    let own : (q : ℕ) → has (own_pairs p.dups) q ≡ true → is_selected (support_of u g) q ≡ true = λ q h. provider_chosen u g table layered q (are.providers q h) in
    let made = followed.counted.count in
    let s = support_of u g in
    let lines = count u s (keeps u g table layered).origin g (own_pairs p.dups) (targets u g table layered) own in
    let first = count u s (keeps u g table layered).origin g [] (targets u g table layered) (λ q h. absurd (false≢true h)) in
    let pairs = length-map p.dups (λ (d : Dup). d.pair) in
    let ends = length-append (g ++ other_ends s g) (later_ends u s ++ own_pairs p.dups) in
    let first_ends = length-append (g ++ other_ends s g) (later_ends u s ++ []) in
    let behind = length-append (later_ends u s) (own_pairs p.dups) in
    let first_behind = length-append (later_ends u s) [] in
    let most = few u s (keeps u g table layered) g (own_pairs p.dups) (targets u g table layered) own are.apart in
    record {
      providers = listed;
      once = are.once;
      sound = graph_sound u g (own_pairs p.dups) table.universe layered listed;
      paths = λ l low. followed.each l low;
      instances = omega (arith, made, lines, first, pairs, ends, first_ends, behind, first_behind);
      fewer = are.fewer;
      few = omega (arith, made, most);
    }
