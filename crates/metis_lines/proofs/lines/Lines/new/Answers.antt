use Rattle.std.proofs.Common.{◌≡◌, ◌<◌, ◌-◌, ◌++◌, ℕ, [], List, Option, get_or, length, map, replicate, subst, sym, ap, ◌∙◌, arith}
use Rattle.std.proofs.lemmas.Bool.{false≢true}
use Rattle.metis_universe.proofs.Greatest.{greatest_low}
use Rattle.metis_universe.specs.Terms.{has}
use Rattle.metis_support.specs.Terms.{path_to, provider_pairs}
use Rattle.metis_lines.proofs.SlotCounts.{slots_are}
use Rattle.std.specs.List.{All, filter, flat_map, range_with_len}
use Rattle.metis_ids.specs.Terms.{PairSet}
use Rattle.metis_lines.proofs.FirstTable.{all_lines, all_of, are_held, few_later, few_lines, few_providers, first_table, members_few, providers_low, table}
use Rattle.metis_lines.proofs.lines.Lines.new.Goals as goal
use Rattle.metis_lines.specs.Terms.{AreHeld, AreSeconds, IsLineOf, IsTabled, LifeLines, first_holder, goes_on, later_ends, lines_by, lines_of, other_ends}

pub first_holders-requires-clause-few : goal.first_holders-requires-clause-few
first_holders-requires-clause-few c =
    let s = c.args.s.now in
    let kept = c.selected-selected.ensures.kept in
    let few = members_few s c.selected-selected.result.now c.count-count.result c.selected-selected.ensures.selected c.count-count.ensures.count c.count-count.ensures.within in
    let all = few_lines c.args.u.now s kept c.args.targets.now c.requires.selected c.requires.few few in
    let same = ap length (c.deref-2.ensures.value ∙ c.in_ok-lines.ensures) in
    let size = kept.few in
    omega arith

pub first_holders-requires-clause-lines : goal.first_holders-requires-clause-lines
first_holders-requires-clause-lines c =
    let s = c.args.s.now in
    let kept = c.selected-selected.ensures.kept in
    let few = members_few s c.selected-selected.result.now c.count-count.result c.selected-selected.ensures.selected c.count-count.ensures.count c.count-count.ensures.within in
    let size : c.size.result ≡ s.selected.size = c.size.ensures.size ∙ ap (λ (v : PairSet). v.size) c.selected-selected.ensures.selected in
    subst (λ n. All (IsLineOf n) c.deref-2.result.now) (sym size)
    (subst (All (IsLineOf s.selected.size)) (sym (c.deref-2.ensures.value ∙ c.in_ok-lines.ensures)) (all_of c.args.u.now s kept c.args.targets.now c.requires.selected c.requires.few few))

pub first_holders-requires-clause-providers : goal.first_holders-requires-clause-providers
first_holders-requires-clause-providers c =
    let s = c.args.s.now in
    let kept = c.selected-selected.ensures.kept in
    let few = members_few s c.selected-selected.result.now c.count-count.result c.selected-selected.ensures.selected c.count-count.ensures.count c.count-count.ensures.within in
    let size : c.size.result ≡ s.selected.size = c.size.ensures.size ∙ ap (λ (v : PairSet). v.size) c.selected-selected.ensures.selected in
    subst (λ n. All (λ p. p < n) c.deref.result.now) (sym size)
    (subst (All (λ p. p < s.selected.size)) (sym (c.deref.ensures.value ∙ c.in_ok-providers.ensures.items ∙ c.provider_pairs.ensures)) (providers_low c.args.u.now s kept c.args.targets.now c.requires.selected c.requires.few few))

pub count_loose-loose-requires-clause-few : goal.count_loose-loose-requires-clause-few
count_loose-loose-requires-clause-few c =
    let s = c.args.s.now in
    let kept = c.selected-selected.ensures.kept in
    let few = members_few s c.selected-selected.result.now c.count-count.result c.selected-selected.ensures.selected c.count-count.ensures.count c.count-count.ensures.within in
    let all = few_providers c.args.u.now s kept c.args.targets.now c.requires.selected c.requires.few few in
    let same = ap length (c.deref-3.ensures.value ∙ c.in_ok-providers.ensures.items ∙ c.provider_pairs.ensures) in
    let size = kept.few in
    omega arith

pub count_loose-loose-requires-clause-held : goal.count_loose-loose-requires-clause-held
count_loose-loose-requires-clause-held c =
    let s = c.args.s.now in
    let kept = c.selected-selected.ensures.kept in
    let few = members_few s c.selected-selected.result.now c.count-count.result c.selected-selected.ensures.selected c.count-count.ensures.count c.count-count.ensures.within in
    let all = c.in_ok-lines.ensures in
    let providers = c.in_ok-providers.ensures.items ∙ c.provider_pairs.ensures in
    let size : c.size.result ≡ s.selected.size = c.size.ensures.size ∙ ap (λ (v : PairSet). v.size) c.selected-selected.ensures.selected in
    let holders : c.in_ok-holders.holders ≡ table c.args.u.now s kept c.args.targets.now c.requires.selected c.requires.few few =
    c.in_ok-holders.ensures ∙ (λ i. map (first_holder ((c.deref-2.ensures.value ∙ all) i) ((c.deref.ensures.value ∙ providers) i)) (range_with_len 0 (size i))) in
    subst (λ t. AreHeld t c.deref-4.result.now) (sym holders)
    (subst (AreHeld (table c.args.u.now s kept c.args.targets.now c.requires.selected c.requires.few few)) (sym (c.deref-4.ensures.value ∙ all)) (are_held c.args.u.now s kept c.args.targets.now c.requires.selected c.requires.few few))

pub add_later_lines-requires : goal.add_later_lines-requires
add_later_lines-requires c =
    let u = c.args.u.now in
    let s = c.args.s.now in
    let g = c.args.targets.now in
    let kept = c.selected-selected.ensures.kept in
    let few = members_few s c.selected-selected.result.now c.count-count.result c.selected-selected.ensures.selected c.count-count.ensures.count c.count-count.ensures.within in
    let same : flat_map (λ p. replicate (get_or c.in_ok-counts.counts p 0 - 1) p) (provider_pairs s) ≡ later_ends u s = (λ i. flat_map (λ p. replicate (c.in_ok-counts.ensures p i - 1) p) (provider_pairs s)) in
    let first = few_lines u s kept g c.requires.selected c.requires.few few in
    let more = few_later u s kept g c.requires.selected c.requires.few few (greatest_low u c.keeps_invariant.ensures.universe) in
    omega (arith, ap length c.in_ok-lines.ensures, first, ap length same, more, kept.few)

pub invariant_of-result : goal.invariant_of-result
invariant_of-result c =
    let u = c.args.u.now in
    let s = c.args.s.now in
    let g = c.args.targets.now in
    let kept = c.selected-selected.ensures.kept in
    let few = members_few s c.selected-selected.result.now c.count-count.result c.selected-selected.ensures.selected c.count-count.ensures.count c.count-count.ensures.within in
    let same : flat_map (λ p. replicate (get_or c.in_ok-counts.counts p 0 - 1) p) (provider_pairs s) ≡ later_ends u s = (λ i. flat_map (λ p. replicate (c.in_ok-counts.ensures p i - 1) p) (provider_pairs s)) in
    let lines : c.add_later_lines.new.lines.items ≡ (lines_of u s g []).lines = c.in_ok-later.ensures.lines ∙ (λ i. c.in_ok-lines.ensures i ++ map (path_to s) (same i)) ∙ sym (all_lines u s kept g c.requires.selected c.requires.few few) in
    let later : c.in_ok-later.later.pairs.items ≡ later_ends u s = c.in_ok-later.ensures.pairs ∙ same in
    let providers : c.in_ok-providers.providers.items ≡ provider_pairs s = c.in_ok-providers.ensures.items ∙ c.provider_pairs.ensures in
    let whole : lines_by c.add_later_lines.new.lines.items c.in_ok-targets.targets.items c.new.result.items c.in_ok-providers.providers.items c.in_ok-later.later.pairs.items ≡ lines_of u s g [] =
    (λ i. lines_by (lines i) (c.in_ok-targets.ensures.items i) (c.new.ensures.items i) (providers i) (later i)) in
    let first = c.in_ok-lines.ensures in
    let size : c.size.result ≡ s.selected.size = c.size.ensures.size ∙ ap (λ (v : PairSet). v.size) c.selected-selected.ensures.selected in
    let holders : c.in_ok-holders.holders ≡ table u s kept g c.requires.selected c.requires.few few =
    c.in_ok-holders.ensures ∙ (λ i. map (first_holder ((c.deref-2.ensures.value ∙ first) i) ((c.deref.ensures.value ∙ providers) i)) (range_with_len 0 (size i))) in
    let count = c.count_loose-loose.ensures ∙ (λ i. length (filter (goes_on ((c.deref-4.ensures.value ∙ first) i) (holders i)) ((c.deref-3.ensures.value ∙ providers) i))) in
    let seconds : AreSeconds (length (map (path_to s) (g ++ other_ends s g))) (later_ends u s) c.in_ok-later.later.seconds (provider_pairs s) =
    subst (λ l. AreSeconds (length (map (path_to s) (g ++ other_ends s g))) l c.in_ok-later.later.seconds (provider_pairs s)) later
    (subst (λ n. AreSeconds n c.in_ok-later.later.pairs.items c.in_ok-later.later.seconds (provider_pairs s)) (ap length first) c.in_ok-later.ensures.seconds) in
    let made = first_table u s kept g c.requires.selected c.requires.few few (greatest_low u c.keeps_invariant.ensures.universe) c.in_ok-counts.counts c.in_ok-later.later.seconds (λ p. c.in_ok-counts.ensures p ∙ sym (slots_are u s c.requires.support g [] p)) seconds in
    let P : LifeLines → List (Option (ℕ × ℕ)) → ℕ → Type 0 = λ z t n. IsTabled z t c.in_ok-counts.counts c.in_ok-later.later.seconds n in
    subst (λ z. P z c.in_ok-holders.holders c.count_loose-loose.result) (sym whole)
    (subst (λ t. P (lines_of u s g []) t c.count_loose-loose.result) (sym holders)
    (subst (P (lines_of u s g []) (table u s kept g c.requires.selected c.requires.few few)) (sym count) made))

pub returns-clause-lines : goal.returns-clause-lines
returns-clause-lines c =
    let u = c.args.u.now in
    let s = c.args.s.now in
    let g = c.args.targets.now in
    let kept = c.selected-selected.ensures.kept in
    let few = members_few s c.selected-selected.result.now c.count-count.result c.selected-selected.ensures.selected c.count-count.ensures.count c.count-count.ensures.within in
    let same : flat_map (λ p. replicate (get_or c.in_ok-counts.counts p 0 - 1) p) (provider_pairs s) ≡ later_ends u s = (λ i. flat_map (λ p. replicate (c.in_ok-counts.ensures p i - 1) p) (provider_pairs s)) in
    let lines : c.add_later_lines.new.lines.items ≡ (lines_of u s g []).lines = c.in_ok-later.ensures.lines ∙ (λ i. c.in_ok-lines.ensures i ++ map (path_to s) (same i)) ∙ sym (all_lines u s kept g c.requires.selected c.requires.few few) in
    let later : c.in_ok-later.later.pairs.items ≡ later_ends u s = c.in_ok-later.ensures.pairs ∙ same in
    let providers : c.in_ok-providers.providers.items ≡ provider_pairs s = c.in_ok-providers.ensures.items ∙ c.provider_pairs.ensures in
    let whole : lines_by c.add_later_lines.new.lines.items c.in_ok-targets.targets.items c.new.result.items c.in_ok-providers.providers.items c.in_ok-later.later.pairs.items ≡ lines_of u s g [] =
    (λ i. lines_by (lines i) (c.in_ok-targets.ensures.items i) (c.new.ensures.items i) (providers i) (later i)) in
    whole

pub returns-clause-are : goal.returns-clause-are
returns-clause-are c =
    let u = c.args.u.now in
    let s = c.args.s.now in
    let g = c.args.targets.now in
    let kept = c.selected-selected.ensures.kept in
    let few = members_few s c.selected-selected.result.now c.count-count.result c.selected-selected.ensures.selected c.count-count.ensures.count c.count-count.ensures.within in
    let same : flat_map (λ p. replicate (get_or c.in_ok-counts.counts p 0 - 1) p) (provider_pairs s) ≡ later_ends u s = (λ i. flat_map (λ p. replicate (c.in_ok-counts.ensures p i - 1) p) (provider_pairs s)) in
    let lines : c.add_later_lines.new.lines.items ≡ (lines_of u s g []).lines = c.in_ok-later.ensures.lines ∙ (λ i. c.in_ok-lines.ensures i ++ map (path_to s) (same i)) ∙ sym (all_lines u s kept g c.requires.selected c.requires.few few) in
    let later : c.in_ok-later.later.pairs.items ≡ later_ends u s = c.in_ok-later.ensures.pairs ∙ same in
    let providers : c.in_ok-providers.providers.items ≡ provider_pairs s = c.in_ok-providers.ensures.items ∙ c.provider_pairs.ensures in
    let whole : lines_by c.add_later_lines.new.lines.items c.in_ok-targets.targets.items c.new.result.items c.in_ok-providers.providers.items c.in_ok-later.later.pairs.items ≡ lines_of u s g [] =
    (λ i. lines_by (lines i) (c.in_ok-targets.ensures.items i) (c.new.ensures.items i) (providers i) (later i)) in
    record {
      are = whole ∙ sym (λ i. lines_of u s (c.in_ok-targets.ensures.items i) (c.new.ensures.items i));
      targets = λ p h. c.requires.selected p (ap (λ l. has l p) (sym c.in_ok-targets.ensures.items) ∙ h);
      own = λ p h. absurd (false≢true (ap (λ l. has l p) (sym c.new.ensures.items) ∙ h));
    }
