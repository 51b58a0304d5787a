-- The ports of the universe of rows are numbered by first sight also as its pairs' ascending lists give them.
use Rattle.std.proofs.Common.{◌≡◌, ℕ, ◌+◌, ◌<◌, ◌≤◌, ◌⊎◌, true, false, cond, List, [], ◌∷◌, ◌++◌, length, map, take, get_or, flat_map, inl, inr, refl, ap, sym, ◌∙◌, subst, append_assoc, length-append, arith}
use Rattle.std.specs.List.{list_any, AllByRecursion}
use Rattle.std.specs.Str.{bytes_eq}
use Rattle.std.proofs.lemmas.List.{append-nil, get_or-take, length-take-le, map-append, take-take, take_all, take_at}
use Rattle.std.proofs.lemmas.List.Concat.{flat_map-append}
use Rattle.std.proofs.lemmas.List.Elements.{All-from_recursion}
use Rattle.std.proofs.lemmas.List.Sums.{fold-append}
use Rattle.metis_ids.proofs.Lists.{each_weaker}
use Rattle.metis_universe.specs.Terms.{IsBySight, Pair, StateRow, TypeRow, ascending, has, names_needed, number_of, pair_from, pairs_from, pairs_of_type, ports_of, ports_of_state, ports_of_type, sights_after, universe_from, with_name}
use Rattle.metis_universe.proofs.Ascending.{at_seen, each_map, each_ascending, sorted_ascending}
use Rattle.metis_universe.proofs.FirstSights.{each_seen, sights_keep}
use Rattle.metis_universe.proofs.SeenNumbers.{Apart, names_of, each_number, number_at, front_numbers, seeing_numbers}

-- ---- sights only append

one_more : (seen : List (List ℕ)) (name : List ℕ) → (more : List (List ℕ)) × (with_name seen name ≡ seen ++ more)
one_more seen name = elim (list_any (bytes_eq name) seen) as (λ b. (more : List (List ℕ)) × (cond b seen (seen ++ name ∷ []) ≡ seen ++ more)) [
  | true ↦ ([], sym (append-nil seen))
  | false ↦ (name ∷ [], refl)
]

only_append : (seen names : List (List ℕ)) → (more : List (List ℕ)) × (sights_after seen names ≡ seen ++ more)
only_append seen [] = ([], sym (append-nil seen))
only_append seen (name ∷ names) =
    let one = one_more seen name in
    let rest = only_append (with_name seen name) names in
    (one.0 ++ rest.0, rest.1 ∙ ap (λ now. now ++ rest.0) one.1 ∙ append_assoc seen one.0 rest.0)

-- where names lead to a front of the ports, what was seen before is one, and no longer
front_before : (ports seen names : List (List ℕ)) (m : ℕ) → m ≤ length ports → sights_after seen names ≡ take m ports → (length seen ≤ m) × (seen ≡ take (length seen) ports)
front_before ports seen names m within e =
    let more = only_append seen names in
    let whole : seen ++ more.0 ≡ take m ports = sym more.1 ∙ e in
    let shorter : length seen ≤ m = omega (arith, length-append seen more.0, ap length whole, length-take-le m ports within) in
    (shorter, sym (take_at seen more.0 (length seen) refl) ∙ ap (take (length seen)) whole ∙ take-take (length seen) m ports shorter)

-- ---- the same sights from other names

-- where seeing the first names leads from a front of the ports to a front, seeing the second ones leads there too
abbrev Retold : List (List ℕ) → List (List ℕ) → List (List ℕ) → Type 0
Retold ports names others = (k m : ℕ) → k ≤ length ports → m ≤ length ports → sights_after (take k ports) names ≡ take m ports → sights_after (take k ports) others ≡ take m ports

Retold-append : (ports xs ys vs ws : List (List ℕ)) → Retold ports xs ys → Retold ports vs ws → Retold ports (xs ++ vs) (ys ++ ws)
Retold-append ports xs ys vs ws first rest k m lk lm e =
    let seen = sights_after (take k ports) xs in
    let led : sights_after seen vs ≡ take m ports = sym (fold-append with_name (take k ports) xs vs) ∙ e in
    let front = front_before ports seen vs m lm led in
    let within : length seen ≤ length ports = omega (arith, front.0) in
    fold-append with_name (take k ports) ys ws
    ∙ ap (λ now. sights_after now ws) (first k (length seen) lk within front.1)
    ∙ rest (length seen) m within lm (ap (λ now. sights_after now vs) (sym front.1) ∙ led)

module _ (ports : List (List ℕ)) (apart : Apart ports) where
  -- each number between the fronts is that of some name
  all_between : (k m : ℕ) (names : List (List ℕ)) → k ≤ length ports → m ≤ length ports → sights_after (take k ports) names ≡ take m ports → (j : ℕ) → k ≤ j → j < m → has (ascending (map (number_of ports) names)) j ≡ true
  all_between k m names lk lm e j from to =
      let numbers = ascending (map (number_of ports) names) in
      let Below : List ℕ → Type 0 = λ name. number_of ports name < k in
      let Among : List ℕ → Type 0 = λ name. has numbers (number_of ports name) ≡ true in
      let Either : List ℕ → Type 0 = λ name. Below name ⊎ Among name in
      let before = each_weaker Below Either (take k ports) (λ _ b. inl b) (front_numbers ports apart k lk) in
      let own = each_weaker Among Either names (λ _ a. inr a) (each_number (number_of ports) names) in
      let each : AllByRecursion Either (take m ports) = subst (AllByRecursion Either) e (sights_keep Either (take k ports) names before own) in
      let here : Either (get_or ports j []) = subst Either (get_or-take m ports j [] to) (All-from_recursion Either (take m ports) each j [] (omega (arith, length-take-le m ports lm))) in
      let is = number_at ports apart j (omega arith) in
      elim here [ inl b ↦ absurd (omega arith) | inr a ↦ ap (has numbers) (sym is) ∙ a ]

  Retold-ascending : (names : List (List ℕ)) → Retold ports names (names_of ports (ascending (map (number_of ports) names)))
  Retold-ascending names k m lk lm e =
      let front = front_before ports (take k ports) names m lm e in
      let P : ℕ → Type 0 = λ n. n < m in
      let Seen : List ℕ → Type 0 = λ name. list_any (bytes_eq name) (take m ports) ≡ true in
      let seen : AllByRecursion Seen names = subst (λ now. AllByRecursion (λ name. list_any (bytes_eq name) now ≡ true) names) e (each_seen (take k ports) names) in
      let low = each_weaker Seen (λ name. P (number_of ports name)) names (λ name. at_seen (λ name. P (number_of ports name)) (take m ports) name (front_numbers ports apart m lm)) seen in
      seeing_numbers ports apart k m (ascending (map (number_of ports) names)) (omega (arith, front.0, length-take-le k ports lk)) lm
      (sorted_ascending (map (number_of ports) names))
      (each_ascending P (map (number_of ports) names) (each_map P (number_of ports) names low))
      (all_between k m names lk lm e)

  abbrev names_of_pair : Pair → List (List ℕ)
  names_of_pair p = names_of ports (p.provided ++ p.required)

  Retold-state : (t first : ℕ) (row : TypeRow) (state : StateRow) → Retold ports (ports_of_state state) (names_of_pair (pair_from ports t first row state))
  Retold-state t first row state =
      let provided = ascending (map (number_of ports) state.provide) in
      let required = ascending (map (number_of ports) (names_needed state.require)) in
      subst (Retold ports (ports_of_state state)) (sym (map-append (λ r. get_or ports r []) provided required))
      (Retold-append ports state.provide (names_of ports provided) (names_needed state.require) (names_of ports required) (Retold-ascending state.provide) (Retold-ascending (names_needed state.require)))

  Retold-states : (t first : ℕ) (row : TypeRow) (states : List StateRow) → Retold ports (flat_map ports_of_state states) (flat_map names_of_pair (map (pair_from ports t first row) states))
  Retold-states t first row [] = λ _ _ _ _ e. e
  Retold-states t first row (state ∷ states) =
      Retold-append ports (ports_of_state state) (names_of_pair (pair_from ports t first row state)) (flat_map ports_of_state states) (flat_map names_of_pair (map (pair_from ports t first row) states))
      (Retold-state t first row state) (Retold-states t first row states)

  Retold-rows : (t first : ℕ) (rows : List TypeRow) → Retold ports (flat_map ports_of_type rows) (flat_map names_of_pair (pairs_from ports t first rows))
  Retold-rows t first [] = λ _ _ _ _ e. e
  Retold-rows t first (row ∷ rows) =
      let own = pairs_of_type ports t first row in
      let later = pairs_from ports (t + 1) (first + length row.states) rows in
      subst (Retold ports (flat_map ports_of_type (row ∷ rows))) (sym (flat_map-append names_of_pair own later))
      (Retold-append ports (ports_of_type row) (flat_map names_of_pair own) (flat_map ports_of_type rows) (flat_map names_of_pair later)
      (Retold-states t first row row.states) (Retold-rows (t + 1) (first + length row.states) rows))

pub IsBySight-universe_from : (version : ℕ) (rows : List TypeRow) → Apart (ports_of rows) → IsBySight (universe_from version rows)
IsBySight-universe_from version rows apart =
    let ports = ports_of rows in
    let all : take (length ports) ports ≡ ports = take_all (length ports) ports (omega arith) in
    Retold-rows ports apart 0 0 rows 0 (length ports) (omega arith) (omega arith) (sym all) ∙ all
