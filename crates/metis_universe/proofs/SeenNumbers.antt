-- Ports by their numbers: a front of the ports has the numbers below its length, and seeing ascending numbers leads from a front to a front.
use Rattle.std.proofs.Common.{◌≡◌, ℕ, ◌+◌, ◌<◌, ◌≤◌, true, false, cond, nat_eq, List, [], ◌∷◌, ◌++◌, length, map, fold, take, get_or, position, unwrap_or, Some, None, inl, inr, refl, ap, sym, ◌∙◌, subst, arith}
use Rattle.std.specs.BTreeSet.{insert_key}
use Rattle.std.specs.List.{list_any, AllByRecursion}
use Rattle.std.specs.List.Sorted.{IsStrictlySortedBy}
use Rattle.std.specs.Ordering.{nat_cmp}
use Rattle.std.specs.Str.{bytes_eq}
use Rattle.std.specs.declared.cmp.Ordering.TheVariants.{Less}
use Rattle.std.proofs.lemmas.Bool.{both_ways, false≢true, cases_lt, eq-eqb, eqb-true, false_from_ne_true, or_cases, or_left, or_right}
use Rattle.std.proofs.lemmas.Bool.Decides.{nat_tests}
use Rattle.std.proofs.lemmas.List.{get_or-take, length-take-le, take_more}
use Rattle.std.proofs.lemmas.List.Elements.{All-from_get_or, recursion_from_All}
use Rattle.std.proofs.lemmas.List.Folds.{list_any_at}
use Rattle.std.proofs.lemmas.List.Quantifiers.{position-Some}
use Rattle.std.proofs.lemmas.Slice.Eq.{bytes_eq-Decides}
use Rattle.metis_ids.proofs.Lists.{each_weaker, none_above}
use Rattle.metis_ids.proofs.Tests.{bytes_same}
use Rattle.metis_universe.specs.Terms.{ascending, has, number_of, sights_after, with_name}
use Rattle.metis_universe.proofs.Ascending.{at_seen, has-insert_key}
use Rattle.metis_universe.proofs.FirstFault.{list_any-from_position}

-- ---- numbers in an ascending list

has_kept : (keys xs : List ℕ) (n : ℕ) → has keys n ≡ true → has (fold (insert_key nat_cmp) keys xs) n ≡ true
has_kept keys [] n h = h
has_kept keys (x ∷ xs) n h = has_kept (insert_key nat_cmp keys x) xs n (has-insert_key n x keys ∙ or_right (nat_eq x n) (has keys n) h)

each_number_in : (f : List ℕ → ℕ) (keys : List ℕ) (names : List (List ℕ)) → AllByRecursion (λ name. has (fold (insert_key nat_cmp) keys (map f names)) (f name) ≡ true) names
each_number_in f keys [] = tt
each_number_in f keys (name ∷ names) = (
  has_kept (insert_key nat_cmp keys (f name)) (map f names) (f name) (has-insert_key (f name) (f name) keys ∙ or_left _ (has keys (f name)) (eq-eqb (f name) (f name) refl)),
  each_number_in f (insert_key nat_cmp keys (f name)) names,
)

-- the number of each name is among the ascending ones
pub each_number : (f : List ℕ → ℕ) (names : List (List ℕ)) → AllByRecursion (λ name. has (ascending (map f names)) (f name) ≡ true) names
each_number f names = each_number_in f [] names

below : (k n y : ℕ) → k ≤ n → nat_cmp n y ≡ Less → nat_cmp k y ≡ Less
below k n y l h = grind (arith, nat_tests)

-- a number of the list that is not above its first is its first
is_first : (k n : ℕ) (ns : List ℕ) → k ≤ n → AllByRecursion (λ y. nat_cmp n y ≡ Less) ns → has (n ∷ ns) k ≡ true → n ≡ k
is_first k n ns l above h = elim (or_cases (nat_eq n k) (has ns k) h) [
  | inl here ↦ eqb-true n k here
  | inr rest ↦ absurd (both_ways (has ns k) (none_above k ns (each_weaker (λ y. nat_cmp n y ≡ Less) (λ y. nat_cmp k y ≡ Less) ns (λ y. below k n y l) above)) rest)
]

is_later : (n j : ℕ) (ns : List ℕ) → n < j → has (n ∷ ns) j ≡ true → has ns j ≡ true
is_later n j ns l h = elim (or_cases (nat_eq n j) (has ns j) h) [ inl here ↦ absurd (omega (arith, eqb-true n j here)) | inr rest ↦ rest ]

-- ---- ports that have different names

abbrev pub Apart : List (List ℕ) → Type 0
Apart ports = (r s : ℕ) → r < length ports → s < length ports → get_or ports r [] ≡ get_or ports s [] → r ≡ s

abbrev pub names_of : List (List ℕ) → List ℕ → List (List ℕ)
names_of ports numbers = map (λ r. get_or ports r []) numbers

module _ (ports : List (List ℕ)) (apart : Apart ports) where
  pub number_at : (n : ℕ) → n < length ports → number_of ports (get_or ports n []) ≡ n
  number_at n l =
      let p = bytes_eq (get_or ports n []) in
      elim (position p ports) as (λ o. position p ports ≡ o → unwrap_or o 0 ≡ n) [
        | None ↦ λ e. absurd (both_ways (list_any p ports) (list_any-from_position p ports e) (list_any_at p ports n [] l (bytes_same (get_or ports n []))))
        | Some i ↦ λ e. let found = position-Some p ports i [] e in sym (apart n i l found.0 ((bytes_eq-Decides (get_or ports n []) (get_or ports i [])).0 found.1))
      ] refl

  -- the names of a front have the numbers below its length
  pub front_numbers : (k : ℕ) → k ≤ length ports → AllByRecursion (λ name. number_of ports name < k) (take k ports)
  front_numbers k l =
      let Below : List ℕ → Type 0 = λ name. number_of ports name < k in
      recursion_from_All Below (take k ports) (All-from_get_or Below (take k ports) [] (λ i less.
      let within : i < k = omega (arith, length-take-le k ports l) in
      subst Below (sym (get_or-take k ports i [] within)) (omega (arith, number_at i (omega arith)))))

  in_front : (k n : ℕ) → n < k → k ≤ length ports → list_any (bytes_eq (get_or ports n [])) (take k ports) ≡ true
  in_front k n less l =
      let p = bytes_eq (get_or ports n []) in
      list_any_at p (take k ports) n [] (omega (arith, length-take-le k ports l)) (ap p (get_or-take k ports n [] less) ∙ bytes_same (get_or ports n []))

  not_in_front : (k n : ℕ) → k ≤ n → n < length ports → list_any (bytes_eq (get_or ports n [])) (take k ports) ≡ false
  not_in_front k n more l =
      false_from_ne_true (list_any (bytes_eq (get_or ports n [])) (take k ports)) (λ e.
      let less = at_seen (λ name. number_of ports name < k) (take k ports) (get_or ports n []) (front_numbers k (omega arith)) e in
      omega (arith, number_at n l))

  -- a port of the front is seen again, and the port after it makes it longer by one
  seen_again : (k n : ℕ) → n < k → k ≤ length ports → with_name (take k ports) (get_or ports n []) ≡ take k ports
  seen_again k n less l = ap (λ b. cond b (take k ports) (take k ports ++ get_or ports n [] ∷ [])) (in_front k n less l)

  seen_first : (k : ℕ) → k < length ports → with_name (take k ports) (get_or ports k []) ≡ take (k + 1) ports
  seen_first k l = ap (λ b. cond b (take k ports) (take k ports ++ get_or ports k [] ∷ [])) (not_in_front k k (omega arith) l) ∙ sym (take_more ports k [] l)

  -- ascending numbers below m that have each number from k on lead from the front of k ports to that of m
  pub seeing_numbers : (k m : ℕ) (ns : List ℕ) → k ≤ m → m ≤ length ports → IsStrictlySortedBy nat_cmp ns → AllByRecursion (λ n. n < m) ns → ((j : ℕ) → k ≤ j → j < m → has ns j ≡ true) →
      sights_after (take k ports) (names_of ports ns) ≡ take m ports
  unfolding IsStrictlySortedBy
  seeing_numbers k m [] le within sorted low all =
      elim (cases_lt k m) [
        | inl less ↦ absurd (false≢true (all k (omega arith) less))
        | inr more ↦ let same : k ≡ m = omega arith in ap (λ i. take i ports) same
      ]
  seeing_numbers k m (n ∷ ns) le within sorted low all =
      elim (cases_lt n k) [
        | inl less ↦
            ap (λ seen. sights_after seen (names_of ports ns)) (seen_again k n less (omega arith))
            ∙ seeing_numbers k m ns le within sorted.1 low.1 (λ j from to. is_later n j ns (omega arith) (all j from to))
        | inr more ↦
            let first : n ≡ k = is_first k n ns more sorted.0 (all k (omega arith) (omega (arith, low.0))) in
            ap (λ i. sights_after (with_name (take k ports) (get_or ports i [])) (names_of ports ns)) first
            ∙ ap (λ seen. sights_after seen (names_of ports ns)) (seen_first k (omega (arith, low.0)))
            ∙ seeing_numbers (k + 1) m ns (omega (arith, low.0)) within sorted.1 low.1 (λ j from to. is_later n j ns (omega arith) (all j (omega arith) to))
      ]
