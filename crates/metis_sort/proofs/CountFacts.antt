-- Counts of edges and of entries.
use Rattle.std.proofs.Common.{◌≡◌, ℕ, zero, suc, ◌+◌, ◌<◌, ◌≤◌, Bool, true, false, not, cond, ◌&&◌, ◌||◌, List, [], ◌∷◌, ◌++◌, length, replicate, refl, sym, ap, ◌∙◌, arith, nat_eq, inl, inr, length-append}
use Rattle.std.proofs.lemmas.List.{length-replicate}
use Rattle.std.specs.List.{AllByRecursion, filter, flat_map, list_all, list_any, range_with_len}
use Rattle.std.proofs.lemmas.Bool.{false≢true, both_ways, cases_eq, cases_lt, eqb-true, eq-eqb, ne_eqb}
use Rattle.std.proofs.lemmas.List.Elements.{recursion_from_All, filter_agree}
use Rattle.metis_ids.specs.Terms.{Graph, IsGraph, afters, befores, edge_count, has, is_edge, is_ready, joins, occurrences}
use Rattle.metis_ids.proofs.Counts.{occurrences-append}
use Rattle.metis_ids.proofs.Lists.{filter_short, has-push}
use Rattle.metis_sort.specs.Terms.{awaits, edges_from, edges_to, waiting}

-- ---- filters

-- some element passes exactly where the count is not 0, and all pass exactly where the count of those that fail is 0
pub any_by_count : {X : Type 0} (t : X → Bool) (xs : List X) → list_any t xs ≡ not (nat_eq (length (filter t xs)) 0)
any_by_count t [] = refl
any_by_count t (x ∷ xs) = elim (t x) as (λ b. (b || list_any t xs) ≡ not (nat_eq (length (cond b (x ∷ filter t xs) (filter t xs))) 0)) [ true ↦ sym (ap not (ne_eqb (suc (length (filter t xs))) 0 (λ e. absurd (omega arith)))) | false ↦ any_by_count t xs ]

pub all_by_count : {X : Type 0} (s t : X → Bool) → ((x : X) → s x ≡ not (t x)) → (xs : List X) → list_all s xs ≡ nat_eq (length (filter t xs)) 0
all_by_count s t other [] = refl
all_by_count s t other (x ∷ xs) = ap (λ b. b && list_all s xs) (other x) ∙ elim (t x) as (λ b. (not b && list_all s xs) ≡ nat_eq (length (cond b (x ∷ filter t xs) (filter t xs))) 0) [ true ↦ sym (ne_eqb (suc (length (filter t xs))) 0 (λ e. absurd (omega arith))) | false ↦ all_by_count s t other xs ]

-- a test that splits in two
pub split_count : {X : Type 0} (r s t : X → Bool) → ((x : X) → r x ≡ (s x || t x)) → ((x : X) → s x ≡ true → t x ≡ true → ⊥) → (xs : List X) → length (filter r xs) ≡ length (filter s xs) + length (filter t xs)
split_count r s t either apart [] = omega arith
split_count r s t either apart (x ∷ xs) =
    ap (λ b. length (cond b (x ∷ filter r xs) (filter r xs))) (either x) ∙ by (s x) (t x) (apart x) (split_count r s t either apart xs) where
      by : (a b : Bool) → (a ≡ true → b ≡ true → ⊥) → length (filter r xs) ≡ length (filter s xs) + length (filter t xs) →
          length (cond (a || b) (x ∷ filter r xs) (filter r xs)) ≡ length (cond a (x ∷ filter s xs) (filter s xs)) + length (cond b (x ∷ filter t xs) (filter t xs))
      by true true never rest = absurd (never refl refl)
      by true false never rest = omega (arith, rest)
      by false true never rest = omega (arith, rest)
      by false false never rest = rest

-- ---- sums over a range

total : (ℕ → ℕ) → ℕ → ℕ → ℕ
total f a zero = 0
total f a (suc m) = f a + total f (a + 1) m

total_same : (f h : ℕ → ℕ) (m a : ℕ) → ((b : ℕ) → a ≤ b → f b ≡ h b) → total f a m ≡ total h a m
unfolding total
total_same f h zero a same = refl
total_same f h (suc m) a same = let now = same a (omega arith) in let rest = total_same f h m (a + 1) (λ b low. same b (omega arith)) in λ i. now i + rest i

total_none : (f : ℕ → ℕ) (m a : ℕ) → ((b : ℕ) → f b ≡ 0) → total f a m ≡ 0
unfolding total
total_none f zero a none = refl
total_none f (suc m) a none = let now = none a in let rest = total_none f m (a + 1) none in omega arith

total_one_more : (f h : ℕ → ℕ) (x m a : ℕ) → a ≤ x → x < a + m → f x ≡ h x + 1 → ((b : ℕ) → (b ≡ x → ⊥) → f b ≡ h b) → total f a m ≡ total h a m + 1
unfolding total
total_one_more f h x zero a low high more same = absurd (omega arith)
total_one_more f h x (suc m) a low high more same =
    elim (cases_eq a x) [
      | inl here ↦
          let rest = total_same f h m (a + 1) (λ b above. same b (λ e. absurd (omega arith))) in
          let now : f a ≡ h a + 1 = ap f here ∙ more ∙ ap (λ n. h n + 1) (sym here) in
          omega (arith, rest, now)
      | inr other ↦
          let rest = total_one_more f h x m (a + 1) (omega arith) (omega arith) more same in
          let now = same a other in
          omega (arith, rest, now)
    ]

length-pieces : (f : ℕ → ℕ) (m a : ℕ) → length (flat_map (λ b. replicate (f b) b) (range_with_len a m)) ≡ total f a m
unfolding total
length-pieces f zero a = refl
length-pieces f (suc m) a =
    let rest = length-pieces f m (a + 1) in
    omega (arith, length-append (replicate (f a) a) (flat_map (λ b. replicate (f b) b) (range_with_len (a + 1) m)), length-replicate (f a) a, rest)

-- ---- how many edges pass, by a number that each has

module _ (key : (ℕ × ℕ) → ℕ) (p : (ℕ × ℕ) → Bool) (t : ℕ → (ℕ × ℕ) → Bool) (is : (b : ℕ) (e : ℕ × ℕ) → t b e ≡ (p e && nat_eq (key e) b)) (m : ℕ) where
  abbrev keyed : List (ℕ × ℕ) → ℕ → ℕ
  keyed es b = length (filter (t b) es)

  by_key : (es : List (ℕ × ℕ)) → AllByRecursion (λ e. key e < m) es → total (keyed es) 0 m ≡ length (filter p es)
  by_key [] all = total_none (keyed []) m 0 (λ b. refl)
  by_key (e ∷ es) all =
      elim (p e) as (λ b. p e ≡ b → total (keyed (e ∷ es)) 0 m ≡ length (cond b (e ∷ filter p es) (filter p es))) [
        | true ↦ λ now.
            let at : t (key e) e ≡ true = is (key e) e ∙ (λ i. now i && eq-eqb (key e) (key e) refl i) in
            let more = total_one_more (keyed (e ∷ es)) (keyed es) (key e) m 0 (omega arith) (omega (arith, all.0))
            (let one : length (e ∷ filter (t (key e)) es) ≡ length (filter (t (key e)) es) + 1 = omega arith in ap (λ b. length (cond b (e ∷ filter (t (key e)) es) (filter (t (key e)) es))) at ∙ one)
            (λ b other. ap (λ c. length (cond c (e ∷ filter (t b) es) (filter (t b) es))) (is b e ∙ (λ i. now i && ne_eqb (key e) b (λ q. other (sym q)) i))) in
            let rest = by_key es all.1 in
            omega (arith, more, rest)
        | false ↦ λ no'. total_same (keyed (e ∷ es)) (keyed es) m 0 (λ b low. ap (λ c. length (cond c (e ∷ filter (t b) es) (filter (t b) es))) (is b e ∙ ap (λ c. c && nat_eq (key e) b) no')) ∙ by_key es all.1
      ] refl

pub and_swap : (a b : Bool) → (a && b) ≡ (b && a)
and_swap true true = refl
and_swap true false = refl
and_swap false true = refl
and_swap false false = refl

and_true : (b : Bool) → (b && true) ≡ b
and_true true = refl
and_true false = refl

module _ (g : Graph) (ok : IsGraph g) where
  pub length-afters : (a : ℕ) → length (afters g a) ≡ length (filter (λ e. nat_eq e.0 a) g.edges)
  length-afters a = length-pieces (edge_count g a) g.nodes 0 ∙ by_key (λ e. e.1) (λ e. nat_eq e.0 a) (λ b. joins a b) (λ b e. refl) g.nodes g.edges (recursion_from_All (λ e. e.1 < g.nodes) g.edges ok.to)

  pub length-befores : (n : ℕ) → length (befores g n) ≡ length (filter (λ e. nat_eq e.1 n) g.edges)
  length-befores n = length-pieces (λ a. edge_count g a n) g.nodes 0 ∙ by_key (λ e. e.0) (λ e. nat_eq e.1 n) (λ a. joins a n) (λ a e. and_swap (nat_eq e.0 a) (nat_eq e.1 n)) g.nodes g.edges (recursion_from_All (λ e. e.0 < g.nodes) g.edges ok.from)

  pub waiting_first : (n : ℕ) → length (befores g n) ≡ waiting g [] n
  waiting_first n = length-befores n ∙ ap length (filter_agree (λ e. nat_eq e.1 n) (awaits [] n) (λ e. sym (and_true (nat_eq e.1 n))) g.edges)

  pub few_afters : (a : ℕ) → length (afters g a) ≤ length g.edges
  few_afters a = let e = length-afters a in let f = filter_short (λ e. nat_eq e.0 a) g.edges in omega arith

  pub few_befores : (n : ℕ) → length (befores g n) ≤ length g.edges
  few_befores n = let e = length-befores n in let f = filter_short (λ e. nat_eq e.1 n) g.edges in omega arith

-- ---- entries of pieces

occurrences-same : (n k b : ℕ) → b ≡ n → occurrences n (replicate k b) ≡ k
occurrences-same n zero b e = refl
occurrences-same n (suc k) b e = ap (λ c. length (cond c (b ∷ filter (λ x. nat_eq x n) (replicate k b)) (filter (λ x. nat_eq x n) (replicate k b)))) (eq-eqb b n e) ∙ ap suc (occurrences-same n k b e)

occurrences-other : (n k b : ℕ) → (b ≡ n → ⊥) → occurrences n (replicate k b) ≡ 0
occurrences-other n zero b other = refl
occurrences-other n (suc k) b other = ap (λ c. length (cond c (b ∷ filter (λ x. nat_eq x n) (replicate k b)) (filter (λ x. nat_eq x n) (replicate k b)))) (ne_eqb b n other) ∙ occurrences-other n k b other

pub occurrences-outside : (f : ℕ → ℕ) (n m a : ℕ) → ((b : ℕ) → a ≤ b → b < a + m → b ≡ n → ⊥) → occurrences n (flat_map (λ b. replicate (f b) b) (range_with_len a m)) ≡ 0
occurrences-outside f n zero a out = refl
occurrences-outside f n (suc m) a out =
    let now = occurrences-other n (f a) a (out a (omega arith) (omega arith)) in
    let rest = occurrences-outside f n m (a + 1) (λ b low high. out b (omega arith) (omega arith)) in
    omega (arith, occurrences-append n (replicate (f a) a) (flat_map (λ b. replicate (f b) b) (range_with_len (a + 1) m)), now, rest)

pub occurrences-inside : (f : ℕ → ℕ) (n m a : ℕ) → a ≤ n → n < a + m → occurrences n (flat_map (λ b. replicate (f b) b) (range_with_len a m)) ≡ f n
occurrences-inside f n zero a low high = absurd (omega arith)
occurrences-inside f n (suc m) a low high =
    let parts = occurrences-append n (replicate (f a) a) (flat_map (λ b. replicate (f b) b) (range_with_len (a + 1) m)) in
    elim (cases_eq a n) [
      | inl here ↦
          let now = occurrences-same n (f a) a here in
          let rest = occurrences-outside f n m (a + 1) (λ b above below e. absurd (omega arith)) in
          let same = ap f here in
          omega (arith, parts, now, rest, same)
      | inr other ↦
          let now = occurrences-other n (f a) a other in
          let rest = occurrences-inside f n m (a + 1) (omega arith) (omega arith) in
          omega (arith, parts, now, rest)
    ]

pub no_edges : (a n m : ℕ) → m ≤ n → (es : List (ℕ × ℕ)) → AllByRecursion (λ e. e.1 < m) es → length (filter (joins a n) es) ≡ 0
no_edges a n m high [] all = refl
no_edges a n m high (e ∷ es) all =
    ap (λ c. length (cond (nat_eq e.0 a && c) (e ∷ filter (joins a n) es) (filter (joins a n) es))) (ne_eqb e.1 n (λ q. absurd (omega (arith, all.0))))
    ∙ elim (nat_eq e.0 a) as (λ b. length (cond (b && false) (e ∷ filter (joins a n) es) (filter (joins a n) es)) ≡ 0) [ true ↦ no_edges a n m high es all.1 | false ↦ no_edges a n m high es all.1 ]

pub no_edges_from : (a n m : ℕ) → m ≤ a → (es : List (ℕ × ℕ)) → AllByRecursion (λ e. e.0 < m) es → length (filter (joins a n) es) ≡ 0
no_edges_from a n m high [] all = refl
no_edges_from a n m high (e ∷ es) all =
    ap (λ c. length (cond (c && nat_eq e.1 n) (e ∷ filter (joins a n) es) (filter (joins a n) es))) (ne_eqb e.0 a (λ q. absurd (omega (arith, all.0))))
    ∙ no_edges_from a n m high es all.1

module _ (g : Graph) (ok : IsGraph g) where
  pub occurrences-afters : (a n : ℕ) → occurrences n (afters g a) ≡ edge_count g a n
  occurrences-afters a n =
      elim (cases_lt n g.nodes) [
        | inl low ↦ occurrences-inside (edge_count g a) n g.nodes 0 (omega arith) (omega arith)
        | inr high ↦ occurrences-outside (edge_count g a) n g.nodes 0 (λ b above below e. absurd (omega arith)) ∙ sym (no_edges a n g.nodes high g.edges (recursion_from_All (λ e. e.1 < g.nodes) g.edges ok.to))
      ]

  pub occurrences-befores : (a n : ℕ) → occurrences a (befores g n) ≡ edge_count g a n
  occurrences-befores a n =
      elim (cases_lt a g.nodes) [
        | inl low ↦ occurrences-inside (λ b. edge_count g b n) a g.nodes 0 (omega arith) (omega arith)
        | inr high ↦ occurrences-outside (λ b. edge_count g b n) a g.nodes 0 (λ b above below e. absurd (omega arith)) ∙ sym (no_edges_from a n g.nodes high g.edges (recursion_from_All (λ e. e.0 < g.nodes) g.edges ok.from))
      ]

  pub has-afters : (a n : ℕ) → has (afters g a) n ≡ is_edge g a n
  has-afters a n = any_by_count (λ x. nat_eq x n) (afters g a) ∙ ap (λ c. not (nat_eq c 0)) (occurrences-afters a n) ∙ sym (any_by_count (joins a n) g.edges)

  -- ---- one more node is done

  one_done : (d : List ℕ) (x n : ℕ) → has d x ≡ false → (e : ℕ × ℕ) → has (d ++ x ∷ []) e.0 ≡ (has d e.0 || nat_eq e.0 x)
  one_done d x n new e = has-push d x e.0 ∙ ap (λ b. has d e.0 || b) sides where
    sides : nat_eq x e.0 ≡ nat_eq e.0 x
    sides = elim (cases_eq x e.0) [ inl same ↦ eq-eqb x e.0 same ∙ sym (eq-eqb e.0 x (sym same)) | inr other ↦ ne_eqb x e.0 other ∙ sym (ne_eqb e.0 x (λ q. other (sym q))) ]

  pub waiting-push : (d : List ℕ) (x n : ℕ) → has d x ≡ false → waiting g d n ≡ waiting g (d ++ x ∷ []) n + occurrences n (afters g x)
  waiting-push d x n new =
      split_count (awaits d n) (awaits (d ++ x ∷ []) n) (joins x n)
      (λ e.
      both (nat_eq e.1 n) (has d e.0) (nat_eq e.0 x) (λ same. ap (has d) (eqb-true e.0 x same) ∙ new)
      ∙ ap (λ h. (nat_eq e.1 n && not h) || (nat_eq e.0 x && nat_eq e.1 n)) (sym (one_done d x n new e)))
      (λ e s t. never (nat_eq e.1 n) (has d e.0) (nat_eq e.0 x) (sym (ap (λ h. nat_eq e.1 n && not h) (one_done d x n new e)) ∙ s) t)
      g.edges
      ∙ ap (λ k. waiting g (d ++ x ∷ []) n + k) (sym (occurrences-afters x n)) where
        both : (a b c : Bool) → (c ≡ true → b ≡ false) → (a && not b) ≡ ((a && not (b || c)) || (c && a))
        both true true true out = absurd (false≢true (sym (out refl)))
        both true true false out = refl
        both true false true out = refl
        both true false false out = refl
        both false b true out = refl
        both false b false out = refl

        never : (a b c : Bool) → (a && not (b || c)) ≡ true → (c && a) ≡ true → ⊥
        never true true c s t = false≢true s
        never true false true s t = false≢true s
        never true false false s t = false≢true t
        never false b c s t = false≢true s

  pub edges_from-push : (d : List ℕ) (x : ℕ) → has d x ≡ false → edges_from g (d ++ x ∷ []) ≡ edges_from g d + length (afters g x)
  edges_from-push d x new =
      split_count (λ e. has (d ++ x ∷ []) e.0) (λ e. has d e.0) (λ e. nat_eq e.0 x)
      (λ e. one_done d x 0 new e)
      (λ e s t. both_ways (has d e.0) (ap (has d) (eqb-true e.0 x t) ∙ new) s)
      g.edges
      ∙ ap (λ k. edges_from g d + k) (sym (length-afters g ok x))

  pub edges_to-push : (d : List ℕ) (x : ℕ) → has d x ≡ false → edges_to g (d ++ x ∷ []) ≡ edges_to g d + length (befores g x)
  edges_to-push d x new =
      split_count (λ e. has (d ++ x ∷ []) e.1) (λ e. has d e.1) (λ e. nat_eq e.1 x)
      (λ e. has-push d x e.1 ∙ ap (λ b. has d e.1 || b) (sides e.1))
      (λ e s t. both_ways (has d e.1) (ap (has d) (eqb-true e.1 x t) ∙ new) s)
      g.edges
      ∙ ap (λ k. edges_to g d + k) (sym (length-befores g ok x)) where
        sides : (y : ℕ) → nat_eq x y ≡ nat_eq y x
        sides y = elim (cases_eq x y) [ inl same ↦ eq-eqb x y same ∙ sym (eq-eqb y x (sym same)) | inr other ↦ ne_eqb x y other ∙ sym (ne_eqb y x (λ q. other (sym q))) ]

  pub edges_from-few : (d : List ℕ) → edges_from g d ≤ length g.edges
  edges_from-few d = filter_short (λ e. has d e.0) g.edges

  pub edges_to-few : (d : List ℕ) → edges_to g d ≤ length g.edges
  edges_to-few d = filter_short (λ e. has d e.1) g.edges

  -- ---- what is ready waits for no edge

  pub ready_by_count : (d : List ℕ) (n : ℕ) → is_ready g d n ≡ (not (has d n) && nat_eq (waiting g d n) 0)
  ready_by_count d n = ap (λ b. not (has d n) && b) (all_by_count (λ e. not (nat_eq e.1 n) || has d e.0) (awaits d n) (λ e. by (nat_eq e.1 n) (has d e.0)) g.edges) where
    by : (a b : Bool) → (not a || b) ≡ not (a && not b)
    by true true = refl
    by true false = refl
    by false b = refl

  pub waiting_outside : (d : List ℕ) (n : ℕ) → g.nodes ≤ n → waiting g d n ≡ 0
  waiting_outside d n high = none g.edges (recursion_from_All (λ e. e.1 < g.nodes) g.edges ok.to) where
    none : (es : List (ℕ × ℕ)) → AllByRecursion (λ e. e.1 < g.nodes) es → length (filter (awaits d n) es) ≡ 0
    none [] all = refl
    none (e ∷ es) all = ap (λ c. length (cond (c && not (has d e.0)) (e ∷ filter (awaits d n) es) (filter (awaits d n) es))) (ne_eqb e.1 n (λ q. absurd (omega (arith, all.0)))) ∙ none es all.1
