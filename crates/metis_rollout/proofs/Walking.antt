-- A walk over a list of actions, with the configuration that they leave.
use Rattle.std.proofs.Common.{◌≡◌, ℕ, zero, suc, ◌+◌, ◌-◌, ◌<◌, ◌≤◌, ◌||◌, Bool, true, false, cond, not, nat_eq, append-nil, List, [], ◌∷◌, ◌++◌, Option, Some, None, refl, sym, ap, ◌∙◌, subst, arith, inl, inr, take, get_or, length}
use Rattle.std.specs.Prelude.{slice_get}
use Rattle.std.specs.List.{cons_option, find, range_with_len}
use Rattle.std.specs.Map.{lookup}
use Rattle.std.specs.Option.{option_map_or}
use Rattle.std.proofs.lemmas.Bool.{eq-eqb, eqb-true, false≢true, or_cases}
use Rattle.metis_layers.specs.Terms.{place_of}
use Rattle.std.specs.Ordering.{nat_cmp}
use Rattle.std.specs.BTreeSet.{insert_key}
use Rattle.std.proofs.lemmas.List.Elements.{filter_map-append}
use Rattle.std.proofs.lemmas.List.Folds.{list_any-append}
use Rattle.metis_universe.proofs.Ascending.{has-insert_key}
use Rattle.metis_ids.specs.declared.actions.Action.TheVariants.{New, Delete, Bind, Unbind, Move}
use Rattle.metis_rollout.specs.Terms.{free_number, is_made, made_by, news_of, next_free}
use Rattle.std.proofs.lemmas.List.{take_all, take_more}
use Rattle.metis_ids.specs.declared.actions.Action.{Action}
use Rattle.metis_ids.proofs.Lists.{take_short}
use Rattle.metis_universe.specs.Terms.{Allows, Config, IsRun, Universe, after, after_all, config_of, has, is_steadfast, is_steadfast_after}
use Rattle.metis_layers.proofs.Going.{after_all-append}
use Rattle.std.specs.BTreeMap.{insert_entry}
use Rattle.metis_universe.proofs.Edits.{pair_of-put}
use Rattle.metis_rollout.proofs.Unused.{free_number-low}
use Rattle.metis_rollout.proofs.Together.{has-news}
use Rattle.metis_universe.proofs.Places.{steadfast_at}

item_at : (xs : List Action) (i : ℕ) (d : Action) → i < length xs → slice_get xs i ≡ Some (get_or xs i d)
item_at [] i d low = absurd (omega arith)
item_at (x ∷ xs) zero d low = refl
item_at (x ∷ xs) (suc i) d low = item_at xs i d (omega arith)

allowed_at : (u : Universe) (from : Config) (xs : List Action) (i : ℕ) (d : Action) → IsRun u from xs → i < length xs → Allows u (after_all u from (take i xs)) (get_or xs i d)
allowed_at u from [] i d run low = absurd (omega arith)
allowed_at u from (x ∷ xs) zero d run low = run.0
allowed_at u from (x ∷ xs) (suc i) d run low = allowed_at u (after u from x) xs i d run.2 (omega arith)

pub allowed_next : (u : Universe) (from : Config) (xs : List Action) (i : ℕ) (a : Action) (c : Config) → IsRun u from xs → i < length xs → a ≡ get_or xs i a → c ≡ after_all u from (take i xs) → Allows u c a
allowed_next u from xs i a c run low is before = subst (λ d. Allows u d a) (sym before) (subst (Allows u (after_all u from (take i xs))) (sym is) (allowed_at u from xs i a run low))

pub config_next : (u : Universe) (from : Config) (xs : List Action) (i : ℕ) (a : Action) (c d : Config) → i < length xs → a ≡ get_or xs i a → c ≡ after_all u from (take i xs) → d ≡ after u c a → d ≡ after_all u from (take (i + 1) xs)
config_next u from xs i a c d low is before now =
    now ∙ ap (λ e. after u e a) before ∙ sym (after_all-append u from (take i xs) (a ∷ [])) ∙ ap (λ b. after_all u from (take i xs ++ b ∷ [])) is ∙ ap (after_all u from) (sym (take_more xs i a low))

-- ---- a search through numbers

abbrev free_in : List ℕ → ℕ → Bool
free_in used z = not (has used z)

same_range : (i e : ℕ) → i < e → e - i ≡ suc (e - (i + 1))
same_range i e low = omega arith

pub found_here : (used : List ℕ) (from i e : ℕ) → find (free_in used) (range_with_len from (length used + 1)) ≡ find (free_in used) (range_with_len i (e - i)) → i < e → has used i ≡ false → i ≡ next_free used from
found_here used from i e search low free =
    sym (ap (λ o. option_map_or (λ z. z) o from) (search ∙ ap (λ n. find (free_in used) (range_with_len i n)) (same_range i e low) ∙ ap (λ b. cond (not b) (Some i) (find (free_in used) (range_with_len (i + 1) (e - (i + 1))))) free))

pub found_later : (used : List ℕ) (from i e : ℕ) → find (free_in used) (range_with_len from (length used + 1)) ≡ find (free_in used) (range_with_len i (e - i)) → i < e → has used i ≡ true
    → find (free_in used) (range_with_len from (length used + 1)) ≡ find (free_in used) (range_with_len (i + 1) (e - (i + 1)))
found_later used from i e search low taken = search ∙ ap (λ n. find (free_in used) (range_with_len i n)) (same_range i e low) ∙ ap (λ b. cond (not b) (Some i) (find (free_in used) (range_with_len (i + 1) (e - (i + 1))))) taken

-- ---- the numbers that are made

news_next : (xs : List Action) (i : ℕ) (a : Action) → i < length xs → a ≡ get_or xs i a → news_of (take (i + 1) xs) ≡ news_of (take i xs) ++ cons_option (made_by a) []
news_next xs i a low is = ap news_of (take_more xs i a low) ∙ filter_map-append made_by (take i xs) (get_or xs i a ∷ []) ∙ ap (λ b. news_of (take i xs) ++ cons_option (made_by b) []) (sym is)

pub made_next : (xs : List Action) (i : ℕ) (a : Action) (keys new : List ℕ) (z : ℕ) (t : ℕ) → i < length xs → a ≡ get_or xs i a → ((q : ℕ) → has keys q ≡ has (news_of (take i xs)) q) → a ≡ New z t → new ≡ insert_key nat_cmp keys z → (q : ℕ) → has new q ≡ has (news_of (take (i + 1) xs)) q
made_next xs i a keys new z t low is before made now q =
    ap (λ l. has l q) now ∙ has-insert_key q z keys ∙ ap (λ b. nat_eq z q || b) (before q) ∙ swap (nat_eq z q) (has (news_of (take i xs)) q)
    ∙ sym (list_any-append (λ x. nat_eq x q) (news_of (take i xs)) (z ∷ [])) ∙ ap (λ b. has (news_of (take i xs) ++ cons_option (made_by b) []) q) (sym made) ∙ ap (λ l. has l q) (sym (news_next xs i a low is)) where
      swap : (a b : Bool) → (a || b) ≡ (b || (a || false))
      swap true true = refl
      swap true false = refl
      swap false true = refl
      swap false false = refl

pub none_next : (xs : List Action) (i : ℕ) (a : Action) (keys new : List ℕ) → i < length xs → a ≡ get_or xs i a → ((q : ℕ) → has keys q ≡ has (news_of (take i xs)) q) → ((z t : ℕ) → a ≡ New z t → ⊥) → new ≡ keys → (q : ℕ) → has new q ≡ has (news_of (take (i + 1) xs)) q
none_next xs i a keys new low is before other now q = ap (λ l. has l q) now ∙ before q ∙ ap (λ l. has l q) (sym (append-nil (news_of (take i xs)))) ∙ ap (λ o. has (news_of (take i xs) ++ cons_option o []) q) (sym (nothing a other)) ∙ ap (λ l. has l q) (sym (news_next xs i a low is)) where
  nothing : (a : Action) → ((z t : ℕ) → a ≡ New z t → ⊥) → made_by a ≡ None
  nothing (New z t) other = absurd (other z t refl)
  nothing (Delete z) other = refl
  nothing (Bind r z y) other = refl
  nothing (Unbind r z y) other = refl
  nothing (Move z p q) other = refl

-- ---- names

-- each of the numbers has the name of its place behind the first n, and the next name is that of the next place
pub record Named (used : List ℕ) (n : ℕ) (news : List ℕ) (table : List (ℕ × ℕ)) (next : ℕ) : Type 0 where
  pub names : (z : ℕ) → has news z ≡ true → lookup (nat_eq z) table ≡ Some (free_number used (n + place_of news z))
  pub next_is : next ≡ free_number used (n + length news)

pub named_none : (used : List ℕ) (n : ℕ) (table : List (ℕ × ℕ)) (next : ℕ) → next ≡ free_number used n → Named used n [] table next
named_none used n table next is = let same : n ≡ n + 0 = omega arith in record { names = λ z h. absurd (false≢true h); next_is = is ∙ ap (free_number used) same }

place_before : (xs : List ℕ) (z q : ℕ) → has xs q ≡ true → place_of (xs ++ z ∷ []) q ≡ place_of xs q
place_before [] z q h = absurd (false≢true h)
place_before (x ∷ xs) z q h = elim (nat_eq x q) as (λ b. nat_eq x q ≡ b → (b || has xs q) ≡ true → place_of (x ∷ xs ++ z ∷ []) q ≡ place_of (x ∷ xs) q) [
  | true ↦ λ is _. rw is refl
  | false ↦ λ other later. rw other (ap (λ n. 1 + n) (place_before xs z q later))
] refl h

place_last : (xs : List ℕ) (z : ℕ) → has xs z ≡ false → place_of (xs ++ z ∷ []) z ≡ length xs
place_last [] z h = rw (eq-eqb z z refl) refl
place_last (x ∷ xs) z h = elim (nat_eq x z) as (λ b. nat_eq x z ≡ b → (b || has xs z) ≡ false → place_of (x ∷ xs ++ z ∷ []) z ≡ suc (length xs)) [
  | true ↦ λ _ e. absurd (false≢true (sym e))
  | false ↦ λ other e. rw other (ap (λ n. 1 + n) (place_last xs z e) ∙ omega arith)
] refl h

named_push : (used : List ℕ) (first : ℕ) (news : List ℕ) (table table' : List (ℕ × ℕ)) (next next' z : ℕ) → Named used first news table next → has news z ≡ false → ((q : ℕ) → lookup (nat_eq q) table' ≡ cond (nat_eq q z) (Some next) (lookup (nat_eq q) table)) → next' ≡ next_free used (suc next) → Named used first (news ++ z ∷ []) table' next'
named_push used first news table table' next next' z n other now is = record {
  names = λ q h. now q ∙ elim (nat_eq q z) as (λ b. nat_eq q z ≡ b → cond b (Some next) (lookup (nat_eq q) table) ≡ Some (free_number used (first + place_of (news ++ z ∷ []) q))) [
    | true ↦ λ same. ap Some (n.next_is ∙ ap (λ k. free_number used (first + k)) (sym (place_last news z other) ∙ ap (place_of (news ++ z ∷ [])) (sym (eqb-true q z same))))
    | false ↦ λ off.
        let there : has news q ≡ true = elim (or_cases (has news q) (nat_eq z q || false) (sym (list_any-append (λ x. nat_eq x q) news (z ∷ [])) ∙ h)) [
          | inl before ↦ before
          | inr last ↦ absurd (false≢true (sym off ∙ eq-eqb q z (sym (only (nat_eq z q) (λ e. eqb-true z q e) last))))
        ] in
        n.names q there ∙ ap (λ k. Some (free_number used (first + k))) (sym (place_before news z q there))
  ] refl;
  next_is = let more : suc (first + length news) ≡ first + length (news ++ z ∷ []) = omega (arith, length_push news) in is ∙ ap (λ k. next_free used (suc k)) n.next_is ∙ ap (free_number used) more;
} where
  only : {q : ℕ} (b : Bool) → (b ≡ true → z ≡ q) → (b || false) ≡ true → z ≡ q
  only true f e = f refl
  only false f e = absurd (false≢true e)

  length_push : (xs : List ℕ) → length (xs ++ z ∷ []) ≡ suc (length xs)
  length_push [] = refl
  length_push (x ∷ xs) = ap suc (length_push xs)

nothing_made : (a : Action) → ((z t : ℕ) → a ≡ New z t → ⊥) → made_by a ≡ None
nothing_made (New z t) other = absurd (other z t refl)
nothing_made (Delete z) other = refl
nothing_made (Bind r z y) other = refl
nothing_made (Unbind r z y) other = refl
nothing_made (Move z p q) other = refl

pub named_next : (u : Universe) (used : List ℕ) (first : ℕ) (xs : List Action) (i : ℕ) (a : Action) (table new : List (ℕ × ℕ)) (next next' z t : ℕ) → is_steadfast u xs ≡ true → i < length xs → a ≡ get_or xs i a → Named used first (news_of (take i xs)) table next → a ≡ New z t
    → new ≡ insert_entry nat_cmp table z next → next' ≡ next_free used (next + 1) → Named used first (news_of (take (i + 1) xs)) new next'
named_next u used first xs i a table new next next' z t steady low is n made now then =
    let unused : has (news_of (take i xs)) z ≡ false = has-news (take i xs) z ∙ not_true (is_made (take i xs) z) (subst (λ b. is_steadfast_after u (take i xs) b ≡ true) made (steadfast_at u xs i a steady (item_at xs i a low ∙ ap Some (sym is)))) in
    let e : next + 1 ≡ suc next = omega arith in
    let news : news_of (take (i + 1) xs) ≡ news_of (take i xs) ++ z ∷ [] = news_next xs i a low is ∙ ap (λ b. news_of (take i xs) ++ cons_option (made_by b) []) made in
    subst (λ l. Named used first l new next') (sym news)
    (named_push used first (news_of (take i xs)) table new next next' z n unused (λ q. ap (λ es. lookup (nat_eq q) es) now ∙ pair_of-put (config_of table []) z next q) (then ∙ ap (next_free used) e)) where
      not_true : (b : Bool) → not b ≡ true → b ≡ false
      not_true true h = absurd (false≢true h)
      not_true false h = refl

pub named_same : (used : List ℕ) (first : ℕ) (xs : List Action) (i : ℕ) (a : Action) (table new : List (ℕ × ℕ)) (next next' : ℕ) → i < length xs → a ≡ get_or xs i a → Named used first (news_of (take i xs)) table next → ((z t : ℕ) → a ≡ New z t → ⊥) → new ≡ table → next' ≡ next → Named used first (news_of (take (i + 1) xs)) new next'
named_same used first xs i a table new next next' low is n other now then =
    let news : news_of (take (i + 1) xs) ≡ news_of (take i xs) = news_next xs i a low is ∙ ap (λ o. news_of (take i xs) ++ cons_option o []) (nothing_made a other) ∙ append-nil (news_of (take i xs)) in
    subst (λ l. Named used first l new next') (sym news) (subst (λ t. Named used first (news_of (take i xs)) t next') (sym now) (subst (λ m. Named used first (news_of (take i xs)) table m) (sym then) n))

pub news_few : (xs : List Action) → length (news_of xs) ≤ length xs
news_few [] = omega arith
news_few (a ∷ xs) = by (made_by a) (news_few xs) where
  by : (o : Option ℕ) → length (news_of xs) ≤ length xs → length (cons_option o (news_of xs)) ≤ suc (length xs)
  by None h = omega arith
  by (Some z) h = omega arith

-- the next name is small
pub next_small : (used : List ℕ) (first : ℕ) (xs : List Action) (i : ℕ) (table : List (ℕ × ℕ)) (next : ℕ) → Named used first (news_of (take i xs)) table next → next ≤ length used + first + i
next_small used first xs i table next n = omega (arith, n.next_is, free_number-low used (first + length (news_of (take i xs))), news_few (take i xs), take_short xs i)

pub named_all : (used : List ℕ) (first : ℕ) (xs : List Action) (i : ℕ) (table : List (ℕ × ℕ)) (next : ℕ) → Named used first (news_of (take i xs)) table next → length xs ≤ i → Named used first (news_of xs) table next
named_all used first xs i table next n high = subst (λ l. Named used first (news_of l) table next) (take_all i xs high) n
