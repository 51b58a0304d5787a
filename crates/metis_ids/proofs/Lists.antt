-- Lists: members, places, tests of all elements, beginnings, and ranges of numbers.
use Rattle.std.proofs.Common.{◌≡◌, ℕ, zero, suc, ◌+◌, ◌<◌, ◌≤◌, Bool, true, false, cond, ◌&&◌, ◌||◌, List, [], ◌∷◌, ◌++◌, Less, Some, None, append-nil, length, get_or, map, refl, replicate, subst, sym, take, ap, ◌∙◌, arith, nat_eq, nat_lt, nat_cmp, inl, inr}
use Rattle.std.specs.BTreeMap.Range.{IsLtBy}
use Rattle.std.specs.List.{All, AllByRecursion, Contains, filter, flat_map, list_all, list_any, range_with_len, slice_get}
use Rattle.std.specs.Set.{is_member}
use Rattle.std.proofs.Math.Bool.{or-false}
use Rattle.std.proofs.lemmas.Bool.{and_from, and_parts, cases_eq, cases_lt, eq-eqb, eqb-true, false_from_ne_true, false≢true, le-ltb, lt-ltb, or_cases, or_from, or_left, or_right}
use Rattle.std.proofs.lemmas.Bool.Decides.{nat_tests}
use Rattle.std.proofs.lemmas.List.Concat.{flat_map-append}
use Rattle.std.proofs.lemmas.List.Elements.{All-head, All-tail, filter-append, All-cons, All-nil}
use Rattle.std.proofs.lemmas.List.Folds.{list_any-append, list_any_at}
use Rattle.std.proofs.lemmas.Map.Views.{any-filter_same}
use Rattle.std.proofs.lemmas.Option.{same_Some}
use Rattle.metis_ids.specs.Terms.{has}
use Rattle.metis_ids.proofs.Tests.{eq_comm, less_apart}

-- ---- tests of all elements

pub any_alike : {X : Type 0} (t v : X → Bool) (xs : List X) → ((x : X) → t x ≡ v x) → list_any t xs ≡ list_any v xs
any_alike t v [] same = refl
any_alike t v (x ∷ xs) same = λ i. same x i || any_alike t v xs same i

pub list_any-map : {A B : Type 0} (p : B → Bool) (f : A → B) (xs : List A) → list_any p (map f xs) ≡ list_any (λ x. p (f x)) xs
list_any-map p f [] = refl
list_any-map p f (x ∷ xs) = ap (λ b. p (f x) || b) (list_any-map p f xs)

pub list_any-flat_map : {X Y : Type 0} (t : Y → Bool) (g : X → List Y) (xs : List X) → list_any t (flat_map g xs) ≡ list_any (λ x. list_any t (g x)) xs
list_any-flat_map t g [] = refl
list_any-flat_map t g (x ∷ xs) = list_any-append t (g x) (flat_map g xs) ∙ ap (λ b. list_any t (g x) || b) (list_any-flat_map t g xs)

pub any_contained : {X : Type 0} (t : X → Bool) (xs : List X) (x : X) → Contains xs x → t x ≡ true → list_any t xs ≡ true
any_contained t xs x c passes = list_any_at t xs c.0 x c.1 (ap t c.2 ∙ passes)

pub any_place : {X : Type 0} (t : X → Bool) (xs : List X) (i : ℕ) (a : X) → slice_get xs i ≡ Some a → t a ≡ true → list_any t xs ≡ true
any_place t [] i a at h = cc
any_place t (x ∷ xs) zero a at h = or_left (t x) (list_any t xs) (ap t (same_Some x a at) ∙ h)
any_place t (x ∷ xs) (suc i) a at h = or_right (t x) (list_any t xs) (any_place t xs i a at h)

pub each_weaker : {X : Type 0} (P Q : X → Type 0) (xs : List X) → ((x : X) → P x → Q x) → AllByRecursion P xs → AllByRecursion Q xs
each_weaker P Q [] h all = tt
each_weaker P Q (x ∷ xs) h all = (h x all.0, each_weaker P Q xs h all.1)

-- ---- beginnings

pub filter_short : {X : Type 0} (t : X → Bool) (xs : List X) → length (filter t xs) ≤ length xs
filter_short t [] = omega arith
filter_short t (x ∷ xs) = elim (t x) as (λ b. length (cond b (x ∷ filter t xs) (filter t xs)) ≤ suc (length xs)) [
  | true ↦ omega (arith, filter_short t xs)
  | false ↦ omega (arith, filter_short t xs)
]

pub take_short : {X : Type 0} (xs : List X) (k : ℕ) → length (take k xs) ≤ k
take_short [] zero = omega arith
take_short [] (suc k) = omega arith
take_short (x ∷ xs) zero = omega arith
take_short (x ∷ xs) (suc k) = omega (arith, take_short xs k)

pub take_one_more : {X : Type 0} (xs : List X) (k : ℕ) (x : X) → slice_get xs k ≡ Some x → take (suc k) xs ≡ take k xs ++ x ∷ []
take_one_more [] k x h = cc
take_one_more (y ∷ xs) zero x h = let same : y ≡ x = cc in ap (λ z. z ∷ []) same
take_one_more (y ∷ xs) (suc k) x h = ap (λ zs. y ∷ zs) (take_one_more xs k x h)

pub end_past : (xs : List ℕ) (k : ℕ) → None ≡ slice_get xs k → length xs ≤ k
end_past [] k h = omega arith
end_past (x ∷ xs) zero h = absurd (cc)
end_past (x ∷ xs) (suc k) h = let rest = end_past xs k h in omega arith

-- ---- members

pub has_here : (x : ℕ) (xs : List ℕ) → has (x ∷ xs) x ≡ true
has_here x xs = ap (λ b. b || has xs x) (eq-eqb x x refl)

pub has_one : (x n : ℕ) → has (x ∷ []) n ≡ true → x ≡ n
has_one x n h = elim (or_cases (nat_eq x n) false h) [ inl same ↦ eqb-true x n same | inr none ↦ absurd (false≢true none) ]

pub has-append : (xs ys : List ℕ) (n : ℕ) → has (xs ++ ys) n ≡ (has xs n || has ys n)
has-append xs ys n = list_any-append (λ x. nat_eq x n) xs ys

pub has-push : (xs : List ℕ) (x n : ℕ) → has (xs ++ x ∷ []) n ≡ (has xs n || nat_eq x n)
has-push xs x n = has-append xs (x ∷ []) n ∙ ap (λ b. has xs n || b) (or-false (nat_eq x n))

pub has-filter : (p : ℕ → Bool) (q : ℕ) (xs : List ℕ) → has (filter p xs) q ≡ (p q && has xs q)
has-filter p q xs = any-filter_same (λ x. nat_eq x q) p (p q) (λ x h. ap p (eqb-true x q h)) xs

pub has-replicate : (n x q : ℕ) → has (replicate n x) q ≡ true → x ≡ q
has-replicate zero x q h = absurd (false≢true h)
has-replicate (suc n) x q h = elim (or_cases (nat_eq x q) (has (replicate n x) q) h) [
  | inl now ↦ eqb-true x q now
  | inr more ↦ has-replicate n x q more
]

pub is_member-has : (p : ℕ) (xs : List ℕ) → is_member nat_eq xs p ≡ has xs p
is_member-has p [] = refl
is_member-has p (x ∷ xs) = λ i. eq_comm p x i || is_member-has p xs i

-- a member that passes shows that some member does
pub any_at : (t : ℕ → Bool) (q : ℕ) (xs : List ℕ) → has xs q ≡ true → t q ≡ true → list_any t xs ≡ true
any_at t q [] there h = absurd (false≢true there)
any_at t q (x ∷ xs) there h =
    elim (or_cases (nat_eq x q) (has xs q) there) [
      | inl same ↦ or_left _ _ (ap t (eqb-true x q same) ∙ h)
      | inr later ↦ or_right _ _ (any_at t q xs later h)
    ]

pub some_member : (t : ℕ → Bool) (xs : List ℕ) → list_any t xs ≡ true → (q : ℕ) × (has xs q ≡ true) × (t q ≡ true)
some_member t [] h = absurd (false≢true h)
some_member t (x ∷ xs) h =
    elim (or_cases (t x) (list_any t xs) h) [
      | inl now ↦ (x, has_here x xs, now)
      | inr later ↦ let found = some_member t xs later in (found.0, or_right _ _ found.1, found.2)
    ]

-- what all pass, a member passes
pub all_has : (t : ℕ → Bool) (xs : List ℕ) (r : ℕ) → list_all t xs ≡ true → has xs r ≡ true → t r ≡ true
all_has t [] r all h = absurd (false≢true h)
all_has t (x ∷ xs) r all h = elim (or_cases (nat_eq x r) (has xs r) h) [
  | inl is ↦ subst (λ k. t k ≡ true) (eqb-true x r is) (and_parts (t x) (list_all t xs) all).0
  | inr later ↦ all_has t xs r (and_parts (t x) (list_all t xs) all).1 later
]

pub all_at : (P : ℕ → Type 0) (q : ℕ) (xs : List ℕ) → All P xs → has xs q ≡ true → P q
all_at P q [] all h = absurd (false≢true h)
all_at P q (x ∷ xs) all h =
    elim (or_cases (nat_eq x q) _ h) [
      | inl now ↦ subst P (eqb-true x q now) (All-head P x xs all)
      | inr later ↦ all_at P q xs (All-tail P x xs all) later
    ]

pub each_has : (P : ℕ → Type 0) (xs : List ℕ) (p : ℕ) → AllByRecursion P xs → has xs p ≡ true → P p
each_has P [] p all h = absurd (false≢true h)
each_has P (x ∷ xs) p all h = elim (or_cases _ (has xs p) h) [ inl here ↦ subst P (eqb-true x p here) all.0 | inr rest ↦ each_has P xs p all.1 rest ]

-- what stands above all is no member
pub none_above : (k : ℕ) (xs : List ℕ) → AllByRecursion (λ y. nat_cmp k y ≡ Less) xs → has xs k ≡ false
none_above k [] h = refl
none_above k (x ∷ xs) h = or_from (nat_eq x k) (has xs k) (less_apart k x h.0) (none_above k xs h.1)

pub above_rest : (x n : ℕ) (xs : List ℕ) → AllByRecursion (IsLtBy nat_cmp x) xs → has xs n ≡ true → x ≤ n
above_rest x n [] all h = absurd (false≢true h)
above_rest x n (y ∷ xs) all h =
    elim (or_cases (nat_eq y n) (has xs n) h) [
      | inl now ↦ let e = eqb-true y n now in let l = all.0 in grind (arith, nat_tests)
      | inr later ↦ above_rest x n xs all.1 later
    ]

-- a member of what stands above all is above it
pub above_head : (x n : ℕ) (xs : List ℕ) → AllByRecursion (λ y. nat_cmp x y ≡ Less) xs → has xs n ≡ true → x < n
above_head x n [] all h = absurd (false≢true h)
above_head x n (y ∷ xs) all h = elim (or_cases (nat_eq y n) (has xs n) h) [
  | inl now ↦ less y (eqb-true y n now) all.0
  | inr later ↦ above_head x n xs all.1 later
] where
  less : (y : ℕ) → y ≡ n → nat_cmp x y ≡ Less → x < n
  less y e h = grind (arith, nat_tests)

-- ---- members and places

pub has_at : (xs : List ℕ) (k d : ℕ) → k < length xs → has xs (get_or xs k d) ≡ true
has_at [] k d low = absurd (omega arith)
has_at (x ∷ xs) zero d low = has_here x xs
has_at (x ∷ xs) (suc k) d low = or_right _ _ (has_at xs k d (omega arith))

pub place_of : (xs : List ℕ) (n : ℕ) → has xs n ≡ true → (k : ℕ) × (k < length xs) × (get_or xs k 0 ≡ n)
place_of [] n h = absurd (false≢true h)
place_of (x ∷ xs) n h =
    elim (or_cases (nat_eq x n) (has xs n) h) [
      | inl now ↦ (0, omega arith, eqb-true x n now)
      | inr later ↦ let rest = place_of xs n later in (suc rest.0, omega (arith, rest.1), rest.2)
    ]

-- ---- ranges

pub range_next : (a n : ℕ) → range_with_len a (suc n) ≡ range_with_len a n ++ (a + n) ∷ []
range_next a zero = let e : a ≡ a + 0 = omega arith in ap (λ k. k ∷ []) e
range_next a (suc n) = let e : (a + 1) + n ≡ a + suc n = omega arith in ap (λ ns. a ∷ ns) (range_next (a + 1) n ∙ ap (λ k. range_with_len (a + 1) n ++ k ∷ []) e)

pub range_push : (a n : ℕ) → range_with_len a (n + 1) ≡ range_with_len a n ++ (a + n) ∷ []
range_push a n = let next : n + 1 ≡ suc n = omega arith in ap (range_with_len a) next ∙ range_next a n

pub range_more : (n : ℕ) → range_with_len 0 (n + 1) ≡ range_with_len 0 n ++ n ∷ []
range_more n = let same : 0 + n ≡ n = omega arith in range_push 0 n ∙ ap (λ k. range_with_len 0 n ++ k ∷ []) same

pub filter_more : (t : ℕ → Bool) (n : ℕ) → filter t (range_with_len 0 (n + 1)) ≡ filter t (range_with_len 0 n) ++ cond (t n) (n ∷ []) []
filter_more t n = ap (filter t) (range_more n) ∙ filter-append t (range_with_len 0 n) (n ∷ [])

pub flat_more : (f : ℕ → List ℕ) (n : ℕ) → flat_map f (range_with_len 0 (n + 1)) ≡ flat_map f (range_with_len 0 n) ++ f n
flat_more f n = ap (flat_map f) (range_more n) ∙ flat_map-append f (range_with_len 0 n) (n ∷ []) ∙ ap (λ l. flat_map f (range_with_len 0 n) ++ l) (append-nil (f n))

pub has_range : (a n q : ℕ) → a ≤ q → q < a + n → has (range_with_len a n) q ≡ true
has_range a zero q low high = absurd (omega arith)
has_range a (suc n) q low high =
    elim (cases_eq a q) [
      | inl same ↦ or_left _ _ (eq-eqb a q same)
      | inr other ↦ or_right _ _ (has_range (a + 1) n q (omega arith) (omega arith))
    ]

pub in_range : (a n q : ℕ) → has (range_with_len a n) q ≡ true → (a ≤ q) × (q < a + n)
in_range a zero q h = absurd (false≢true h)
in_range a (suc n) q h =
    elim (or_cases (nat_eq a q) _ h) [
      | inl same ↦ let e = eqb-true a q same in (omega arith, omega arith)
      | inr later ↦ let rest = in_range (a + 1) n q later in (omega (arith, rest.0), omega (arith, rest.1))
    ]

pub has_below : (n q : ℕ) → has (range_with_len 0 n) q ≡ nat_lt q n
has_below n q =
    elim (cases_lt q n) [
      | inl low ↦ has_range 0 n q (omega arith) (omega arith) ∙ sym (lt-ltb q n low)
      | inr high ↦ false_from_ne_true _ (λ h. let at = in_range 0 n q h in absurd (omega (arith, at.1))) ∙ sym (le-ltb q n high)
    ]

pub all_in_range : (t : ℕ → Bool) (a n : ℕ) → ((k : ℕ) → a ≤ k → k < a + n → t k ≡ true) → list_all t (range_with_len a n) ≡ true
all_in_range t a zero each = refl
all_in_range t a (suc n) each = and_from (t a) (list_all t (range_with_len (a + 1) n)) (each a (omega arith) (omega arith)) (all_in_range t (a + 1) n (λ k low high. each k (omega arith) (omega arith)))

pub at_range : (t : ℕ → Bool) (a n i : ℕ) → list_all t (range_with_len a n) ≡ true → a ≤ i → i < a + n → t i ≡ true
at_range t a n i all low high = all_has t (range_with_len a n) i all (has_range a n i low high)

pub any_counted : {X : Type 0} (t : X → Bool) (f : ℕ → X) (a n i : ℕ) → a ≤ i → i < a + n → t (f i) ≡ true → list_any t (map f (range_with_len a n)) ≡ true
any_counted t f a zero i low high passes = absurd (omega arith)
any_counted t f a (suc n) i low high passes = elim (cases_eq a i) [
  | inl same ↦ or_left (t (f a)) (list_any t (map f (range_with_len (a + 1) n))) (ap (λ k. t (f k)) same ∙ passes)
  | inr other ↦ or_right (t (f a)) (list_any t (map f (range_with_len (a + 1) n))) (any_counted t f (a + 1) n i (omega arith) (omega arith) passes)
]

-- what is in the beginning of a list is in the list
pub has_take : (xs : List ℕ) (n p : ℕ) → has (take n xs) p ≡ true → has xs p ≡ true
has_take [] zero p h = absurd (false≢true h)
has_take [] (suc n) p h = absurd (false≢true h)
has_take (x ∷ xs) zero p h = absurd (false≢true h)
has_take (x ∷ xs) (suc n) p h = elim (or_cases (nat_eq x p) (has (take n xs) p) h) [ inl at ↦ or_left _ _ at | inr there ↦ or_right (nat_eq x p) _ (has_take xs n p there) ]

-- what holds for each member
pub all_from : (P : ℕ → Type 0) (xs : List ℕ) → ((p : ℕ) → has xs p ≡ true → P p) → All P xs
all_from P [] each = All-nil P
all_from P (x ∷ xs) each = All-cons P x xs (each x (or_left _ _ (eq-eqb x x refl))) (all_from P xs (λ p there. each p (or_right (nat_eq x p) (has xs p) there)))

-- what was put at the end
pub get_at_end : (xs : List ℕ) (x : ℕ) → slice_get (xs ++ x ∷ []) (length xs) ≡ Some x
get_at_end [] x = refl
get_at_end (y ∷ xs) x = get_at_end xs x
