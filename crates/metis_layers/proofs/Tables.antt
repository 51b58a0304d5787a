-- Lists that have an entry for each number below some number.
use Rattle.std.proofs.Common.{◌≡◌, ℕ, zero, suc, ◌+◌, ◌<◌, ◌≤◌, Bool, true, false, cond, List, [], ◌∷◌, ◌++◌, length, map, take, replicate, get_or, Option, Some, None, refl, sym, ap, ◌∙◌, arith, append-nil, append_assoc}
use Rattle.std.proofs.lemmas.List.{length-map}
use Rattle.std.proofs.lemmas.List.Folds.{find-append}
use Rattle.std.proofs.lemmas.List.FromFn.{length-range_with_len}
use Rattle.std.specs.List.{filter, find, flat_map, range_with_len, AllByRecursion}
use Rattle.std.specs.Option.{option_or}
use Rattle.metis_ids.proofs.Lists.{filter_more, range_more}
use Rattle.metis_layers.proofs.Sets.{take_more}

pub map_append : {A : Type 0} (f : ℕ → A) (xs ys : List ℕ) → map f (xs ++ ys) ≡ map f xs ++ map f ys
map_append f [] ys = refl
map_append f (x ∷ xs) ys = ap (λ l. f x ∷ l) (map_append f xs ys)

pub map_more : {A : Type 0} (f : ℕ → A) (n : ℕ) → map f (range_with_len 0 (n + 1)) ≡ map f (range_with_len 0 n) ++ f n ∷ []
map_more f n = ap (map f) (range_more n) ∙ map_append f (range_with_len 0 n) (n ∷ [])

-- one more entry
pub pushed : {A : Type 0} (f : ℕ → A) (n : ℕ) (v v' : List A) (x : A) → v' ≡ v ++ x ∷ [] → v ≡ map f (range_with_len 0 n) → x ≡ f n → v' ≡ map f (range_with_len 0 (n + 1))
pushed f n v v' x is old at = is ∙ ap (λ l. l ++ x ∷ []) old ∙ ap (λ y. map f (range_with_len 0 n) ++ y ∷ []) at ∙ sym (map_more f n)

pub find_more : (t : ℕ → Bool) (n : ℕ) → find t (range_with_len 0 (n + 1)) ≡ option_or (find t (range_with_len 0 n)) (cond (t n) (Some n) None)
find_more t n = ap (find t) (range_more n) ∙ find-append t (range_with_len 0 n) (n ∷ [])

-- ---- entries

at_map : {A : Type 0} (f : ℕ → A) (n a i : ℕ) (d : A) → i < n → get_or (map f (range_with_len a n)) i d ≡ f (a + i)
at_map f zero a i d low = absurd (omega arith)
at_map f (suc n) a zero d low = ap f (omega arith)
at_map f (suc n) a (suc i) d low = let next : a + 1 + i ≡ a + suc i = omega arith in at_map f n (a + 1) i d (omega arith) ∙ ap f next

pub entry : {A : Type 0} (f : ℕ → A) (n i : ℕ) (d : A) → i < n → get_or (map f (range_with_len 0 n)) i d ≡ f i
entry f n i d low = let same : 0 + i ≡ i = omega arith in at_map f n 0 i d low ∙ ap f same

pub entries_count : {A : Type 0} (f : ℕ → A) (n : ℕ) → length (map f (range_with_len 0 n)) ≡ n
entries_count f n = length-map (range_with_len 0 n) f ∙ length-range_with_len 0 n

map_alike : {A : Type 0} (f g : ℕ → A) (n a : ℕ) → ((p : ℕ) → a ≤ p → p < a + n → f p ≡ g p) → map f (range_with_len a n) ≡ map g (range_with_len a n)
map_alike f g zero a alike = refl
map_alike f g (suc n) a alike = let head = alike a (omega arith) (omega arith) in let rest = map_alike f g n (a + 1) (λ p low high. alike p (omega arith) (omega arith)) in λ i. head i ∷ rest i

pub entries_alike : {A : Type 0} (f g : ℕ → A) (n : ℕ) → ((p : ℕ) → p < n → f p ≡ g p) → map f (range_with_len 0 n) ≡ map g (range_with_len 0 n)
entries_alike f g n alike = map_alike f g n 0 (λ p low high. alike p (omega arith))

filter_alike : (s t : ℕ → Bool) (n a : ℕ) → ((p : ℕ) → a ≤ p → p < a + n → s p ≡ t p) → filter s (range_with_len a n) ≡ filter t (range_with_len a n)
filter_alike s t zero a alike = refl
filter_alike s t (suc n) a alike =
    let head = alike a (omega arith) (omega arith) in let rest = filter_alike s t n (a + 1) (λ p low high. alike p (omega arith) (omega arith)) in λ i. cond (head i) (a ∷ rest i) (rest i)

pub kept_alike : (s t : ℕ → Bool) (n : ℕ) → ((p : ℕ) → p < n → s p ≡ t p) → filter s (range_with_len 0 n) ≡ filter t (range_with_len 0 n)
kept_alike s t n alike = filter_alike s t n 0 (λ p low high. alike p (omega arith))

none_first : {A : Type 0} (n a : ℕ) → replicate n None ≡ map {A = ℕ} {B = Option A} (λ p. None) (range_with_len a n)
none_first zero a = refl
none_first (suc n) a = ap (λ l. None ∷ l) (none_first n (a + 1))

pub no_entries : {A : Type 0} (n : ℕ) → replicate n None ≡ map {A = ℕ} {B = Option A} (λ p. None) (range_with_len 0 n)
no_entries n = none_first n 0

-- ---- a search

pub found_at : (t : ℕ → Bool) (xs : List ℕ) (i x : ℕ) → i < length xs → x ≡ get_or xs i x → find t (take i xs) ≡ None → t x ≡ true → Some x ≡ find t xs
found_at t [] i x low at none passes = absurd (omega arith)
found_at t (y ∷ xs) zero x low at none passes = ap Some at ∙ ap (λ b. cond b (Some y) (find t xs)) (sym passes ∙ ap t at)
found_at t (y ∷ xs) (suc i) x low at none passes =
    elim (t y) as (λ b. cond b (Some y) (find t (take i xs)) ≡ None → Some x ≡ cond b (Some y) (find t xs)) [
      | true ↦ λ e. cc
      | false ↦ λ e. found_at t xs i x (omega arith) at e passes
    ] none

pub not_found_yet : (t : ℕ → Bool) (xs : List ℕ) (i x : ℕ) → i < length xs → x ≡ get_or xs i x → find t (take i xs) ≡ None → t x ≡ false → find t (take (i + 1) xs) ≡ None
not_found_yet t xs i x low at none fails = ap (find t) (take_more xs i x low at) ∙ find-append t (take i xs) (x ∷ []) ∙ rw (none, fails) refl

-- ---- all numbers are low

pub all_append : (P : ℕ → Type 0) (xs ys : List ℕ) → AllByRecursion P xs → AllByRecursion P ys → AllByRecursion P (xs ++ ys)
all_append P [] ys one two = two
all_append P (x ∷ xs) ys one two = (one.0, all_append P xs ys one.1 two)

low_kept : (t : ℕ → Bool) (m n a : ℕ) → a + n ≤ m → AllByRecursion (λ p. p < m) (filter t (range_with_len a n))
low_kept t m zero a low = tt
low_kept t m (suc n) a low =
    let rest = low_kept t m n (a + 1) (omega arith) in
    elim (t a) as (λ b. AllByRecursion (λ p. p < m) (cond b (a ∷ filter t (range_with_len (a + 1) n)) (filter t (range_with_len (a + 1) n)))) [ true ↦ (omega arith, rest) | false ↦ rest ]

pub all_low : (t : ℕ → ℕ → Bool) (n : ℕ) (ks : List ℕ) → AllByRecursion (λ p. p < n) (flat_map (λ k. filter (t k) (range_with_len 0 n)) ks)
all_low t n [] = tt
all_low t n (k ∷ ks) = all_append (λ p. p < n) (filter (t k) (range_with_len 0 n)) (flat_map (λ j. filter (t j) (range_with_len 0 n)) ks) (low_kept (t k) n n 0 (omega arith)) (all_low t n ks)

-- ---- a list that grows by what a test keeps

pub kept_after : (t : ℕ → Bool) (n : ℕ) (first v v' : List ℕ) → v' ≡ v ++ n ∷ [] → v ≡ first ++ filter t (range_with_len 0 n) → t n ≡ true → v' ≡ first ++ filter t (range_with_len 0 (n + 1))
kept_after t n first v v' is old passes =
    is ∙ ap (λ l. l ++ n ∷ []) old ∙ append_assoc first (filter t (range_with_len 0 n)) (n ∷ []) ∙ ap (λ b. first ++ (filter t (range_with_len 0 n) ++ cond b (n ∷ []) [])) (sym passes) ∙ ap (λ l. first ++ l) (sym (filter_more t n))

pub same_after : (t : ℕ → Bool) (n : ℕ) (first v : List ℕ) → v ≡ first ++ filter t (range_with_len 0 n) → t n ≡ false → v ≡ first ++ filter t (range_with_len 0 (n + 1))
same_after t n first v old fails =
    old ∙ ap (λ l. first ++ l) (sym (append-nil (filter t (range_with_len 0 n))) ∙ ap (λ b. filter t (range_with_len 0 n) ++ cond b (n ∷ []) []) (sym fails) ∙ sym (filter_more t n))
