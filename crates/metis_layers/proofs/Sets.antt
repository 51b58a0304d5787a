-- Sets that grow by one number.
use Rattle.std.proofs.Common.{Some, append-nil, get_or, ◌≡◌, ℕ, zero, suc, ◌+◌, ◌<◌, Bool, true, false, cond, ◌||◌, List, [], ◌∷◌, ◌++◌, length, take, Greater, refl, sym, ap, ◌∙◌, arith, nat_eq, nat_cmp}
use Rattle.std.proofs.lemmas.Bool.{eq-eqb, or_left, or_right, and_parts}
use Rattle.std.proofs.lemmas.List.Elements.{filter-append}
use Rattle.std.proofs.lemmas.List.Folds.{list_any-append}
use Rattle.std.proofs.lemmas.Option.{slice_get-get_or}
use Rattle.std.specs.BTreeSet.{insert_key}
use Rattle.std.specs.Cmp.{nat_cmp_is}
use Rattle.std.specs.List.{filter, list_any, range_with_len, slice_get}
use Rattle.metis_ids.proofs.Inserted.{has-insert_key}
use Rattle.metis_ids.proofs.Lists.{range_more}
use Rattle.metis_universe.proofs.Rounds.{has-filter}
use Rattle.metis_universe.specs.Terms.{has}
use Rattle.metis_layers.proofs.Ways.{in_range}

-- ---- a range and one more

pub insert_above : (xs : List ℕ) (n : ℕ) → ((x : ℕ) → has xs x ≡ true → x < n) → insert_key nat_cmp xs n ≡ xs ++ n ∷ []
insert_above [] n below = refl
insert_above (x ∷ xs) n below =
    let more = nat_cmp_is n x Greater (below x (or_left (nat_eq x x) (has xs x) (eq-eqb x x refl))) in
    rw (sym more) (ap (λ l. x ∷ l) (insert_above xs n (λ y h. below y (or_right (nat_eq x y) (has xs y) h))))

pub kept_in : (t : ℕ → Bool) (n : ℕ) (s s' : List ℕ) → s ≡ filter t (range_with_len 0 n) → s' ≡ insert_key nat_cmp s n → t n ≡ true → s' ≡ filter t (range_with_len 0 (n + 1))
kept_in t n s s' old is passes =
    is ∙ ap (λ l. insert_key nat_cmp l n) old
    ∙ insert_above (filter t (range_with_len 0 n)) n (λ x h. omega (arith, in_range 0 n x (and_parts (t x) (has (range_with_len 0 n) x) (sym (has-filter t x (range_with_len 0 n)) ∙ h)).1))
    ∙ ap (λ b. filter t (range_with_len 0 n) ++ cond b (n ∷ []) []) (sym passes)
    ∙ sym (filter-append t (range_with_len 0 n) (n ∷ [])) ∙ ap (filter t) (sym (range_more n))

pub left_out : (t : ℕ → Bool) (n : ℕ) (s : List ℕ) → s ≡ filter t (range_with_len 0 n) → t n ≡ false → s ≡ filter t (range_with_len 0 (n + 1))
left_out t n s old fails =
    old ∙ sym (append-nil (filter t (range_with_len 0 n))) ∙ ap (λ b. filter t (range_with_len 0 n) ++ cond b (n ∷ []) []) (sym fails)
    ∙ sym (filter-append t (range_with_len 0 n) (n ∷ [])) ∙ ap (filter t) (sym (range_more n))

-- ---- a list and its first elements

take_one_more : (xs : List ℕ) (i x : ℕ) → slice_get xs i ≡ Some x → take (i + 1) xs ≡ take i xs ++ x ∷ []
take_one_more [] i x is = cc
take_one_more (y ∷ xs) zero x is = ap (λ k. k ∷ []) (some_same y x is) where
  some_same : (a b : ℕ) → Some a ≡ Some b → a ≡ b
  some_same a b h = cc
take_one_more (y ∷ xs) (suc i) x is = let next : suc i + 1 ≡ suc (i + 1) = omega arith in ap (λ n. take n (y ∷ xs)) next ∙ ap (λ l. y ∷ l) (take_one_more xs i x is)

pub take_more : (xs : List ℕ) (i x : ℕ) → i < length xs → x ≡ get_or xs i x → take (i + 1) xs ≡ take i xs ++ x ∷ []
take_more xs i x low at = take_one_more xs i x (slice_get-get_or xs i x low ∙ ap Some (sym at))

-- one more number of a list goes into a set
pub gathered : (xs s s' old : List ℕ) (i x : ℕ) → i < length xs → x ≡ get_or xs i x → s' ≡ insert_key nat_cmp s x → ((q : ℕ) → has s q ≡ (has (take i xs) q || has old q)) → (q : ℕ) → has s' q ≡ (has (take (i + 1) xs) q || has old q)
gathered xs s s' old i x low at is before q =
    ap (λ l. has l q) is ∙ has-insert_key s x q ∙ ap (λ b. nat_eq x q || b) (before q)
    ∙ swap (nat_eq x q) (has (take i xs) q) (has old q)
    ∙ ap (λ b. b || has old q) (sym (list_any-append (λ y. nat_eq y q) (take i xs) (x ∷ []))) ∙ ap (λ l. has l q || has old q) (sym (take_more xs i x low at)) where
      swap : (a b c : Bool) → (a || (b || c)) ≡ ((b || (a || false)) || c)
      swap true true c = refl
      swap true false c = refl
      swap false true c = refl
      swap false false c = refl

-- what one more pair brings
pub brought : (f : ℕ → List ℕ) (ys : List ℕ) (p : ℕ) (s s' : List ℕ) → ((q : ℕ) → has s q ≡ list_any (λ y. has (f y) q) ys) → ((q : ℕ) → has s' q ≡ (has (f p) q || has s q)) → (q : ℕ) → has s' q ≡ list_any (λ y. has (f y) q) (ys ++ p ∷ [])
brought f ys p s s' before now q =
    now q ∙ ap (λ b. has (f p) q || b) (before q) ∙ swap (has (f p) q) (list_any (λ y. has (f y) q) ys) ∙ sym (list_any-append (λ y. has (f y) q) ys (p ∷ [])) where
      swap : (a b : Bool) → (a || b) ≡ (b || (a || false))
      swap true true = refl
      swap true false = refl
      swap false true = refl
      swap false false = refl
