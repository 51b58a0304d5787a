-- Lists of pairs that grow by what their pairs name.
use Rattle.std.proofs.Common.{◌≡◌, ℕ, zero, suc, ◌+◌, ◌<◌, Bool, true, false, cond, List, [], ◌∷◌, ◌++◌, length, take, get_or, refl, sym, ap, ◌∙◌, subst, arith, inl, inr, nat_eq, append_assoc}
use Rattle.std.specs.Prelude.{◌⊎◌}
use Rattle.std.proofs.lemmas.Bool.{cases_eq, cases_lt, eq-eqb, eqb-true, false≢true, or_cases, or_from, or_left, or_parts, or_right}
use Rattle.std.proofs.lemmas.List.{append-nil, get_or_append_left, take_more}
use Rattle.metis_ids.proofs.Lists.{has-append, has_at, has_here, has_one, place_of}
use Rattle.metis_ids.proofs.Tests.{eq_comm}
use Rattle.metis_universe.specs.Terms.{has}
use Rattle.metis_why.specs.Terms.{AreApart, IsFollowed, IsReadTo, noted, read_to}

-- ---- one pair more

abbrev step : List ℕ → ℕ → List ℕ
step list q = cond (has list q) list (list ++ q ∷ [])

step_left : (list : List ℕ) (q p : ℕ) → has list p ≡ true → has (step list q) p ≡ true
step_left list q p there = by (has list q) where
  by : (b : Bool) → has (cond b list (list ++ q ∷ [])) p ≡ true
  by true = there
  by false = has-append list (q ∷ []) p ∙ or_left (has list p) (has (q ∷ []) p) there

step_here : (list : List ℕ) (q : ℕ) → has (step list q) q ≡ true
step_here list q = by (has list q) refl where
  by : (b : Bool) → has list q ≡ b → has (cond b list (list ++ q ∷ [])) q ≡ true
  by true on = on
  by false off = has-append list (q ∷ []) q ∙ or_right (has list q) (has (q ∷ []) q) (has_here q [])

step_cases : (list : List ℕ) (q p : ℕ) → has (step list q) p ≡ true → (has list p ≡ true) ⊎ (q ≡ p)
step_cases list q p there = by (has list q) there where
  by : (b : Bool) → has (cond b list (list ++ q ∷ [])) p ≡ true → (has list p ≡ true) ⊎ (q ≡ p)
  by true on = inl on
  by false on = elim (or_cases (has list p) (has (q ∷ []) p) (sym (has-append list (q ∷ []) p) ∙ on)) [ inl before ↦ inl before | inr last ↦ inr (has_one q p last) ]

step_front : (list : List ℕ) (q : ℕ) → (rest : List ℕ) × (step list q ≡ list ++ rest)
step_front list q = by (has list q) where
  by : (b : Bool) → (rest : List ℕ) × (cond b list (list ++ q ∷ []) ≡ list ++ rest)
  by true = ([], sym (append-nil list))
  by false = (q ∷ [], refl)

apart_push : (list : List ℕ) (q : ℕ) → AreApart list → has list q ≡ false → AreApart (list ++ q ∷ [])
apart_push [] q apart new = (refl, tt)
apart_push (p ∷ list) q apart new =
    let parts = or_parts (nat_eq p q) (has list q) new in
    (has-append list (q ∷ []) p ∙ or_from (has list p) (has (q ∷ []) p) apart.0 (or_from (nat_eq q p) false (eq_comm q p ∙ parts.0) refl), apart_push list q apart.1 parts.1)

step_apart : (list : List ℕ) (q : ℕ) → AreApart list → AreApart (step list q)
step_apart list q apart = by (has list q) refl where
  by : (b : Bool) → has list q ≡ b → AreApart (cond b list (list ++ q ∷ []))
  by true on = apart
  by false off = apart_push list q apart off

-- ---- several pairs more

pub noted-append : (list xs ys : List ℕ) → noted list (xs ++ ys) ≡ noted (noted list xs) ys
noted-append list [] ys = refl
noted-append list (p ∷ xs) ys = noted-append (step list p) xs ys

pub noted_more : (list pairs : List ℕ) (i p : ℕ) → i < length pairs → p ≡ get_or pairs i p → noted list (take (i + 1) pairs) ≡ noted (noted list (take i pairs)) (p ∷ [])
noted_more list pairs i p low is = ap (noted list) (take_more pairs i p low ∙ ap (λ q. take i pairs ++ q ∷ []) (sym is)) ∙ noted-append list (take i pairs) (p ∷ [])

pub noted_left : (list pairs : List ℕ) (p : ℕ) → has list p ≡ true → has (noted list pairs) p ≡ true
noted_left list [] p there = there
noted_left list (q ∷ pairs) p there = noted_left (step list q) pairs p (step_left list q p there)

pub noted_right : (list pairs : List ℕ) (p : ℕ) → has pairs p ≡ true → has (noted list pairs) p ≡ true
noted_right list [] p there = absurd (false≢true there)
noted_right list (q ∷ pairs) p there = elim (or_cases (nat_eq q p) (has pairs p) there) [
  | inl here ↦ noted_left (step list q) pairs p (subst (λ r. has (step list q) r ≡ true) (eqb-true q p here) (step_here list q))
  | inr later ↦ noted_right (step list q) pairs p later
]

pub noted_cases : (list pairs : List ℕ) (p : ℕ) → has (noted list pairs) p ≡ true → (has list p ≡ true) ⊎ (has pairs p ≡ true)
noted_cases list [] p there = inl there
noted_cases list (q ∷ pairs) p there = elim (noted_cases (step list q) pairs p there) [
  | inl before ↦ elim (step_cases list q p before) [ inl old ↦ inl old | inr same ↦ inr (or_left (nat_eq q p) (has pairs p) (eq-eqb q p same)) ]
  | inr later ↦ inr (or_right (nat_eq q p) (has pairs p) later)
]

pub noted_apart : (list pairs : List ℕ) → AreApart list → AreApart (noted list pairs)
noted_apart list [] apart = apart
noted_apart list (q ∷ pairs) apart = noted_apart (step list q) pairs (step_apart list q apart)

pub noted_front : (list pairs : List ℕ) → (rest : List ℕ) × (noted list pairs ≡ list ++ rest)
noted_front list [] = ([], sym (append-nil list))
noted_front list (q ∷ pairs) =
    let one = step_front list q in
    let more = noted_front (step list q) pairs in
    (one.0 ++ more.0, more.1 ∙ ap (λ l. l ++ more.0) one.1 ∙ append_assoc list one.0 more.0)

noted_at : (list pairs : List ℕ) (n : ℕ) → n < length list → get_or (noted list pairs) n 0 ≡ get_or list n 0
noted_at list pairs n low = let front = noted_front list pairs in ap (λ l. get_or l n 0) front.1 ∙ get_or_append_left list front.0 0 n low

-- ---- lists that are read, place by place

module _ (names : ℕ → List ℕ) (first : List ℕ) where
  pub reading_start : (list : List ℕ) → list ≡ noted [] first → IsReadTo names first list 0
  reading_start list is = record { is = is; within = λ n low. absurd (omega arith) }

  pub reading_more : (old new : List ℕ) (n : ℕ) → IsReadTo names first old n → n < length old → new ≡ noted old (names (get_or old n 0)) → IsReadTo names first new (n + 1)
  reading_more old new n read low is = record {
    is =
        let next : suc n ≡ n + 1 = omega arith in
        is ∙ ap (λ l. noted l (names (get_or l n 0))) read.is ∙ ap (read_to names first) next;
    within = λ m below. elim (cases_eq m n) [
      | inl same ↦ subst (λ k. k < length (read_to names first k)) (sym same) (subst (λ l. n < length l) read.is low)
      | inr other ↦ read.within m (omega arith)
    ];
  }

  pub read_apart : (n : ℕ) → AreApart (read_to names first n)
  read_apart zero = noted_apart [] first tt
  read_apart (suc n) = noted_apart (read_to names first n) (names (get_or (read_to names first n) n 0)) (read_apart n)

  read_starts : (n p : ℕ) → has first p ≡ true → has (read_to names first n) p ≡ true
  read_starts zero p there = noted_right [] first p there
  read_starts (suc n) p there = noted_left (read_to names first n) (names (get_or (read_to names first n) n 0)) p (read_starts n p there)

  read_each : (P : ℕ → Type 0) → ((p : ℕ) → has first p ≡ true → P p) → ((q : ℕ) → P q → (p : ℕ) → has (names q) p ≡ true → P p) →
      (n : ℕ) → ((m : ℕ) → m < n → m < length (read_to names first m)) → (p : ℕ) → has (read_to names first n) p ≡ true → P p
  read_each P start go zero within p there = elim (noted_cases [] first p there) [ inl none ↦ absurd (false≢true none) | inr wanted ↦ start p wanted ]
  read_each P start go (suc n) within p there =
      let old : List ℕ = read_to names first n in
      let low : n < length old = within n (omega arith) in
      let before : (r : ℕ) → has old r ≡ true → P r = read_each P start go n (λ m below. within m (omega arith)) in
      elim (noted_cases old (names (get_or old n 0)) p there) [
        | inl kept ↦ before p kept
        | inr new ↦ go (get_or old n 0) (before (get_or old n 0) (has_at old n 0 low)) p new
      ]

  pub read_done : (n : ℕ) → ((m : ℕ) → m < n → m < length (read_to names first m)) → (m : ℕ) → m < n → (p : ℕ) → has (names (get_or (read_to names first n) m 0)) p ≡ true → has (read_to names first n) p ≡ true
  read_done zero within m below p there = absurd (omega arith)
  read_done (suc n) within m below p there =
      let old : List ℕ = read_to names first n in
      let new : List ℕ = names (get_or old n 0) in
      let low : n < length old = within n (omega arith) in
      let same : get_or (noted old new) m 0 ≡ get_or old m 0 = noted_at old new m (omega arith) in
      let named : has (names (get_or old m 0)) p ≡ true = subst (λ q. has (names q) p ≡ true) same there in
      elim (cases_eq m n) [
        | inl last ↦ noted_right old new p (subst (λ k. has (names (get_or old k 0)) p ≡ true) last named)
        | inr other ↦ noted_left old new p (read_done n (λ j lower. within j (omega arith)) m (omega arith) p named)
      ]

  -- ---- lists that are read through

  pub followed_one : (v w : List ℕ) → IsFollowed names first v → IsFollowed names first w → v ≡ w
  followed_one v w a b = a.read.is ∙ ap (read_to names first) same ∙ sym b.read.is where
    not_less : (v w : List ℕ) → (a : IsFollowed names first v) → (b : IsFollowed names first w) → a.count < b.count → ⊥
    not_less v w a b less = let more = b.read.within a.count less in let long = ap length a.read.is in omega (arith, more, long, a.whole)

    same : a.count ≡ b.count
    same = elim (cases_lt a.count b.count) [
      | inl less ↦ absurd (not_less v w a b less)
      | inr least ↦ elim (cases_lt b.count a.count) [ inl less ↦ absurd (not_less w v b a less) | inr most ↦ omega (arith, least, most) ]
    ]

  pub followed_apart : (v : List ℕ) → IsFollowed names first v → AreApart v
  followed_apart v f = subst AreApart (sym f.read.is) (read_apart f.count)

  pub followed_starts : (v : List ℕ) → IsFollowed names first v → (p : ℕ) → has first p ≡ true → has v p ≡ true
  followed_starts v f p there = subst (λ l. has l p ≡ true) (sym f.read.is) (read_starts f.count p there)

  pub reading_each : (P : ℕ → Type 0) → ((p : ℕ) → has first p ≡ true → P p) → ((q : ℕ) → P q → (p : ℕ) → has (names q) p ≡ true → P p) →
      (v : List ℕ) (n : ℕ) → IsReadTo names first v n → (p : ℕ) → has v p ≡ true → P p
  reading_each P start go v n read p there = read_each P start go n read.within p (subst (λ l. has l p ≡ true) read.is there)

  pub followed_done : (v : List ℕ) → IsFollowed names first v → (q p : ℕ) → has v q ≡ true → has (names q) p ≡ true → has v p ≡ true
  followed_done v f q p there named =
      let place = place_of v q there in
      let at : get_or (read_to names first f.count) place.0 0 ≡ q = ap (λ l. get_or l place.0 0) (sym f.read.is) ∙ place.2 in
      subst (λ l. has l p ≡ true) (sym f.read.is)
      (read_done f.count f.read.within place.0 (omega (arith, place.1, f.whole)) p (subst (λ r. has (names r) p ≡ true) (sym at) named))
