-- The tokens of a line, by their number.
use Rattle.std.proofs.Common.{◌≡◌, ℕ, ◌+◌, ◌-◌, ◌<◌, ◌≤◌, ◌&&◌, nat_lt, Bool, true, false, cond, List, [], ◌∷◌, length, get_or, drop, take, map, codes, Result, Ok, Err, Some, Bor, refl, sym, ap, ◌∙◌, arith}
use Rattle.std.specs.Str.{bytes_eq}
use Rattle.std.proofs.lemmas.List.{take_rest}
use Rattle.std.proofs.lemmas.Bool.{cond-true, cond-false, lt-ltb}
use Rattle.metis_ids.specs.declared.actions.Action.{Action}
use Rattle.metis_tokens.specs.declared.flaw.Flaw.{Flaw}
use Rattle.metis_tokens.specs.declared.flaw.Flaw.TheVariants.{Form}
use Rattle.metis_text.specs.Terms.{DupRow, Words, action_in, after_in, counts_of_tokens, dup_of, dup_with, ends_in, move_action, move_words, new_in, new_words, row_of, row_with, states_in, tie_words}
use Rattle.metis_tokens.specs.Terms.{both, due, made, number_in}
use Rattle.metis_universe.specs.Terms.{Universe}

abbrev texts : List (Bor (List ℕ)) → List (List ℕ)
texts ts = map (λ t. t.now) ts

-- the token where there is none
abbrev pub no_token : Bor (List ℕ)
no_token = record { ref_ptr = (0, 0); now = [] }

-- the tokens behind the first n, as a pattern gives them
abbrev behind : ℕ → List (Bor (List ℕ)) → List (Bor (List ℕ))
behind n ts = take (length ts - n) (drop n ts)

-- ---- the second line

pub counts_few : (ts : List (Bor (List ℕ))) → length ts < 6 → counts_of_tokens (texts ts) ≡ Err Form
counts_few [] few = refl
counts_few (a ∷ []) few = refl
counts_few (a ∷ b ∷ []) few = refl
counts_few (a ∷ b ∷ c ∷ []) few = refl
counts_few (a ∷ b ∷ c ∷ d ∷ []) few = refl
counts_few (a ∷ b ∷ c ∷ d ∷ e ∷ []) few = refl
counts_few (a ∷ b ∷ c ∷ d ∷ e ∷ f ∷ ts) few = absurd (omega (arith, few))

pub counts_many : (ts : List (Bor (List ℕ))) → 7 ≤ length ts → counts_of_tokens (texts ts) ≡ Err Form
counts_many [] many = refl
counts_many (a ∷ []) many = refl
counts_many (a ∷ b ∷ []) many = refl
counts_many (a ∷ b ∷ c ∷ []) many = refl
counts_many (a ∷ b ∷ c ∷ d ∷ []) many = refl
counts_many (a ∷ b ∷ c ∷ d ∷ e ∷ []) many = refl
counts_many (a ∷ b ∷ c ∷ d ∷ e ∷ f ∷ []) many = absurd (omega (arith, many))
counts_many (a ∷ b ∷ c ∷ d ∷ e ∷ f ∷ g ∷ ts) many = refl

counts_six : (ts : List (Bor (List ℕ))) (d : Bor (List ℕ)) → length ts ≡ 6 →
    counts_of_tokens (texts ts)
    ≡ cond (bytes_eq (get_or ts 0 d).now (codes "instances") && bytes_eq (get_or ts 2 d).now (codes "actions") && bytes_eq (get_or ts 4 d).now (codes "dups"))
    (both (number_in (get_or ts 1 d).now) (both (number_in (get_or ts 3 d).now) (number_in (get_or ts 5 d).now))) (Err Form)
counts_six [] d six = absurd (omega (arith, six))
counts_six (a ∷ []) d six = absurd (omega (arith, six))
counts_six (a ∷ b ∷ []) d six = absurd (omega (arith, six))
counts_six (a ∷ b ∷ c ∷ []) d six = absurd (omega (arith, six))
counts_six (a ∷ b ∷ c ∷ e ∷ []) d six = absurd (omega (arith, six))
counts_six (a ∷ b ∷ c ∷ e ∷ f ∷ []) d six = absurd (omega (arith, six))
counts_six (a ∷ b ∷ c ∷ e ∷ f ∷ g ∷ []) d six = refl
counts_six (a ∷ b ∷ c ∷ e ∷ f ∷ g ∷ h ∷ ts) d six = absurd (omega (arith, six))

-- the same, where it is known whether the words are there
pub counts_worded : (ts : List (Bor (List ℕ))) (d : Bor (List ℕ)) (words : Bool) → 6 ≤ length ts → length ts < 7
    → words ≡ (bytes_eq (get_or ts 0 d).now (codes "instances") && bytes_eq (get_or ts 2 d).now (codes "actions") && bytes_eq (get_or ts 4 d).now (codes "dups"))
    → cond words (both (number_in (get_or ts 1 d).now) (both (number_in (get_or ts 3 d).now) (number_in (get_or ts 5 d).now))) (Err Form) ≡ counts_of_tokens (texts ts)
counts_worded ts d words least below is =
    ap (λ b. cond b (both (number_in (get_or ts 1 d).now) (both (number_in (get_or ts 3 d).now) (number_in (get_or ts 5 d).now))) (Err Form)) is
    ∙ sym (counts_six ts d (omega (arith, least, below)))

-- ---- a view of parts, after they are put together and before

pub numbered_view : {A B : Type 0} (view : A → B) (n : Result ℕ Flaw) (x : Result A Flaw) (y : Result B Flaw) → made view x ≡ y
    → made view (made (λ p. p.1) (both n x)) ≡ made (λ p. p.1) (both n y)
numbered_view {A} view n x y is = made_both n x ∙ ap (λ z. made (λ p. p.1) (both n z)) is where
  made_both : (n : Result ℕ Flaw) (x : Result A Flaw) → made view (made (λ p. p.1) (both n x)) ≡ made (λ p. p.1) (both n (made view x))
  made_both (Ok n) (Ok a) = refl
  made_both (Ok n) (Err f) = refl
  made_both (Err f) (Ok a) = refl
  made_both (Err f) (Err g) = refl

pub both_view : {A B C : Type 0} (view : B → C) (x : Result A Flaw) (y : Result B Flaw) → made (λ p. (p.0, view p.1)) (both x y) ≡ both x (made view y)
both_view view (Ok a) (Ok b) = refl
both_view view (Ok a) (Err f) = refl
both_view view (Err f) (Ok b) = refl
both_view view (Err f) (Err g) = refl

-- ---- the words of an action

module _ (u : Universe) where
  pub new_two : (ts : List (Bor (List ℕ))) (d : Bor (List ℕ)) (action : Result Action Flaw) → 2 ≤ length ts → action ≡ new_in u (get_or ts 0 d).now (get_or ts 1 d).now → Some (action, texts (behind 2 ts)) ≡ new_words u (texts ts)
  new_two [] d action many is = absurd (omega (arith, many))
  new_two (a ∷ []) d action many is = absurd (omega (arith, many))
  new_two (a ∷ b ∷ ts) d action many is = λ i. Some (is i, texts (take_rest (a ∷ b ∷ ts) 2 i))

  pub tie_three : (make : ℕ × (ℕ × ℕ) → Action) (ts : List (Bor (List ℕ))) (d : Bor (List ℕ)) (action : Result Action Flaw) → 3 ≤ length ts
      → action ≡ made make (ends_in u (get_or ts 0 d).now (get_or ts 1 d).now (get_or ts 2 d).now) → Some (action, texts (behind 3 ts)) ≡ tie_words u make (texts ts)
  tie_three make [] d action many is = absurd (omega (arith, many))
  tie_three make (a ∷ []) d action many is = absurd (omega (arith, many))
  tie_three make (a ∷ b ∷ []) d action many is = absurd (omega (arith, many))
  tie_three make (a ∷ b ∷ c ∷ ts) d action many is = λ i. Some (is i, texts (take_rest (a ∷ b ∷ c ∷ ts) 3 i))

  pub move_three : (earlier : List Action) (ts : List (Bor (List ℕ))) (d : Bor (List ℕ)) (action : Result Action Flaw) → 3 ≤ length ts
      → action ≡ made move_action (states_in u earlier (get_or ts 0 d).now (get_or ts 1 d).now (get_or ts 2 d).now) → Some (action, texts (behind 3 ts)) ≡ move_words u earlier (texts ts)
  move_three earlier [] d action many is = absurd (omega (arith, many))
  move_three earlier (a ∷ []) d action many is = absurd (omega (arith, many))
  move_three earlier (a ∷ b ∷ []) d action many is = absurd (omega (arith, many))
  move_three earlier (a ∷ b ∷ c ∷ ts) d action many is = λ i. Some (is i, texts (take_rest (a ∷ b ∷ c ∷ ts) 3 i))

-- ---- the line of an action

module _ (u : Universe) (earlier : List Action) where
  pub row_few : (ts : List (Bor (List ℕ))) → length ts < 2 → row_of u earlier (texts ts) ≡ Err Form
  row_few [] few = refl
  row_few (a ∷ []) few = refl
  row_few (a ∷ b ∷ ts) few = absurd (omega (arith, few))

  row_two : (ts : List (Bor (List ℕ))) (d : Bor (List ℕ)) → 2 ≤ length ts
      → row_of u earlier (texts ts) ≡ row_with (length earlier + 1) (get_or ts 0 d).now (action_in u earlier (get_or ts 1 d).now (texts (behind 2 ts)))
  row_two [] d many = absurd (omega (arith, many))
  row_two (a ∷ []) d many = absurd (omega (arith, many))
  row_two (a ∷ b ∷ ts) d many = ap (λ l. row_with (length earlier + 1) a.now (action_in u earlier b.now (texts l))) (sym (take_rest (a ∷ b ∷ ts) 2))

  pub row_some : (ts : List (Bor (List ℕ))) (d : Bor (List ℕ)) (words : Words) → 2 ≤ length ts → Some words ≡ action_in u earlier (get_or ts 1 d).now (texts (behind 2 ts))
      → row_of u earlier (texts ts) ≡ made (λ p. p.1) (both (due (length earlier + 1) (get_or ts 0 d).now) (both words.0 (after_in (length earlier + 1) words.1)))
  row_some ts d words many some = row_two ts d many ∙ ap (row_with (length earlier + 1) (get_or ts 0 d).now) (sym some)

-- ---- the line of a dup

words_more : (a b c : Bool) → c ≡ true → (a && b && c) ≡ (a && b)
words_more true true c is = is
words_more true false c is = refl
words_more false b c is = refl

words_fewer : (a b c : Bool) → c ≡ false → (a && b && c) ≡ false
words_fewer true true c is = is
words_fewer true false c is = refl
words_fewer false b c is = refl

module _ (u : Universe) (k : ℕ) where
  pub dup_few : (ts : List (Bor (List ℕ))) → length ts < 4 → dup_of u k (texts ts) ≡ Err Form
  dup_few [] few = refl
  dup_few (a ∷ []) few = refl
  dup_few (a ∷ b ∷ []) few = refl
  dup_few (a ∷ b ∷ c ∷ []) few = refl
  dup_few (a ∷ b ∷ c ∷ d ∷ ts) few = absurd (omega (arith, few))

  abbrev has_words : List (Bor (List ℕ)) → Bor (List ℕ) → Bool
  has_words ts d = bytes_eq (get_or ts 0 d).now (codes "dup") && bytes_eq (get_or ts 3 d).now (codes "cycle") && nat_lt 1 (length (behind 4 ts))

  abbrev with_events : List (Bor (List ℕ)) → Bor (List ℕ) → List (Bor (List ℕ)) → Result DupRow Flaw
  with_events ts d events = dup_with u k (get_or ts 1 d).now (get_or ts 2 d).now (texts events)

  dup_four : (ts : List (Bor (List ℕ))) (d : Bor (List ℕ)) → 4 ≤ length ts
      → dup_of u k (texts ts) ≡ cond (bytes_eq (get_or ts 0 d).now (codes "dup") && bytes_eq (get_or ts 3 d).now (codes "cycle") && nat_lt 1 (length (drop 4 ts))) (with_events ts d (drop 4 ts)) (Err Form)
  dup_four [] d many = absurd (omega (arith, many))
  dup_four (a ∷ []) d many = absurd (omega (arith, many))
  dup_four (a ∷ b ∷ []) d many = absurd (omega (arith, many))
  dup_four (a ∷ b ∷ c ∷ []) d many = absurd (omega (arith, many))
  dup_four (a ∷ b ∷ c ∷ e ∷ []) d many = sym (cond-false _ _ (Err Form) (words_fewer (bytes_eq a.now (codes "dup")) (bytes_eq e.now (codes "cycle")) _ refl))
  dup_four (a ∷ b ∷ c ∷ e ∷ f ∷ []) d many = sym (cond-false _ _ (Err Form) (words_fewer (bytes_eq a.now (codes "dup")) (bytes_eq e.now (codes "cycle")) _ refl))
  dup_four (a ∷ b ∷ c ∷ e ∷ f ∷ g ∷ ts) d many =
      ap (λ both_words. cond both_words (dup_with u k b.now c.now (texts (f ∷ g ∷ ts))) (Err Form))
      (sym (words_more (bytes_eq a.now (codes "dup")) (bytes_eq e.now (codes "cycle")) _ (lt-ltb 1 (length (f ∷ g ∷ ts)) (omega arith))))

  dup_words : (ts : List (Bor (List ℕ))) (d : Bor (List ℕ)) → 4 ≤ length ts → dup_of u k (texts ts) ≡ cond (has_words ts d) (with_events ts d (behind 4 ts)) (Err Form)
  dup_words ts d many =
      dup_four ts d many
      ∙ ap (λ l. cond (bytes_eq (get_or ts 0 d).now (codes "dup") && bytes_eq (get_or ts 3 d).now (codes "cycle") && nat_lt 1 (length l)) (with_events ts d l) (Err Form)) (sym (take_rest ts 4))

  pub dup_wordless : (ts : List (Bor (List ℕ))) (d : Bor (List ℕ)) → 4 ≤ length ts → has_words ts d ≡ false → dup_of u k (texts ts) ≡ Err Form
  dup_wordless ts d many without = dup_words ts d many ∙ cond-false (has_words ts d) (with_events ts d (behind 4 ts)) (Err Form) without

  pub dup_worded : (ts : List (Bor (List ℕ))) (d : Bor (List ℕ)) → 4 ≤ length ts → has_words ts d ≡ true → dup_of u k (texts ts) ≡ with_events ts d (behind 4 ts)
  dup_worded ts d many all = dup_words ts d many ∙ cond-true (has_words ts d) (with_events ts d (behind 4 ts)) (Err Form) all
