-- The tokens of an action's list are read as numbers that ascend and lie below the action's.
use Rattle.std.proofs.Common.{◌≡◌, ℕ, ◌<◌, ◌≤◌, ◌^◌, true, ◌&&◌, List, [], ◌∷◌, map, Ok, Err, refl, sym, ap, ◌∙◌, arith, decimal}
use Rattle.std.specs.Prelude.{codes}
use Rattle.std.specs.Bool.{nat_lt, if◌then◌else◌}
use Rattle.std.specs.List.{AllByRecursion, list_all}
use Rattle.std.specs.Str.{bytes_eq}
use Rattle.std.proofs.lemmas.Bool.{and_from, and_parts, ltb-true}
use Rattle.std.proofs.lemmas.Slice.Eq.{bytes_eq-Decides}
use Rattle.metis_text.specs.Terms.{after_in, after_tokens, rise}
use Rattle.metis_tokens.specs.Terms.{all_behind, number_in, right}
use Rattle.metis_tokens.specs.declared.flaw.Flaw.TheVariants.{Form, Number}
use Rattle.metis_tokens.proofs.NumberTokens.{number_is, number_read}
use Rattle.metis_tokens.proofs.Outcomes.{all_are, all_read, if_is, right_is, words_back, words_read}
use Rattle.metis_tokens.proofs.Printed.{printed, printed_decimal}

word_and_numbers : (word t : List ℕ) (more : List (List ℕ)) (ks : List ℕ) → word ≡ codes "after" → t ∷ more ≡ map decimal ks → word ∷ t ∷ more ≡ after_tokens ks
word_and_numbers word t more [] is e = cc
word_and_numbers word t more (k ∷ ks) is e = λ i. is i ∷ e i

pub after_is : (k : ℕ) (tokens : List (List ℕ)) (ks : List ℕ) → after_in k tokens ≡ Ok ks → (tokens ≡ after_tokens ks) × (rise 0 k ks ≡ true)
after_is k [] ks h = let none : [] ≡ ks = cc in (ap after_tokens none, ap (rise 0 k) (sym none))
after_is k (word ∷ []) ks h = cc
after_is k (word ∷ t ∷ more) ks h =
    let form = if_is (bytes_eq word (codes "after")) (right (rise 0 k) (all_behind number_in (Ok []) (t ∷ more))) Form ks h in
    let up = right_is (rise 0 k) (all_behind number_in (Ok []) (t ∷ more)) ks form.1 in
    let numbers = words_back number_in decimal (λ t n h. (number_is t n h).0) (t ∷ more) ks (all_are number_in (t ∷ more) ks up.0) in
    (word_and_numbers word t more ks ((bytes_eq-Decides word (codes "after")).0 form.0) numbers, up.1)

pub rise_below : (low high k : ℕ) (ks : List ℕ) → high ≤ k → rise low high ks ≡ true → AllByRecursion (λ m. m < k) ks
rise_below low high k [] small h = tt
rise_below low high k (m ∷ ms) small h =
    let both = and_parts (nat_lt low m && nat_lt m high) (rise m high ms) h in
    (omega (arith, ltb-true m high (and_parts (nat_lt low m) (nat_lt m high) both.0).1), rise_below m high k ms small both.1)

pub after_read : (k : ℕ) (ks : List ℕ) → k < 2 ^ 32 → rise 0 k ks ≡ true → after_in k (after_tokens ks) ≡ Ok ks
after_read k [] small h = refl
after_read k (m ∷ ms) small h =
    ap (right (rise 0 k)) (all_read number_in (map decimal (m ∷ ms)) (m ∷ ms) (words_read number_in decimal (λ n. n < 2 ^ 32) number_read (m ∷ ms) (rise_below 0 k (2 ^ 32) (m ∷ ms) (omega arith) h)))
    ∙ ap (λ b. if b then Ok (m ∷ ms) else Err Number) h

numbers_printed : (ks : List ℕ) → AllByRecursion (λ m. m < 2 ^ 32) ks → list_all printed (map decimal ks) ≡ true
numbers_printed [] small = refl
numbers_printed (k ∷ ks) small = and_from _ _ (printed_decimal k small.0) (numbers_printed ks small.1)

pub after_printed : (k : ℕ) (ks : List ℕ) → k < 2 ^ 32 → rise 0 k ks ≡ true → list_all printed (after_tokens ks) ≡ true
after_printed k [] small h = refl
after_printed k (m ∷ ms) small h = numbers_printed (m ∷ ms) (rise_below 0 k (2 ^ 32) (m ∷ ms) (omega arith) h)
