-- Tokens of printed bytes: each byte is above the space.
--     printed t      whether each byte of the token is
use Rattle.std.proofs.Common.{◌≡◌, ℕ, ◌<◌, ◌^◌, Bool, true, not, ◌&&◌, List, [], ◌∷◌, refl, sym, ap, ◌∙◌, arith, decimal}
use Rattle.std.specs.Bool.{nat_lt, ◌==◌}
use Rattle.std.specs.List.{list_all}
use Rattle.std.specs.Str.{all_ascii_digits}
use Rattle.std.specs.Char.{is_ascii_digit}
use Rattle.std.specs.Str.Parse.{digits_value}
use Rattle.std.proofs.lemmas.Bool.{and_from, and_parts}
use Rattle.std.proofs.lemmas.Bool.Decides.{nat_tests}
use Rattle.std.proofs.lemmas.Fmt.{digits_decimal}
use Rattle.std.proofs.lemmas.Str.Parse.{IsNumeralModel, numerals_by_value, tells_all_ascii_digits}
use Rattle.metis_universe.specs.Terms.{is_name, is_name_byte}

abbrev pub printed : List ℕ → Bool
printed t = list_all (nat_lt 32) t

pub all_weaker : (p q : ℕ → Bool) → ((x : ℕ) → p x ≡ true → q x ≡ true) → (xs : List ℕ) → list_all p xs ≡ true → list_all q xs ≡ true
all_weaker p q weaker [] h = refl
all_weaker p q weaker (x ∷ xs) h = let both = and_parts (p x) (list_all p xs) h in and_from _ _ (weaker x both.0) (all_weaker p q weaker xs both.1)

-- ---- the digits of a number

pub digits : IsNumeralModel (λ ds. all_ascii_digits ds ≡ true) (digits_value 10)
digits = numerals_by_value (λ ds. all_ascii_digits ds ≡ true) tells_all_ascii_digits

each_digit : (ds : List ℕ) → all_ascii_digits ds ≡ list_all is_ascii_digit ds
each_digit [] = refl
each_digit (d ∷ ds) = ap (λ b. is_ascii_digit d && b) (each_digit ds)

all_digits : (n : ℕ) → n < 2 ^ 32 → list_all is_ascii_digit (decimal n) ≡ true
all_digits n small = sym (each_digit (decimal n)) ∙ digits_decimal digits n (omega arith)

digit_printed : (d : ℕ) → is_ascii_digit d ≡ true → nat_lt 32 d ≡ true
digit_printed d h = grind (arith, nat_tests)

digit_no_point : (d : ℕ) → is_ascii_digit d ≡ true → not (d == 46) ≡ true
digit_no_point d h = grind (arith, nat_tests)

pub printed_digits : (t : List ℕ) → all_ascii_digits t ≡ true → printed t ≡ true
printed_digits t h = all_weaker is_ascii_digit (nat_lt 32) digit_printed t (sym (each_digit t) ∙ h)

pub printed_decimal : (n : ℕ) → n < 2 ^ 32 → printed (decimal n) ≡ true
printed_decimal n small = all_weaker is_ascii_digit (nat_lt 32) digit_printed (decimal n) (all_digits n small)

-- a number has no point
pub no_point_decimal : (n : ℕ) → n < 2 ^ 32 → list_all (λ d. not (d == 46)) (decimal n) ≡ true
no_point_decimal n small = all_weaker is_ascii_digit (λ d. not (d == 46)) digit_no_point (decimal n) (all_digits n small)

-- ---- names

name_byte_printed : (b : ℕ) → is_name_byte b ≡ true → nat_lt 32 b ≡ true
name_byte_printed b h = grind (arith, nat_tests)

name_byte_no_colon : (b : ℕ) → is_name_byte b ≡ true → not (b == 58) ≡ true
name_byte_no_colon b h = grind (arith, nat_tests)

pub printed_name : (name : List ℕ) → is_name name ≡ true → printed name ≡ true
printed_name name h = all_weaker is_name_byte (nat_lt 32) name_byte_printed name (and_parts _ _ h).1

-- a name has no colon
pub no_colon_name : (name : List ℕ) → is_name name ≡ true → list_all (λ b. not (b == 58)) name ≡ true
no_colon_name name h = all_weaker is_name_byte (λ b. not (b == 58)) name_byte_no_colon name (and_parts _ _ h).1
