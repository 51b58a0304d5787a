-- Three digits tell the number, and are bytes of names.
use Rattle.std.proofs.Common.{◌≡◌, ℕ, suc, zero, ◌+◌, ◌/◌, ◌%◌, ◌<◌, true, ◌&&◌, [], ◌∷◌, get_or, refl, ap, ◌∙◌, arith}
use Rattle.std.specs.List.{list_all}
use Rattle.metis_universe.specs.Terms.{is_name_byte}
use Rattle.metis_gen.specs.Terms.{three_digits}

pub same_digits : (i j : ℕ) → three_digits i ≡ three_digits j → i ≡ j
same_digits i j e =
    let a : 48 + i / 100 ≡ 48 + j / 100 = ap (λ l. get_or l 0 0) e in
    let b : 48 + i / 10 % 10 ≡ 48 + j / 10 % 10 = ap (λ l. get_or l 1 0) e in
    let c : 48 + i % 10 ≡ 48 + j % 10 = ap (λ l. get_or l 2 0) e in
    omega arith

digit_named : (d : ℕ) → d < 10 → is_name_byte (48 + d) ≡ true
digit_named zero l = refl
digit_named (suc zero) l = refl
digit_named (suc (suc zero)) l = refl
digit_named (suc (suc (suc zero))) l = refl
digit_named (suc (suc (suc (suc zero)))) l = refl
digit_named (suc (suc (suc (suc (suc zero))))) l = refl
digit_named (suc (suc (suc (suc (suc (suc zero)))))) l = refl
digit_named (suc (suc (suc (suc (suc (suc (suc zero))))))) l = refl
digit_named (suc (suc (suc (suc (suc (suc (suc (suc zero)))))))) l = refl
digit_named (suc (suc (suc (suc (suc (suc (suc (suc (suc zero))))))))) l = refl
digit_named (suc (suc (suc (suc (suc (suc (suc (suc (suc (suc d)))))))))) l = absurd (omega arith)

all_three : (a b c : ℕ) → is_name_byte a ≡ true → is_name_byte b ≡ true → is_name_byte c ≡ true → list_all is_name_byte (a ∷ b ∷ c ∷ []) ≡ true
all_three a b c h k m =
    ap (λ v. v && list_all is_name_byte (b ∷ c ∷ [])) h
    ∙ ap (λ v. v && list_all is_name_byte (c ∷ [])) k
    ∙ ap (λ v. v && true) m

pub digits_named : (i : ℕ) → i < 1000 → list_all is_name_byte (three_digits i) ≡ true
digits_named i l =
    all_three (48 + i / 100) (48 + i / 10 % 10) (48 + i % 10) (digit_named (i / 100) (omega arith)) (digit_named (i / 10 % 10) (omega arith)) (digit_named (i % 10) (omega arith))
