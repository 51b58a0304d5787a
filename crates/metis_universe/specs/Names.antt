-- Names of types, states and ports.
--     is_name bytes      1 to 64 bytes, each an ASCII letter, an ASCII digit, or one of _ - . / @
use Rattle.std.specs.Prelude.{ℕ, Bool, ◌&&◌, ◌||◌, ◌==◌, nat_le, List, length}
use Rattle.std.specs.List.{list_all}

abbrev pub is_between : ℕ → ℕ → ℕ → Bool
is_between low high b = nat_le low b && nat_le b high

-- the letters and digits of ASCII
abbrev pub is_letter_or_digit : ℕ → Bool
is_letter_or_digit b = is_between 97 122 b || is_between 65 90 b || is_between 48 57 b

-- the bytes _ - . / @
abbrev pub is_name_mark : ℕ → Bool
is_name_mark b = (b == 95) || (b == 45) || (b == 46) || (b == 47) || (b == 64)

abbrev pub is_name_byte : ℕ → Bool
is_name_byte b = is_letter_or_digit b || is_name_mark b

abbrev pub is_name : List ℕ → Bool
is_name bytes = is_between 1 64 (length bytes) && list_all is_name_byte bytes
