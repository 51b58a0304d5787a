-- What the lines before a case say of it.
--     Setting      the input, and the numbers of the call of the files and of the put that are to fail, 0 where none is
--     input_in line      a line of input without its mark, and without the space behind that
--     with_input line s      the setting with one more line of input
--     IsNumber digits n      the digits are those of a number below 2^32
--     SetsCall line s s'      the line names a call of the files, as `! read 2`, or a put, as `! write 2`
use Rattle.std.specs.Prelude.{◌≡◌, ◌⊎◌, ℕ, List, [], ◌++◌, ◌==◌, codes, drop, slice_index, Ok, if◌then◌else◌}
use Rattle.std.specs.Str.Parse.{ParsesUnsigned}

pub record Setting : Type 0 where
  pub input : List ℕ
  pub read : ℕ
  pub write : ℕ

abbrev pub blank : Setting
blank = record { input = []; read = 0; write = 0 }

abbrev pub input_in : List ℕ → List ℕ
input_in line = if slice_index line 1 == 32 then drop 2 line else drop 1 line

abbrev pub with_input : List ℕ → Setting → Setting
with_input line s = record { input = s.input ++ input_in line ++ codes "\n"; read = s.read; write = s.write }

abbrev pub IsNumber : List ℕ → ℕ → Type 0
IsNumber digits n = ParsesUnsigned {E = ℕ} 32 10 digits (Ok n)

abbrev pub SetsCall : List ℕ → Setting → Setting → Type 0
SetsCall line s s' =
    ((digits : List ℕ) × (n : ℕ) × (line ≡ codes "! read " ++ digits) × IsNumber digits n × (s' ≡ record { input = s.input; read = n; write = s.write }))
    ⊎ ((digits : List ℕ) × (n : ℕ) × (line ≡ codes "! write " ++ digits) × IsNumber digits n × (s' ≡ record { input = s.input; read = s.read; write = n }))
