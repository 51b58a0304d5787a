-- In which pairs some instances are.
--     Crowd      each pair with how many are in it, and for how many there is room
--     weight f shares, total_of shares      how many are in a pair that passes the test;  how many there are
--     IsCrowd shares total room      no pair is listed in vain, and there is room for all
use Rattle.std.specs.Prelude.{◌≡◌, ℕ, ◌<◌, ◌≤◌, Bool, List, sum_by, if◌then◌else◌}
use Rattle.std.specs.List.{All}

pub record Crowd : Type 0 where
  pub shares : List (ℕ × ℕ)
  pub room : ℕ

abbrev pub weight : (ℕ → Bool) → List (ℕ × ℕ) → ℕ
weight f shares = sum_by (λ s. if f s.0 then s.1 else 0) shares

abbrev pub total_of : List (ℕ × ℕ) → ℕ
total_of shares = sum_by (λ s. s.1) shares

pub record IsCrowd (shares : List (ℕ × ℕ)) (total room : ℕ) : Type 0 where
  pub sum : total ≡ total_of shares
  pub some : All (λ s. 0 < s.1) shares
  pub fits : total_of shares ≤ room
