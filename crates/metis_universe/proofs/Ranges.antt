-- The members of a range.
use Rattle.std.proofs.Common.{◌≡◌, ℕ, zero, suc, ◌+◌, ◌<◌, ◌≤◌, true, arith, nat_eq, inl, inr}
use Rattle.std.specs.List.{range_with_len}
use Rattle.std.proofs.lemmas.Bool.{false≢true, eqb-true, or_cases}
use Rattle.metis_universe.specs.Terms.{has}

pub in_range : (a n q : ℕ) → has (range_with_len a n) q ≡ true → (a ≤ q) × (q < a + n)
in_range a zero q h = absurd (false≢true h)
in_range a (suc n) q h =
    elim (or_cases (nat_eq a q) _ h) [
      | inl now ↦ let e = eqb-true a q now in (omega arith, omega arith)
      | inr later ↦ let rest = in_range (a + 1) n q later in (omega (arith, rest.0), omega (arith, rest.1))
    ]
