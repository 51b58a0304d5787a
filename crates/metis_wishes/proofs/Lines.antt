-- The lines of a text of wishes.
use Rattle.std.proofs.Common.{◌≡◌, ℕ, suc, ◌+◌, ◌-◌, ◌≤◌, Bool, true, false, List, [], ◌∷◌, ◌++◌, length, map, Ok, Err, Result, refl, ap, arith, length-append}
use Rattle.std.specs.Bool.{◌==◌, if◌then◌else◌}
use Rattle.std.specs.Prelude.{◌&&◌, codes}
use Rattle.std.specs.Str.{bytes_eq}
use Rattle.metis_universe.specs.Terms.{Universe}
use Rattle.metis_ids.proofs.Lists.{take_short}
use Rattle.metis_tokens.specs.Terms.{and_then, end_from, last_piece, lines_from, made, text_from, whole_lines}
use Rattle.metis_tokens.specs.declared.flaw.Flaw.TheVariants as flaw
use Rattle.metis_wishes.specs.Terms.{wish_in, wish_lines, with_wish}
use Rattle.metis_wishes.specs.declared.fault.WishFault.{WishFault}
use Rattle.metis_wishes.specs.declared.fault.WishFault.TheVariants.{Line}
use Rattle.metis_wishes.specs.declared.wish.Wish.{Wish}

-- ---- a line has one wish at most

module _ (u : Universe) (rest : List ℕ) (all : List Wish) where
  ended_few : (b : Bool) (ws : List Wish) (n : ℕ) → (if b then Ok ws else Err (Line n)) ≡ Ok all → length all ≤ length ws
  ended_few true ws n is = let same : ws ≡ all = cc in omega (arith, ap length same)
  ended_few false ws n is = absurd (cc)

  abbrev Few : ℕ → List (List ℕ) → Type 0
  Few n lines = (ws : List Wish) → lines_from (wish_lines u) (λ w. w) ws n lines rest ≡ Ok all → length all ≤ length ws + length lines

  few_lines : (n : ℕ) (lines : List (List ℕ)) → Few n lines
  few_lines n [] ws is = absurd (cc)
  few_lines n (line ∷ lines) ws is = by (few_lines (n + 1) lines) (bytes_eq line (codes "end")) (with_wish u n ws line) is where
    by : Few (n + 1) lines → (b : Bool) (r : Result Wish WishFault)
        → (if b then end_from (wish_lines u) (λ w. w) ws (n + 1) lines rest else and_then (made (λ wish. ws ++ wish ∷ []) r) (λ s. lines_from (wish_lines u) (λ w. w) s (n + 1) lines rest)) ≡ Ok all
        → length all ≤ length ws + suc (length lines)
    by later true r is = omega (arith, ended_few ((length lines == 0) && (length rest == 0)) ws (n + 1) is)
    by later false (Ok wish) is = omega (arith, later (ws ++ wish ∷ []) is, length-append ws (wish ∷ []))
    by later false (Err f) is = absurd (cc)

  few_from : (lines : List (List ℕ)) → text_from (codes "metis wishes 1") (wish_lines u) (λ w. w) [] lines rest ≡ Ok all → length all ≤ length lines
  few_from [] is = absurd (cc)
  few_from (first ∷ lines) is = by (bytes_eq first (codes "metis wishes 1")) is where
    by : (b : Bool) → (if b then lines_from (wish_lines u) (λ w. w) [] 2 lines rest else Err (Line 1)) ≡ Ok all → length all ≤ suc (length lines)
    by true is = omega (arith, few_lines 2 lines [] is)
    by false is = absurd (cc)

pub few_wishes : (u : Universe) (ps : List (List ℕ)) (all : List Wish) → text_from (codes "metis wishes 1") (wish_lines u) (λ w. w) [] (whole_lines ps) (last_piece ps) ≡ Ok all → length all ≤ length ps - 1
few_wishes u ps all is = omega (arith, few_from u (last_piece ps) all (whole_lines ps) is, take_short ps (length ps - 1))

-- a line of other than two tokens is no wish
pub other_count : {A : Type 0} (v : A → List ℕ) (u : Universe) (ts : List A) → (length ts ≡ 2 → ⊥) → Err flaw.Form ≡ wish_in u (map v ts)
other_count v u [] h = refl
other_count v u (t ∷ []) h = refl
other_count v u (t ∷ s ∷ []) h = absurd (h refl)
other_count v u (t ∷ s ∷ r ∷ ts) h = refl
