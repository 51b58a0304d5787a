-- Lists that have each of some numbers several times, one number after another, as a scaffold has its pairs.
use Rattle.std.proofs.Common.{◌≡◌, ℕ, ◌+◌, ◌<◌, Bool, true, false, ◌||◌, List, [], ◌∷◌, ◌++◌, length, get_or, take, replicate, Some, sym, ap, ◌∙◌, arith, nat_eq, inl, inr, append-nil, length-append}
use Rattle.std.specs.List.{slice_get}
use Rattle.std.proofs.lemmas.Bool.{cases_eq, false≢true, ne_eqb}
use Rattle.std.proofs.lemmas.Grind.{flat_map-append}
use Rattle.std.proofs.lemmas.List.{length-replicate, take_more}
use Rattle.metis_universe.specs.Terms.{has}
use Rattle.metis_layers.specs.Terms.{place_of}
use Rattle.metis_layers.proofs.Repeated.{blocks, first_copy, in_copies, past_copies, past_place}

-- one more number at the end
pub blocks-push : (f : ℕ → ℕ) (ps : List ℕ) (q : ℕ) → blocks f (ps ++ q ∷ []) ≡ blocks f ps ++ replicate (f q) q
blocks-push f ps q = flat_map-append (λ p. replicate (f p) p) ps (q ∷ []) ∙ ap (λ l. blocks f ps ++ l) (append-nil (replicate (f q) q))

pub blocks-more : (f : ℕ → ℕ) (ps : List ℕ) (i q : ℕ) → i < length ps → q ≡ get_or ps i q → blocks f (take (i + 1) ps) ≡ blocks f (take i ps) ++ replicate (f q) q
blocks-more f ps i q low at = ap (blocks f) (take_more ps i q low ∙ ap (λ r. take i ps ++ r ∷ []) (sym at)) ∙ blocks-push f (take i ps) q

-- ---- where the copies stand

-- copy j, from 0, of a number of the first part
pub record IsCopy (f : ℕ → ℕ) (xs ys : List ℕ) (y j : ℕ) : Type 0 where
  pub before : place_of (blocks f (xs ++ ys)) y + j < length (blocks f xs)
  pub there : slice_get (blocks f xs) (place_of (blocks f (xs ++ ys)) y + j) ≡ Some y

pub copy_in : (f : ℕ → ℕ) (xs ys : List ℕ) (y j : ℕ) → has xs y ≡ true → j < f y → IsCopy f xs ys y j
copy_in f [] ys y j h low = absurd (false≢true h)
copy_in f (x ∷ xs) ys y j h low =
    let rest = blocks f xs in
    let all = blocks f (xs ++ ys) in
    let whole = length-append (replicate (f x) x) rest in
    let long = length-replicate (f x) x in
    elim (cases_eq x y) [
      | inl same ↦
          let inside : j < f x = omega (arith, low, ap f same) in
          let first = first_copy (f x) x y all (omega (arith, inside)) same in
          let place : place_of (replicate (f x) x ++ all) y + j ≡ j = omega (arith, first) in
          record {
            before = omega (arith, place, inside, whole, long);
            there = ap (slice_get (replicate (f x) x ++ rest)) place ∙ in_copies (f x) x rest j inside ∙ ap Some same;
          }
      | inr other ↦
          let later = copy_in f xs ys y j (elsewhere (nat_eq x y) (has xs y) (ne_eqb x y other) h) low in
          let past = past_place (f x) x y all other in
          let place : place_of (replicate (f x) x ++ all) y + j ≡ f x + (place_of all y + j) = omega (arith, past) in
          record {
            before = omega (arith, place, later.before, whole, long);
            there = ap (slice_get (replicate (f x) x ++ rest)) place ∙ past_copies (f x) x rest (place_of all y + j) ∙ later.there;
          }
    ] where
      elsewhere : (a b : Bool) → a ≡ false → (a || b) ≡ true → b ≡ true
      elsewhere true b off h = absurd (false≢true (sym off))
      elsewhere false b off h = h
