-- Tests over lists that are joined of others.
use Rattle.std.proofs.Common.{◌≡◌, ℕ, ◌<◌, Bool, true, List, sym, ap, ◌∙◌, arith}
use Rattle.std.specs.List.{AllByRecursion, Contains, flat_map, list_any, range_with_len}
use Rattle.std.proofs.lemmas.List.Elements.{All-contains, All-from_recursion}
use Rattle.std.specs.Cmp.{both_ways as same_bool}
use Rattle.metis_support.proofs.Lists.{any_in_row, member}
use Rattle.metis_events.proofs.AllEvents.{in_row}

-- an element of a list whose elements are all so
pub record Found {X : Type 0} (P : X → Type 0) (t : X → Bool) (xs : List X) : Type 0 where
  pub item : X
  pub there : Contains xs item
  pub passes : t item ≡ true
  pub is : P item

pub found : {X : Type 0} (P : X → Type 0) (t : X → Bool) (xs : List X) → AllByRecursion P xs → list_any t xs ≡ true → Found P t xs
found P t xs all h =
    let m = member t xs h in
    record { item = m.item; there = m.there; passes = m.passes; is = All-contains P xs m.item (All-from_recursion P xs all) m.there }

-- where what passes is in the list for one number only, the others do not matter
pub only_in : {X : Type 0} (t : X → Bool) (f : ℕ → List X) (n l : ℕ) → l < n → ((k : ℕ) → list_any t (f k) ≡ true → k ≡ l) → list_any t (flat_map f (range_with_len 0 n)) ≡ list_any t (f l)
only_in t f n l low only =
    same_bool (list_any t (flat_map f (range_with_len 0 n))) (list_any t (f l))
    (λ h. let r = in_row t f 0 n h in ap (λ k. list_any t (f k)) (sym (only r.number r.passes)) ∙ r.passes)
    (λ h. any_in_row t f 0 n l (omega arith) (omega arith) h)
