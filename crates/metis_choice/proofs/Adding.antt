-- What is added to a work list.
use Rattle.std.proofs.Common.{◌≡◌, ℕ, ◌≤◌, Bool, true, false, not, ◌&&◌, ◌||◌, List, [], ◌∷◌, ◌++◌, length, Option, Some, None, refl, sym, ap, ◌∙◌, subst, arith, nat_eq, nat_cmp}
use Rattle.std.proofs.lemmas.Bool.{eqb-true}
use Rattle.std.proofs.lemmas.List.{length_push}
use Rattle.std.proofs.lemmas.List.Folds.{list_any-append}
use Rattle.std.proofs.lemmas.List.Elements.{filter_map-append}
use Rattle.std.specs.BTreeSet.{insert_key}
use Rattle.std.specs.List.{filter_map, cons_option}
use Rattle.std.specs.Option.{option_to_list}
use Rattle.metis_ids.proofs.Inserted.{has-insert_key, length-insert_key}
use Rattle.metis_universe.specs.Terms.{has}
use Rattle.metis_choice.specs.Terms.{Adds, WorkList}

or_again : (p q s : Bool) → (q || (p || s)) ≡ ((p || q) || s)
or_again true true s = refl
or_again true false s = refl
or_again false true s = refl
or_again false false s = refl

-- what two steps find new is what both together do
new_in_two : (p q s w : Bool) → ((q && not (p || s)) || ((p && not s) || w)) ≡ (((p || q) && not s) || w)
new_in_two true true true w = refl
new_in_two true true false w = refl
new_in_two true false true w = refl
new_in_two true false false w = refl
new_in_two false true true w = refl
new_in_two false true false w = refl
new_in_two false false true w = refl
new_in_two false false false w = refl

-- one after another
pub adds_both : (ps qs : List ℕ) (a b c : WorkList) → Adds ps a b → Adds qs b c → Adds (ps ++ qs) a c
adds_both ps qs a b c one two =
    let in_both = λ (q : ℕ). sym (list_any-append (λ x. nat_eq x q) ps qs) in
    record {
      size = two.size ∙ one.size;
      selected = λ q. two.selected q ∙ ap (λ x. has qs q || x) (one.selected q) ∙ or_again (has ps q) (has qs q) (has a.selected.members q) ∙ ap (λ x. x || has a.selected.members q) (in_both q);
      waiting = λ q.
          two.waiting q ∙ ap (λ x. (has qs q && not x) || has b.waiting q) (one.selected q)
          ∙ ap (λ x. (has qs q && not (has ps q || has a.selected.members q)) || x) (one.waiting q)
          ∙ new_in_two (has ps q) (has qs q) (has a.selected.members q) (has a.waiting q)
          ∙ ap (λ x. (x && not (has a.selected.members q)) || has a.waiting q) (in_both q);
      less = omega (arith, one.less, two.less);
    }

-- ---- one pair

-- the pair is new
pub adds_new : (p : ℕ) (a b : WorkList) → has a.selected.members p ≡ false → b.selected.size ≡ a.selected.size → b.selected.members ≡ insert_key nat_cmp a.selected.members p → b.waiting ≡ a.waiting ++ p ∷ [] → length b.selected.members ≤ b.selected.size → Adds (p ∷ []) a b
adds_new p a b fresh size members waiting few = record {
  size = size;
  selected = λ q. ap (λ l. has l q) members ∙ has-insert_key a.selected.members p q ∙ or_none (nat_eq p q) (has a.selected.members q);
  waiting = λ q. ap (λ l. has l q) waiting ∙ list_any-append (λ x. nat_eq x q) a.waiting (p ∷ []) ∙ by_waiting q (nat_eq p q) refl;
  less =
      let longer = ap length waiting ∙ length_push a.waiting p in
      let more = ap length members ∙ length-insert_key a.selected.members p fresh in
      omega arith;
} where
  or_none : (x y : Bool) → (x || y) ≡ ((x || false) || y)
  or_none true y = refl
  or_none false y = refl

  or_true : (x : Bool) → (x || true) ≡ true
  or_true true = refl
  or_true false = refl

  or_false : (x : Bool) → (x || false) ≡ x
  or_false true = refl
  or_false false = refl

  by_waiting : (q : ℕ) (b : Bool) → nat_eq p q ≡ b → (has a.waiting q || (b || false)) ≡ (((b || false) && not (has a.selected.members q)) || has a.waiting q)
  by_waiting q true same = or_true (has a.waiting q) ∙ ap (λ x. not x || has a.waiting q) (sym (subst (λ n. has a.selected.members n ≡ false) (eqb-true p q same) fresh))
  by_waiting q false other = or_false (has a.waiting q)

-- ---- one element of a list

pub filter_map_push : (f : ℕ → Option ℕ) (xs : List ℕ) (x : ℕ) → filter_map f (xs ++ x ∷ []) ≡ filter_map f xs ++ option_to_list (f x)
filter_map_push f xs x = filter_map-append f xs (x ∷ []) ∙ ap (λ l. filter_map f xs ++ l) (by (f x)) where
  by : (o : Option ℕ) → cons_option o [] ≡ option_to_list o
  by None = refl
  by (Some y) = refl
