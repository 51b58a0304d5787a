-- Clients of an instance, done one after the other.
use Rattle.std.proofs.Common.{◌≡◌, ℕ, ◌+◌, Bool, true, false, cond, not, ◌&&◌, ◌||◌, List, ◌∷◌, refl, ap, sym, ◌∙◌, subst, nat_eq, arith}
use Rattle.std.specs.List.Sorted.{IsStrictlySortedBy}
use Rattle.std.proofs.lemmas.Bool.{and_from, and_parts, both_ways, eq-eqb, eqb-true, false_from_ne_true, false≢true}
use Rattle.metis_universe.specs.Terms.{Binding, is_tie}
use Rattle.metis_universe.proofs.Edits.{tie_is}
use Rattle.metis_config.specs.Terms.{has_client}
use Rattle.metis_config.proofs.GivenUp.{is_in}
use Rattle.metis_config.proofs.Prefixes.{IsRest}
use Rattle.metis_config.proofs.Providers.{none_like}

-- a client of z that is no longer to come
abbrev pub is_done : List Binding → List Binding → ℕ → ℕ → ℕ → Bool
is_done clients rest z w r = has_client clients z w r && not (has_client rest z w r)

-- before the first, none is done
pub none_done : (clients rest : List Binding) (z w r : ℕ) → has_client rest z w r ≡ has_client clients z w r → is_done clients rest z w r ≡ false
none_done clients rest z w r e = ap (λ b. has_client clients z w r && not b) e ∙ apart (has_client clients z w r) where
  apart : (b : Bool) → (b && not b) ≡ false
  apart true = refl
  apart false = refl

-- where none is to come, all are
pub all_done : (clients rest : List Binding) (z w r : ℕ) → has_client rest z w r ≡ false → is_done clients rest z w r ≡ has_client clients z w r
all_done clients rest z w r e = ap (λ b. has_client clients z w r && not b) e ∙ all (has_client clients z w r) where
  all : (b : Bool) → (b && true) ≡ b
  all true = refl
  all false = refl

-- one client more is done
pub one_done : (clients rest : List Binding) (x : Binding) (z : ℕ) → IsRest (z, 0, 0) (x ∷ rest) → is_in clients x → x.0 ≡ z → (w r : ℕ) →
    is_done clients rest z w r ≡ (is_done clients (x ∷ rest) z w r || (nat_eq w x.1 && nat_eq r x.2))
unfolding IsStrictlySortedBy
one_done clients rest x z k there own w r =
    elim (is_tie z w r x) as (λ b. is_tie z w r x ≡ b → is_done clients rest z w r ≡ ((has_client clients z w r && not (b || has_client rest z w r)) || (nat_eq w x.1 && nat_eq r x.2))) [
      | true ↦ λ at.
          let is = tie_is z w r x at in
          let gone = none_like z w r x rest k.in_order.0 at in
          let bound : has_client clients z w r ≡ true = subst (λ (b : Binding). has_client clients b.0 b.1 b.2 ≡ true) is there in
          let same : (nat_eq w x.1 && nat_eq r x.2) ≡ true = (λ i. eq-eqb w x.1 (sym (ap (λ (b : Binding). b.1) is)) i && eq-eqb r x.2 (sym (ap (λ (b : Binding). b.2) is)) i) in
          and_from _ _ bound (ap not gone) ∙ sym (ap (λ b. (has_client clients z w r && not (true || has_client rest z w r)) || b) same ∙ or_true (has_client clients z w r && false))
      | false ↦ λ out. or_none (has_client clients z w r && not (has_client rest z w r)) ∙ sym (ap (λ b. (has_client clients z w r && not (has_client rest z w r)) || b) (other out))
    ] refl where
      or_true : (b : Bool) → (b || true) ≡ true
      or_true true = refl
      or_true false = refl

      or_none : (b : Bool) → b ≡ (b || false)
      or_none true = refl
      or_none false = refl

      other : is_tie z w r x ≡ false → (nat_eq w x.1 && nat_eq r x.2) ≡ false
      other out = false_from_ne_true _ (λ h. let p = and_parts (nat_eq w x.1) _ h in
          both_ways _ out (λ i. eq-eqb x.0 z own i && eq-eqb x.1 w (sym (eqb-true w x.1 p.0)) i && eq-eqb x.2 r (sym (eqb-true r x.2 p.1)) i))

-- and it was not done before
pub not_yet : (clients rest : List Binding) (x : Binding) (z : ℕ) → x.0 ≡ z → is_done clients (x ∷ rest) z x.1 x.2 ≡ false
not_yet clients rest x z own = ap (λ b. has_client clients z x.1 x.2 && not (b || has_client rest z x.1 x.2)) (λ i. eq-eqb x.0 z own i && eq-eqb x.1 x.1 refl i && eq-eqb x.2 x.2 refl i) ∙ and_false (has_client clients z x.1 x.2) where
  and_false : (b : Bool) → (b && false) ≡ false
  and_false true = refl
  and_false false = refl

-- the weights at a key after one client more
pub one_moved : (old before after : ℕ) (done key p q : Bool) → (key ≡ true → done ≡ false) → before + cond (done && p) 1 0 ≡ old + cond (done && q) 1 0 → after + cond (key && p) 1 0 ≡ before + cond (key && q) 1 0 →
    after + cond ((done || key) && p) 1 0 ≡ old + cond ((done || key) && q) 1 0
one_moved old before after true true p q apart a b = absurd (false≢true (sym (apart refl)))
one_moved old before after true false p q apart a b = omega arith
one_moved old before after false true p q apart a b = omega arith
one_moved old before after false false p q apart a b = omega arith
