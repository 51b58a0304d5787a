-- A walk over the ports of one requirer.
use Rattle.std.proofs.Common.{◌≡◌, ◌<◌, ℕ, Bool, true, false, cond, ◌&&◌, ◌||◌, List, [], ◌∷◌, Some, None, IsSome, refl, ap, sym, ◌∙◌, subst, nat_eq, inl, inr, arith}
use Rattle.std.specs.Prelude.{option_map}
use Rattle.std.specs.BTreeMap.{BTreeMap, get, is_at}
use Rattle.std.specs.List.{AllByRecursion, filter, find, list_any}
use Rattle.std.specs.List.Sorted.{IsStrictlySortedBy}
use Rattle.std.specs.Map.{lookup, keys_of}
use Rattle.std.specs.Ordering.{is_le}
use Rattle.std.specs.declared.cmp.Ordering.TheVariants.{Less}
use Rattle.std.proofs.lemmas.Bool.{and_from, and_parts, both_ways, eq-eqb, eqb-true, false≢true, or_cases, or_left, or_right}
use Rattle.std.proofs.lemmas.Bool.Decides.{nat_tests}
use Rattle.std.proofs.lemmas.Option.{none-some}
use Rattle.metis_universe.specs.Terms.{Binding, Config, IsConfig, binding_cmp, is_bound, is_tie, pair_of}
use Rattle.metis_config.specs.Terms.{IsTallied, key_cmp, weight_at}
use Rattle.metis_config.specs.declared.supply.Supply.{Supply}
use Rattle.metis_config.proofs.Prefixes.{IsRest, each_after, is_from}
use Rattle.metis_config.proofs.Providers.{bound-counted}
use Rattle.metis_config.proofs.Tallies.{key, weighed}

abbrev pub Entry : Type 0
Entry = (ℕ × ℕ) × Supply

abbrev pub is_key : ℕ → ℕ → Entry → Bool
is_key z r e = nat_eq e.0.0 z && nat_eq e.0.1 r

-- whether there is an entry of this requirer and port
abbrev pub has_key : List Entry → ℕ → ℕ → Bool
has_key es z r = list_any (is_key z r) es

-- whether the entry's requirer is this one or a later one
abbrev pub is_key_from : ℕ → Entry → Bool
is_key_from z e = is_le (key_cmp (z, 0) e.0) && true

-- in order, and none of an earlier requirer
pub record AreKeys (z : ℕ) (es : List Entry) : Type 0 where
  pub in_order : IsStrictlySortedBy key_cmp (keys_of es)
  pub from : AllByRecursion (λ e. is_key_from z e ≡ true) es

-- what a look-up finds is there
pub has_looked : (es : List Entry) (z r : ℕ) → IsSome (lookup (is_at (key_cmp (z, r))) es) → has_key es z r ≡ true
has_looked [] z r some = absurd (false≢true some)
has_looked (e ∷ es) z r some =
    elim (is_at (key_cmp (z, r)) e.0) as (λ b. is_at (key_cmp (z, r)) e.0 ≡ b → IsSome (cond b (Some e.1) (lookup (is_at (key_cmp (z, r))) es)) → has_key (e ∷ es) z r ≡ true) [
      | true ↦ λ at _. or_left _ _ (sym (key z r e.0.0 e.0.1) ∙ at)
      | false ↦ λ _ rest. or_right _ _ (has_looked es z r rest)
    ] refl some

-- a test that only what is kept can pass
any-kept : {A : Type 0} (p t : A → Bool) → ((x : A) → t x ≡ true → p x ≡ true) → (xs : List A) → list_any t (filter p xs) ≡ list_any t xs
any-kept p t h [] = refl
any-kept p t h (x ∷ xs) =
    elim (p x) as (λ b. p x ≡ b → list_any t (cond b (x ∷ filter p xs) (filter p xs)) ≡ (t x || list_any t xs)) [
      | true ↦ λ _. ap (λ b. t x || b) (any-kept p t h xs)
      | false ↦ λ out. elim (t x) as (λ b. t x ≡ b → list_any t (filter p xs) ≡ (b || list_any t xs)) [
        | true ↦ λ at. absurd (both_ways _ out (h x at))
        | false ↦ λ _. any-kept p t h xs
      ] refl
    ] refl

each_kept : {A : Type 0} (p : A → Bool) (xs : List A) → AllByRecursion (λ x. p x ≡ true) (filter p xs)
each_kept p [] = tt
each_kept p (x ∷ xs) =
    elim (p x) as (λ b. p x ≡ b → AllByRecursion (λ x. p x ≡ true) (cond b (x ∷ filter p xs) (filter p xs))) [
      | true ↦ λ at. (at, each_kept p xs)
      | false ↦ λ _. each_kept p xs
    ] refl

own_from : (z r a b : ℕ) → (nat_eq a z && nat_eq b r) ≡ true → (is_le (key_cmp (z, 0) (a, b)) && true) ≡ true
own_from z r a b h = grind (arith, nat_tests)

pub has_key-from : (es : List Entry) (z r : ℕ) → has_key (filter (is_key_from z) es) z r ≡ has_key es z r
has_key-from es z r = any-kept (is_key_from z) (is_key z r) (λ e h. own_from z r e.0.0 e.0.1 h) es

pub AreKeys-from : (z : ℕ) (es : List Entry) → IsStrictlySortedBy key_cmp (keys_of (filter (is_key_from z) es)) → AreKeys z (filter (is_key_from z) es)
AreKeys-from z es s = record { in_order = s; from = each_kept (is_key_from z) es }

pub AreKeys-tail : (z : ℕ) (e : Entry) (es : List Entry) → AreKeys z (e ∷ es) → AreKeys z es
unfolding IsStrictlySortedBy
AreKeys-tail z e es k = record { in_order = k.in_order.1; from = k.from.1 }

-- ---- the ports of a configuration

counted_there : (m : BTreeMap (ℕ × ℕ) Supply) (z r : ℕ) (f : ℕ → Bool) → 0 < weight_at m z r f → IsSome (get key_cmp m (z, r))
counted_there m z r f some =
    elim (get key_cmp m (z, r)) as (λ o. 0 < weighed f o → IsSome o) [
      | Some s ↦ λ _. refl
      | None ↦ λ h. absurd (omega (arith, h))
    ] some

-- where a port has a binding, it has an entry
pub bound_there : (c : Config) (m : BTreeMap (ℕ × ℕ) Supply) → IsConfig c → IsTallied c m → (r z y : ℕ) → is_bound c r z y ≡ true → IsSome (get key_cmp m (z, r))
bound_there c m k tallied r z y bound =
    elim (pair_of c y) as (λ o. pair_of c y ≡ o → IsSome o → IsSome (get key_cmp m (z, r))) [
      | Some p ↦ λ at _. counted_there m z r (λ q. nat_eq q p) (subst (λ n. 0 < n) (sym (tallied z r (λ q. nat_eq q p))) (bound-counted c k r z y p bound at))
      | None ↦ λ _ some. absurd (false≢true some)
    ] refl (k.provider r z y bound)

-- ---- behind the last port of the requirer

past : (z a b x y : ℕ) → (is_le (key_cmp (z, 0) (a, b)) && true) ≡ true → nat_eq a z ≡ false → key_cmp (a, b) (x, y) ≡ Less → nat_eq x z ≡ false
past z a b x y from other less = grind (arith, nat_tests)

none_behind : (z r : ℕ) (e : Entry) (es : List Entry) → is_key_from z e ≡ true → nat_eq e.0.0 z ≡ false → AllByRecursion (λ k. key_cmp e.0 k ≡ Less) (keys_of es) → has_key es z r ≡ false
none_behind z r e [] from other less = refl
none_behind z r e (x ∷ es) from other less = λ i. (past z e.0.0 e.0.1 x.0.0 x.0.1 from other less.0 i && nat_eq x.0.1 r) || none_behind z r e es from other less.1 i

pub none_after : (z r : ℕ) (e : Entry) (es : List Entry) → AreKeys z (e ∷ es) → nat_eq e.0.0 z ≡ false → has_key (e ∷ es) z r ≡ false
unfolding IsStrictlySortedBy
none_after z r e es k other = λ i. (other i && nat_eq e.0.1 r) || none_behind z r e es k.from.0 other k.in_order.0 i

-- ---- the bindings of one port

abbrev pub is_front : ℕ → ℕ → Binding → Bool
is_front r z b = nat_eq b.0 r && nat_eq b.1 z

abbrev pub third : Binding → ℕ
third b = b.2

front_from : (r z a b c : ℕ) → (nat_eq a r && nat_eq b z) ≡ true → is_from (r, z, 0) (a, b, c) ≡ true
front_from r z a b c h = grind (arith, nat_tests)

pub has_front-from : (r z : ℕ) (b : Binding) → is_front r z b ≡ true → is_from (r, z, 0) b ≡ true
has_front-from r z b h = front_from r z b.0 b.1 b.2 h

front_past : (r z a b c x y w : ℕ) → is_from (r, z, 0) (a, b, c) ≡ true → (nat_eq a r && nat_eq b z) ≡ false → binding_cmp (a, b, c) (x, y, w) ≡ Less → (nat_eq x r && nat_eq y z) ≡ false
front_past r z a b c x y w from other less = grind (arith, nat_tests)

pub no_front_after : (r z : ℕ) (x : Binding) (xs : List Binding) → IsRest (r, z, 0) (x ∷ xs) → is_front r z x ≡ false → AllByRecursion (λ b. is_front r z b ≡ false) (x ∷ xs)
unfolding IsStrictlySortedBy
no_front_after r z x xs k n = (n, each_after (λ b. is_front r z b ≡ false) x xs (λ b l. front_past r z x.0 x.1 x.2 b.0 b.1 b.2 k.from.0 n l) k.in_order.0)

pub and_none : (a b : Bool) → b ≡ false → (a && b) ≡ false
and_none true b h = h
and_none false b h = refl

pub none_at : (r z : ℕ) (bs : List Binding) → None ≡ option_map third (find (is_front r z) bs) → (y : ℕ) → list_any (is_tie r z y) bs ≡ false
none_at r z [] e y = refl
none_at r z (b ∷ bs) e y =
    elim (is_front r z b) as (λ v. is_front r z b ≡ v → None ≡ option_map third (cond v (Some b) (find (is_front r z) bs)) → list_any (is_tie r z y) (b ∷ bs) ≡ false) [
      | true ↦ λ _ none. absurd (none-some _ none)
      | false ↦ λ out rest. λ i. (out i && nat_eq b.2 y) || none_at r z bs rest y i
    ] refl e

pub some_at : (r z y : ℕ) (bs : List Binding) → Some y ≡ option_map third (find (is_front r z) bs) → list_any (is_tie r z y) bs ≡ true
some_at r z y [] e = absurd (none-some _ (sym e))
some_at r z y (b ∷ bs) e =
    elim (is_front r z b) as (λ v. is_front r z b ≡ v → Some y ≡ option_map third (cond v (Some b) (find (is_front r z) bs)) → list_any (is_tie r z y) (b ∷ bs) ≡ true) [
      | true ↦ λ at some. let same : y ≡ b.2 = cc in or_left _ _ (and_from _ _ at (eq-eqb b.2 y (sym same)))
      | false ↦ λ _ rest. or_right _ _ (some_at r z y bs rest)
    ] refl e

-- where the first entry's port has no binding, the others have all
pub key_passed : (z r y : ℕ) (e : Entry) (es : List Entry) (bs : List Binding) → has_key (e ∷ es) z r ≡ true → ((y : ℕ) → list_any (is_tie e.0.1 z y) bs ≡ false) → list_any (is_tie r z y) bs ≡ true → has_key es z r ≡ true
key_passed z r y e es bs there none bound =
    elim (or_cases (is_key z r e) _ there) [
      | inl here ↦ let port = eqb-true e.0.1 r (and_parts (nat_eq e.0.0 z) _ here).1 in absurd (both_ways _ (none y) (ap (λ r. list_any (is_tie r z y) bs) port ∙ bound))
      | inr later ↦ later
    ]
