-- The weights that a map keeps, after the crowd of one key changed.
use Rattle.std.proofs.Common.{◌≡◌, ℕ, ◌+◌, Bool, true, false, cond, ◌&&◌, Option, Some, None, refl, ap, sym, ◌∙◌, nat_eq, arith}
use Rattle.std.proofs.lemmas.Bool.{and_parts, eqb-true}
use Rattle.std.proofs.lemmas.Bool.Decides.{nat_tests}
use Rattle.std.specs.BTreeMap.{BTreeMap, get, is_at}
use Rattle.std.specs.Map.{lookup}
use Rattle.std.proofs.lemmas.Map.Made.{lookup-map_values}
use Rattle.std.specs.Prelude.{option_map, IsSomeAnd, MatchOption, OnErr, OnOk, Result, Ok, Err}
use Rattle.std.specs.Option.{option_map_or}
use Rattle.std.specs.Ordering.{is_eq, nat_cmp, ordering_then}
use Rattle.metis_config.specs.Terms.{key_cmp, shares_in, shares_of, weight, weight_at, weight_in}
use Rattle.metis_config.specs.declared.supply.Supply.{Supply}

abbrev pub weighed : (ℕ → Bool) → Option Supply → ℕ
weighed f o = option_map_or (λ s. weight f (shares_of s)) o 0

-- a list of the shares weighs the same
pub weight-shares : (m : BTreeMap (ℕ × ℕ) Supply) (w r : ℕ) (f : ℕ → Bool) → weight_in (shares_in m.entries) w r f ≡ weight_at m w r f
weight-shares m w r f = ap (λ o. option_map_or (weight f) o 0) (lookup-map_values shares_of (is_at (key_cmp (w, r))) m.entries) ∙ alike (lookup (is_at (key_cmp (w, r))) m.entries) where
  alike : (o : Option Supply) → option_map_or (weight f) (option_map shares_of o) 0 ≡ weighed f o
  alike None = refl
  alike (Some s) = refl

-- of what is said where a call answered Ok or Err
pub on_ok : {T E P Q : Type 0} (r : Result T E) → (P → Q) → OnOk r P → OnOk r Q
on_ok (Ok x) g h = g h
on_ok (Err e) g h = h

pub on_err : {T E P Q : Type 0} (r : Result T E) → (P → Q) → OnErr r P → OnErr r Q
on_err (Ok x) g h = h
on_err (Err e) g h = g h

-- a clone weighs the same
pub cloned : (f : ℕ → Bool) (o p : Option Supply) → MatchOption o (p ≡ None) (λ x. IsSomeAnd p (λ y. shares_of y ≡ shares_of x)) → weighed f p ≡ weighed f o
cloned f None p h = ap (weighed f) h
cloned f (Some x) None h = absurd h
cloned f (Some x) (Some y) h = ap (weight f) h

-- where the last goes, none is left
pub last_gone : (m l n : BTreeMap (ℕ × ℕ) Supply) (w r : ℕ) (x : Supply) → ((q : ℕ × ℕ) → get key_cmp l q ≡ cond (is_at (key_cmp (w, r)) q) (Some x) (get key_cmp m q)) → ((q : ℕ × ℕ) → get key_cmp n q ≡ cond (is_at (key_cmp (w, r)) q) None (get key_cmp l q)) →
    (q : ℕ × ℕ) → get key_cmp n q ≡ cond (is_at (key_cmp (w, r)) q) None (get key_cmp m q)
last_gone m l n w r x written gone q = gone q ∙ ap (cond (is_at (key_cmp (w, r)) q) None) (written q) ∙ once (is_at (key_cmp (w, r)) q) where
  once : (b : Bool) → cond b None (cond b (Some x) (get key_cmp m q)) ≡ cond b None (get key_cmp m q)
  once true = refl
  once false = refl

pub key : (w r v s : ℕ) → is_eq (ordering_then (nat_cmp w v) (nat_cmp r s)) ≡ (nat_eq v w && nat_eq s r)
key w r v s = grind (arith, nat_tests)

pub split : (b t : Bool) → ◌≡◌ {A = ℕ} (cond b (cond t 1 0) 0) (cond (b && t) 1 0)
split true true = refl
split true false = refl
split false true = refl
split false false = refl

module _ (m n : BTreeMap (ℕ × ℕ) Supply) (w r : ℕ) (o : Option Supply) (up : (q : ℕ × ℕ) → get key_cmp n q ≡ cond (is_at (key_cmp (w, r)) q) o (get key_cmp m q)) where
  -- what is at a key, where the crowd of one changed by some and some
  pub changed : (f : ℕ → Bool) (less more : ℕ) → weighed f o + less ≡ weight_at m w r f + more → (v s : ℕ) → weight_at n v s f + cond (nat_eq v w && nat_eq s r) less 0 ≡ weight_at m v s f + cond (nat_eq v w && nat_eq s r) more 0
  changed f less more one v s =
      ap (λ x. weighed f x + cond (nat_eq v w && nat_eq s r) less 0) (up (v, s))
      ∙ ap (λ b. weighed f (cond b o (get key_cmp m (v, s))) + cond (nat_eq v w && nat_eq s r) less 0) (key w r v s)
      ∙ elim (nat_eq v w && nat_eq s r) as (λ b. (nat_eq v w && nat_eq s r) ≡ b → weighed f (cond b o (get key_cmp m (v, s))) + cond b less 0 ≡ weight_at m v s f + cond b more 0) [
        | true ↦ λ at. let parts = and_parts (nat_eq v w) _ at in one ∙ (λ i. weight_at m (sym (eqb-true v w parts.0) i) (sym (eqb-true s r parts.1) i) f + more)
        | false ↦ λ _. refl
      ] refl

  pub entered : (p : ℕ) → ((f : ℕ → Bool) → weighed f o ≡ weight_at m w r f + cond (f p) 1 0) → (v s : ℕ) (f : ℕ → Bool) → weight_at n v s f ≡ weight_at m v s f + cond (nat_eq v w && nat_eq s r && f p) 1 0
  entered p one v s f =
      let all = changed f 0 (cond (f p) 1 0) (let h = one f in omega (arith, h)) v s in
      let none = zero_either (nat_eq v w && nat_eq s r) in
      let parts = split (nat_eq v w && nat_eq s r) (f p) in
      omega (arith, all, none, parts) where
        zero_either : (b : Bool) → ◌≡◌ {A = ℕ} (cond b 0 0) 0
        zero_either true = refl
        zero_either false = refl

  pub left : (p : ℕ) → ((f : ℕ → Bool) → weighed f o + cond (f p) 1 0 ≡ weight_at m w r f) → (v s : ℕ) (f : ℕ → Bool) → weight_at n v s f + cond (nat_eq v w && nat_eq s r && f p) 1 0 ≡ weight_at m v s f
  left p one v s f =
      let all = changed f (cond (f p) 1 0) 0 (let h = one f in omega (arith, h)) v s in
      let none = zero_either (nat_eq v w && nat_eq s r) in
      let parts = split (nat_eq v w && nat_eq s r) (f p) in
      omega (arith, all, none, parts) where
        zero_either : (b : Bool) → ◌≡◌ {A = ℕ} (cond b 0 0) 0
        zero_either true = refl
        zero_either false = refl

  pub shifted : (p q : ℕ) → ((f : ℕ → Bool) → weighed f o + cond (f p) 1 0 ≡ weight_at m w r f + cond (f q) 1 0) → (v s : ℕ) (f : ℕ → Bool) →
      weight_at n v s f + cond (nat_eq v w && nat_eq s r && f p) 1 0 ≡ weight_at m v s f + cond (nat_eq v w && nat_eq s r && f q) 1 0
  shifted p q one v s f =
      let all = changed f (cond (f p) 1 0) (cond (f q) 1 0) (one f) v s in
      let less = split (nat_eq v w && nat_eq s r) (f p) in
      let more = split (nat_eq v w && nat_eq s r) (f q) in
      omega (arith, all, less, more)

  -- the crowd stays
  pub same : ((f : ℕ → Bool) → weighed f o ≡ weight_at m w r f) → (v s : ℕ) (f : ℕ → Bool) → weight_at n v s f ≡ weight_at m v s f
  same one v s f =
      let all = changed f 0 0 (let h = one f in omega (arith, h)) v s in
      let none = zero_either (nat_eq v w && nat_eq s r) in
      omega (arith, all, none) where
        zero_either : (b : Bool) → ◌≡◌ {A = ℕ} (cond b 0 0) 0
        zero_either true = refl
        zero_either false = refl
