-- Instances that are picked one by one, as those of a configuration, the lines of wishes or the members of a set are gone through.
use Rattle.std.proofs.Common.{◌≡◌, ℕ, ◌+◌, ◌<◌, Bool, true, false, cond, ◌||◌, List, [], ◌∷◌, Option, Some, None, drop, get_or, length, nat_eq, refl, sym, ap, ◌∙◌}
use Rattle.std.specs.BTreeSet.{insert_key}
use Rattle.std.specs.List.{cons_option, filter, filter_map, find}
use Rattle.std.specs.Map.{keys_of}
use Rattle.std.specs.Option.{option_or}
use Rattle.std.specs.Ordering.{nat_cmp}
use Rattle.std.proofs.lemmas.List.{drop_more}
use Rattle.metis_universe.proofs.Ascending.{has-insert_key}
use Rattle.metis_universe.specs.Terms.{has}
use Rattle.metis_reconfigure.specs.Terms.{passing}

-- ---- a set into which those instances are put that pass

module _ (test whole : ℕ → Bool) where
  -- what is in the set so far, and what the instances that are left add
  abbrev pub ArePicked : List ℕ → List (ℕ × ℕ) → Type 0
  ArePicked set left = (z : ℕ) → whole z ≡ (has set z || has (filter test (keys_of left)) z)

  pub picked_one : (set set' : List ℕ) (e : ℕ × ℕ) (it left : List (ℕ × ℕ)) → it ≡ e ∷ left → test e.0 ≡ true → set' ≡ insert_key nat_cmp set e.0 → ArePicked set it → ArePicked set' left
  picked_one set set' e it left is passes added k z =
      k z
      ∙ ap (λ es. has set z || has (filter test (keys_of es)) z) is
      ∙ ap (λ v. has set z || has (cond v (e.0 ∷ filter test (keys_of left)) (filter test (keys_of left))) z) passes
      ∙ moved (has set z) (nat_eq e.0 z) (has (filter test (keys_of left)) z)
      ∙ ap (λ v. v || has (filter test (keys_of left)) z) (sym (ap (λ zs. has zs z) added ∙ has-insert_key z e.0 set)) where
        moved : (a b c : Bool) → (a || (b || c)) ≡ ((b || a) || c)
        moved true true c = refl
        moved true false c = refl
        moved false true c = refl
        moved false false c = refl

  pub picked_none : (set : List ℕ) (e : ℕ × ℕ) (it left : List (ℕ × ℕ)) → it ≡ e ∷ left → test e.0 ≡ false → ArePicked set it → ArePicked set left
  picked_none set e it left is off k z =
      k z
      ∙ ap (λ es. has set z || has (filter test (keys_of es)) z) is
      ∙ ap (λ v. has set z || has (cond v (e.0 ∷ filter test (keys_of left)) (filter test (keys_of left))) z) off

  pub picked_all : (set : List ℕ) → ArePicked set [] → (z : ℕ) → has set z ≡ whole z
  picked_all set k z = sym (k z ∙ nothing (has set z)) where
    nothing : (b : Bool) → (b || false) ≡ b
    nothing true = refl
    nothing false = refl

-- ---- the first that passes

pub first_named : {A : Type 0} (f : A → Option ℕ) (test : ℕ → Bool) (ws : List A) (i : ℕ) (w : A) → i < length ws → w ≡ get_or ws i w
    → find test (filter_map f (drop i ws)) ≡ option_or (passing test (f w)) (find test (filter_map f (drop (i + 1) ws)))
first_named f test ws i w low is =
    ap (λ l. find test (filter_map f l)) (drop_more ws i w low)
    ∙ ap (λ o. find test (cons_option o (filter_map f (drop (i + 1) ws)))) (ap f (sym is))
    ∙ by (f w) where
      by : (o : Option ℕ) → find test (cons_option o (filter_map f (drop (i + 1) ws))) ≡ option_or (passing test o) (find test (filter_map f (drop (i + 1) ws)))
      by None = refl
      by (Some z) = elim (test z) as (λ b. cond b (Some z) (find test (filter_map f (drop (i + 1) ws))) ≡ option_or (cond b (Some z) None) (find test (filter_map f (drop (i + 1) ws)))) [
        | true ↦ refl
        | false ↦ refl
      ]

-- the first of the instances that are left passes, or is passed over
pub find_here : (test : ℕ → Bool) (e : ℕ × ℕ) (it left : List (ℕ × ℕ)) → it ≡ e ∷ left → test e.0 ≡ true → find test (keys_of it) ≡ Some e.0
find_here test e it left is passes = ap (λ es. find test (keys_of es)) is ∙ ap (λ b. cond b (Some e.0) (find test (keys_of left))) passes

pub find_later : (test : ℕ → Bool) (e : ℕ × ℕ) (it left : List (ℕ × ℕ)) → it ≡ e ∷ left → test e.0 ≡ false → find test (keys_of it) ≡ find test (keys_of left)
find_later test e it left is off = ap (λ es. find test (keys_of es)) is ∙ ap (λ b. cond b (Some e.0) (find test (keys_of left))) off
