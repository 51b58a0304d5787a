-- What each line of wishes comes to in the end.
use Rattle.std.proofs.Common.{◌≡◌, ℕ, zero, suc, ◌<◌, Bool, true, false, List, [], ◌∷◌, ◌++◌, Option, Some, None, length, refl, ap, ◌∙◌, arith, nat_eq, cond}
use Rattle.std.specs.Prelude.{IsSome}
use Rattle.std.specs.List.{Contains, cons_option, filter_map, list_any, slice_index_or}
use Rattle.std.specs.Option.{option_map_or}
use Rattle.std.proofs.lemmas.Bool.{eq-eqb, or_left, or_right}
use Rattle.metis_ids.proofs.Lists.{has-append}
use Rattle.metis_ids.proofs.Options.{IsSome_at}
use Rattle.metis_ids.specs.declared.actions.Action.{Action}
use Rattle.metis_ids.specs.declared.goals.Goal.{Goal}
use Rattle.metis_rollout.proofs.Going.{going_from_steady}
use Rattle.metis_rollout.proofs.Quiet.{keys-has}
use Rattle.metis_rollout.proofs.Removal.{left_config}
use Rattle.metis_universe.specs.Terms.{Config, IsConfig, IsUniverse, Universe, has, pair_of}
use Rattle.metis_wishes.specs.Terms.{instance_of, is_avoided, is_keep_all, keeps_all, kept, kept_of, rebound, rebound_of, retired, retired_of, subject_of}
use Rattle.metis_wishes.specs.declared.wish.Wish.{Wish}
use Rattle.metis_wishes.specs.declared.wish.Wish.TheVariants.{Keep, KeepAll, Rebind, Retire}
use Rattle.metis_reconfigure.specs.Terms.{IsAnswered, Reconfiguration, at_end, is_root, left_by, settled, wished}
use Rattle.metis_reconfigure.proofs.Given.{root_leaves, settles}
use Rattle.metis_reconfigure.proofs.Keeping.{leaving_gone, wished_in_the_end}

-- ---- a line among the wishes

-- what a function makes of an element is in the list of what it makes
made_of : {A : Type 0} (f : A → Option ℕ) (xs : List A) (x : A) (z : ℕ) → Contains xs x → f x ≡ Some z → has (filter_map f xs) z ≡ true
made_of {A = A} f xs x z (n, low, is) to = by n xs low is where
  has_more : (o : Option ℕ) (ys : List ℕ) → has ys z ≡ true → has (cons_option o ys) z ≡ true
  has_more None ys h = h
  has_more (Some w) ys h = or_right (nat_eq w z) (has ys z) h

  by : (n : ℕ) (xs : List A) → n < length xs → slice_index_or xs n x ≡ x → has (filter_map f xs) z ≡ true
  by n [] low is = absurd (omega arith)
  by zero (y ∷ xs) low is = ap (λ o. has (cons_option o (filter_map f xs)) z) (ap f is ∙ to) ∙ or_left (nat_eq z z) _ (eq-eqb z z refl)
  by (suc n) (y ∷ xs) low is = has_more (f y) (filter_map f xs) (by n xs (omega arith) is)

any_of : {A : Type 0} (t : A → Bool) (xs : List A) (x : A) → Contains xs x → t x ≡ true → list_any t xs ≡ true
any_of {A = A} t xs x (n, low, is) passes = by n xs low is where
  by : (n : ℕ) (xs : List A) → n < length xs → slice_index_or xs n x ≡ x → list_any t xs ≡ true
  by n [] low is = absurd (omega arith)
  by zero (y ∷ xs) low is = or_left (t y) _ (ap t is ∙ passes)
  by (suc n) (y ∷ xs) low is = or_right (t y) _ (by n xs (omega arith) is)

-- ---- in the end

module _ (u : Universe) (k : IsUniverse u) (wishes : List Wish) (old : List Action) (goals : List Goal) (r : Reconfiguration u wishes old goals) (ans : IsAnswered u wishes old goals r) where
  abbrev c : Config
  c = left_by u old

  kc : IsConfig c
  kc = left_config u old (going_from_steady u old ans.steady)

  abbrev StaysAsItIs : ℕ → Type 0
  StaysAsItIs z = IsSome (pair_of c z) × (pair_of (at_end r) z ≡ pair_of c z)

  stays : (z : ℕ) → has (wished wishes c r.leaving) z ≡ true → StaysAsItIs z
  stays = wished_in_the_end u k wishes old ans.steady goals r ans

  abbrev all_of : List ℕ
  all_of = cond (keeps_all wishes) (settled c r.leaving) []

  pub keep_kept : (z : ℕ) → Contains wishes (Keep z) → StaysAsItIs z
  keep_kept z line = stays z (has-append (kept wishes) (rebound wishes ++ all_of) z ∙ or_left _ _ (made_of kept_of wishes (Keep z) z line refl))

  pub rebind_kept : (z : ℕ) → Contains wishes (Rebind z) → StaysAsItIs z
  rebind_kept z line = stays z (has-append (kept wishes) (rebound wishes ++ all_of) z
      ∙ or_right (has (kept wishes) z) _ (has-append (rebound wishes) all_of z ∙ or_left _ _ (made_of rebound_of wishes (Rebind z) z line refl)))

  pub all_kept : (z p : ℕ) → Contains wishes KeepAll → pair_of c z ≡ Some p → has r.leaving z ≡ false → pair_of (at_end r) z ≡ Some p
  all_kept z p line there off =
      let all = any_of is_keep_all wishes KeepAll line refl in
      let among : has (settled c r.leaving) z ≡ true = settles u wishes c kc r.leaving r.leave z off (keys-has c.instances z (IsSome_at (pair_of c z) p there)) in
      (stays z (has-append (kept wishes) (rebound wishes ++ all_of) z
      ∙ or_right (has (kept wishes) z) _ (has-append (rebound wishes) all_of z ∙ or_right (has (rebound wishes) z) _ (ap (λ b. has (cond b (settled c r.leaving) []) z) all ∙ among)))).1 ∙ there

  root_gone : (z : ℕ) → is_root u wishes c z ≡ true → IsSome (pair_of c z) → pair_of (at_end r) z ≡ None
  root_gone z root there = leaving_gone u k wishes old ans.steady goals r ans z (root_leaves u wishes c kc r.leaving r.leave z root (keys-has c.instances z there))

  pub retire_kept : (z : ℕ) → Contains wishes (Retire z) → pair_of (at_end r) z ≡ None
  retire_kept z line = root_gone z (or_left (has (retired wishes) z) _ (made_of retired_of wishes (Retire z) z line refl))
      (ans.answerable.present z (made_of (λ w. instance_of (subject_of w)) wishes (Retire z) z line refl))

  pub avoid_kept : (z p : ℕ) → pair_of c z ≡ Some p → is_avoided u wishes p ≡ true → pair_of (at_end r) z ≡ None
  avoid_kept z p there avoids = root_gone z (or_right (has (retired wishes) z) _ (ap (λ o. option_map_or (is_avoided u wishes) o false) there ∙ avoids)) (IsSome_at (pair_of c z) p there)
