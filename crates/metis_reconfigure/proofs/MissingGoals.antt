-- The missing goals, as they are gone through.
use Rattle.std.proofs.Common.{◌≡◌, ℕ, ◌+◌, ◌<◌, Bool, true, false, cond, not, ◌&&◌, List, [], ◌∷◌, ◌++◌, take, drop, length, get_or, Some, refl, sym, ap, ◌∙◌, arith, nat_eq, nat_le, append_assoc}
use Rattle.std.proofs.lemmas.List.{drop_more, take_more}
use Rattle.std.proofs.lemmas.List.Elements.{All-cons, All-head, All-nil, All-tail}
use Rattle.std.specs.List.{All, AllByRecursion, count_by, filter}
use Rattle.std.specs.Map.{keys_of, lookup}
use Rattle.std.specs.Option.{option_map_or}
use Rattle.metis_config.proofs.Leasts.{each_there}
use Rattle.metis_ids.specs.declared.goals.Goal.{Goal}
use Rattle.metis_rollout.specs.Terms.{members}
use Rattle.metis_universe.proofs.Served.{count-cons}
use Rattle.metis_universe.specs.Terms.{Config, IsConfig, Universe, has, places_of, serves}
use Rattle.metis_reconfigure.specs.Terms.{missing_behind, serving_among, settled}

-- ---- how many of the instances serve a goal

module _ (u : Universe) (those : ℕ → Bool) (g : Goal) (all : List (ℕ × ℕ)) where
  serves_here : ℕ × ℕ → Bool
  serves_here e = those e.0 && serves u e.1 g

  serves_there : ℕ → Bool
  serves_there z = option_map_or (λ p. serves u p g) (lookup (nat_eq z) all) false

  counted : (es : List (ℕ × ℕ)) → AllByRecursion (λ e. lookup (nat_eq e.0) all ≡ Some e.1) es → count_by serves_here es ≡ count_by serves_there (filter those (keys_of es))
  unfolding serves_here serves_there
  counted [] there = refl
  counted (e ∷ es) there = by (those e.0) (count-cons serves_here e es) (ap (λ o. option_map_or (λ p. serves u p g) o false) there.0) (counted es there.1) where
    by : (b : Bool) → count_by serves_here (e ∷ es) ≡ cond (b && serves u e.1 g) 1 0 + count_by serves_here es → serves_there e.0 ≡ serves u e.1 g
        → count_by serves_here es ≡ count_by serves_there (filter those (keys_of es))
        → count_by serves_here (e ∷ es) ≡ count_by serves_there (cond b (e.0 ∷ filter those (keys_of es)) (filter those (keys_of es)))
    by true steps is rest =
        steps ∙ ap (λ n. cond (serves u e.1 g) 1 0 + n) rest ∙ sym (count-cons serves_there e.0 (filter those (keys_of es)) ∙ ap (λ b. cond b 1 0 + count_by serves_there (filter those (keys_of es))) is)
    by false steps is rest = let zero : count_by serves_here (e ∷ es) ≡ 0 + count_by serves_here es = steps in omega (arith, zero, rest)

pub serving_counted : (u : Universe) (c : Config) (those : ℕ → Bool) (g : Goal) → IsConfig c → count_by (λ e. those e.0 && serves u e.1 g) c.instances ≡ serving_among u c (filter those (members c)) g
unfolding serves_here serves_there
serving_counted u c those g k = counted u those g c.instances c.instances (each_there c.instances k.ascending)

pub settled_counted : (u : Universe) (c : Config) (leaving : List ℕ) (g : Goal) → IsConfig c
    → count_by (λ e. not (has leaving e.0) && serves u e.1 g) c.instances ≡ serving_among u c (settled c leaving) g
settled_counted u c leaving g k = serving_counted u c (λ z. not (has leaving z)) g k

-- ---- goal by goal

module _ (u : Universe) (c : Config) (zs : List ℕ) (goals : List Goal) where
  -- what is missing so far, and what the goals from this one on add
  abbrev pub AreMissing : ℕ → List Goal → Type 0
  AreMissing i so_far = missing_behind u c zs [] goals ≡ so_far ++ missing_behind u c zs (take i goals) (drop i goals)

  -- the goals from this one on
  from_here : (i : ℕ) (g : Goal) → i < length goals → missing_behind u c zs (take i goals) (drop i goals)
      ≡ cond (nat_le (serving_among u c zs (get_or goals i g)) (places_of (take i goals) (get_or goals i g)))
      (get_or goals i g ∷ missing_behind u c zs (take (i + 1) goals) (drop (i + 1) goals)) (missing_behind u c zs (take (i + 1) goals) (drop (i + 1) goals))
  from_here i g low =
      ap (missing_behind u c zs (take i goals)) (drop_more goals i g low)
      ∙ ap (λ earlier. cond (nat_le (serving_among u c zs (get_or goals i g)) (places_of (take i goals) (get_or goals i g)))
      (get_or goals i g ∷ missing_behind u c zs earlier (drop (i + 1) goals)) (missing_behind u c zs earlier (drop (i + 1) goals))) (sym (take_more goals i g low))

  pub one_missing : (i : ℕ) (g : Goal) (so_far : List Goal) → i < length goals → nat_le (serving_among u c zs (get_or goals i g)) (places_of (take i goals) (get_or goals i g)) ≡ true
      → AreMissing i so_far → AreMissing (i + 1) (so_far ++ get_or goals i g ∷ [])
  one_missing i g so_far low few k =
      k ∙ ap (λ gs. so_far ++ gs) (from_here i g low ∙ ap (λ b. cond b (get_or goals i g ∷ missing_behind u c zs (take (i + 1) goals) (drop (i + 1) goals)) (missing_behind u c zs (take (i + 1) goals) (drop (i + 1) goals))) few)
      ∙ sym (append_assoc so_far (get_or goals i g ∷ []) (missing_behind u c zs (take (i + 1) goals) (drop (i + 1) goals)))

  pub none_missing : (i : ℕ) (g : Goal) (so_far : List Goal) → i < length goals → nat_le (serving_among u c zs (get_or goals i g)) (places_of (take i goals) (get_or goals i g)) ≡ false
      → AreMissing i so_far → AreMissing (i + 1) so_far
  none_missing i g so_far low enough k =
      k ∙ ap (λ gs. so_far ++ gs) (from_here i g low ∙ ap (λ b. cond b (get_or goals i g ∷ missing_behind u c zs (take (i + 1) goals) (drop (i + 1) goals)) (missing_behind u c zs (take (i + 1) goals) (drop (i + 1) goals))) enough)

-- what holds of each goal holds of the missing ones
pub missing_within : (P : Goal → Type 0) (u : Universe) (c : Config) (zs : List ℕ) (earlier goals : List Goal) → All P goals → All P (missing_behind u c zs earlier goals)
missing_within P u c zs earlier [] each = All-nil P
missing_within P u c zs earlier (g ∷ goals) each =
    let later = missing_behind u c zs (earlier ++ g ∷ []) goals in
    let rest = missing_within P u c zs (earlier ++ g ∷ []) goals (All-tail P g goals each) in
    elim (nat_le (serving_among u c zs g) (places_of earlier g)) as (λ b. All P (cond b (g ∷ later) later)) [
      | true ↦ All-cons P g later (All-head P g goals each) rest
      | false ↦ rest
    ]
