-- Two steady lists that make different instances, side by side.
use Rattle.std.proofs.Common.{◌≡◌, ℕ, Bool, true, false, not, ◌||◌, List, [], ◌∷◌, ◌++◌, refl, sym, ap, ◌∙◌, subst, nat_eq, append-nil}
use Rattle.std.specs.Prelude.{IsSome}
use Rattle.std.proofs.lemmas.Bool.{false≢true}
use Rattle.std.proofs.lemmas.List.Elements.{filter-append}
use Rattle.metis_ids.specs.Terms.{actor_of}
use Rattle.metis_ids.specs.declared.actions.Action.{Action}
use Rattle.metis_ids.specs.declared.actions.Action.TheVariants.{New, Delete, Bind, Unbind, Move}
use Rattle.metis_universe.specs.Terms.{IsSteadfastRun, Universe, after_all, empty, has, is_bound, pair_of}
use Rattle.metis_universe.proofs.Kept.{IsConfig-empty}
use Rattle.metis_layers.proofs.Going.{GoesOn, at}
use Rattle.metis_rollout.specs.Terms.{AreTogether, IsRenamed, fresh_name, is_made, news_of, renumbered}
use Rattle.metis_rollout.proofs.Unused.{free_number-apart, free_number-free, same_place}
use Rattle.metis_rollout.proofs.Going.{going_from_steady, steady_from_going}
use Rattle.metis_rollout.proofs.Renaming.{bound_ren, pair_ren, ren_goes, touches_ren}
use Rattle.metis_rollout.proofs.Sides.{AreOpposite, all_other_kept, bound_on, on, pair_on, sides_go}
use Rattle.metis_rollout.proofs.Touching.{AllKeep-append, AllTouch, At, going_touches, on-all, on-none, other_side_kept, pair_touched, same_kept, used_touched}

none_there : (u : Universe) (P : ℕ → Type 0) (z : ℕ) → IsSome (pair_of (at u []) z) → P z
none_there u P z h = absurd (false≢true h)

-- a steady list touches what it makes
pub touches_own : (u : Universe) (xs : List Action) → GoesOn u [] xs → AllTouch (At (is_made xs)) xs
touches_own u xs go = going_touches u (At (is_made xs)) [] xs go IsConfig-empty (none_there u (At (is_made xs))) (λ z h. h)

pub touches_made : (u : Universe) (P : ℕ → Type 0) (xs : List Action) → GoesOn u [] xs → ((z : ℕ) → is_made xs z ≡ true → P z) → AllTouch P xs
touches_made u P xs go made = going_touches u P [] xs go IsConfig-empty (none_there u P) made

split1 : (P : ℕ → Type 0) (xs ys : List Action) → AllTouch P (xs ++ ys) → AllTouch P xs
split1 P [] ys all = tt
split1 P (a ∷ xs) ys all = (all.0, split1 P xs ys all.1)

pub split2 : (P : ℕ → Type 0) (xs ys : List Action) → AllTouch P (xs ++ ys) → AllTouch P ys
split2 P [] ys all = all
split2 P (a ∷ xs) ys all = split2 P xs ys all.1

-- The second list between two parts of the first: each does as if it were alone.
pub beside : (u : Universe) (xs ys rest : List Action) → GoesOn u [] (xs ++ rest) → GoesOn u [] ys → ((z : ℕ) → is_made ys z ≡ true → is_made (xs ++ rest) z ≡ false)
    → GoesOn u [] (xs ++ (ys ++ rest)) × AreTogether u (xs ++ rest) ys (at u (xs ++ (ys ++ rest)))
beside u xs ys rest one two apart =
    let S = is_made (xs ++ rest) in
    let T : ℕ → Bool = λ z. not (S z) in
    let o : AreOpposite S T = λ z. refl in
    let o' : AreOpposite T S = λ z. twice (S z) in
    let mine = touches_own u (xs ++ rest) one in
    let mine1 = split1 (At S) xs rest mine in
    let mine2 = split2 (At S) xs rest mine in
    let others = touches_made u (At T) ys two (λ z h. ap not (apart z h)) in
    let whole = xs ++ (ys ++ rest) in
    let kept = AllKeep-append S xs (ys ++ rest) (same_kept S T o xs mine1) (AllKeep-append S ys rest (other_side_kept S T o ys others) (same_kept S T o rest mine2)) in
    let on_S : on S whole ≡ xs ++ rest = filter-append (λ a. S (actor_of a)) xs (ys ++ rest)
    ∙ ap (λ l. l ++ on S (ys ++ rest)) (on-all S T o xs mine1)
    ∙ ap (λ l. xs ++ l) (filter-append (λ a. S (actor_of a)) ys rest ∙ ap (λ l. l ++ on S rest) (on-none S T o ys others) ∙ on-all S T o rest mine2) in
    let on_T : on T whole ≡ ys = filter-append (λ a. T (actor_of a)) xs (ys ++ rest)
    ∙ ap (λ l. l ++ on T (ys ++ rest)) (on-none T S o' xs mine1)
    ∙ filter-append (λ a. T (actor_of a)) ys rest ∙ ap (λ l. l ++ on T rest) (on-all T S o' ys others)
    ∙ ap (λ l. ys ++ l) (on-none T S o' rest mine2) ∙ append-nil ys in
    let kept_T = all_other_kept S T o whole kept in (
      sides_go u S T o whole kept (subst (GoesOn u []) (sym on_S) one) (subst (GoesOn u []) (sym on_T) two),
      record {
        old_pairs = λ z h. pair_on S u z whole h ∙ ap (λ l. pair_of (at u l) z) on_S;
        new_pairs = λ z h. pair_on T u z whole (ap not h) ∙ ap (λ l. pair_of (at u l) z) on_T;
        old_bindings = λ r z y h. bound_on S u r z y whole kept h ∙ ap (λ l. is_bound (at u l) r z y) on_S;
        new_bindings = λ r z y h. bound_on T u r z y whole kept_T (ap not h) ∙ ap (λ l. is_bound (at u l) r z y) on_T;
      },
    ) where
      twice : (b : Bool) → b ≡ not (not b)
      twice true = refl
      twice false = refl

-- ---- the fresh list under its numbers

pub has-news : (xs : List Action) (z : ℕ) → has (news_of xs) z ≡ is_made xs z
has-news [] z = refl
has-news (New x t ∷ xs) z = ap (λ b. nat_eq x z || b) (has-news xs z)
has-news (Delete x ∷ xs) z = has-news xs z
has-news (Bind r x y ∷ xs) z = has-news xs z
has-news (Unbind r x y ∷ xs) z = has-news xs z
has-news (Move x p q ∷ xs) z = has-news xs z

module _ (u : Universe) (old fresh : List Action) where
  pub names_apart : (z w : ℕ) → is_made fresh z ≡ true → fresh_name old fresh z ≡ fresh_name old fresh w → z ≡ w
  names_apart z w h e = same_place (news_of fresh) z w (has-news fresh z ∙ h) (free_number-apart (news_of old) _ _ e)

  name_free : (z : ℕ) → is_made old (fresh_name old fresh z) ≡ false
  name_free z = sym (has-news old (fresh_name old fresh z)) ∙ free_number-free (news_of old) _

  pub fresh_goes : GoesOn u [] fresh → GoesOn u [] (renumbered old fresh)
  fresh_goes go = ren_goes u (fresh_name old fresh) (is_made fresh) names_apart [] fresh tt (touches_own u fresh go) go

  -- what the renumbered list makes is made by fresh under another name
  pub fresh_images : GoesOn u [] fresh → AllTouch (λ x. (z : ℕ) × (is_made fresh z ≡ true) × (fresh_name old fresh z ≡ x)) (renumbered old fresh)
  fresh_images go = touches_ren u (fresh_name old fresh) (is_made fresh) names_apart fresh (touches_own u fresh go)

  pub fresh_unused : GoesOn u [] fresh → (x : ℕ) → is_made (renumbered old fresh) x ≡ true → is_made old x ≡ false
  fresh_unused go x h =
      let of = used_touched _ x (renumbered old fresh) (fresh_images go) h in
      ap (is_made old) (sym of.2) ∙ name_free of.0

  pub fresh_renamed : GoesOn u [] fresh → IsRenamed (fresh_name old fresh) fresh (at u fresh) (at u (renumbered old fresh))
  fresh_renamed go = record {
    apart = λ z w h k e. names_apart z w h e;
    pairs = λ z h. pair_ren u (fresh_name old fresh) (is_made fresh) names_apart z fresh h;
    bindings = λ r z y h k. bound_ren u (fresh_name old fresh) (is_made fresh) names_apart r z y fresh h k;
    only = λ x h. pair_touched _ u x (renumbered old fresh) (fresh_images go) h;
  }

pub together : (u : Universe) (old fresh : List Action) → IsSteadfastRun u old → IsSteadfastRun u fresh
    → IsSteadfastRun u (old ++ renumbered old fresh) × AreTogether u old (renumbered old fresh) (after_all u empty (old ++ renumbered old fresh)) × IsRenamed (fresh_name old fresh) fresh (after_all u empty fresh) (after_all u empty (renumbered old fresh))
together u old fresh s t =
    let new = renumbered old fresh in
    let go = going_from_steady u old s in
    let going = going_from_steady u fresh t in
    let e = append-nil old in
    let both = beside u old new [] (subst (GoesOn u []) (sym e) go) (fresh_goes u old fresh going) (λ z h. ap (λ l. is_made l z) e ∙ fresh_unused u old fresh going z h) in
    let f = ap (λ l. old ++ l) (append-nil new) in (
      steady_from_going u (old ++ new) (subst (GoesOn u []) f both.0),
      subst (λ l. AreTogether u old new (at u l)) f (subst (λ l. AreTogether u l new (at u (old ++ (new ++ [])))) e both.1),
      fresh_renamed u old fresh going,
    )
