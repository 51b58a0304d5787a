-- What stays where the instances to which no binding points are removed again and again.
use Rattle.std.proofs.Common.{◌≡◌, ℕ, zero, suc, Bool, true, false, cond, not, ◌&&◌, ◌||◌, [], ◌∷◌, Option, Some, None, refl, sym, ap, ◌∙◌, subst, nat_eq}
use Rattle.std.specs.Prelude.{IsSome}
use Rattle.std.specs.Option.{option_map_or}
use Rattle.std.proofs.lemmas.Bool.{both_ways, eqb-true, false≢true}
use Rattle.metis_ids.specs.declared.actions.Action.TheVariants.{Delete}
use Rattle.metis_universe.specs.Terms.{Config, Universe, after_all, is_bound, pair_of, remove}
use Rattle.metis_universe.proofs.Edits.{is_bound-remove, pair_of-remove}
use Rattle.metis_rollout.specs.Terms.{is_referenced, next_unreferenced, unreferenced_deletes_within}
use Rattle.metis_rollout.proofs.Quiet.{next_one, unreferenced_pair}
use Rattle.metis_rollout.proofs.UnreferencedFacts.{bound_points}

-- the one that goes next has no binding to it
next_free : (goes : ℕ → Bool) (c : Config) (x : ℕ) → next_unreferenced goes c ≡ Some x → is_referenced c x ≡ false
next_free goes c x is = (next_one goes c x is).2

-- one that points or is pointed to is another
other_than : (c : Config) (r z y x : ℕ) → is_bound c r z y ≡ true → is_referenced c x ≡ false → nat_eq y x ≡ false
other_than c r z y x bound free = elim (nat_eq y x) as (λ b. nat_eq y x ≡ b → b ≡ false) [
  | true ↦ λ same. absurd (both_ways (is_referenced c x) free (subst (λ q. is_referenced c q ≡ true) (eqb-true y x same) (bound_points c r z y bound)))
  | false ↦ λ _. refl
] refl

-- a binding between two others stays
still_bound : (c : Config) (x r z y : ℕ) → nat_eq z x ≡ false → nat_eq y x ≡ false → is_bound c r z y ≡ true → is_bound (remove c x) r z y ≡ true
still_bound c x r z y off away bound = is_bound-remove c x r z y ∙ (λ i. not (off i || away i) && bound i)

still_there : (c : Config) (x z : ℕ) → nat_eq z x ≡ false → IsSome (pair_of c z) → IsSome (pair_of (remove c x) z)
still_there c x z off there = subst IsSome (sym (pair_of-remove c x z ∙ ap (λ b. cond (not b) (pair_of c z) None) off)) there

-- ---- a set of which each has a binding from one of the set

module _ (held : ℕ → Bool) where
  pub record IsHeld (c : Config) : Type 0 where
    pub there : (z : ℕ) → held z ≡ true → IsSome (pair_of c z)
    pub pointed : (z : ℕ) → held z ≡ true → (r : ℕ) × (x : ℕ) × (held x ≡ true) × (is_bound c r x z ≡ true)

  held_apart : (c : Config) (x z : ℕ) → IsHeld c → is_referenced c x ≡ false → held z ≡ true → nat_eq z x ≡ false
  held_apart c x z h free in_it = let by = h.pointed z in_it in other_than c by.0 by.1 z x by.3 free

  held_still : (c : Config) (x : ℕ) → IsHeld c → is_referenced c x ≡ false → IsHeld (remove c x)
  held_still c x h free = record {
    there = λ z in_it. still_there c x z (held_apart c x z h free in_it) (h.there z in_it);
    pointed = λ z in_it.
        let by = h.pointed z in_it in
        (by.0, by.1, by.2, still_bound c x by.0 by.1 z (held_apart c x by.1 h free by.2) (held_apart c x z h free in_it) by.3);
  }

  pub held_stay : (u : Universe) (goes : ℕ → Bool) (n : ℕ) (c : Config) → IsHeld c → (z : ℕ) → held z ≡ true → IsSome (pair_of (after_all u c (unreferenced_deletes_within goes n c)) z)
  held_stay u goes zero c h z in_it = h.there z in_it
  held_stay u goes (suc n) c h z in_it = elim (next_unreferenced goes c) as (λ o. next_unreferenced goes c ≡ o → IsSome (pair_of (after_all u c (option_map_or (λ y. Delete y ∷ unreferenced_deletes_within goes n (remove c y)) o [])) z)) [
    | None ↦ λ _. h.there z in_it
    | Some x ↦ λ is. held_stay u goes n (remove c x) (held_still c x h (next_free goes c x is)) z in_it
  ] refl

-- ---- the bindings of those that stay

is_there : (o : Option ℕ) → IsSome o → (p : ℕ) × (o ≡ Some p)
is_there None h = absurd (false≢true h)
is_there (Some p) h = (p, refl)

left_other : (c : Config) (x z p : ℕ) → pair_of (remove c x) z ≡ Some p → nat_eq z x ≡ false
left_other c x z p at = by_value (nat_eq z x) (sym (pair_of-remove c x z) ∙ at) where
  by_value : (b : Bool) → cond (not b) (pair_of c z) None ≡ Some p → b ≡ false
  by_value true e = absurd (none≢some p e) where
    none≢some : (p : ℕ) → None ≡ Some p → ⊥
    none≢some p h = cc
  by_value false e = refl

pub bound_stays : (u : Universe) (goes : ℕ → Bool) (n : ℕ) (c : Config) (r z y : ℕ) → IsSome (pair_of (after_all u c (unreferenced_deletes_within goes n c)) z) → is_bound c r z y ≡ true → is_bound (after_all u c (unreferenced_deletes_within goes n c)) r z y ≡ true
bound_stays u goes zero c r z y there bound = bound
bound_stays u goes (suc n) c r z y there bound = elim (next_unreferenced goes c) as (λ o. next_unreferenced goes c ≡ o → IsSome (pair_of (after_all u c (option_map_or (λ q. Delete q ∷ unreferenced_deletes_within goes n (remove c q)) o [])) z) → is_bound (after_all u c (option_map_or (λ q. Delete q ∷ unreferenced_deletes_within goes n (remove c q)) o [])) r z y ≡ true) [
  | None ↦ λ _ _. bound
  | Some x ↦ λ is h.
      let end = is_there (pair_of (after_all u (remove c x) (unreferenced_deletes_within goes n (remove c x))) z) h in
      let off = left_other c x z end.0 (unreferenced_pair goes u n (remove c x) z end.0 end.1) in
      bound_stays u goes n (remove c x) r z y h (still_bound c x r z y off (other_than c r z y x bound (next_free goes c x is)) bound)
] refl there
