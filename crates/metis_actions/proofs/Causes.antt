-- An action has no fault exactly where it is a step to a correct configuration.
use Rattle.std.proofs.Common.{◌≡◌, ℕ, ◌<◌, Bool, true, false, not, Option, Some, None, Result, Ok, Err, inl, inr, refl, ap, sym, ◌∙◌, subst, nat_eq, cond}
use Rattle.std.specs.Prelude.{◌≢◌, IsTrue, IsSome, IsSomeAnd, is_some, is_none, option_map, OnOk, IfErr}
use Rattle.std.specs.Option.{option_map_or, option_or, option_and_then}
use Rattle.std.proofs.lemmas.Bool.{false≢true, true≢false, both_ways, and_parts, and_from, or_right, or_cases, eq-eqb, eqb-true, ne_eqb, not-false}
use Rattle.metis_ids.specs.declared.actions.Action.{Action}
use Rattle.metis_ids.specs.declared.actions.Action.TheVariants.{New, Delete, Bind, Unbind, Move}
use Rattle.metis_ids.proofs.Options.{both_none, none_from_is_some}
use Rattle.metis_universe.specs.Terms.{Allows, Binding, CanBind, Config, Correct, IsConfig, IsOf, IsUniverse, Step, Universe, after, demand_of, initial_of, is_bound, is_tie, names, pair_count, pair_of, port_count, put, remove, tie, type_of, type_provides, type_requires, untie}
use Rattle.metis_universe.proofs.Demands.{IsMet-map}
use Rattle.metis_universe.proofs.Edits.{pair_of-put, pair_of-remove, is_bound-tie, is_bound-untie, is_bound-remove, tie_is}
use Rattle.metis_universe.proofs.Kept.{IsConfig-after}
use Rattle.metis_config.specs.Terms.{IsOver}
use Rattle.metis_config.proofs.Leasts.{correct-unmet, unmet-correct}
use Rattle.metis_actions.specs.declared.faults.AFault.{AFault}
use Rattle.metis_actions.specs.declared.faults.AFault.TheVariants.{InUse, NoInstance, NoState, NoTransition, SameInstance, NoSuchPort, Bound, NotBound, Unmet, NoMemory}
use Rattle.metis_actions.specs.Terms.{Answers, IsCause, elsewhere, fault_of, unmet_after, when}

-- ---- the first of two

neither : {A : Type 0} (a b : Option A) → option_or a b ≡ None → (a ≡ None) × (b ≡ None)
neither None b h = (refl, h)
neither (Some x) b h = cc

pub not_when : (b : Bool) (f : AFault) → when b f ≡ None → b ≡ false
not_when true f h = cc
not_when false f h = refl

pub when_not : (b : Bool) (f : AFault) → b ≡ false → when b f ≡ None
when_not true f h = absurd (true≢false h)
when_not false f h = refl

pub there_of : {A : Type 0} (o : Option A) → is_none o ≡ false → (x : A) × (o ≡ Some x)
there_of None h = absurd (true≢false h)
there_of (Some x) h = (x, refl)

no_unmet : (o : Option (ℕ × ℕ)) → option_map (λ x. Unmet x.0 x.1) o ≡ None → o ≡ None
no_unmet None h = refl
no_unmet (Some x) h = cc

pub some_there : (o : Option ℕ) → IsSome o → is_none o ≡ false
some_there None h = absurd (false≢true h)
some_there (Some x) h = refl

-- ---- a binding that comes leaves what is met

pub Correct-tie : (u : Universe) (c : Config) (r z y : ℕ) → Correct u c → Correct u (tie c r z y)
Correct-tie u c r z y correct w p s there needs =
    IsMet-map u c (tie c r z y) w s (demand_of u p s) (λ v x. record { pair = x.pair; bound = is_bound-tie c r z y s w v ∙ or_right _ _ x.bound; there = x.there; gives = x.gives }) (correct w p s there needs)

-- ---- no fault

module _ (u : Universe) (c : Config) (k : IsUniverse u) (h : IsConfig c) (correct : Correct u c) where
  done : (a : Action) → Allows u c a → unmet_after u c a ≡ None → Allows u c a × Correct u (after u c a)
  done a allowed none = (allowed, correct-unmet u (after u c a) k (IsConfig-after u c a h allowed) (no_unmet _ none))

  undone : (a : Action) → Allows u c a → Correct u (after u c a) → unmet_after u c a ≡ None
  undone a allowed fine = ap (option_map (λ x. Unmet x.0 x.1)) (unmet-correct u (after u c a) k (IsConfig-after u c a h allowed) fine)

  pub step-no_fault : (a : Action) → IsOf u a → fault_of u c a ≡ None → Allows u c a × Correct u (after u c a)
  step-no_fault (New z t) is none =
      let parts = neither _ _ none in
      done (New z t) (is, none_from_is_some _ (not_when _ _ parts.0)) parts.1
  step-no_fault (Delete z) is none =
      let parts = neither _ _ none in
      let there = there_of (pair_of c z) (not_when _ _ parts.0) in
      done (Delete z) (ap is_some there.1) parts.1
  step-no_fault (Bind r z y) is none =
      let a = neither _ _ none in
      let b = neither _ _ a.1 in
      let d = neither _ _ b.1 in
      let e = neither _ _ d.1 in
      let p = there_of (pair_of c z) (not_when _ _ a.0) in
      let q = there_of (pair_of c y) (not_when _ _ b.0) in
      let port = and_parts (option_map_or (λ p. type_requires u (type_of u p) r) (pair_of c z) false) _ (not-false _ (not_when _ _ e.0)) in
      let can : CanBind u c r z y = record {
        apart = λ same. both_ways _ (not_when _ _ d.0) (eq-eqb z y same);
        requirer = subst (λ o. IsSomeAnd o (λ p. IsTrue (type_requires u (type_of u p) r))) (sym p.1) (sym (ap (λ o. option_map_or (λ p. type_requires u (type_of u p) r) o false) p.1) ∙ port.0);
        provider = subst (λ o. IsSomeAnd o (λ p. IsTrue (type_provides u (type_of u p) r))) (sym q.1) (sym (ap (λ o. option_map_or (λ p. type_provides u (type_of u p) r) o false) q.1) ∙ port.1);
        unbound = not_when _ _ e.1;
      } in
      (can, Correct-tie u c r z y correct)
  step-no_fault (Unbind r z y) is none =
      let parts = neither _ _ none in
      done (Unbind r z y) (not-false _ (not_when _ _ parts.0)) parts.1
  step-no_fault (Move z p q) is none =
      let a = neither _ _ none in
      let b = neither _ _ a.1 in
      let d = neither _ _ b.1 in
      let there = there_of (pair_of c z) (not_when _ _ a.0) in
      let same = not-false _ (not_when (not (nat_eq there.0 p)) (NoState z there.0) (sym (ap (option_and_then (λ actual. when (not (nat_eq actual p)) (NoState z actual))) there.1) ∙ b.0)) in
      done (Move z p q) (there.1 ∙ ap Some (eqb-true there.0 p same), not-false _ (not_when _ _ d.0)) d.1

  pub no_fault-step : (a : Action) → Allows u c a → Correct u (after u c a) → fault_of u c a ≡ None
  no_fault-step (New z t) allowed fine = both_none _ _ (when_not _ _ (ap is_some allowed.1)) (undone (New z t) allowed fine)
  no_fault-step (Delete z) allowed fine = both_none _ _ (when_not _ _ (some_there _ allowed)) (undone (Delete z) allowed fine)
  no_fault-step (Bind r z y) allowed fine =
      let p = some_such (pair_of c z) (λ p. type_requires u (type_of u p) r) allowed.requirer in
      let q = some_such (pair_of c y) (λ p. type_provides u (type_of u p) r) allowed.provider in
      both_none _ _ (when_not _ _ (some_there _ p.0)) (both_none _ _ (when_not _ _ (some_there _ q.0)) (both_none _ _ (when_not _ _ (ne_eqb z y allowed.apart))
      (both_none _ _ (when_not _ _ (ap not (and_from _ _ p.1 q.1))) (when_not _ _ allowed.unbound)))) where
        some_such : (o : Option ℕ) (t : ℕ → Bool) → IsSomeAnd o (λ p. IsTrue (t p)) → IsSome o × (option_map_or t o false ≡ true)
        some_such None t h = absurd h
        some_such (Some x) t h = (refl, h)
  no_fault-step (Unbind r z y) allowed fine = both_none _ _ (when_not _ _ (ap not allowed)) (undone (Unbind r z y) allowed fine)
  no_fault-step (Move z p q) allowed fine =
      both_none _ _ (when_not _ _ (ap is_none allowed.0)) (both_none _ _ (at_home allowed.0) (both_none _ _ (when_not _ _ (ap not allowed.1)) (undone (Move z p q) allowed fine))) where
        at_home : pair_of c z ≡ Some p → elsewhere c z p ≡ None
        at_home e = ap (option_and_then (λ actual. when (not (nat_eq actual p)) (NoState z actual))) e ∙ when_not (not (nat_eq p p)) (NoState z p) (ap not (eq-eqb p p refl))

-- ---- numbers of the universe

over_put : (u : Universe) (c : Config) (z q : ℕ) → q < pair_count u → IsOver u c → IsOver u (put c z q)
over_put u c z q low o = record {
  pairs = λ w p there. elim (nat_eq w z) as (λ b. cond b (Some q) (pair_of c w) ≡ Some p → p < pair_count u) [
    | true ↦ λ at. let is : q ≡ p = cc in subst (λ p. p < pair_count u) is low
    | false ↦ λ old. o.pairs w p old
  ] (sym (pair_of-put c z q w) ∙ there);
  ports = o.ports;
}

over_fewer : (u : Universe) (c d : Config) → ((w p : ℕ) → pair_of d w ≡ Some p → pair_of c w ≡ Some p) → ((r z y : ℕ) → IsTrue (is_bound d r z y) → IsTrue (is_bound c r z y)) → IsOver u c → IsOver u d
over_fewer u c d pairs ports o = record { pairs = λ w p there. o.pairs w p (pairs w p there); ports = λ r z y b. o.ports r z y (ports r z y b) }

kept_pair : (b : Bool) (o : Option ℕ) (p : ℕ) → cond b o None ≡ Some p → o ≡ Some p
kept_pair true o p h = h
kept_pair false o p h = cc

pub over_after : (u : Universe) (c : Config) → IsUniverse u → IsOver u c → (a : Action) → IsOf u a → IsOver u (after u c a)
over_after u c k o (New z t) is = over_put u c z (initial_of u t) (k.initials t is).0 o
over_after u c k o (Delete z) is =
    over_fewer u c (remove c z) (λ w p there. kept_pair _ _ p (sym (pair_of-remove c z w) ∙ there)) (λ r w y b. (and_parts (not (names z (r, w, y))) _ (sym (is_bound-remove c z r w y) ∙ b)).1) o
over_after u c k o (Bind r z y) is = record {
  pairs = o.pairs;
  ports = λ s w x b. elim (or_cases _ _ (sym (is_bound-tie c r z y s w x) ∙ b)) [
    | inl new ↦ subst (λ (b : Binding). b.0 < port_count u) (tie_is s w x (r, z, y) new) is
    | inr old ↦ o.ports s w x old
  ];
}
over_after u c k o (Unbind r z y) is =
    over_fewer u c (untie c r z y) (λ w p there. there) (λ s w x b. (and_parts (not (is_tie r z y (s, w, x))) _ (sym (is_bound-untie c r z y s w x) ∙ b)).1) o
over_after u c k o (Move z p q) is = over_put u c z q is.1 o

-- ---- what an answer says

module _ (u : Universe) (c : Config) (k : IsUniverse u) (h : IsConfig c) (correct : Correct u c) (o : IsOver u c) (a : Action) (is : IsOf u a) (d : Config) where
  pub answer_step : {T : Type 0} (r : Result T AFault) → Answers u c a d r → OnOk r (Step u c a d)
  answer_step (Ok x) e = ((step-no_fault u c k h correct a is e.0).0, e.1)
  answer_step (Err f) e = tt

  pub answer_correct : {T : Type 0} (r : Result T AFault) → Answers u c a d r → Correct u d
  answer_correct (Ok x) e = subst (Correct u) (sym e.1) (step-no_fault u c k h correct a is e.0).1
  answer_correct (Err f) e = subst (Correct u) (sym e.1) correct

  pub answer_over : {T : Type 0} (r : Result T AFault) → Answers u c a d r → IsOver u d
  answer_over (Ok x) e = subst (IsOver u) (sym e.1) (over_after u c k o a is)
  answer_over (Err f) e = subst (IsOver u) (sym e.1) o

  cause_some : (f : AFault) → f ≢ NoMemory → IsCause u c a f → fault_of u c a ≡ Some f
  cause_some (InUse z) n e = e
  cause_some (NoInstance z) n e = e
  cause_some (NoState z p) n e = e
  cause_some NoTransition n e = e
  cause_some SameInstance n e = e
  cause_some NoSuchPort n e = e
  cause_some Bound n e = e
  cause_some NotBound n e = e
  cause_some (Unmet z r) n e = e
  cause_some NoMemory n e = absurd (n refl)

  pub answer_refused : {T : Type 0} (r : Result T AFault) → Answers u c a d r → IfErr r (λ f. f ≢ NoMemory → Allows u c a → Correct u (after u c a) → ⊥)
  answer_refused (Ok x) e = tt
  answer_refused (Err f) e = λ n allowed fine. let some = cause_some f n e.0 in let none = no_fault-step u c k h correct a allowed fine in cc
