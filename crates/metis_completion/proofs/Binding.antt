-- Sorted lists of bindings: each is made where all fit, and a move stands between bindings that are made and bindings that are ended.
use Rattle.std.proofs.Common.{◌≡◌, ℕ, Bool, true, false, cond, not, ◌&&◌, ◌||◌, List, [], ◌∷◌, ◌++◌, Some, refl, sym, ap, ◌∙◌, subst, nat_eq, map}
use Rattle.std.specs.List.{AllByRecursion}
use Rattle.std.specs.List.Sorted.{IsStrictlySortedBy}
use Rattle.std.specs.Option.{option_map_or}
use Rattle.std.specs.declared.cmp.Ordering.TheVariants.{Less}
use Rattle.std.proofs.lemmas.Bool.{and_parts, false_from_ne_true, or_from, or_right}
use Rattle.metis_ids.specs.declared.actions.Action.TheVariants.{Bind, Move, Unbind}
use Rattle.metis_ids.proofs.Lists.{each_weaker}
use Rattle.metis_layers.specs.Terms.{slot_binds, slot_unbinds}
use Rattle.metis_rollout.specs.Terms.{bind, unbind}
use Rattle.metis_rollout.proofs.Going.{Unpointed}
use Rattle.metis_rollout.proofs.Quiet.{AllBound, QuietFrom, QuietFrom-append, all_among, is_in, not_below_itself, unbinds_bound, unbinds_pair, unbinds_quiet}
use Rattle.metis_rollout.proofs.Serving.{more_bound}
use Rattle.metis_universe.specs.Terms.{Binding, CanBind, Config, Correct, Universe, after_all, binding_cmp, has, is_bound, is_tie, next_of, pair_of, provides, put, tie}
use Rattle.metis_universe.proofs.Edits.{is_bound-tie, pair_of-put, tie_is}
use Rattle.metis_rollout.proofs.Rebinding.{binds_pair}

-- the bindings of an instance to these slots
abbrev pub ties : (ℕ → ℕ → ℕ) → ℕ → List (ℕ × ℕ) → List Binding
ties holder z slots = map (λ s. (s.0, z, holder s.0 s.1)) slots

pub binds_are : (holder : ℕ → ℕ → ℕ) (z : ℕ) (slots : List (ℕ × ℕ)) → slot_binds holder z slots ≡ map bind (ties holder z slots)
binds_are holder z [] = refl
binds_are holder z (s ∷ slots) = ap (λ l. Bind s.0 z (holder s.0 s.1) ∷ l) (binds_are holder z slots)

pub unbinds_are : (holder : ℕ → ℕ → ℕ) (z : ℕ) (slots : List (ℕ × ℕ)) → slot_unbinds holder z slots ≡ map unbind (ties holder z slots)
unbinds_are holder z [] = refl
unbinds_are holder z (s ∷ slots) = ap (λ l. Unbind s.0 z (holder s.0 s.1) ∷ l) (unbinds_are holder z slots)

-- the binding may be made, and its provider provides the port
pub record Fits (u : Universe) (c : Config) (b : Binding) : Type 0 where
  pub can : CanBind u c b.0 b.1 b.2
  pub gives : option_map_or (λ q. provides u q b.0) (pair_of c b.2) false ≡ true

-- a later binding is another
later_apart : (b d : Binding) → binding_cmp b d ≡ Less → is_tie d.0 d.1 d.2 b ≡ false
later_apart b d below = false_from_ne_true _ (λ is. not_below_itself b (subst (λ x. binding_cmp b x ≡ Less) (sym (tie_is d.0 d.1 d.2 b is)) below))

fits_still : (u : Universe) (c : Config) (b : Binding) (bs : List Binding) → AllByRecursion (λ d. binding_cmp b d ≡ Less) bs → AllByRecursion (Fits u c) bs → AllByRecursion (Fits u (tie c b.0 b.1 b.2)) bs
fits_still u c b [] below all = tt
fits_still u c b (d ∷ bs) below all = (
  record {
    can = record {
      apart = all.0.can.apart;
      requirer = all.0.can.requirer;
      provider = all.0.can.provider;
      unbound = is_bound-tie c b.0 b.1 b.2 d.0 d.1 d.2 ∙ or_from (is_tie d.0 d.1 d.2 b) (is_bound c d.0 d.1 d.2) (later_apart b d below.0) all.0.can.unbound;
    };
    gives = all.0.gives;
  },
  fits_still u c b bs below.1 all.1,
)

pub binds_bound : (u : Universe) (c : Config) (bs : List Binding) (r z y : ℕ) → is_bound (after_all u c (map bind bs)) r z y ≡ (is_in bs r z y || is_bound c r z y)
binds_bound u c [] r z y = refl
binds_bound u c (b ∷ bs) r z y =
    binds_bound u (tie c b.0 b.1 b.2) bs r z y
    ∙ ap (λ v. is_in bs r z y || v) (is_bound-tie c b.0 b.1 b.2 r z y)
    ∙ swap (is_in bs r z y) (is_tie r z y b) (is_bound c r z y) where
      swap : (p q v : Bool) → (p || (q || v)) ≡ ((q || p) || v)
      swap true true v = refl
      swap true false v = refl
      swap false true v = refl
      swap false false v = refl

-- Bindings that fit are made one after another: there are only more bindings.
pub binds_quiet : (u : Universe) (c : Config) (bs : List Binding) → IsStrictlySortedBy binding_cmp bs → AllByRecursion (Fits u c) bs → Correct u c → QuietFrom u c (map bind bs)
unfolding IsStrictlySortedBy
binds_quiet u c [] sorted all correct = tt
binds_quiet u c (b ∷ bs) sorted all correct =
    let d = tie c b.0 b.1 b.2 in
    let now = more_bound u c d (λ z. refl) (λ r z y h. is_bound-tie c b.0 b.1 b.2 r z y ∙ or_right (is_tie r z y b) (is_bound c r z y) h) correct in
    (all.0.can, now, all.0.gives, binds_quiet u d bs sorted.1 (fits_still u c b bs sorted.0 all.1) now)

-- ---- a move between bindings

-- what the instance is bound to before it moves, and what it is unbound from after it
pub record IsReady (u : Universe) (c : Config) (z p q : ℕ) (gained lost : List Binding) : Type 0 where
  pub stands : pair_of c z ≡ Some p
  pub leads : has (next_of u p) q ≡ true
  pub correct : Correct u c
  pub alone : Unpointed c z
  pub gained_up : IsStrictlySortedBy binding_cmp gained
  pub lost_up : IsStrictlySortedBy binding_cmp lost
  pub fit : AllByRecursion (Fits u c) gained
  pub elsewhere : (r x : ℕ) → is_in gained r x z ≡ false
  pub held : (r x y : ℕ) → is_in lost r x y ≡ true → (is_in gained r x y || is_bound c r x y) ≡ true

abbrev pub bound_first : Universe → Config → List Binding → Config
bound_first u c gained = after_all u c (map bind gained)

abbrev pub moved_on : Universe → Config → ℕ → ℕ → List Binding → Config
moved_on u c z q gained = put (bound_first u c gained) z q

abbrev pub hop_end : Universe → Config → ℕ → ℕ → List Binding → List Binding → Config
hop_end u c z q gained lost = after_all u (moved_on u c z q gained) (map unbind lost)

pub hop_pair : (u : Universe) (c : Config) (z q : ℕ) (gained lost : List Binding) (x : ℕ) → pair_of (hop_end u c z q gained lost) x ≡ cond (nat_eq x z) (Some q) (pair_of c x)
hop_pair u c z q gained lost x =
    unbinds_pair u (moved_on u c z q gained) lost x ∙ pair_of-put (bound_first u c gained) z q x ∙ ap (λ o. cond (nat_eq x z) (Some q) o) (binds_pair u c gained x)

pub hop_bound : (u : Universe) (c : Config) (z q : ℕ) (gained lost : List Binding) (r x y : ℕ) → is_bound (hop_end u c z q gained lost) r x y ≡ (not (is_in lost r x y) && (is_in gained r x y || is_bound c r x y))
hop_bound u c z q gained lost r x y =
    unbinds_bound u (moved_on u c z q gained) lost r x y ∙ ap (λ v. not (is_in lost r x y) && v) (binds_bound u c gained r x y)

-- Where what it leaves is correct, all is: on the way there are only more bindings.
pub hop_quiet : (u : Universe) (c : Config) (z p q : ℕ) (gained lost : List Binding) → IsReady u c z p q gained lost → Correct u (hop_end u c z q gained lost) → QuietFrom u c (map bind gained ++ (Move z p q ∷ map unbind lost))
hop_quiet u c z p q gained lost ready correct =
    let first = bound_first u c gained in
    let d = moved_on u c z q gained in
    QuietFrom-append u c (map bind gained) (Move z p q ∷ map unbind lost) (binds_quiet u c gained ready.gained_up ready.fit ready.correct) (
      (binds_pair u c gained z ∙ ready.stands, ready.leads),
      more_bound u (hop_end u c z q gained lost) d (λ x. sym (unbinds_pair u d lost x)) (λ r x y h. (and_parts (not (is_in lost r x y)) (is_bound d r x y) (sym (unbinds_bound u d lost r x y) ∙ h)).1) correct,
      λ r x. binds_bound u c gained r x z ∙ or_from (is_in gained r x z) (is_bound c r x z) (ready.elsewhere r x) (ready.alone r x),
      unbinds_quiet u d lost ready.lost_up (held_all lost (λ r x y h. binds_bound u c gained r x y ∙ ready.held r x y h)) correct,
    ) where
      held_all : (bs : List Binding) → ((r x y : ℕ) → is_in bs r x y ≡ true → is_bound (moved_on u c z q gained) r x y ≡ true) → AllBound (moved_on u c z q gained) bs
      held_all bs each = each_weaker (λ b. is_in bs b.0 b.1 b.2 ≡ true) (λ b. is_bound (moved_on u c z q gained) b.0 b.1 b.2 ≡ true) bs (λ b h. each b.0 b.1 b.2 h) (all_among bs bs (λ t h. h))
