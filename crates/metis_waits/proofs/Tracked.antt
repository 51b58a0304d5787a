-- What is known of an instance's actions and pair, after one more action.
use Rattle.std.proofs.Common.{◌≡◌, ℕ, ◌+◌, Bool, true, false, cond, not, ◌||◌, List, [], ◌∷◌, ◌++◌, length, Option, Some, None, refl, sym, ap, ◌∙◌, nat_eq}
use Rattle.std.proofs.lemmas.List.Folds.{list_any-append}
use Rattle.std.specs.List.{list_any}
use Rattle.metis_ids.specs.declared.actions.Action.{Action}
use Rattle.metis_ids.specs.declared.actions.Action.TheVariants.{New, Delete, Bind, Unbind, Move}
use Rattle.metis_universe.proofs.Edits.{pair_of-put, pair_of-remove}
use Rattle.metis_universe.specs.Terms.{Config, Universe, after, after_all, bindings_after, empty, enters, initial_of, is_new, pair_after, pair_of, standing}
use Rattle.metis_waits.proofs.Pushed.{after_pushed, last_pushed, standing_pushed}
use Rattle.metis_waits.specs.Terms.{IsTrack, clients_of, is_by}
use Rattle.metis_waits.specs.declared.instances.Track.{Track}

new_pushed : (earlier : List Action) (a : Action) (z : ℕ) → list_any (is_new z) (earlier ++ a ∷ []) ≡ (is_new z a || list_any (is_new z) earlier)
new_pushed earlier a z = list_any-append (is_new z) earlier (a ∷ []) ∙ swap (list_any (is_new z) earlier) (is_new z a) where
  swap : (a b : Bool) → (a || (b || false)) ≡ (b || a)
  swap true true = refl
  swap true false = refl
  swap false true = refl
  swap false false = refl

-- the pair of an instance after one more action
abbrev pub pair_then : Universe → Action → ℕ → Option ℕ → Option ℕ
pair_then u (New z t) y o = cond (nat_eq y z) (Some (initial_of u t)) o
pair_then u (Delete z) y o = cond (not (nat_eq y z)) o None
pair_then u (Bind r z x) y o = o
pair_then u (Unbind r z x) y o = o
pair_then u (Move z p q) y o = cond (nat_eq y z) (Some q) o

module _ (u : Universe) (earlier : List Action) where
  pair_pushed : (a : Action) (y : ℕ) → pair_after u (earlier ++ a ∷ []) y ≡ pair_then u a y (pair_after u earlier y)
  pair_pushed a y = ap (λ (c : Config). pair_of c y) (after_pushed u earlier a) ∙ step (after_all u empty earlier) a where
    step : (c : Config) (a : Action) → pair_of (after u c a) y ≡ pair_then u a y (pair_of c y)
    step c (New z t) = pair_of-put c z (initial_of u t) y
    step c (Delete z) = pair_of-remove c z y
    step c (Bind r z x) = refl
    step c (Unbind r z x) = refl
    step c (Move z p q) = pair_of-put c z q y

  -- what the action says of an instance
  module _ (a : Action) (z : ℕ) (t t' : Track) (n : ℕ) (last : n ≡ length earlier + 1) (old : IsTrack u earlier z t) where
    pub tracked : t'.last ≡ cond (is_by z a) n t.last → t'.entered ≡ cond (enters z a) n t.entered → t'.made ≡ (is_new z a || t.made) → t'.pair ≡ pair_then u a z t.pair → t'.clients ≡ clients_of z (bindings_after (standing earlier) a) → IsTrack u (earlier ++ a ∷ []) z t'
    tracked does enters_in made pair clients = record {
      last = does ∙ (λ i. cond (is_by z a) (last i) (old.last i)) ∙ sym (last_pushed (is_by z) earlier a);
      entered = enters_in ∙ (λ i. cond (enters z a) (last i) (old.entered i)) ∙ sym (last_pushed (enters z) earlier a);
      made = made ∙ ap (λ b. is_new z a || b) old.made ∙ sym (new_pushed earlier a z);
      pair = pair ∙ ap (pair_then u a z) old.pair ∙ sym (pair_pushed a z);
      clients = clients ∙ ap (clients_of z) (sym (standing_pushed earlier a));
    }
