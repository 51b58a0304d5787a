-- The search for the pair that is left goes around the list, place after place.
use Rattle.std.proofs.Common.{◌≡◌, ℕ, ◌<◌, true, false, Bool, cond, List, length, get_or, Option, None, refl, sym, ap, ◌∙◌, arith}
use Rattle.std.specs.Option.{option_and_then}
use Rattle.std.specs.Prelude.{is_some}
use Rattle.std.proofs.lemmas.Bool.{cond-true, cond-false, false≢true}
use Rattle.metis_ids.specs.declared.events.Event.{Event}
use Rattle.metis_ids.specs.declared.events.Event.TheVariants.{End}
use Rattle.metis_lines.specs.Terms.{AbstractPlan, around, is_return_into_move}
use Rattle.metis_rounds.proofs.Around.{around_count, no_pair}
use Rattle.metis_rounds.proofs.Searches.{around_at, find_at, find_none}
use Rattle.metis_rounds.specs.Terms.{doubled_by, left_by, place_after}

module _ (w : AbstractPlan) (es : List Event) where
  leads : Event × Event → Bool
  leads c = is_return_into_move w c.1 c.0

  -- whether a return edge leads into a move at the place
  abbrev pub leads_at : ℕ → Bool
  leads_at k = is_return_into_move w (get_or es (place_after (length es) k) End) (get_or es k End)

  at_place : (k : ℕ) → k < length es → leads (get_or (around es) k no_pair) ≡ leads_at k
  unfolding leads
  at_place k low = ap (λ (c : Event × Event). is_return_into_move w c.1 c.0) (around_at es k low)

  pub left_at : (k : ℕ) (o : Option ℕ) → k < length es → ((i : ℕ) → i < k → leads_at i ≡ false) → o ≡ cond (leads_at k) (left_by w (get_or es k End)) None → is_some o ≡ true → o ≡ doubled_by w es
  unfolding leads
  left_at k o low before is some = by (leads_at k) refl where
    by : (b : Bool) → leads_at k ≡ b → o ≡ doubled_by w es
    by true passes =
        let first = find_at leads (around es) no_pair k (omega (arith, around_count es)) (at_place k low ∙ passes) (λ i below. at_place i (omega arith) ∙ before i below) in
        is ∙ cond-true (leads_at k) (left_by w (get_or es k End)) None passes
        ∙ sym (ap (option_and_then (λ (c : Event × Event). left_by w c.0)) first ∙ ap (λ (c : Event × Event). left_by w c.0) (around_at es k low))
    by false fails = absurd (false≢true (sym (ap is_some (is ∙ cond-false (leads_at k) (left_by w (get_or es k End)) None fails)) ∙ some))

  -- a place at which nothing is left has no such edge
  pub not_left : (k : ℕ) (o : Option ℕ) → o ≡ cond (leads_at k) (left_by w (get_or es k End)) None → (leads_at k ≡ true → is_some (left_by w (get_or es k End)) ≡ true) → is_some o ≡ false → leads_at k ≡ false
  not_left k o is moves none = by (leads_at k) refl where
    by : (b : Bool) → leads_at k ≡ b → leads_at k ≡ false
    by true passes = absurd (false≢true (sym none ∙ ap is_some (is ∙ cond-true (leads_at k) (left_by w (get_or es k End)) None passes) ∙ moves passes))
    by false fails = fails

  pub none_left : ((i : ℕ) → i < length es → leads_at i ≡ false) → None ≡ doubled_by w es
  unfolding leads
  none_left none = sym (ap (option_and_then (λ (c : Event × Event). left_by w c.0)) (find_none leads (around es) no_pair (λ i low. let short = around_count es in at_place i (omega arith) ∙ none i (omega arith))))
