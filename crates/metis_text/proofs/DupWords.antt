-- The words of a dup's line for an event are read as these just where they are what is written for them.
use Rattle.std.proofs.Common.{◌≡◌, ℕ, ◌<◌, ◌^◌, true, false, List, ◌∷◌, ◌++◌, length, Result, Ok, Err, refl, sym, ap, ◌∙◌, subst, arith, decimal}
use Rattle.std.specs.Prelude.{codes}
use Rattle.std.specs.Bool.{if◌then◌else◌}
use Rattle.std.specs.List.{after_first, before_first}
use Rattle.std.specs.Str.{bytes_eq}
use Rattle.std.proofs.lemmas.Bool.{and_from, eqb-true}
use Rattle.std.proofs.lemmas.Fmt.{decimal_nonempty}
use Rattle.std.proofs.lemmas.List.Folds.{list_all-append}
use Rattle.std.proofs.lemmas.Slice.Eq.{bytes_eq-Decides}
use Rattle.metis_ids.specs.declared.events.Event.{Event}
use Rattle.metis_ids.specs.declared.events.Event.TheVariants.{At, End}
use Rattle.metis_ids.proofs.Tests.{bytes_apart}
use Rattle.metis_universe.proofs.NameBytes.{cut_back}
use Rattle.metis_text.specs.Terms.{IsEventInRange, at_event, event_in, event_token, is_point}
use Rattle.metis_tokens.specs.Terms.{both, made, number_in}
use Rattle.metis_tokens.specs.declared.flaw.Flaw.{Flaw}
use Rattle.metis_tokens.specs.declared.flaw.Flaw.TheVariants.{Form}
use Rattle.metis_tokens.proofs.Cuts.{after_cut, before_cut}
use Rattle.metis_tokens.proofs.NumberTokens.{number_is, number_read}
use Rattle.metis_tokens.proofs.Outcomes.{both_is, made_is}
use Rattle.metis_tokens.proofs.Printed.{no_point_decimal, printed, printed_decimal}

-- ---- two parts of a token

number_some : (t : List ℕ) (n : ℕ) → number_in t ≡ Ok n → 0 < length t
number_some t n h = let number = number_is t n h in subst (λ s. 0 < length s) (sym number.0) (decimal_nonempty n (omega (arith, number.1)))

-- ---- the events

module _ (t : List ℕ) where
  abbrev event_parts : Result (ℕ × ℕ) Flaw
  event_parts = both (number_in (before_first is_point t)) (number_in (after_first is_point t))

  abbrev IsEventWord : Event → Type 0
  IsEventWord e = (t ≡ event_token e) × IsEventInRange e

  pub event_is : (e : Event) → event_in t ≡ Ok e → IsEventWord e
  event_is e h = elim (bytes_eq t (codes "end")) as (λ b. bytes_eq t (codes "end") ≡ b → (if b then Ok End else made at_event event_parts) ≡ Ok e → IsEventWord e) [
    | true ↦ λ same h. let is : End ≡ e = cc in subst IsEventWord is ((bytes_eq-Decides t (codes "end")).0 same, tt)
    | false ↦ λ _ h.
        let place = made_is at_event event_parts e h in
        let both = both_is (number_in (before_first is_point t)) (number_in (after_first is_point t)) place.0 place.1 in
        let line = number_is (before_first is_point t) place.0.0 both.0 in
        let step = number_is (after_first is_point t) place.0.1 both.1 in
        let cut = cut_back is_point 46 t (λ x is. eqb-true x 46 is) (number_some (after_first is_point t) place.0.1 both.1) in
        subst IsEventWord place.2 (cut ∙ (λ i. line.0 i ++ (46 ∷ step.0 i)), (line.1, step.1))
  ] refl h

pub event_printed : (e : Event) → IsEventInRange e → printed (event_token e) ≡ true
event_printed (At l s) small = list_all-append _ (decimal l) (46 ∷ decimal s) ∙ and_from _ _ (printed_decimal l small.0) (printed_decimal s small.1)
event_printed End small = refl

not_end : (l s : ℕ) → l < 2 ^ 32 → decimal l ++ (46 ∷ decimal s) ≡ codes "end" → ⊥
not_end l s small e =
    let first : decimal l ≡ codes "end" = sym (before_cut is_point (decimal l) 46 (decimal s) (no_point_decimal l small) refl) ∙ ap (before_first is_point) e in
    let number : Ok l ≡ Err Form = sym (number_read l small) ∙ ap number_in first in
    cc

pub event_read : (e : Event) → IsEventInRange e → event_in (event_token e) ≡ Ok e
event_read (At l s) small =
    let t = decimal l ++ (46 ∷ decimal s) in
    let no_point = no_point_decimal l small.0 in
    ap (λ b. if b then Ok End else made at_event (both (number_in (before_first is_point t)) (number_in (after_first is_point t)))) (bytes_apart t (codes "end") (not_end l s small.0))
    ∙ (λ i. made at_event (both (number_in (before_cut is_point (decimal l) 46 (decimal s) no_point refl i)) (number_in (after_cut is_point (decimal l) 46 (decimal s) no_point refl i))))
    ∙ (λ i. made at_event (both (number_read l small.0 i) (number_read s small.1 i)))
event_read End small = refl
