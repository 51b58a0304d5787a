-- When two events are the same.
use Rattle.std.proofs.Common.{◌≡◌, true, refl, sym, ap, ◌∙◌, nat_eq}
use Rattle.std.proofs.lemmas.Bool.{and_from, and_parts, eq-eqb, eqb-true, false≢true}
use Rattle.std.specs.Cmp.{both_ways as same_bool}
use Rattle.metis_ids.specs.declared.events.Event.{Event}
use Rattle.metis_ids.specs.declared.events.Event.TheVariants.{At, End}
use Rattle.metis_lines.specs.Terms.{same_event}

pub same_events : (e f : Event) → same_event e f ≡ true → e ≡ f
same_events (At l j) (At m k) h =
    let both = and_parts (nat_eq l m) (nat_eq j k) h in
    ap (λ x. At x j) (eqb-true l m both.0) ∙ ap (At m) (eqb-true j k both.1)
same_events (At l j) End h = absurd (false≢true h)
same_events End (At m k) h = absurd (false≢true h)
same_events End End h = refl

pub same_itself : (e : Event) → same_event e e ≡ true
same_itself (At l j) = and_from (nat_eq l l) (nat_eq j j) (eq-eqb l l refl) (eq-eqb j j refl)
same_itself End = refl

pub same_turned : (e f : Event) → same_event f e ≡ same_event e f
same_turned e f = same_bool (same_event f e) (same_event e f) (λ h. ap (λ x. same_event x f) (sym (same_events f e h)) ∙ same_itself f) (λ h. ap (λ x. same_event x e) (sym (same_events e f h)) ∙ same_itself e)
