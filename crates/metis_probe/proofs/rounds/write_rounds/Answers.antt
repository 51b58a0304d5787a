use Rattle.std.proofs.Common.{◌≡◌, ◌∙◌, ℕ, Ok, sym, subst, true}
use Rattle.metis_choice.specs.Terms.{IfSupport}
use Rattle.metis_choice.specs.declared.choice.Choice.{Choice}
use Rattle.metis_support.specs.Terms.{is_selected}
use Rattle.metis_universe.specs.Terms.{has}
use Rattle.metis_probe.proofs.rounds.write_rounds.Goals as goal

pub rounds-requires-clause-selected : goal.rounds-requires-clause-selected
rounds-requires-clause-selected c =
    let chosen = subst (λ (x : Choice). IfSupport (Ok x) (λ s. (p : ℕ) → has c.deref.result.now p ≡ true → is_selected s p ≡ true)) c.in-Support.is c.in_ok-support.ensures.selected in
    λ p h. chosen p (subst (λ xs. has xs p ≡ true) (c.deref-in-Support.ensures.value ∙ sym c.deref.ensures.value) h)
