-- Lines over a support are formed, and their own pairs are selected.
use Rattle.std.proofs.Common.{◌≡◌, ℕ, true, sym, ap, subst}
use Rattle.metis_universe.specs.Terms.{Universe, has}
use Rattle.metis_support.specs.Terms.{IsSupport, Support, is_selected}
use Rattle.metis_lines.proofs.Holders.{provider_chosen}
use Rattle.metis_lines.proofs.Sound.{formed}
use Rattle.metis_lines.specs.Terms.{AreLines, IsFormed, LifeLines, plan_of}

module _ (u : Universe) (s : Support) (k : IsSupport u s) (x : LifeLines) (are : AreLines u s x) where
  pub own_selected : (p : ℕ) → has x.own p ≡ true → is_selected s p ≡ true
  own_selected p h = provider_chosen s p (subst (λ ps. has ps p ≡ true) (ap (λ (y : LifeLines). y.providers) are.are) (are.own p h))

  pub lines_formed : IsFormed u (plan_of u s x)
  lines_formed = subst (λ y. IsFormed u (plan_of u s y)) (sym are.are) (formed u s k x.targets x.own are.targets own_selected)
