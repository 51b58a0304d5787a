use Rattle.std.proofs.Common.{◌<◌, ℕ, length, subst, sym, ◌∙◌, ap}
use Rattle.metis_sort.specs.Terms.{Filling, IsFull}
use Rattle.metis_sort.proofs.RowFacts.{full_rows, full_spread}
use Rattle.metis_sort.proofs.filling.Filling.done.Goals as goal

pub invariant_of-result : goal.invariant_of-result
invariant_of-result c =
    full_spread c.self.inside.starts.items c.self.inside.ends.items c.self.inside.nodes.items c.self.invariant
    (subst (λ (f : Filling). (x : ℕ) → x < length f.rows → IsFull f x) (sym c.self.view_is) c.requires)

pub returns : goal.returns
returns c =
    full_rows c.self.inside.starts.items c.self.inside.ends.items c.self.inside.nodes.items c.self.invariant
    (subst (λ (f : Filling). (x : ℕ) → x < length f.rows → IsFull f x) (sym c.self.view_is) c.requires)
    ∙ ap (λ (f : Filling). f.rows) c.self.view_is
