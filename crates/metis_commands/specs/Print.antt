-- What printing a universe answers: the one line of its canonical document.
use Rattle.std.specs.Prelude.{◌≡◌, ℕ, List, [], ◌∷◌}
use Rattle.metis_output.specs.declared.status.Status.{Status}
use Rattle.metis_output.specs.declared.status.Status.TheVariants.{Done}
use Rattle.metis_ujson.specs.Terms.{canonical}
use Rattle.metis_universe.specs.Terms.{Universe}

abbrev pub Printed : Universe → List (List ℕ) → Status → Type 0
Printed u lines status = (lines ≡ canonical u ∷ []) × (status ≡ Done)
