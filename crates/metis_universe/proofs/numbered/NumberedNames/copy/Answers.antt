use Rattle.std.proofs.Common.{◌≡◌, ◌<◌, List, ℕ, length, string_bytes, sym, ap, ◌∙◌, subst}
use Rattle.std.specs.List.{IsDistinct}
use Rattle.std.specs.Str.{bytes_eq}
use Rattle.std.proofs.lemmas.List.{length-map}
use Rattle.std.proofs.lemmas.List.Elements.{same_from_all_zip}
use Rattle.metis_universe.specs.Terms.{IsChained, bucket_numbered}
use Rattle.metis_universe.proofs.Texts.{same_texts}
use Rattle.metis_universe.proofs.numbered.NumberedNames.copy.Goals as goal

IsFound : List (List ℕ) → ℕ → List ℕ → List ℕ → Type 0
IsFound names count lasts befores = IsDistinct bytes_eq names × (0 < length lasts) × IsChained (bucket_numbered names (length lasts)) count lasts befores

pub invariant_of-result : goal.invariant_of-result
unfolding IsFound
invariant_of-result c =
    let names = same_texts c.self.inside.names.items c.in_ok-clone.field-0.items c.in_ok-clone.ensures.cases.0 in
    let count : length c.in_ok-clone.field-0.items ≡ length c.self.inside.names.items = sym (length-map c.in_ok-clone.field-0.items (λ t. string_bytes t)) ∙ ap length names ∙ length-map c.self.inside.names.items (λ t. string_bytes t) in
    let lasts : c.in_ok-clone-2.field-0.items ≡ c.self.inside.lasts.items = same_from_all_zip _ c.self.inside.lasts.items c.in_ok-clone-2.field-0.items c.in_ok-clone-2.ensures.cases.0 (λ x y h. h) in
    let befores : c.in_ok-clone-3.field-0.items ≡ c.self.inside.befores.items = same_from_all_zip _ c.self.inside.befores.items c.in_ok-clone-3.field-0.items c.in_ok-clone-3.ensures.cases.0 (λ x y h. h) in
    subst {A = List (List ℕ) × ℕ × List ℕ × List ℕ} (λ all. IsFound all.0 all.1 all.2 all.3) (sym (λ j. (names j, count j, lasts j, befores j))) c.self.invariant

pub returns : goal.returns
returns c = same_texts c.self.inside.names.items c.in_ok-clone.field-0.items c.in_ok-clone.ensures.cases.0 ∙ c.self.view_is
