-- Dups one after another.
use Rattle.std.proofs.Common.{◌≡◌, ℕ, ◌+◌, false, List, [], ◌∷◌, ◌++◌, get_or, take, Some, sym, ap, ◌∙◌, length, ◌<◌}
use Rattle.std.specs.Prelude.{slice_get}
use Rattle.std.specs.Option.{option_map_or}
use Rattle.std.proofs.lemmas.List.{map-append, take_more}
use Rattle.metis_ids.specs.Terms.{Dup}
use Rattle.metis_universe.specs.Terms.{Universe}
use Rattle.metis_lines.specs.Terms.{LifeLines, lines_of, own_pairs}
use Rattle.metis_support.specs.Terms.{Support}
use Rattle.metis_audit.specs.Terms.{is_forced, is_forced_at}

-- the dup at the place, over the lines for those before it
pub forced_here : (u : Universe) (s : Support) (g : List ℕ) (ds : List Dup) (i : ℕ) (d : Dup) (x : LifeLines) → slice_get ds i ≡ Some d → x ≡ lines_of u s g (own_pairs (take i ds)) → is_forced_at u s g ds i ≡ is_forced u s x d.pair d.cycle
forced_here u s g ds i d x is lines =
    ap (λ o. option_map_or (λ (each : Dup). is_forced u s (lines_of u s g (own_pairs (take i ds))) each.pair each.cycle) o false) is
    ∙ ap (λ z. is_forced u s z d.pair d.cycle) (sym lines)

-- one more dup
pub own_more : (ds : List Dup) (i : ℕ) (d : Dup) → i < length ds → d ≡ get_or ds i d → own_pairs (take (i + 1) ds) ≡ own_pairs (take i ds) ++ d.pair ∷ []
own_more ds i d low is =
    ap own_pairs (take_more ds i d low) ∙ map-append (λ (d : Dup). d.pair) (take i ds) (get_or ds i d ∷ [])
    ∙ ap (λ (e : Dup). own_pairs (take i ds) ++ e.pair ∷ []) (sym is)

pub lines_more : (u : Universe) (s : Support) (g own : List ℕ) (x y : LifeLines) (p : ℕ) → x ≡ lines_of u s g own → y ≡ lines_of u s x.targets (x.own ++ p ∷ []) → y ≡ lines_of u s g (own ++ p ∷ [])
lines_more u s g own x y p before after = after ∙ ap (λ (z : LifeLines). lines_of u s z.targets (z.own ++ p ∷ [])) before
