-- Lists of texts: copies, and texts that are there once.
use Rattle.std.proofs.Common.{◌≡◌, false, List, [], ◌∷◌, String, string_bytes, string_eq, refl, ap, ◌∙◌}
use Rattle.std.specs.List.{AllByRecursion, AllZip, IsDistinct}
use Rattle.std.specs.Str.{bytes_eq}
use Rattle.std.specs.declared.alloc.Global.{Global}
use Rattle.metis_universe.specs.Terms.{texts}

pub same_texts : (xs ys : List (String Global)) → AllZip (λ x y. string_bytes y ≡ string_bytes x) xs ys → texts ys ≡ texts xs
same_texts [] [] h = refl
same_texts [] (y ∷ ys) h = absurd h
same_texts (x ∷ xs) [] h = absurd h
same_texts (x ∷ xs) (y ∷ ys) h = ap (λ t. t ∷ texts ys) h.0 ∙ ap (λ ts. string_bytes x ∷ ts) (same_texts xs ys h.1)

apart_texts : (x : String Global) (xs : List (String Global)) → AllByRecursion (λ y. string_eq x y ≡ false) xs → AllByRecursion (λ y. bytes_eq (string_bytes x) y ≡ false) (texts xs)
apart_texts x [] h = tt
apart_texts x (y ∷ xs) h = (h.0, apart_texts x xs h.1)

pub distinct_texts : (xs : List (String Global)) → IsDistinct string_eq xs → IsDistinct bytes_eq (texts xs)
unfolding IsDistinct
distinct_texts [] h = tt
distinct_texts (x ∷ xs) h = (apart_texts x xs h.0, distinct_texts xs h.1)
