-- A text that is the product's own and was cut off ends too soon.
use Rattle.std.proofs.Common.{◌≡◌, ℕ, suc, ◌+◌, ◌-◌, ◌≤◌, Bool, true, false, cond, List, [], ◌∷◌, ◌++◌, length, take, Result, Ok, Err, refl, sym, ap, ◌∙◌, subst, arith}
use Rattle.std.specs.Prelude.{◌&&◌, ◌==◌, codes, if◌then◌else◌}
use Rattle.std.specs.List.{onto_first, slice_index_or}
use Rattle.std.specs.Str.{bytes_eq}
use Rattle.std.proofs.lemmas.Bool.{false≢true, ne_eqb}
use Rattle.metis_tokens.specs.Terms.{LineRules, and_then, end_from, is_feed, last_piece, lines_from, own_text, pieces, text_from, whole_lines}
use Rattle.metis_universe.specs.Terms.{Universe}
use Rattle.metis_wishes.specs.Terms.{wish_lines, wishes_in}
use Rattle.metis_wishes.specs.declared.fault.WishFault.TheVariants.{Short}
use Rattle.metis_wishes.specs.declared.wish.Wish.{Wish}

-- ---- fewer lines

pub none_left : {A : Type 0} (x : A) (xs : List A) → (length (x ∷ xs) == 0) ≡ false
none_left x xs = ne_eqb (length (x ∷ xs)) 0 (λ e. omega (arith, e))

-- a text that goes on is not accepted
pub not_done : {R F : Type 0} {a : Bool} (x : R) (f : F) (r : R) → a ≡ false → (if a then Ok x else Err f) ≡ Ok r → ⊥
not_done {R = R} {a = true} x f r off is = false≢true (sym off)
not_done {R = R} {F = F} {a = false} x f r off is = false≢true (ap is_fine is) where
  is_fine : Result R F → Bool
  is_fine (Ok y) = true
  is_fine (Err g) = false

module _ {S R F : Type 0} (t : LineRules S F) (whole : S → R) (r : R) where
  -- nothing may stand behind the last line
  more_ends : (seen : S) (n : ℕ) (lines : List (List ℕ)) (line : List ℕ) (later : List (List ℕ)) (rest : List ℕ) → end_from t whole seen n (lines ++ line ∷ later) rest ≡ Ok r → ⊥
  more_ends seen n [] line later rest is = not_done _ _ r (ap (λ a. a && (length rest == 0)) (none_left line later)) is
  more_ends seen n (x ∷ lines) line later rest is = not_done _ _ r (ap (λ a. a && (length rest == 0)) (none_left x (lines ++ line ∷ later))) is

  fewer_lines : (xs : List (List ℕ)) (line : List ℕ) (later : List (List ℕ)) (rest other : List ℕ) (seen : S) (n : ℕ)
      → lines_from t whole seen n (xs ++ line ∷ later) rest ≡ Ok r → lines_from t whole seen n xs other ≡ Err t.short
  fewer_lines [] line later rest other seen n is = refl
  fewer_lines (x ∷ xs) line later rest other seen n is = by (λ s. fewer_lines xs line later rest other s (n + 1)) (t.is_last seen x) (t.with_line n seen x) is where
    by : ((s : S) → lines_from t whole s (n + 1) (xs ++ line ∷ later) rest ≡ Ok r → lines_from t whole s (n + 1) xs other ≡ Err t.short) → (b : Bool) (o : Result S F) → (if b then end_from t whole seen (n + 1) (xs ++ line ∷ later) rest else and_then o (λ s. lines_from t whole s (n + 1) (xs ++ line ∷ later) rest)) ≡ Ok r
        → (if b then end_from t whole seen (n + 1) xs other else and_then o (λ s. lines_from t whole s (n + 1) xs other)) ≡ Err t.short
    by fewer true o is = absurd (more_ends seen (n + 1) xs line later rest is)
    by fewer false (Ok s) is = fewer s is
    by fewer false (Err f) is = absurd (cc)

  fewer_from : (header : List ℕ) (seen : S) (xs : List (List ℕ)) (line : List ℕ) (later : List (List ℕ)) (rest other : List ℕ)
      → text_from header t whole seen (xs ++ line ∷ later) rest ≡ Ok r → text_from header t whole seen xs other ≡ Err t.short
  fewer_from header seen [] line later rest other is = refl
  fewer_from header seen (x ∷ xs) line later rest other is = by (bytes_eq x header) is where
    by : (b : Bool) → (if b then lines_from t whole seen 2 (xs ++ line ∷ later) rest else Err (t.of_line 1)) ≡ Ok r → (if b then lines_from t whole seen 2 xs other else Err (t.of_line 1)) ≡ Err t.short
    by true is = fewer_lines xs line later rest other seen 2 is
    by false is = absurd (cc)

  ended_whole : (seen : S) (n : ℕ) (lines : List (List ℕ)) (rest : List ℕ) → end_from t whole seen n lines rest ≡ Ok r → rest ≡ []
  ended_whole seen n [] [] is = refl
  ended_whole seen n [] (b ∷ rest) is = absurd (not_done _ _ r (none_left b rest) is)
  ended_whole seen n (x ∷ lines) rest is = absurd (not_done _ _ r (ap (λ a. a && (length rest == 0)) (none_left x lines)) is)

  -- an accepted text ends with its last line
  nothing_behind : (lines : List (List ℕ)) (rest : List ℕ) (seen : S) (n : ℕ) → lines_from t whole seen n lines rest ≡ Ok r → rest ≡ []
  nothing_behind [] rest seen n is = absurd (cc)
  nothing_behind (x ∷ lines) rest seen n is = by (λ s. nothing_behind lines rest s (n + 1)) (t.is_last seen x) (t.with_line n seen x) is where
    by : ((s : S) → lines_from t whole s (n + 1) lines rest ≡ Ok r → rest ≡ []) → (b : Bool) (o : Result S F) → (if b then end_from t whole seen (n + 1) lines rest else and_then o (λ s. lines_from t whole s (n + 1) lines rest)) ≡ Ok r → rest ≡ []
    by behind true o is = ended_whole seen (n + 1) lines rest is
    by behind false (Ok s) is = behind s is
    by behind false (Err f) is = absurd (cc)

  nothing_from : (header : List ℕ) (seen : S) (lines : List (List ℕ)) (rest : List ℕ) → text_from header t whole seen lines rest ≡ Ok r → rest ≡ []
  nothing_from header seen [] rest is = absurd (cc)
  nothing_from header seen (x ∷ lines) rest is = by (bytes_eq x header) is where
    by : (b : Bool) → (if b then lines_from t whole seen 2 lines rest else Err (t.of_line 1)) ≡ Ok r → rest ≡ []
    by true is = nothing_behind lines rest seen 2 is
    by false is = absurd (cc)

-- ---- fewer bytes have fewer lines

abbrev Lines : Type 0
Lines = List (List ℕ)

-- all but the last piece, and the last one
whole_next : (p q : List ℕ) (ps : Lines) → whole_lines (p ∷ q ∷ ps) ≡ p ∷ whole_lines (q ∷ ps)
whole_next p q ps =
    let long : length (p ∷ q ∷ ps) - 1 ≡ suc (length (q ∷ ps) - 1) = omega arith in
    ap (λ k. take k (p ∷ q ∷ ps)) long

last_next : (p q : List ℕ) (ps : Lines) → last_piece (p ∷ q ∷ ps) ≡ last_piece (q ∷ ps)
last_next p q ps =
    let long : length (p ∷ q ∷ ps) - 1 ≡ suc (length (q ∷ ps) - 1) = omega arith in
    ap (λ k. slice_index_or (p ∷ q ∷ ps) k []) long

-- the lines of more bytes are these, and further ones
record IsLonger (xs ys : Lines) : Type 0 where
  pub line : List ℕ
  pub later : Lines
  pub is : ys ≡ xs ++ line ∷ later

-- a first piece that is empty
opened : (ps qs : Lines) → 1 ≤ length ps → 1 ≤ length qs → IsLonger (whole_lines ps) (whole_lines qs) → IsLonger (whole_lines ([] ∷ ps)) (whole_lines ([] ∷ qs))
opened [] qs one two k = absurd (omega arith)
opened (p ∷ ps) [] one two k = absurd (omega arith)
opened (p ∷ ps) (q ∷ qs) one two k = record {
  line = k.line;
  later = k.later;
  is = whole_next [] q qs ∙ ap (λ l. [] ∷ l) k.is ∙ ap (λ l. l ++ k.line ∷ k.later) (sym (whole_next [] p ps));
}

-- a byte at the front of the first piece
put_first : (b : ℕ) (ps qs : Lines) → 1 ≤ length ps → IsLonger (whole_lines ps) (whole_lines qs) → IsLonger (whole_lines (onto_first b ps)) (whole_lines (onto_first b qs))
put_first b ps [] one k = absurd (none (whole_lines ps) k.is) where
  none : (xs : Lines) → [] ≡ xs ++ k.line ∷ k.later → ⊥
  none [] is = cc
  none (x ∷ xs) is = cc
put_first b ps (q ∷ []) one k = absurd (none (whole_lines ps) k.is) where
  none : (xs : Lines) → [] ≡ xs ++ k.line ∷ k.later → ⊥
  none [] is = cc
  none (x ∷ xs) is = cc
put_first b [] (q ∷ r ∷ qs) one k = absurd (omega arith)
put_first b (p ∷ []) (q ∷ r ∷ qs) one k = record { line = b ∷ q; later = whole_lines (r ∷ qs); is = whole_next (b ∷ q) r qs }
put_first b (p ∷ s ∷ ps) (q ∷ r ∷ qs) one k =
    let all : q ∷ whole_lines (r ∷ qs) ≡ p ∷ whole_lines (s ∷ ps) ++ k.line ∷ k.later =
    sym (whole_next q r qs) ∙ k.is ∙ ap (λ l. l ++ k.line ∷ k.later) (whole_next p s ps) in
    let first : q ≡ p = cc in
    let others : whole_lines (r ∷ qs) ≡ whole_lines (s ∷ ps) ++ k.line ∷ k.later = cc in
    record {
      line = k.line;
      later = k.later;
      is = whole_next (b ∷ q) r qs ∙ (λ i. (b ∷ first i) ∷ others i) ∙ ap (λ l. l ++ k.line ∷ k.later) (sym (whole_next (b ∷ p) s ps));
    }

some_pieces : (bytes : List ℕ) → 1 ≤ length (pieces bytes)
some_pieces [] = omega arith
some_pieces (b ∷ bytes) = by (is_feed b) (pieces bytes) where
  by : (f : Bool) (ps : Lines) → 1 ≤ length (cond f ([] ∷ ps) (onto_first b ps))
  by true ps = omega arith
  by false [] = omega arith
  by false (p ∷ ps) = omega arith

-- nothing stands behind the last feed of the bytes behind the first one
last_behind : (b : ℕ) (bytes : List ℕ) → last_piece (pieces (b ∷ bytes)) ≡ [] → last_piece (pieces bytes) ≡ []
last_behind b bytes is = by (is_feed b) (pieces bytes) (some_pieces bytes) is where
  by : (f : Bool) (ps : Lines) → 1 ≤ length ps → last_piece (cond f ([] ∷ ps) (onto_first b ps)) ≡ [] → last_piece ps ≡ []
  by f [] some is = absurd (omega arith)
  by true (p ∷ ps) some is = sym (last_next [] p ps) ∙ is
  by false (p ∷ []) some is = absurd (cc)
  by false (p ∷ q ∷ ps) some is = last_next p q ps ∙ sym (last_next (b ∷ p) q ps) ∙ is

-- bytes that end with a feed have a line
some_line : (bytes : List ℕ) → 1 ≤ length bytes → last_piece (pieces bytes) ≡ [] → IsLonger [] (whole_lines (pieces bytes))
some_line [] some is = absurd (omega arith)
some_line (b ∷ bytes) some is = by (is_feed b) (pieces bytes) (some_pieces bytes) is where
  by : (f : Bool) (ps : Lines) → 1 ≤ length ps → last_piece (cond f ([] ∷ ps) (onto_first b ps)) ≡ [] → IsLonger [] (whole_lines (cond f ([] ∷ ps) (onto_first b ps)))
  by f [] some is = absurd (omega arith)
  by true (p ∷ ps) some is = record { line = []; later = whole_lines (p ∷ ps); is = whole_next [] p ps }
  by false (p ∷ []) some is = absurd (cc)
  by false (p ∷ q ∷ ps) some is = record { line = b ∷ p; later = whole_lines (q ∷ ps); is = whole_next (b ∷ p) q ps }

longer : (front more : List ℕ) → 1 ≤ length more → last_piece (pieces (front ++ more)) ≡ [] → IsLonger (whole_lines (pieces front)) (whole_lines (pieces (front ++ more)))
longer [] more some is = some_line more some is
longer (b ∷ front) more some is = by (longer front more some (last_behind b (front ++ more) is)) (is_feed b) where
  by : IsLonger (whole_lines (pieces front)) (whole_lines (pieces (front ++ more))) → (f : Bool) → IsLonger (whole_lines (cond f ([] ∷ pieces front) (onto_first b (pieces front)))) (whole_lines (cond f ([] ∷ pieces (front ++ more)) (onto_first b (pieces (front ++ more)))))
  by rest true = opened (pieces front) (pieces (front ++ more)) (some_pieces front) (some_pieces (front ++ more)) rest
  by rest false = put_first b (pieces front) (pieces (front ++ more)) (some_pieces front) rest

-- ---- the text

own_front_short : {S R F : Type 0} (header : List ℕ) (t : LineRules S F) (whole : S → R) (seen : S) (front more : List ℕ) (r : R)
    → own_text header t whole seen (front ++ more) ≡ Ok r → 1 ≤ length more → own_text header t whole seen front ≡ Err t.short
own_front_short header t whole seen front more r is some =
    let all = pieces (front ++ more) in
    let none = nothing_from t whole r header seen (whole_lines all) (last_piece all) is in
    let k = longer front more some none in
    fewer_from t whole r header seen (whole_lines (pieces front)) k.line k.later (last_piece all) (last_piece (pieces front))
    (subst (λ lines. text_from header t whole seen lines (last_piece all) ≡ Ok r) k.is is)

pub front_short : (u : Universe) (front more : List ℕ) (wishes : List Wish) → wishes_in u (front ++ more) ≡ Ok wishes → 1 ≤ length more → wishes_in u front ≡ Err Short
front_short u front more wishes = own_front_short (codes "metis wishes 1") (wish_lines u) (λ w. w) [] front more wishes
