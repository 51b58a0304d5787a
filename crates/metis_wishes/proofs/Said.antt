-- What each line of a text of wishes says.
use Rattle.std.proofs.Common.{◌≡◌, ℕ, ◌+◌, ◌<◌, ◌^◌, Bool, true, false, List, [], ◌∷◌, ◌++◌, Some, None, length, Result, Ok, Err, decimal, refl, sym, ap, ◌∙◌, subst, append_assoc, append-nil}
use Rattle.std.specs.Prelude.{◌&&◌, ◌==◌, codes, if◌then◌else◌, is_some, position, IsSome}
use Rattle.std.specs.Str.{bytes_eq}
use Rattle.std.proofs.lemmas.Bool.{false_from_ne_true, or_parts}
use Rattle.std.proofs.lemmas.List.Elements.{All-append, All-cons, All-nil}
use Rattle.std.proofs.lemmas.Slice.Eq.{bytes_eq-Decides}
use Rattle.metis_tokens.specs.Terms.{and_then, end_from, found, last_piece, lines_from, made, named, number_in, pair_in, pieces, text_from, tokens, whole_lines}
use Rattle.metis_tokens.specs.declared.flaw.Flaw.{Flaw}
use Rattle.metis_tokens.specs.declared.flaw.Flaw.TheVariants.{Form}
use Rattle.metis_tokens.proofs.NumberTokens.{number_read}
use Rattle.metis_universe.specs.Terms.{Universe, is_name, type_named}
use Rattle.metis_wishes.specs.Reading.{unless_twice}
use Rattle.metis_wishes.specs.Terms.{HaveOwnSubjects, IsSaidBy, is_about, is_same, subject_of, wish_in, wish_lines, wishes_in, with_wish}
use Rattle.metis_wishes.specs.declared.fault.WishFault.{WishFault}
use Rattle.metis_wishes.specs.declared.fault.WishFault.TheVariants.{Line, Twice}
use Rattle.metis_wishes.specs.declared.wish.Wish.{Wish}
use Rattle.metis_wishes.specs.declared.wish.Wish.TheVariants.{AvoidPair, AvoidType, Keep, KeepAll, Rebind, Retire}
use Rattle.metis_wishes.proofs.Fronts.{none_left, not_done}

-- ---- what a line's words say

-- a number is not the word that says all
not_all : (z : ℕ) → z < 2 ^ 32 → bytes_eq (decimal z) (codes "all") ≡ false
not_all z small = false_from_ne_true (bytes_eq (decimal z) (codes "all")) (λ same.
    let is = (bytes_eq-Decides (decimal z) (codes "all")).0 same in
    let wrong : number_in (codes "all") ≡ Ok z = ap number_in (sym is) ∙ number_read z small in
    cc)

pub keep_said : (u : Universe) (z : ℕ) → z < 2 ^ 32 → wish_in u (codes "keep" ∷ decimal z ∷ []) ≡ Ok (Keep z)
keep_said u z small = ap (λ b. if b then Ok KeepAll else made Keep (number_in (decimal z))) (not_all z small) ∙ ap (made Keep) (number_read z small)

pub rebind_said : (u : Universe) (z : ℕ) → z < 2 ^ 32 → wish_in u (codes "rebind" ∷ decimal z ∷ []) ≡ Ok (Rebind z)
rebind_said u z small = ap (made Rebind) (number_read z small)

pub retire_said : (u : Universe) (z : ℕ) → z < 2 ^ 32 → wish_in u (codes "retire" ∷ decimal z ∷ []) ≡ Ok (Retire z)
retire_said u z small = ap (made Retire) (number_read z small)

pub kind_said : (u : Universe) (word : List ℕ) (t : ℕ) → is_name word ≡ true → position (λ b. b == 58) word ≡ None → type_named u word ≡ Some t → wish_in u (codes "avoid" ∷ word ∷ []) ≡ Ok (AvoidType t)
kind_said u word t name none is =
    ap (λ o. if is_some o then made AvoidPair (pair_in u word) else made AvoidType (named (type_named u) word)) none
    ∙ ap (λ b. made AvoidType (if b then found (type_named u word) else Err Form)) name
    ∙ ap (λ o. made AvoidType (found o)) is

pub pair_said : (u : Universe) (word : List ℕ) (p : ℕ) → IsSome (position (λ b. b == 58) word) → pair_in u word ≡ Ok p → wish_in u (codes "avoid" ∷ word ∷ []) ≡ Ok (AvoidPair p)
pair_said u word p some is = ap (λ b. if b then made AvoidPair (pair_in u word) else made AvoidType (named (type_named u) word)) some ∙ ap (made AvoidPair) is

-- ---- one line more

-- a line that is taken says the wish, and no earlier one is about the same
pub taken : (u : Universe) (n : ℕ) (ws : List Wish) (line : List ℕ) (w : Wish) → with_wish u n ws line ≡ Ok w → (wish_in u (tokens line) ≡ Ok w) × (is_about ws w ≡ false)
taken u n ws line w is = by (wish_in u (tokens line)) is where
  by : (r : Result Wish Flaw) → unless_twice n ws r ≡ Ok w → (r ≡ Ok w) × (is_about ws w ≡ false)
  by (Err f) is = absurd (cc)
  by (Ok v) is = let one = own_wish (is_about ws v) refl is in (ap Ok one.0, one.1) where
    own_wish : (b : Bool) → is_about ws v ≡ b → (if b then Err (Twice n) else Ok v) ≡ Ok w → (v ≡ w) × (is_about ws w ≡ false)
    own_wish true about is = absurd (cc)
    own_wish false about is = let same : v ≡ w = cc in (same, ap (is_about ws) (sym same) ∙ about)

own-push : (ws : List Wish) (w : Wish) → HaveOwnSubjects ws → is_about ws w ≡ false → HaveOwnSubjects (ws ++ w ∷ [])
own-push [] w own off = (All-nil _, tt)
own-push (v ∷ ws) w own off =
    let apart = or_parts (is_same (subject_of v) (subject_of w)) (is_about ws w) off in
    let P : Wish → Type 0 = λ later. is_same (subject_of v) (subject_of later) ≡ false in
    (All-append P ws (w ∷ []) own.0 (All-cons P w [] apart.0 (All-nil P)), own-push ws w own.1 apart.1)

-- ---- all lines

module _ (u : Universe) (all : List Wish) where
  -- what the lines from here on add to the wishes so far
  pub record AreSaid (ws : List Wish) (lines : List (List ℕ)) : Type 0 where
    pub said : List (List ℕ)
    pub wishes : List Wish
    pub lines_are : lines ≡ said ++ codes "end" ∷ []
    pub all_are : all ≡ ws ++ wishes
    pub each : IsSaidBy u wishes said

  abbrev From : List Wish → ℕ → List (List ℕ) → List ℕ → Result (List Wish) WishFault
  From ws n lines rest = lines_from (wish_lines u) (λ w. w) ws n lines rest

  ended_so : (ws : List Wish) (n : ℕ) (line : List ℕ) (lines : List (List ℕ)) (rest : List ℕ) → bytes_eq line (codes "end") ≡ true → end_from (wish_lines u) (λ w. w) ws n lines rest ≡ Ok all → AreSaid ws (line ∷ lines)
  ended_so ws n line [] [] last is =
      let same : ws ≡ all = cc in
      let end : line ≡ codes "end" = (bytes_eq-Decides line (codes "end")).0 last in
      record { said = []; wishes = []; lines_are = ap (λ l. l ∷ []) end; all_are = sym same ∙ sym (append-nil ws); each = tt }
  ended_so ws n line [] (b ∷ rest) last is = absurd (not_done _ _ all (none_left b rest) is)
  ended_so ws n line (x ∷ lines) rest last is = absurd (not_done _ _ all (ap (λ a. a && (length rest == 0)) (none_left x lines)) is)

  are_said : (lines : List (List ℕ)) (rest : List ℕ) (ws : List Wish) (n : ℕ) → From ws n lines rest ≡ Ok all → AreSaid ws lines
  are_said [] rest ws n is = absurd (cc)
  are_said (line ∷ lines) rest ws n is = by (λ s. are_said lines rest s (n + 1)) (bytes_eq line (codes "end")) (with_wish u n ws line) refl refl is where
    by : ((s : List Wish) → From s (n + 1) lines rest ≡ Ok all → AreSaid s lines) → (b : Bool) (r : Result Wish WishFault) → bytes_eq line (codes "end") ≡ b → with_wish u n ws line ≡ r
        → (if b then end_from (wish_lines u) (λ w. w) ws (n + 1) lines rest else and_then (made (λ w. ws ++ w ∷ []) r) (λ s. From s (n + 1) lines rest)) ≡ Ok all → AreSaid ws (line ∷ lines)
    by later true r last taken_is is = ended_so ws (n + 1) line lines rest last is
    by later false (Err f) last taken_is is = absurd (cc)
    by later false (Ok w) last taken_is is =
        let k = later (ws ++ w ∷ []) is in
        record {
          said = line ∷ k.said;
          wishes = w ∷ k.wishes;
          lines_are = ap (λ l. line ∷ l) k.lines_are;
          all_are = k.all_are ∙ append_assoc ws (w ∷ []) k.wishes;
          each = ((taken u n ws line w taken_is).0, k.each);
        }

  own_from : (lines : List (List ℕ)) (rest : List ℕ) (ws : List Wish) (n : ℕ) → HaveOwnSubjects ws → From ws n lines rest ≡ Ok all → HaveOwnSubjects all
  own_from [] rest ws n own is = absurd (cc)
  own_from (line ∷ lines) rest ws n own is = by (λ s. own_from lines rest s (n + 1)) (bytes_eq line (codes "end")) (with_wish u n ws line) refl is where
    last : (lines : List (List ℕ)) (rest : List ℕ) → end_from (wish_lines u) (λ w. w) ws (n + 1) lines rest ≡ Ok all → HaveOwnSubjects all
    last [] [] is = let same : ws ≡ all = cc in subst HaveOwnSubjects same own
    last [] (b ∷ rest) is = absurd (not_done _ _ all (none_left b rest) is)
    last (x ∷ lines) rest is = absurd (not_done _ _ all (ap (λ a. a && (length rest == 0)) (none_left x lines)) is)

    by : ((s : List Wish) → HaveOwnSubjects s → From s (n + 1) lines rest ≡ Ok all → HaveOwnSubjects all) → (b : Bool) (r : Result Wish WishFault) → with_wish u n ws line ≡ r
        → (if b then end_from (wish_lines u) (λ w. w) ws (n + 1) lines rest else and_then (made (λ w. ws ++ w ∷ []) r) (λ s. From s (n + 1) lines rest)) ≡ Ok all → HaveOwnSubjects all
    by later true r taken_is is = last lines rest is
    by later false (Err f) taken_is is = absurd (cc)
    by later false (Ok w) taken_is is = later (ws ++ w ∷ []) (own-push ws w own (taken u n ws line w taken_is).1) is

-- the header comes first
headed : (u : Universe) (all : List Wish) (lines : List (List ℕ)) (rest : List ℕ) → text_from (codes "metis wishes 1") (wish_lines u) (λ w. w) [] lines rest ≡ Ok all
    → (later : List (List ℕ)) × (lines ≡ codes "metis wishes 1" ∷ later) × (lines_from (wish_lines u) (λ w. w) [] 2 later rest ≡ Ok all)
headed u all [] rest is = absurd (cc)
headed u all (x ∷ lines) rest is = by (bytes_eq x (codes "metis wishes 1")) refl is where
  by : (b : Bool) → bytes_eq x (codes "metis wishes 1") ≡ b → (if b then lines_from (wish_lines u) (λ w. w) [] 2 lines rest else Err (Line 1)) ≡ Ok all
      → (later : List (List ℕ)) × (x ∷ lines ≡ codes "metis wishes 1" ∷ later) × (lines_from (wish_lines u) (λ w. w) [] 2 later rest ≡ Ok all)
  by true first is = (lines, ap (λ l. l ∷ lines) ((bytes_eq-Decides x (codes "metis wishes 1")).0 first), is)
  by false first is = absurd (cc)

pub each_said : (u : Universe) (bytes : List ℕ) (wishes : List Wish) → wishes_in u bytes ≡ Ok wishes
    → (lines : List (List ℕ)) × (whole_lines (pieces bytes) ≡ codes "metis wishes 1" ∷ lines ++ codes "end" ∷ []) × IsSaidBy u wishes lines
each_said u bytes wishes is =
    let h = headed u wishes (whole_lines (pieces bytes)) (last_piece (pieces bytes)) is in
    let k = are_said u wishes h.0 (last_piece (pieces bytes)) [] 2 h.2 in
    (k.said, h.1 ∙ ap (λ l. codes "metis wishes 1" ∷ l) k.lines_are, subst (λ ws. IsSaidBy u ws k.said) (sym k.all_are) k.each)

pub own_subjects : (u : Universe) (bytes : List ℕ) (wishes : List Wish) → wishes_in u bytes ≡ Ok wishes → HaveOwnSubjects wishes
own_subjects u bytes wishes is =
    let h = headed u wishes (whole_lines (pieces bytes)) (last_piece (pieces bytes)) is in
    own_from u wishes h.0 (last_piece (pieces bytes)) [] 2 tt h.2
