-- The lines of pairs with their reasons are read one after another, as those that are written there.
--     LinesRead u left lines l p      so many more lines were read from l, and p is what there is then
use Rattle.std.proofs.Common.{◌≡◌, ℕ, zero, suc, ◌+◌, ◌-◌, ◌<◌, List, [], ◌∷◌, ◌++◌, length, Ok, Err, refl, sym, ap, ◌∙◌, append_assoc, append-nil, arith}
use Rattle.std.specs.List.{AllByRecursion, flat_map}
use Rattle.metis_tokens.proofs.LinesTaken.{read_next_is, read_next_read, line_and_rest}
use Rattle.metis_tokens.proofs.Outcomes.{and_then_is}
use Rattle.metis_tokens.specs.Terms.{Cursor, and_then, lines_of, read_next}
use Rattle.metis_tokens.specs.declared.fault.TFault.{TFault}
use Rattle.metis_universe.specs.Terms.{IsNamed, IsUniverse, Universe}
use Rattle.metis_why.specs.Terms.{IsTellable}
use Rattle.metis_why.specs.declared.reason.Line.{Line}
use Rattle.metis_why_text.proofs.LineTokens.{line_is, line_read}
use Rattle.metis_why_text.proofs.Printed.{line_printed}
use Rattle.metis_why_text.specs.Terms.{line_in, line_text, line_tokens, lines_from}

pub record LinesRead (u : Universe) (left : ℕ) (lines : List Line) (l : Cursor) (p : List Line × Cursor) : Type 0 where
  pub added : List Line
  pub is : p.0 ≡ lines ++ added
  pub many : length added ≡ left
  pub are : AllByRecursion (IsTellable u) added
  pub text : l.rest ≡ flat_map (line_text u) added ++ p.1.rest

module _ (u : Universe) where
  -- ---- one line, where k of them are read

  module _ (count k : ℕ) (lines : List Line) (l : Cursor) (within : k < count) where
    left : count - k ≡ suc (count - (k + 1))
    left = omega arith

    pub line_more : (p : Line × Cursor) → read_next (line_in u) l ≡ Ok p → lines_from u (count - k) lines l ≡ lines_from u (count - (k + 1)) (lines ++ p.0 ∷ []) p.1
    line_more p is = ap (λ n. lines_from u n lines l) left ∙ ap (λ r. and_then r (λ p. lines_from u (count - (k + 1)) (lines ++ p.0 ∷ []) p.1)) is

    pub line_wrong : (f : TFault) → read_next (line_in u) l ≡ Err f → lines_from u (count - k) lines l ≡ Err f
    line_wrong f is = ap (λ n. lines_from u n lines l) left ∙ ap (λ r. and_then r (λ p. lines_from u (count - (k + 1)) (lines ++ p.0 ∷ []) p.1)) is

  -- ---- all lines

  pub lines_are : (left : ℕ) (lines : List Line) (l : Cursor) (p : List Line × Cursor) → lines_from u left lines l ≡ Ok p → LinesRead u left lines l p
  lines_are zero lines l p h =
      let e : (lines, l) ≡ p = cc in
      record { added = []; is = sym (ap (λ q. q.0) e) ∙ sym (append-nil lines); many = refl; are = tt; text = ap (λ q. q.1.rest) e }
  lines_are (suc left) lines l p h =
      let next = and_then_is (read_next (line_in u) l) (λ p. lines_from u left (lines ++ p.0 ∷ []) p.1) p h in
      let line = next.0.0 in
      let one = read_next_is (line_in u) l next.0 next.1 in
      let says = line_is u one.0 line one.1 in
      let more = lines_are left (lines ++ line ∷ []) next.0.1 p next.2 in
      let others = flat_map (line_text u) more.added in
      record {
        added = line ∷ more.added;
        is = more.is ∙ append_assoc lines (line ∷ []) more.added;
        many = ap suc more.many;
        are = (says.1, more.are);
        text = one.2 ∙ (λ i. says.0 i ++ (10 ∷ more.text i)) ∙ line_and_rest (line_tokens u line) others p.1.rest;
      }

  pub lines_read : IsUniverse u → IsNamed u → (added lines : List Line) (rest : List ℕ) (n : ℕ) → AllByRecursion (IsTellable u) added
      → (m : ℕ) × (lines_from u (length added) lines (lines_of (flat_map (line_text u) added ++ rest) n) ≡ Ok (lines ++ added, lines_of rest m))
  lines_read is names [] lines rest n are = (n, sym (λ i. Ok (append-nil lines i, lines_of rest n)))
  lines_read is names (line ∷ added) lines rest n are =
      let others = flat_map (line_text u) added in
      let behind = λ (q : Line × Cursor). lines_from u (length added) (lines ++ q.0 ∷ []) q.1 in
      let more = lines_read is names added (lines ++ line ∷ []) rest (n + 1) are.1 in (
        more.0,
        ap (λ bytes. and_then (read_next (line_in u) (lines_of bytes n)) behind) (append_assoc (line_text u line) others rest)
            ∙ ap (λ r. and_then r behind) (read_next_read (line_in u) (line_tokens u line) (others ++ rest) n line (line_printed u is names line are.0.of_universe) (line_read u is names line are.0))
            ∙ more.1
            ∙ (λ i. Ok (append_assoc lines (line ∷ []) added i, lines_of rest more.0)),
      )
