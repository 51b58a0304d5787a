-- The lines of a set's pairs are read one after another, as the pairs that are written there.
--     ArePairs u before pairs      what holds of these pairs, where those before them are known
--     PairsRead u left pairs l p      so many more pairs were read from l, and p is what there is then
use Rattle.std.proofs.Common.{◌≡◌, ℕ, zero, suc, ◌+◌, ◌<◌, true, List, [], ◌∷◌, ◌++◌, length, Ok, refl, sym, ap, ◌∙◌, append_assoc, append-nil}
use Rattle.std.specs.Prelude.{⊤}
use Rattle.std.specs.List.{flat_map}
use Rattle.metis_universe.specs.Terms.{IsNamed, IsUniverse, Universe, pair_count}
use Rattle.metis_tokens.specs.Terms.{Cursor, and_then, lines_of, read_next}
use Rattle.metis_text.specs.Terms.{above, next_pair_in, pair_line, pairs_from}
use Rattle.metis_tokens.proofs.LinesTaken.{read_next_is, read_next_read, line_and_rest}
use Rattle.metis_tokens.proofs.Outcomes.{and_then_is}
use Rattle.metis_text.proofs.RefusalWords.{next_pair_is, next_pair_read, pair_tokens, pair_tokens_printed}

abbrev pub ArePairs : Universe → List ℕ → List ℕ → Type 0
ArePairs u before [] = ⊤
ArePairs u before (p ∷ pairs) = (p < pair_count u) × (above before p ≡ true) × ArePairs u (before ++ p ∷ []) pairs

pub record PairsRead (u : Universe) (left : ℕ) (pairs : List ℕ) (l : Cursor) (p : List ℕ × Cursor) : Type 0 where
  pub added : List ℕ
  pub is : p.0 ≡ pairs ++ added
  pub many : length added ≡ left
  pub are : ArePairs u pairs added
  pub text : l.rest ≡ flat_map (pair_line u) added ++ p.1.rest

module _ (u : Universe) where
  pub pairs_are : (left : ℕ) (pairs : List ℕ) (l : Cursor) (p : List ℕ × Cursor) → pairs_from u left pairs l ≡ Ok p → PairsRead u left pairs l p
  pairs_are zero pairs l p h =
      let e : (pairs, l) ≡ p = cc in
      record { added = []; is = sym (ap (λ q. q.0) e) ∙ sym (append-nil pairs); many = refl; are = tt; text = ap (λ q. q.1.rest) e }
  pairs_are (suc left) pairs l p h =
      let next = and_then_is (read_next (next_pair_in u pairs) l) (λ p. pairs_from u left (pairs ++ p.0 ∷ []) p.1) p h in
      let pair = next.0.0 in
      let left_then = next.0.1 in
      let one = read_next_is (next_pair_in u pairs) l next.0 next.1 in
      let says = next_pair_is u pairs one.0 pair one.1 in
      let more = pairs_are left (pairs ++ pair ∷ []) left_then p next.2 in
      let others = flat_map (pair_line u) more.added in
      record {
        added = pair ∷ more.added;
        is = more.is ∙ append_assoc pairs (pair ∷ []) more.added;
        many = ap suc more.many;
        are = (says.1, says.2, more.are);
        text = one.2 ∙ (λ i. says.0 i ++ (10 ∷ more.text i)) ∙ line_and_rest (pair_tokens u pair) others p.1.rest;
      }

  pub pairs_read : IsUniverse u → IsNamed u → (added pairs rest : List ℕ) (n : ℕ) → ArePairs u pairs added
      → (m : ℕ) × (pairs_from u (length added) pairs (lines_of (flat_map (pair_line u) added ++ rest) n) ≡ Ok (pairs ++ added, lines_of rest m))
  pairs_read is names [] pairs rest n are = (n, sym (λ i. Ok (append-nil pairs i, lines_of rest n)))
  pairs_read is names (p ∷ added) pairs rest n are =
      let others = flat_map (pair_line u) added in
      let behind = λ (q : ℕ × Cursor). pairs_from u (length added) (pairs ++ q.0 ∷ []) q.1 in
      let more = pairs_read is names added (pairs ++ p ∷ []) rest (n + 1) are.2 in (
        more.0,
        ap (λ bytes. and_then (read_next (next_pair_in u pairs) (lines_of bytes n)) behind) (append_assoc (pair_line u p) others rest)
            ∙ ap (λ r. and_then r behind) (read_next_read (next_pair_in u pairs) (pair_tokens u p) (others ++ rest) n p (pair_tokens_printed u is names p are.0) (next_pair_read u is names p are.0 pairs are.1))
            ∙ more.1
            ∙ (λ i. Ok (append_assoc pairs (p ∷ []) added i, lines_of rest more.0)),
      )
