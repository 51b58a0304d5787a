-- So many entries that are read one after another, each from a line of its own.
use Rattle.std.proofs.Common.{◌≡◌, ℕ, suc, ◌+◌, ◌-◌, ◌<◌, List, Result, Ok, Err, ap, ◌∙◌, arith}
use Rattle.metis_tokens.specs.declared.fault.TFault.{TFault}
use Rattle.metis_tokens.specs.declared.flaw.Flaw.{Flaw}
use Rattle.metis_tokens.specs.Terms.{Cursor, and_then, read_next}

-- from n s l      what reads n more entries, where s was read
module _ {S A : Type 0} (read : S → List ℕ → Result A Flaw) (push : S → A → S) (from : ℕ → S → Cursor → Result (S × Cursor) TFault)
    (turn : (left : ℕ) (s : S) (l : Cursor) → from (suc left) s l ≡ and_then (read_next (read s) l) (λ p. from left (push s p.0) p.1)) where
  begins : (count k : ℕ) (s : S) (l : Cursor) (entry : Result (A × Cursor) TFault) → k < count → read_next (read s) l ≡ entry → from (count - k) s l ≡ and_then entry (λ p. from (count - (k + 1)) (push s p.0) p.1)
  begins count k s l entry within is =
      let left : count - k ≡ suc (count - (k + 1)) = omega arith in
      rw left (turn (count - (k + 1)) s l ∙ ap (λ (x : Result (A × Cursor) TFault). and_then x (λ p. from (count - (k + 1)) (push s p.0) p.1)) is)

  -- there is no entry
  pub reads_none : (count k : ℕ) (s : S) (l : Cursor) (f : TFault) → k < count → read_next (read s) l ≡ Err f → from (count - k) s l ≡ Err f
  reads_none count k s l f within is = begins count k s l (Err f) within is

  -- there is one, and these lines are left
  pub reads_one : (count k : ℕ) (s : S) (l l' : Cursor) (a : A) → k < count → read_next (read s) l ≡ Ok (a, l') → from (count - k) s l ≡ from (count - (k + 1)) (push s a) l'
  reads_one count k s l l' a within is = begins count k s l (Ok (a, l')) within is
