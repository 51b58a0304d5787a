-- What the reading of one file gives a run.
use Rattle.std.proofs.Common.{◌≡◌, ℕ, ◌+◌, ◌≤◌, List, [], ◌∷◌, length, None, Result, Ok, Err, Vec, nat_le, true, false, refl, sym, ◌∙◌, inl, inr, arith}
use Rattle.std.specs.Prelude.{IfOk}
use Rattle.std.proofs.lemmas.Bool.Decides.{nat_tests}
use Rattle.std.specs.declared.option.Option.{Option}
use Rattle.std.specs.declared.alloc.Global.{Global}
use Rattle.metis_outside.specs.Terms.{CountsFailure, Openings, OpensOne, ReadsWhole, grown}
use Rattle.metis_outside.proofs.Opened.{grown-none}
use Rattle.metis_outside.specs.declared.whole.ReadAnswer.{ReadAnswer}
use Rattle.metis_outside.specs.declared.whole.ReadAnswer.TheVariants as answer
use Rattle.metis_inputs.specs.declared.stop.InputFault.TheVariants.{TooLong}
use Rattle.metis_inputs.specs.Terms.{Fault, Gathers, Script, after, bytes_then, named, or_stop}

after_accepted : (place limit : ℕ) (name bytes : List ℕ) → length bytes ≤ limit → (next : List ℕ → Script) → after (bytes ∷ []) (bytes_then place name limit next) ≡ next bytes
after_accepted place limit name bytes fits next = let passes : nat_le (length bytes) limit ≡ true = grind (arith, nat_tests) in rw passes

after_too_long : (place limit : ℕ) (name bytes : List ℕ) → length bytes ≡ limit + 1 → (next : List ℕ → Script) → after (bytes ∷ []) (bytes_then place name limit next) ≡ Fault (TooLong place)
after_too_long place limit name bytes long next = let fails : nat_le (length bytes) limit ≡ false = grind (arith, nat_tests) in rw fails

-- behind the bytes that were taken of it no further file was opened
opened_whole : (place limit : ℕ) (name bytes : List ℕ) (next : List ℕ → Script) (before now : Openings) → now ≡ grown before ((name, false) ∷ []) → now ≡ grown before (named None (bytes ∷ []) (bytes_then place name limit next))
opened_whole place limit name bytes next before now one = one

pub gathers_bytes : {S : Type 0} (files : S → Option (List ℕ → List ℕ)) (faults : S → ℕ) (opens : S → Openings) (place limit : ℕ) (name : List ℕ) (shelf shelf' : S) (read : Result (Vec ℕ Global) ReadAnswer)
    → ReadsWhole (files shelf) name limit read → files shelf' ≡ files shelf → OpensOne name (opens shelf) (opens shelf') read → CountsFailure (faults shelf) (faults shelf') read
    → Gathers files faults opens (λ bytes. bytes.items) (bytes_then place name limit) shelf shelf' (or_stop read place)
gathers_bytes files faults opens place limit name shelf shelf' (Ok v) bytes same one cause = record {
  taken = v.items ∷ [];
  asked = λ next. (bytes.1, tt);
  files = same;
  came = (after_accepted place limit name v.items bytes.0, cause, λ next. opened_whole place limit name v.items next (opens shelf) (opens shelf') one);
}
gathers_bytes files faults opens place limit name shelf shelf' (Err answer.Failed) bytes same one cause = record {
  taken = [];
  asked = λ next. tt;
  files = same;
  came = (λ next. refl, cause, λ next. one);
}
gathers_bytes files faults opens place limit name shelf shelf' (Err (answer.TooLong count)) bytes same one cause = record {
  taken = bytes.1 ∷ [];
  asked = λ next. (bytes.3, tt);
  files = same;
  came = (after_too_long place limit name bytes.1 bytes.2, cause, λ next. opened_whole place limit name bytes.1 next (opens shelf) (opens shelf') one);
}
gathers_bytes files faults opens place limit name shelf shelf' (Err answer.NoMemory) bytes same one cause = record {
  taken = [];
  asked = λ next. tt;
  files = same;
  came = (cause, elim one [ inl none ↦ inl (λ next. none ∙ sym (grown-none (opens shelf))) | inr more ↦ inr (λ next. tt, λ next. more) ]);
}

-- bytes that were accepted are not too many
pub few_bytes : (files : Option (List ℕ → List ℕ)) (limit place : ℕ) (name : List ℕ) (read : Result (Vec ℕ Global) ReadAnswer) → ReadsWhole files name limit read → IfOk (or_stop read place) (λ bytes. length bytes.items ≤ limit)
few_bytes files limit place name (Ok v) bytes = bytes.0
few_bytes files limit place name (Err answer.Failed) bytes = tt
few_bytes files limit place name (Err (answer.TooLong count)) bytes = tt
few_bytes files limit place name (Err answer.NoMemory) bytes = tt
