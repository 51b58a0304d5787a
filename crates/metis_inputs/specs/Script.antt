-- What a run does with its files, apart from how it reads them.
use Rattle.std.specs.Prelude.{ℕ, List}
use Rattle.metis_inputs.specs.Inputs.{Inputs}
use Rattle.metis_inputs.specs.declared.stop.InputFault.{InputFault}
use Rattle.metis_words.specs.Terms.{reading}
use Rattle.metis_words.specs.declared.words.Verb.{Verb}

-- A run reads the file of the word at a place, up to a limit, and goes on with the bytes that it took;
-- or its words or files have a fault, and it ends; or it answers as its verb asks, over what was read for it, by the size or the numbers
-- of its words.
pub data Script : Type 0 where
  Read : (place : ℕ) (name : List ℕ) (limit : ℕ) (next : List ℕ → Script) → Script
  Fault : InputFault → Script
  Reply : (verb : Verb) (inputs : Inputs (reading verb)) (size : ℕ) (numbers : List ℕ) → Script
