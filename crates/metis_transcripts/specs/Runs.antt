-- What it is that the command of a case was run.
use Rattle.std.specs.Prelude.{◌≡◌, ◌≢◌, ◌⊎◌, ℕ, List, [], ◌∷◌, ◌++◌, codes}
use Rattle.std.specs.declared.option.Option.{Option}
use Rattle.metis_outside.specs.Terms.{Appends, InPieces, Openings, Written, bytes_of}
use Rattle.metis_output.specs.declared.status.Status.{Status}
use Rattle.metis_output.specs.declared.status.Status.TheVariants.{WriteFault, NoMemory}
use Rattle.metis_inputs.specs.Terms.{script_of}
use Rattle.metis_top.specs.Terms.{Ran}
use Rattle.metis_transcripts.specs.Cases.{words_in, case_head, single_foot, piped_foot}
use Rattle.metis_transcripts.specs.Outside.{Outside}
use Rattle.metis_transcripts.specs.Settings.{Setting}

-- the answer was put whole, unless a put was to fail
abbrev pub IsWhole : ℕ → Status → Type 0
IsWhole put WriteFault = put ≢ 0
IsWhole put NoMemory = ⊥
IsWhole put _ = Unit {0}

-- the files as they were, with this input, and with the call of this number to fail
pub record IsPrepared {S K : Type 0} (o : Outside S K) (input : List ℕ) (call : ℕ) (shelf shelf' : S) : Type 0 where
  pub given : o.input shelf' ≡ input
  pub armed : o.call shelf' ≡ call
  pub same : o.files shelf' ≡ o.files shelf

-- the command of the line was run, where the put of this number was to fail
pub record IsShown {S K : Type 0} (o : Outside S K) (line : List ℕ) (put : ℕ) (shelf shelf' : S) (sink sink' : K) (status : Status) : Type 0 where
  pub words : List (List ℕ)
  pub named : words_in line ≡ codes "metis" ∷ words
  pub before : K
  pub armed : o.put before ≡ put
  pub was : o.written before ≡ o.written sink
  pub after : K
  pub ran : Ran o.files o.read_faults o.opens o.written o.write_faults (script_of words) shelf shelf' before after status
  pub is : o.written sink' ≡ o.written after
  pub whole : IsWhole put status

-- the command of the line was run over an output that tells its pieces, of which there were none before
pub record IsAside {S : Type 0} (files : S → Option (List ℕ → List ℕ)) (faults : S → ℕ) (opens : S → Openings) (written : Written)
    (line : List ℕ) (shelf shelf' : S) (status : Status) : Type 0 where
  pub words : List (List ℕ)
  pub named : words_in line ≡ codes "metis" ∷ words
  pub ran : Ran files faults opens (λ pieces. pieces) (λ _. 0) (script_of words) shelf shelf' (InPieces []) written status
  pub whole : IsWhole 0 status

-- one command was run as the setting says, and its status was put
pub record IsSingle {S K : Type 0} (o : Outside S K) (line : List ℕ) (setting : Setting) (shelf shelf' : S) (sink sink' : K) : Type 0 where
  pub ready : S
  pub prepared : IsPrepared o setting.input setting.read shelf ready
  pub told : K
  pub status : Status
  pub shown : IsShown o line setting.write ready shelf' sink told status
  pub foot : Appends (o.written told) (o.written sink') (single_foot status ∷ [])

-- the second of two commands was run over what the first one had put, and both statuses were put
pub record IsPiped {S K : Type 0} (o : Outside S K) (first second : List ℕ) (setting : Setting) (shelf shelf' : S) (sink sink' : K) : Type 0 where
  pub ready : S
  pub prepared : IsPrepared o setting.input 0 shelf ready
  pub between : S
  pub lines : List (List ℕ)
  pub first_status : Status
  pub aside : IsAside o.files o.read_faults o.opens (InPieces lines) first ready between first_status
  pub handed : S
  pub fed : IsPrepared o (bytes_of lines) setting.read between handed
  pub told : K
  pub status : Status
  pub shown : IsShown o second setting.write handed shelf' sink told status
  pub foot : Appends (o.written told) (o.written sink') (piped_foot first_status status ∷ [])

-- what was run behind the line: one command where no bar stands in it, and else two
abbrev pub IsAnswered : {S K : Type 0} → Outside S K → List ℕ → Setting → S → S → K → K → Type 0
IsAnswered o line setting shelf shelf' sink sink' =
    (((first second : List ℕ) → line ≢ first ++ (codes " | " ++ second)) × IsSingle o line setting shelf shelf' sink sink')
    ⊎ ((first : List ℕ) × (second : List ℕ) × (line ≡ first ++ (codes " | " ++ second)) × IsPiped o first second setting shelf shelf' sink sink')

-- the line of a case was put, and then what was run
pub record IsCase {S K : Type 0} (o : Outside S K) (line : List ℕ) (setting : Setting) (shelf shelf' : S) (sink sink' : K) : Type 0 where
  pub told : K
  pub head : Appends (o.written sink) (o.written told) (case_head line ∷ [])
  pub answered : IsAnswered o line setting shelf shelf' told sink'
