-- What was opened on a shelf.
--     Openings      how often a file was opened, up to the greatest `u64`; and, where the shelf tells it, the name of each that was opened, in order, with whether its opening or a taking from it failed
--     untold count      no names are told
--     opened count more      so many more openings, up to the greatest `u64`
--     grown before more      the openings with these behind them
--     broken names, failing before      the last of them failed
--     sound names      none of them failed
--     Opens name before now result      what an opening of this name leaves
--     Takes before now result      what a taking leaves
use Rattle.std.specs.Prelude.{◌≡◌, ◌⊎◌, ℕ, zero, suc, ◌+◌, ◌-◌, ◌^◌, min, Bool, true, false, List, [], ◌∷◌, ◌++◌, length, map, None, option_map, Result, Ok, Err}
use Rattle.std.specs.declared.option.Option.{Option}
use Rattle.metis_outside.specs.declared.trouble.Trouble.{Trouble}
use Rattle.metis_outside.specs.declared.trouble.Trouble.TheVariants.{Failed, NoMemory}

pub record Openings : Type 0 where
  pub count : ℕ
  pub told : Option (List (List ℕ × Bool))

abbrev pub untold : ℕ → Openings
untold count = record { count = count; told = None }

abbrev pub opened : ℕ → ℕ → ℕ
opened before zero = before
opened before (suc count) = min (opened before count + 1) (2 ^ 64 - 1)

abbrev pub grown : Openings → List (List ℕ × Bool) → Openings
grown before more = record { count = opened before.count (length more); told = option_map (λ names. names ++ more) before.told }

abbrev pub broken : List (List ℕ × Bool) → List (List ℕ × Bool)
broken [] = []
broken (one ∷ []) = (one.0, true) ∷ []
broken (one ∷ two ∷ more) = one ∷ broken (two ∷ more)

abbrev pub failing : Openings → Openings
failing before = record { count = before.count; told = option_map broken before.told }

abbrev pub sound : List (List ℕ) → List (List ℕ × Bool)
sound names = map (λ name. (name, false)) names

-- where memory ran out, perhaps nothing was opened
abbrev pub Opens : {T : Type 0} → List ℕ → Openings → Openings → Result T Trouble → Type 0
Opens name before now (Ok _) = now ≡ grown before ((name, false) ∷ [])
Opens name before now (Err Failed) = now ≡ grown before ((name, true) ∷ [])
Opens name before now (Err NoMemory) = (now ≡ before) ⊎ (now ≡ grown before ((name, false) ∷ []))

abbrev pub Takes : {T : Type 0} → Openings → Openings → Result T Trouble → Type 0
Takes before now (Ok _) = now ≡ before
Takes before now (Err Failed) = now ≡ failing before
Takes before now (Err NoMemory) = now ≡ before
