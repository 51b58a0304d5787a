-- What is said of a result that fails where memory runs out, whatever else it may fail by.
--     IfFault memory result P      of a fault other than that of memory, P holds
--     ReadsAs memory view result meaning      what was read, seen by view, is what was meant, unless memory ran out
use Rattle.std.specs.Prelude.{◌≡◌, ◌≢◌, Result, Ok, Err, ⊤}

abbrev pub IfFault : {A F : Type 0} → F → Result A F → (F → Type 0) → Type 0
IfFault memory (Ok x) P = ⊤
IfFault memory (Err fault) P = fault ≢ memory → P fault

abbrev pub ReadsAs : {X Y F : Type 0} → F → (Y → X) → Result Y F → Result X F → Type 0
ReadsAs memory view (Ok y) meaning = meaning ≡ Ok (view y)
ReadsAs memory view (Err fault) meaning = fault ≢ memory → meaning ≡ Err fault
