-- What holds after a call, whether it fails or not.
use Rattle.std.proofs.Common.{Result, Ok, Err}
use Rattle.std.specs.Prelude.{OnOk}

pub on_any : {X E P : Type 0} (r : Result X E) → P → OnOk r P
on_any (Ok x) h = h
on_any (Err e) h = tt
