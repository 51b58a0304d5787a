-- What holds of all that an iterator still gives holds after a call of it.
use Rattle.std.proofs.Common.{List, Option, Some, None, subst, sym}
use Rattle.std.specs.Iterator.{YieldsFirst}
use Rattle.std.specs.List.{All}
use Rattle.std.proofs.lemmas.List.Elements.{All-nil, All-tail}

pub all_after : {S A : Type 0} (rest : S → List A) (P : A → Type 0) (s t : S) (given : Option A) → YieldsFirst rest s given t → All P (rest s) → All P (rest t)
all_after rest P s t None gives all = subst (All P) (sym gives.1) (All-nil P)
all_after rest P s t (Some x) gives all = All-tail P x (rest t) (subst (All P) gives all)
