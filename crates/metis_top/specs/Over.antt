-- What is done over what a command reads.
use Rattle.std.specs.Prelude.{◌≡◌, Result, Ok, Err}
use Rattle.std.specs.Borrow.{Bor, MutBor}
use Rattle.std.specs.Fn.{Once}

-- The call was made at what was read, and it gave the result and left the state; or nothing was read, and no call was made.
abbrev pub CallsAt : {F A Y O R E : Type 0} → Once F (A × (Bor Y × (MutBor O × Unit {0}))) (R × (MutBor O × Unit {0})) → F → A → Result Y E → O → O → Result R E → Type 0
CallsAt {Y = Y} {O = O} g f a (Ok y) old new (Ok r) =
    (p : Bor Y) × (q : MutBor O) × (q' : MutBor O) × g.post f (a, (p, (q, tt))) (r, (q', tt)) × (p.now ≡ y) × (q.now ≡ old) × (q'.now ≡ new)
CallsAt g f a (Ok y) old new (Err e) = ⊥
CallsAt g f a (Err e) old new result = (result ≡ Err e) × (new ≡ old)

-- what `over` gives is such a call
pub record Over {F A Y O R E : Type 0} (g : Once F (A × (Bor Y × (MutBor O × Unit {0}))) (R × (MutBor O × Unit {0}))) (f : F) (a : A) (read : Result Y E) (old new : O) (result : Result R E) : Type 0 where
  pub calls : CallsAt g f a read old new result
